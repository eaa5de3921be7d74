-- By the sign. Assumes nothing.
use Rattle.std.proofs.Common.{ℕ, List, ◌∷◌, [], ◌++◌, subst, ap, ◌∙◌}
use mir.Facts.{to_z-of_z}
use Rattle.listing.specs.Text.{decimal, signed}
use Rattle.listing.specs.declared.text.Text.{Text}
use Rattle.listing.specs.Written.{Written}
use Rattle.listing.proofs.Texts.{said, then}
use Rattle.listing.proofs.Decimals.{below_zero, not_below}
use Rattle.listing.proofs.text.Text.signed.Goals.{then-x-lt0, else-x-lt0}
use Rattle.listing.proofs.text.Text.signed.Goals as goal

pub returns : goal.returns
returns c =
    let b = c.args.behind in
    let v = c.unsigned_abs.ensures.value in
    let same = ap signed (to_z-of_z c.ranges.x) in
    let number = λ (s : Text). Written s (decimal c.unsigned_abs.result ++ (b ∷ [])) c.number.new.self in
    elim c.if-x-lt0.branch [
      | then-x-lt0 w ↦ said (then w.character.ensures (subst number w.self-is c.number.ensures))
          (ap (λ (t : List ℕ). 45 ∷ (t ++ (b ∷ []))) (ap decimal v) ∙ ap (λ (t : List ℕ). t ++ (b ∷ [])) (below_zero _ w.if-x-lt0.true ∙ same))
      | else-x-lt0 w ↦ said (subst number w.self-is c.number.ensures)
          (ap (λ (t : List ℕ). t ++ (b ∷ [])) (ap decimal v ∙ not_below _ w.if-x-lt0.false ∙ same))
    ]
