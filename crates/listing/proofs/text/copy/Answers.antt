-- Eight more are copied. Assumes nothing.
use Rattle.std.proofs.Common.{ℕ, ◌+◌, ◌-◌, ◌≡◌, List, ◌++◌, length, take, drop, take-add, sym, ap, ap₂, ◌∙◌, arith}
use Rattle.std.proofs.lemmas.Slice.{take-put_mid}
use Rattle.listing.proofs.text.copy.Goals as goal

pub loop-at-preserved-then-new-at-ge8 : goal.loop-at-preserved-then-new-at-ge8
loop-at-preserved-then-new-at-ge8 c =
    let l = c.loop-at in
    let new = c.args.new.now in
    let part = c.copy_from_slice.new.self in
    let eight : l.at + 8 - l.at ≡ 8 = omega arith in
    let same : part ≡ take 8 (drop l.at new) = c.copy_from_slice.ensures.after ∙ ap (λ (k : ℕ). take k (drop l.at new)) eight in
    let long : length part ≡ 8 = omega arith in
    record {
      inside = omega arith;
      same =
          take-put_mid l.at (l.at + 8 - l.at) l.out part (l.at + 8) (omega (arith, long)) (omega arith)
          ∙ ap₂ (λ (a b : List ℕ). a ++ b) l.invariant.same same ∙ sym (take-add l.at 8 new);
    }
