-- Facts that ghost fields hold have one proof at most. Assumes nothing.
use Rattle.std.specs.Prelude.{ℕ, List, [], ◌∷◌}
use Rattle.std.specs.Coded.{×_prop, Unit-prop, le_prop}
use Rattle.std.proofs.Props.{props}
use Rattle.bch.specs.Words.{Below}
use Rattle.chase.proofs.search.Ready.{Deep}

pub below_prop : (n : ℕ) (xs : List ℕ) → IsProp (Below n xs)
unfolding Below
below_prop n [] = Unit-prop
below_prop n (x ∷ xs) = ×_prop le_prop (below_prop n xs)

pub deep_prop : (d : ℕ) (ss ks ls : List ℕ) (p : ℕ) → IsProp (Deep d ss ks ls p)
deep_prop d ss ks ls p = hlevel (props, below_prop)
