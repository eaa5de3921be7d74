-- Worked numbers of the definition. Assumes nothing.
use mathlib.Core.Path.{◌≡◌, refl}
use mathlib.Core.List.{[], ◌∷◌}
use Rattle.ranking.specs.Weakest.{weakest_keys}

-- z 9 1 2 1 1 2, the second and the fifth bit 1: of equal z the lower position is the weaker, and the bit plays no part
tied_case : weakest_keys 5 (9 ∷ 17 ∷ 2 ∷ 1 ∷ 17 ∷ 2 ∷ []) ≡ 1025 ∷ 1027 ∷ 1028 ∷ 2050 ∷ 2053 ∷ 65535 ∷ 65535 ∷ 65535 ∷ []
unfolding weakest_keys
tied_case = refl

-- more keys than symbols are asked for
short_case : weakest_keys 7 (15 ∷ 0 ∷ []) ≡ 1 ∷ 15360 ∷ 65535 ∷ 65535 ∷ 65535 ∷ 65535 ∷ 65535 ∷ 65535 ∷ []
unfolding weakest_keys
short_case = refl

-- more than eight are asked for
eight_case : weakest_keys 9 (3 ∷ 3 ∷ 3 ∷ 3 ∷ 3 ∷ 3 ∷ 3 ∷ 3 ∷ 0 ∷ []) ≡ 8 ∷ 3072 ∷ 3073 ∷ 3074 ∷ 3075 ∷ 3076 ∷ 3077 ∷ 3078 ∷ []
unfolding weakest_keys
eight_case = refl
