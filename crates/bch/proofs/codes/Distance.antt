-- The distance of the code: two codewords that differ in fewer than 2t + 1 positions are the same. Assumes nothing.
-- (The positions where they differ would be errors in the sense of `Unique`, at most 2t of them, with power sums 0.)
use Prim.Native.Nat.{ℕ, suc, ◌+◌, ◌*◌, ◌<◌}
use native.Mathlib.Omega.{arith}
use mathlib.Core.Path.{◌≡◌, refl, sym, ap, ap₂, ◌∙◌}
use mathlib.Core.List.{List, [], ◌∷◌}
use lib.Bits.{bit_xor}
use lib.ListN.{length}
use Rattle.galois.proofs.Primitive.{Primitive}
use Rattle.galois.proofs.FieldOf.{field, same}
use Rattle.bch.specs.Words.{flips, differences}
use Rattle.bch.specs.Code.{Code, Codeword, syndrome, design_distance}
use Rattle.bch.proofs.codes.Settings.{Lawful, primitive_of}
use Rattle.bch.proofs.codes.SyndromeLaws.{passes→}
use Rattle.bch.proofs.algebra.Unique.{distance}
use Rattle.bch.proofs.codes.Counting.{flips_zero}
use Rattle.bch.proofs.codes.Positions.{length_differences, rising_differences, sum_at, sum_differences, locators, length_locators}
use Rattle.bch.proofs.codes.Positions.{errors_locators, power1_locators, power3_locators, power5_locators}

module _ (c : Code) (is_code : Lawful c) where
  prim : Primitive c.m
  prim = primitive_of c is_code

  -- two codewords that differ in fewer than 2t + 1 positions are the same
  pub codewords_far : (x y : List ℕ) → Codeword c x → Codeword c y → flips x y < design_distance c → x ≡ y
  unfolding syndrome
  codewords_far x y v w h = go (differences 0 x y) refl
    where
      l : length x ≡ length y
      l = v.long ∙ sym w.long

      zero_sum : (j : ℕ) → j < c.t → sum_at c.m (2 * j + 1) (differences 0 x y) ≡ 0
      zero_sum j k =
          sym (sum_differences c.m (2 * j + 1) 0 x y v.bits w.bits l)
          ∙ ap₂ bit_xor (passes→ c x is_code.t_most v.passes j k) (passes→ c y is_code.t_most w.passes j k)

      go : (P : List ℕ) → differences 0 x y ≡ P → x ≡ y
      go [] e = flips_zero x y l (sym (length_differences 0 x y) ∙ ap length e)
      go (p ∷ P) e =
          let D : List ℕ = differences 0 x y in
          let many : length D ≡ suc (length P) = ap length e in
          absurd (distance (field c.m prim) c.t is_code.t_least is_code.t_most (locators c.m prim D)
          (errors_locators c.m prim 0 c.n is_code.n_most D (rising_differences 0 c.n x y (omega (arith, v.long))))
          (omega (arith, length_locators c.m prim D)) (omega (arith, length_locators c.m prim D, length_differences 0 x y))
          (same c.m (power1_locators c.m prim D ∙ zero_sum 0 is_code.t_least))
          (λ k. same c.m (power3_locators c.m prim D ∙ zero_sum 1 k))
          (λ k. same c.m (power5_locators c.m prim D ∙ zero_sum 2 k)))
