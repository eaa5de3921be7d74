-- The generator polynomials of the codes (document 01, "The codes"): one number for each pair of m and t, and the rule that
-- each is held to. A polynomial over the field is the list of its coefficients, the constant first. Assumes nothing.
-- (That the numbers keep the rule, and encode, are laws: `GeneratorLaws` and `EncodeLaws`.)
use Rattle.std.specs.Prelude.{ℕ, zero, suc, ◌+◌, ◌-◌, ◌*◌, ◌^◌, List, [], ◌∷◌, map, get_or}
use Rattle.std.specs.Int.Bits.{bit_xor}
use Rattle.galois.specs.Field.{times, mul}

-- the generators, their coefficients as binary digits, in octal as tables print them: a row for each m from 5, in it t from
-- 1 to 3.  (The rows of m = 9 and 10 go beyond document 01; the laws hold for them too.)
abbrev pub generators : List (List ℕ)
generators = (0o45 ∷ 0o3551 ∷ 0o107657 ∷ [])
    ∷ (0o103 ∷ 0o12471 ∷ 0o1701317 ∷ [])
    ∷ (0o211 ∷ 0o41567 ∷ 0o11554743 ∷ [])
    ∷ (0o435 ∷ 0o267543 ∷ 0o156720665 ∷ [])
    ∷ (0o1021 ∷ 0o1112711 ∷ 0o1530225571 ∷ [])
    ∷ (0o2011 ∷ 0o4014167 ∷ 0o12052210423 ∷ [])
    ∷ []

-- the generator of m and t
unfoldable pub generator : ℕ → ℕ → ℕ
generator m t = get_or (get_or generators (m - 5) []) (t - 1) 0

-- ---- the product rule

-- the sum of two polynomials
unfoldable pub poly_sum : List ℕ → List ℕ → List ℕ
poly_sum [] q = q
poly_sum (a ∷ p) [] = a ∷ p
poly_sum (a ∷ p) (b ∷ q) = bit_xor a b ∷ poly_sum p q

-- the product of two polynomials over the field of 2^m elements
unfoldable pub poly_product : ℕ → List ℕ → List ℕ → List ℕ
unfolding poly_sum mul
poly_product m [] q = []
poly_product m (a ∷ p) q = poly_sum (map (mul m a) q) (0 ∷ poly_product m p q)

-- the product of p with x + α^e: x·p + α^e·p
unfoldable pub with_root : ℕ → ℕ → List ℕ → List ℕ
unfolding poly_sum times
with_root m e p = poly_sum (0 ∷ p) (map (times m e) p)

-- the product of x + α^(i·2^j) for j below k
unfoldable pub conjugates : ℕ → ℕ → ℕ → List ℕ
unfolding with_root
conjugates m i zero = 1 ∷ []
conjugates m i (suc k) = with_root m (i * 2 ^ k) (conjugates m i k)

-- the minimal polynomial of α^i
abbrev pub minimal : ℕ → ℕ → List ℕ
minimal m i = conjugates m i m

-- the product of the minimal polynomials of α, α^3, .., α^(2t-1)
unfoldable pub generator_rule : ℕ → ℕ → List ℕ
unfolding poly_product conjugates
generator_rule m zero = 1 ∷ []
generator_rule m (suc t) = poly_product m (generator_rule m t) (minimal m (2 * t + 1))
