-- The keys of a word by levels, and how far they are taken. Cited by the contracts of private functions alone. Assumes nothing.
use Rattle.std.specs.Prelude.{ℕ, zero, suc, ◌+◌, ◌-◌, ◌*◌, ◌/◌, ◌%◌, ◌≤◌, ◌<◌, ◌≡◌, eqb, Bool, true, false, cond}
use Rattle.std.specs.Prelude.{List, [], ◌∷◌, ◌++◌, map, length, get_or, drop, Option, MatchOption}

-- which symbols have reliability z
unfoldable pub marks : ℕ → List ℕ → List Bool
marks z ss = map (λ (s : ℕ). eqb (s % 16) z) ss

-- whether there is a mark
unfoldable pub any_of : List Bool → Bool
any_of [] = false
any_of (b ∷ bs) = cond b true (any_of bs)

-- a number with a bit for each mark, the first the lowest
unfoldable pub bits_of : List Bool → ℕ
bits_of [] = 0
bits_of (b ∷ bs) = 2 * bits_of bs + cond b 1 0

-- the marked ones of the keys from k on
unfoldable pub marked : ℕ → List Bool → List ℕ
marked k [] = []
marked k (b ∷ bs) = cond b (k ∷ marked (suc k) bs) (marked (suc k) bs)

-- the same, where the marks are the n lowest bits of a number
unfoldable pub bit_keys : ℕ → ℕ → ℕ → List ℕ
bit_keys zero x k = []
bit_keys (suc n) x k = cond (eqb (x % 2) 1) (k ∷ bit_keys n (x / 2) (suc k)) (bit_keys n (x / 2) (suc k))

-- the keys of the symbols of reliability z from position i on
abbrev pub level_from : ℕ → ℕ → List ℕ → List ℕ
level_from z i ss = marked (z * 1024 + i) (drop i (marks z ss))

-- the keys of the symbols of reliability z, then of z + 1, and so on: `left` levels
unfoldable pub level_keys : ℕ → ℕ → List ℕ → List ℕ
unfolding marked marks
level_keys zero z ss = []
level_keys (suc left) z ss = level_from z 0 ss ++ level_keys left (suc z) ss

-- y is above z, and no symbol has a reliability between them
pub record Next (z y : ℕ) (ss : List ℕ) : Type 0 where
  pub above : z < y
  pub most : y ≤ 16
  pub none : (i : ℕ) → i < length ss → z < get_or ss i 0 % 16 → y ≤ get_or ss i 0 % 16

-- ---- how far the keys are taken

-- the keys still to come: those of the bits `left`, the lowest of which stands for `key`, then of the symbols of reliability z from
-- position `next` on, and then of the levels above
unfoldable pub come : ℕ → ℕ → ℕ → ℕ → List ℕ → List ℕ
unfolding bit_keys level_keys
come next left key z ss = bit_keys (z * 1024 + next - key) left key ++ level_from z next ss ++ level_keys (15 - z) (suc z) ss

-- from position i on are the first sixteen symbols among which, of those from `from` on, there is one of level z, and these are their bits
pub record Found (z from : ℕ) (ss : List ℕ) (i bits : ℕ) : Type 0 where
  pub within : i < length ss
  pub some : 0 < bits
  pub small : bits < 65536
  pub same : level_from z from ss ≡ bit_keys 16 bits (z * 1024 + i) ++ level_from z (i + 16) ss

-- these are the first such symbols, or there are none
abbrev pub Sought : ℕ → ℕ → List ℕ → Option (ℕ × ℕ) → Type 0
Sought z from ss r = MatchOption r (level_from z from ss ≡ []) (λ p. Found z from ss p.0 p.1)
