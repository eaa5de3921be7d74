-- Filling a table of 2^b entries by doubling: the second half is had from the first, entry by entry. Assumes nothing.
use Prim.Native.Nat.{ℕ, ◌+◌, ◌-◌, ◌^◌, ◌≤◌, ◌<◌}
use native.Mathlib.Omega.{arith}
use native.Mathlib.Nat.{pow-succ'}
use native.Mathlib.Numerals.{add-one}
use native.Mathlib.Decide.{dec_lt}
use mathlib.Core.Path.{◌≡◌, ap, sym, ◌∙◌}
use mathlib.Core.List.{List}
use borrow.Author.Count.{below_more}
use lib.ListN.{length, get_or, set}
use lib.Pow.{pow_mono}
use lib.Seq.{get_or-set_same, get_or-set_other}

-- new is old with, behind its first `size` entries, g of each of them
pub record Doubled (g : ℕ → ℕ) (size : ℕ) (old new : List ℕ) : Type 0 where
  pub long : length new ≡ length old
  pub front : (k : ℕ) → k < size → get_or new k 0 ≡ get_or old k 0
  pub back : (k : ℕ) → k < size → get_or new (size + k) 0 ≡ g (get_or old k 0)

-- the first `size` entries are those of f
abbrev pub Holds : (ℕ → ℕ) → ℕ → List ℕ → Type 0
Holds f size xs = (k : ℕ) → k < size → get_or xs k 0 ≡ f k

-- the first `size` entries are below a bound
abbrev pub Small : ℕ → ℕ → List ℕ → Type 0
Small bound size xs = (k : ℕ) → k < size → get_or xs k 0 < bound

-- twice a size is at most 64
pub size_most : (b : ℕ) → b < 6 → 2 ^ b + 2 ^ b ≤ 64
size_most b h = let l : b ≤ 5 = omega arith in
    let k : 2 ^ b ≤ 2 ^ 5 = pow_mono l in
    omega arith

-- the first entry is right
pub holds_first : (f : ℕ → ℕ) (xs : List ℕ) → get_or xs 0 0 ≡ f 0 → Holds f 1 xs
holds_first f xs e k l = let z : k ≡ 0 = omega arith in rw z e

-- one entry more is set
pub holds_more : (f : ℕ → ℕ) (xs : List ℕ) (i v : ℕ) → i < length xs → v ≡ f i → Holds f i xs → Holds f (i + 1) (set xs i v)
holds_more f xs i v h e old =
    below_more (λ (k : ℕ). get_or (set xs i v) k 0 ≡ f k) i (λ k l. get_or-set_other xs i k v 0 (λ q. omega arith) ∙ old k l) (get_or-set_same xs i v 0 h ∙ e)

-- one entry more behind the front: the front stays, ..
pub front_stays : (size i v : ℕ) (old new : List ℕ) → Holds (λ k. get_or old k 0) size new → Holds (λ k. get_or old k 0) size (set new (size + i) v)
front_stays size i v old new h k l = get_or-set_other new (size + i) k v 0 (λ e. omega arith) ∙ h k l

-- .. and one more holds
pub back_more : (g : ℕ → ℕ) (size i v : ℕ) (old new : List ℕ) → size + i < length new → v ≡ g (get_or old i 0)
    → ((k : ℕ) → k < i → get_or new (size + k) 0 ≡ g (get_or old k 0)) → (k : ℕ) → k < i + 1 → get_or (set new (size + i) v) (size + k) 0 ≡ g (get_or old k 0)
back_more g size i v old new h e f =
    below_more (λ (k : ℕ). get_or (set new (size + i) v) (size + k) 0 ≡ g (get_or old k 0)) i
    (λ k l. get_or-set_other new (size + i) (size + k) v 0 (λ q. omega arith) ∙ f k l)
    (get_or-set_same new (size + i) v 0 h ∙ e)

-- doubling a table of f whose second half is g of its first
pub doubled_holds : (f g : ℕ → ℕ) (b : ℕ) (old new : List ℕ) → Doubled g (2 ^ b) old new → ((k : ℕ) → k < 2 ^ b → f (k + 2 ^ b) ≡ g (f k))
    → Holds f (2 ^ b) old → Holds f (2 ^ (b + 1)) new
doubled_holds f g b old new d h t k l =
    elim (dec_lt k (2 ^ b)) [
      | yes w ↦ d.front k w ∙ t k w
      | no w ↦ (let s : k < 2 ^ b + 2 ^ b = omega (arith, rw add-one at l, pow-succ' 2 b) in
          let r : k - 2 ^ b < 2 ^ b = omega arith in
          let e : 2 ^ b + (k - 2 ^ b) ≡ k = omega arith in
          let u : k - 2 ^ b + 2 ^ b ≡ k = omega arith in
          ap (λ (x : ℕ). get_or new x 0) (sym e) ∙ d.back (k - 2 ^ b) r ∙ ap g (t (k - 2 ^ b) r) ∙ sym (h (k - 2 ^ b) r) ∙ ap f u)
    ]
