-- The positions that are located. Cited by the contracts of private functions alone. Assumes nothing.
use Rattle.std.specs.Prelude.{ℕ, ◌/◌, ◌%◌, ◌^◌, ◌<◌, ◌≡◌, List, [], map, length, get_or, take, is_some, IfSome, Option as Rust·Option, Some, None}
use Rattle.std.proofs.Math.Option.{Option}
use Rattle.bch.specs.Words.{Bits, Below}
use Rattle.bch.proofs.logarithms.LogSteps.{Ordered}
use Rattle.bch.proofs.logarithms.LogAnswers.{syndromes_of}
use Rattle.bch.proofs.logarithms.LogBounds.{Syndromes}
use Rattle.bch.proofs.logarithms.LogLocator.{rising_in}
use Rattle.bch.proofs.logarithms.Repairs.{Repairs}
use Rattle.bch.proofs.logarithms.Seeking.{Next}
use Rattle.bch.proofs.tables.Placing.{positions}
use Rattle.refusal.specs.Named.{code_of}
use Rattle.refusal.specs.declared.Code as refusal
use Rattle.receiver.specs.declared.flips.Flips.{Flips}

-- the bits that stand so high in bytes
abbrev pub bits_at : ℕ → List ℕ → List ℕ
bits_at shift xs = map (λ (x : ℕ). x / 2 ^ shift) xs

-- the positions of a record
abbrev pub flips_of : Flips → List ℕ
flips_of f = take f.count f.at

-- how many positions there are, and where they stand
abbrev pub count_of : Rust·Option Flips → ℕ
count_of None = 0
count_of (Some f) = f.count

abbrev pub places_in : Rust·Option Flips → List ℕ
places_in None = []
places_in (Some f) = f.at

-- they are those found, in rising order, or none is
abbrev pub Located : Rust·Option Flips → Option (List ℕ) → Type 0
Located f o = Ordered (positions (is_some f) (count_of f) (places_in f)) o

-- the syndromes that number j holds, below 2^32, ..
abbrev pub sums_at : List ℕ → ℕ → ℕ
sums_at tests j = get_or tests j 0 % 4294967296

-- .. are the first t of a word for each of them, ..
abbrev pub AreSyndromes : refusal.Code → List ℕ → Type 0
AreSyndromes c tests = (j : ℕ) → j < length tests → Syndromes c.m c.t (sums_at tests j)

-- .. and this is located for them
abbrev pub located_at : refusal.Code → List ℕ → List ℕ → ℕ → Option (List ℕ)
located_at c tables tests j = rising_in c.m c.t c.n tables (sums_at tests j)

-- after so many tries are made, those until positions are located, and the positions
abbrev pub Sought : refusal.Code → List ℕ → List ℕ → ℕ → ℕ → Rust·Option Flips → Type 0
Sought c tables tests made tries f = Next (located_at c tables tests) made (length tests) tries (is_some f) (count_of f) (places_in f)

-- they are where the hard stage flips a word, and positions of it
pub record Repaired (c : refusal.Code) (xs : List ℕ) (f : Rust·Option Flips) : Type 0 where
  pub repairs : Repairs (code_of c) xs (is_some f) (count_of f) (places_in f)
  pub below : IfSome f (λ k. Below c.n (flips_of k))

-- they are so for every word of these syndromes
abbrev pub Repairing : refusal.Code → ℕ → Rust·Option Flips → Type 0
Repairing c s f =
    (xs : List ℕ) → length xs ≡ c.n → Bits xs → s ≡ syndromes_of (code_of c) xs → Repaired c xs f
