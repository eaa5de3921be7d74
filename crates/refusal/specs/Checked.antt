-- What the checks' answers mean, in document 01's numbers. Assumes nothing.
use Rattle.std.specs.Prelude.{ℕ, ◌⊎◌, List, ◌++◌, codes, Result, Ok, Err, Option as Rust·Option, Some, None}
use Rattle.std.proofs.Common.{inl, inr}
use Rattle.std.proofs.Math.Option.{Option, none, some}
use Rattle.std.specs.Fmt.{decimal}
use Rattle.take_format.specs.Refusal.{Refusal, refused}
use Rattle.refusal.specs.declared.Refusal as struct
use Rattle.refusal.specs.declared.ByNumber as any_number
use Rattle.refusal.specs.declared.Cause.{Cause}
use Rattle.refusal.specs.declared.Cause.TheVariants.{M, T, N, Depth, Ladder, InputLength, OutputLength, Bit, Symbol, Kind, Level}
use Rattle.refusal.specs.declared.Cause.TheVariants.{TakeHeader, TakeZero, TakeLength}

-- a cause's number
abbrev pub number_of : Cause → ℕ
number_of M = 1
number_of T = 2
number_of N = 3
number_of Depth = 4
number_of Ladder = 5
number_of InputLength = 6
number_of OutputLength = 7
number_of Bit = 8
number_of Symbol = 9
number_of Kind = 10
number_of Level = 11
number_of TakeHeader = 12
number_of TakeZero = 13
number_of TakeLength = 14

-- a refusal, by its number and place
abbrev pub refusal_of : struct.Refusal → Refusal
refusal_of r = record { number = number_of r.cause; place = r.place }

-- .. and its text: the word `refused`, the number and the place, in base ten
abbrev pub text_of : struct.Refusal → List ℕ
text_of r = codes "refused " ++ decimal (number_of r.cause) ++ codes " " ++ decimal r.place

-- a check's answer: a refusal, or none
unfoldable pub checked : Result Unit struct.Refusal → Option Refusal
checked (Ok _) = none
checked (Err r) = some (refusal_of r)

-- .. and that of a check that refuses any number
abbrev pub by_number : Result Unit any_number.ByNumber → Option Refusal
by_number (Ok _) = none
by_number (Err r) = refused r.number r.place

-- number k at a place, where there is one. Cited by the contract of a private function alone
abbrev pub refused_at : ℕ → Rust·Option ℕ → Option Refusal
refused_at k None = none
refused_at k (Some i) = refused k i

-- the answer of a call that can be refused: the refusal, or what the call's value means
unfoldable pub answer_of : {A B : Type 0} → (A → B) → Result A struct.Refusal → Refusal ⊎ B
answer_of f (Ok a) = inr (f a)
answer_of f (Err r) = inl (refusal_of r)
