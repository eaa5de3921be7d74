-- What the answer to a strip's length means. Assumes nothing.
use Rattle.std.specs.Prelude.{ℕ, ◌⊎◌, Result}
use Rattle.take_format.specs.Refusal as take_format
use Rattle.refusal.specs.Checked.{answer_of}
use Rattle.refusal.specs.declared.Refusal.{Refusal}

-- a refusal, or the length
abbrev pub length_of : Result ℕ Refusal → take_format.Refusal ⊎ ℕ
length_of a = answer_of (λ (n : ℕ). n) a
