-- A piece at a place of a list. Cited by the contracts of private functions alone. Assumes nothing.
use Rattle.std.specs.Prelude.{ℕ, ◌≤◌, ◌≡◌, List, ◌++◌, length, take, drop}

-- as much of it as there is room for is put there, and ends where said
pub record Put (old : List ℕ) (at : ℕ) (new : List ℕ) (now : List ℕ) (end : ℕ) : Type 0 where
  pub text : take end now ≡ take at old ++ take (length (drop at old)) new
  pub rest : drop end now ≡ drop (length new) (drop at old)
  pub inside : end ≤ length now
