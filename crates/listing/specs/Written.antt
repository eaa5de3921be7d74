-- A text on a buffer, and what one more piece does to it. Assumes nothing.
use Rattle.std.specs.Prelude.{ℕ, ◌≡◌, List, ◌++◌, length, take, drop}
use Rattle.listing.specs.declared.text.Text.{Text}

-- what is written, and what is left of the buffer behind it
abbrev pub written : Text → List ℕ
written t = take t.at t.bytes.now

abbrev pub left : Text → List ℕ
left t = drop t.at t.bytes.now

-- as much of a piece as there is room for is written behind the rest, on the same buffer
pub record Written (old : Text) (new : List ℕ) (now : Text) : Type 0 where
  pub same : now.bytes.ghost_name ≡ old.bytes.ghost_name
  pub text : written now ≡ written old ++ take (length (left old)) new
  pub rest : left now ≡ drop (length new) (left old)
