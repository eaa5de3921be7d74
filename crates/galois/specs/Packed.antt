-- Three elements in one number, as the three syndromes of a word are added up: of a field of 2^m elements, m at most 10, each
-- is below 1024. Assumes nothing.
use Rattle.std.specs.Prelude.{ℕ, ◌+◌, ◌*◌}

-- a + 1024·b + 1024²·c
abbrev pub packed : ℕ → ℕ → ℕ → ℕ
packed a b c = a + 1024 * b + 1048576 * c
