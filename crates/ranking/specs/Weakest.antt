-- The weakest positions of a word of symbols, as keys. Assumes nothing.
use Rattle.std.specs.Prelude.{ℕ, ◌+◌, ◌*◌, min, List, ◌++◌, map, take, replicate}
use Rattle.chase.specs.Soft.{Ranked, rank, reliabilities}

-- the key of a position: 1024 times its reliability, plus the position
unfoldable pub key_of : Ranked → ℕ
key_of r = r.z * 1024 + r.at

-- the keys of all symbols, in the weakest order
unfoldable pub ranked_keys : List ℕ → List ℕ
unfolding key_of rank reliabilities
ranked_keys ss = map key_of (rank 0 (reliabilities ss))

-- eight places: the keys, and 65535 in those that are left
unfoldable pub padded : List ℕ → List ℕ
padded ks = take 8 (ks ++ replicate 8 65535)

-- the first `count` keys, at most eight, of the first 1024 symbols, in eight places
unfoldable pub weakest_keys : ℕ → List ℕ → List ℕ
unfolding ranked_keys padded
weakest_keys count ss = padded (take (min count 8) (ranked_keys (take 1024 ss)))
