-- What is read from a code's tables is small enough. Assumes nothing.
use Prim.Native.Nat.{ℕ, ◌+◌, ◌-◌, ◌/◌, ◌%◌, ◌^◌, ◌≤◌, ◌<◌}
use mathlib.Core.Path.{◌≡◌, ap, ◌∙◌}
use mathlib.Core.Logic.{◌≢◌}
use mathlib.Core.List.{List}
use lib.Bits.{bit_xor}
use Rattle.galois.proofs.FieldLaws.{alpha_lt}
use Rattle.bch.proofs.codes.Settings.{primitive_of}
use Rattle.bch.proofs.tables.CodeTables.{log_in, powers_in, roots_in}
use Rattle.bch.proofs.tables.TableFills.{stage_low}
use Rattle.bch.proofs.logarithms.LogBounds.{Syndromes, roots_lt, rest_lt, rest_two}
use Rattle.refusal.specs.Named.{code_of}
use Rattle.refusal.specs.declared.Code as struct
use Rattle.receiver.specs.Tables.{Fielded, Filled}

module _ {c : struct.Code} {ts : List ℕ} where
  -- the first part of powers is an element
  pub low_lt : {v e : ℕ} → Fielded c ts → v ≡ powers_in c.m ts e → e < 2 ^ c.m + 7 → v % 1024 < 2 ^ c.m
  low_lt {v} {e} f is h =
      let k = f.made.lawful in
      let g = primitive_of (code_of c) k in
      rw (ap (λ (x : ℕ). x % 1024) (is ∙ f.field.powers e h) ∙ stage_low c.m g k.m_most e c.t k.t_least k.t_most) (alpha_lt c.m g e)

  -- the logarithms of two roots are below the period
  pub both_lt : {k r : ℕ} → Filled c ts → c.t ≡ 3 → k < 2 ^ c.m + 7 → r ≡ roots_in c.m ts k → 1024 ≤ r
      → (r % 1024 < 2 ^ c.m - 1) × (r / 1024 < 2 ^ c.m - 1)
  both_lt {k} {r} f t = roots_lt c.m c.t ts f.tables t k r

  -- what is left of the syndromes s, without the powers p of S1's logarithm l, has elements as its parts
  module _ {s l p : ℕ} (f : Filled c ts) (h : Syndromes c.m c.t s) (hl : l ≡ log_in ts (s % 1024)) (hp : p ≡ powers_in c.m ts l) where
    pub parts_lt : (bit_xor s p / 1024 % 1024 < 2 ^ c.m) × (bit_xor s p / 1048576 < 2 ^ c.m)
    parts_lt = rest_lt c.m c.t ts f.tables s l (bit_xor s p) hl (ap (bit_xor s) hp) h

    -- for t = 2 it is one of them alone
    pub part_not : c.t ≡ 2 → bit_xor s p ≢ 0 → bit_xor s p / 1024 % 1024 ≢ 0
    part_not t n = rest_two c.m c.t ts f.tables s l (bit_xor s p) hl (ap (bit_xor s) hp) h t n
