-- The hard stage where one position makes all the syndromes, or none does: the logarithms and the powers are enough for it, since tables
-- that have the roots too would give the same positions. Assumes nothing but what the list is asked to hold.
use Prim.Native.Nat.{ℕ, ◌+◌, ◌%◌, ◌^◌, ◌≤◌, ◌<◌}
use native.Mathlib.Decide.{ℕ_discrete}
use native.Mathlib.Omega.{arith}
use mathlib.Core.Path.{◌≡◌, sym, ap, ◌∙◌}
use mathlib.Core.Bool.{Bool, true}
use mathlib.Core.List.{List, [], ◌∷◌}
use mathlib.Core.Option.{some, map}
use lib.Bits.{bit_xor}
use lib.ListN.{length}
use Rattle.galois.specs.Field.{log}
use Rattle.galois.proofs.FieldLaws.{log_lt}
use Rattle.bch.specs.Words.{Bits}
use Rattle.bch.specs.Code.{Code, word_length}
use Rattle.bch.proofs.codes.Settings.{Lawful, primitive_of}
use Rattle.bch.proofs.decoding.Elements.{if_zero, zero_is}
use Rattle.bch.proofs.decoding.KappaSums.{within}
use Rattle.bch.proofs.decoding.Sorting.{sorted}
use Rattle.bch.proofs.tables.Placing.{positions, Placed}
use Rattle.bch.proofs.tables.CodeTables.{CodeTables, log_in, powers_in}
use Rattle.bch.proofs.tables.TableLoops.{FieldFilled}
use Rattle.bch.proofs.tables.TablesThere.{code_tables_there}
use Rattle.bch.proofs.logarithms.LogLocator.{locate_in, more_in}
use Rattle.bch.proofs.logarithms.LogSteps.{Ordered}
use Rattle.bch.proofs.logarithms.LogAnswers.{syndromes_of, syndromes_in, repairs_in, found_placed}
use Rattle.bch.proofs.logarithms.Repairs.{Repairs}

module _ (c : Code) (lawful : Lawful c) (ts : List ℕ) (field : FieldFilled c.m c.t ts) where
  us : List ℕ
  us = (code_tables_there c.m lawful.m_least lawful.m_most c.t lawful.t_least lawful.t_most).0

  tables : CodeTables c.m c.t us
  unfolding us
  tables = (code_tables_there c.m lawful.m_least lawful.m_most c.t lawful.t_least lawful.t_most).1

  -- all tables of a code have the same logarithms and, at these, the same powers
  same : (x : ℕ) → x < 2 ^ c.m → (log_in us x ≡ log_in ts x) × (powers_in c.m us (log_in us x) ≡ powers_in c.m ts (log_in ts x))
  same x h = go (ℕ_discrete x 0)
    where
      m : ℕ
      m = c.m

      go : Dec (x ≡ 0) → (log_in us x ≡ log_in ts x) × (powers_in m us (log_in us x) ≡ powers_in m ts (log_in ts x))
      go (yes z) =
          let a : log_in us x ≡ 2 ^ m + 7 = ap (log_in us) z ∙ tables.log_none in
          let b : log_in ts x ≡ 2 ^ m + 7 = ap (log_in ts) z ∙ field.log_none in
          (a ∙ sym b, ap (powers_in m us) a ∙ tables.power_none ∙ sym (ap (powers_in m ts) b ∙ field.power_none))
      go (no n) =
          let a : log_in us x ≡ log m x = tables.logs x n h in
          let b : log_in ts x ≡ log m x = field.logs x n h in
          let l : log m x < 2 ^ m + 7 = omega (arith, log_lt m (primitive_of c lawful) x (omega arith) h) in
          (a ∙ sym b, ap (powers_in m us) a ∙ tables.powers (log m x) l ∙ sym (ap (powers_in m ts) b ∙ field.powers (log m x) l))

  module _ (xs : List ℕ) (long : length xs ≡ word_length c) (bits : Bits xs) (s : ℕ) (packs : s ≡ syndromes_of c xs)
      (flat : bit_xor s (powers_in c.m ts (log_in ts (s % 1024))) ≡ 0) where
    few_located : if_zero s (some []) (within c.n (log_in ts (s % 1024) ∷ [])) ≡ locate_in c.m c.t c.n us s
    unfolding locate_in
    few_located =
        let x = s % 1024 in
        let l1 = log_in us x in
        let r = bit_xor s (powers_in c.m us l1) in
        let (a, b) = same x (syndromes_in c lawful xs bits s packs).first in
        let z : r ≡ 0 = ap (bit_xor s) b ∙ flat in
        ap (if_zero s (some []))
        (ap (λ (l : ℕ). within c.n (l ∷ [])) (sym a)
        ∙ sym (zero_is r (within c.n (l1 ∷ [])) (more_in c.m c.t c.n us x l1 r) z))

    module _ (found : Bool) (count : ℕ) (ps : List ℕ)
        (e : Ordered (positions found count ps) (if_zero s (some []) (within c.n (log_in ts (s % 1024) ∷ [])))) where
      pub few_repairs : Repairs c xs found count ps
      few_repairs = repairs_in c lawful us tables xs long bits s packs found count ps (e ∙ ap (map sorted) few_located)

      pub few_placed : found ≡ true → count ≤ 3 → length ps ≡ 3 → Placed c.n count ps
      few_placed = found_placed c lawful us tables xs long bits s packs found count ps (e ∙ ap (map sorted) few_located)
