-- The promise of a take, for the number that is answered. Assumes nothing.
use Prim.Native.Nat.{ℕ, ◌≤◌, ◌<◌}
use native.Mathlib.Omega.{arith}
use mathlib.Core.Path.{◌≡◌}
use mathlib.Core.List.{List}
use Rattle.take_format.specs.Refusal.{Refusal}
use Rattle.take_format.specs.Batch.{Totals}
use Rattle.take_format.specs.Take.{header}
use Rattle.take_format.specs.Promise.{TakePromise}
use Rattle.receiver_c.specs.Packed.{refusal_packed, totals_packed, Promised}
use Rattle.receiver_c.proofs.Sizes.{totals_room}
use Rattle.receiver_c.proofs.Unpacked.{refusal_number, totals_sures, totals_fairs, totals_tries}

module _ (number : ℕ) (bs messages marks : List ℕ) where
  -- a refusal is told by its lowest byte, and promises nothing
  pub refusal_promise : (r : Refusal) → r.number < 128 → number ≡ refusal_packed r → Promised number bs messages marks
  refusal_promise r small e zero = absurd (omega (arith, refusal_number r small, e, zero))

  -- totals are read off the number
  pub totals_promise : (k : Totals) → TakePromise bs messages marks k → (header bs).words ≤ 65535 → number ≡ totals_packed k
      → Promised number bs messages marks
  totals_promise k promise few e zero =
      let room = totals_room bs messages marks k promise few in
      rw e (record {
        totals = k;
        promise = promise;
        sures = totals_sures k room;
        fairs = totals_fairs k room;
        tries = totals_tries k room;
      })
