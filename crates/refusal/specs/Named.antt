-- The record of a code, and what the check of the settings answers. Assumes nothing.
use Rattle.std.specs.Prelude.{◌+◌, ◌-◌, ◌*◌, ◌^◌, ◌≤◌, ◌≡◌, ◌⊎◌, [], ◌∷◌, ◌++◌, Result}
use Rattle.std.proofs.Math.Option.{Option}
use Rattle.galois.specs.Field.{poly}
use Rattle.bch.specs.Code.{Code, code, message_length, design_distance}
use Rattle.bch.proofs.codes.Settings.{Lawful}
use Rattle.take_format.specs.Refusal.{Refusal, first_of, settings}
use Rattle.take_format.specs.Calls.{answered}
use Rattle.refusal.specs.Checked.{answer_of}
use Rattle.refusal.specs.declared.Code as struct
use Rattle.refusal.specs.declared.Refusal as refusal

-- the record of a code
abbrev pub record_of : Code → struct.Code
record_of c =
    record {
      m = c.m;
      t = c.t;
      n = c.n;
      k = message_length c;
      d = design_distance c;
      polynomial = poly c.m;
      period = 2 ^ c.m - 1;
      powers = 2 ^ c.m;
      roots = 2 * 2 ^ c.m + 8;
    }

-- the code of a record
abbrev pub code_of : struct.Code → Code
code_of c = code c.m c.t c.n

-- what settings name: a refusal, or a code's record
abbrev pub named_of : Result struct.Code refusal.Refusal → Refusal ⊎ struct.Code
named_of = answer_of (λ c. c)

-- what the settings of a code name, where a later check passes too
abbrev pub named_by : Code → Option Refusal → Refusal ⊎ struct.Code
named_by c later = answered (first_of (settings c ++ later ∷ [])) (record_of c)

-- a record that is that of a code, for which the laws hold. Cited by the contracts of private functions alone
pub record Made (c : struct.Code) : Type 0 where
  pub lawful : Lawful (code_of c)
  pub size_least : 32 ≤ 2 ^ c.m
  pub size_most : 2 ^ c.m ≤ 1024
  pub long : 6 ≤ c.n
  pub deep : c.d ≤ c.n
  pub is_n : c.n ≡ c.m * c.t + c.k
  pub is_d : c.d ≡ 2 * c.t + 1
  pub is_polynomial : c.polynomial ≡ poly c.m
  pub is_period : c.period ≡ 2 ^ c.m - 1
  pub is_powers : c.powers ≡ 2 ^ c.m
  pub is_roots : c.roots ≡ 2 * 2 ^ c.m + 8
