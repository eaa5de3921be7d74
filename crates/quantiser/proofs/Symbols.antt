-- A symbol made without a branch: the whole symbol of a level, taken once where it was heard and otherwise 0 times. Assumes nothing.
use Prim.Native.Nat.{ℕ, ◌+◌, ◌*◌}
use native.Mathlib.Nat.{zero-mul, one-mul}
use mathlib.Core.Path.{◌≡◌}
use mathlib.Core.Bool.{cond}
use mathlib.Core.List.{List}
use lib.Ieee.{Float, lt}
use Rattle.take_format.specs.Samples.{zero_level, magnitude, edges_at_most, Sample, blank, heard, symbol}
use Rattle.quantiser.specs.Told.{heard_of, level_of}

pub symbol_is : (es : List Float) (s : Sample) (x m : Float) (b n h : ℕ) → x ≡ level_of s → b ≡ cond (lt x zero_level) 16 0 → m ≡ magnitude x
    → n ≡ edges_at_most m es → h ≡ heard_of s → h * (b + n) ≡ symbol es s
unfolding symbol heard_of level_of
symbol_is es blank x m b n h ex eb em en eh = rw eh (zero-mul (b + n))
symbol_is es (heard y) x m b n h ex eb em en eh = rw (eh, one-mul (b + n), eb, en, em, ex)
