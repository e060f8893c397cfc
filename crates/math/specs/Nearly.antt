-- When two numbers count as equal.
use Rattle.std.specs.Prelude.{ℕ, ◌+◌, ◌-◌, Bool, false, cond, nat_le, Float}
use Rattle.std.specs.Float.Ieee as Ieee
use Rattle.std.specs.Float.{binary64}
use Rattle.math.specs.Floats.{bits}
use Rattle.math.specs.Magnitude.{within}

-- 2^-52
abbrev pub epsilon : Float
epsilon = bits 0x3cb0_0000_0000_0000

-- the f64 nearest 0.99984769515
abbrev pub cos_1_degree : Float
cos_1_degree = bits 0x3fef_fec0_97f4_ceab

-- the f64 nearest 0.92387953251
abbrev pub cos_pi_8 : Float
cos_pi_8 = bits 0x3fed_906b_cf32_6000

-- at most 2^-52 in size
abbrev pub near_zero : Float → Bool
near_zero d = within epsilon d

abbrev pub apart : ℕ → ℕ → ℕ
apart m n = (m - n) + (n - m)

-- bits at most 4 apart, of two that are no NaN
unfoldable pub bits_close : Float → Float → Bool
bits_close a b = cond (Ieee.is_nan a) false (cond (Ieee.is_nan b) false (nat_le (apart (Ieee.to_bits binary64 a) (Ieee.to_bits binary64 b)) 4))
