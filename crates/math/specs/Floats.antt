-- The operations of f64 under short names, each rounding once, and the numbers that the rules name.
use Rattle.std.specs.Prelude.{ℕ, Bool, Float}
use Rattle.std.specs.Float.Ieee as Ieee
use Rattle.std.specs.Float.{binary64}
use Rattle.std.specs.Float as Std

abbrev pub ◌⊕◌ : Float → Float → Float
x ⊕ y = Ieee.add binary64 x y

abbrev pub ◌⊖◌ : Float → Float → Float
x ⊖ y = Ieee.sub binary64 x y

abbrev pub ◌⊗◌ : Float → Float → Float
x ⊗ y = Ieee.mul binary64 x y

abbrev pub ◌⊘◌ : Float → Float → Float
x ⊘ y = Ieee.div binary64 x y

infixl 65 ◌⊕◌ ◌⊖◌
infixl 70 ◌⊗◌ ◌⊘◌
abbrev pub opposite : Float → Float
opposite x = Ieee.neg x

-- the size without the sign
abbrev pub size : Float → Float
size x = Std.float_with_sign Bool.false x

abbrev pub root : Float → Float
root x = Std.sqrt binary64 x

-- the f64 with these bits
abbrev pub bits : ℕ → Float
bits n = Ieee.of_bits binary64 n

abbrev pub zero : Float
zero = bits 0

abbrev pub one : Float
one = bits 0x3ff0_0000_0000_0000

abbrev pub two : Float
two = bits 0x4000_0000_0000_0000
