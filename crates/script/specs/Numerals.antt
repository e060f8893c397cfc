-- The numbers of a script, read from the bytes of a word.
use Rattle.std.specs.Prelude.{◌≡◌, ℕ, ◌-◌, ◌^◌, ◌<◌, min, Bool, true, false, cond, ◌&&◌, ◌||◌, List, [], ◌∷◌, length, drop, pos, is_some, Some, None, codes, Option, ◌==◌, nat_le, nat_lt, Float}
use Rattle.std.specs.Float.Ieee as Ieee
use Rattle.std.specs.Float.{binary64}
use Rattle.math.specs.Floats.{opposite}
use Rattle.std.specs.Float.Parse.{is_float_text}
use Rattle.std.specs.Option.{option_map}
use Rattle.std.specs.Str.Parse.{digits_value, starts_with_minus, without_leading_sign}
use Rattle.std.specs.Char.{digit_value}
use Rattle.std.specs.List.{list_all}

abbrev pub all_digits : ℕ → List ℕ → Bool
all_digits radix = list_all (λ c. nat_lt (digit_value c) radix)

-- one digit or more, and nothing else
abbrev pub is_numeral_of : ℕ → List ℕ → Bool
is_numeral_of radix bs = nat_lt 0 (length bs) && all_digits radix bs

-- What 64 bits do not hold counts as the largest that they do.
abbrev pub place : List ℕ → Option ℕ
place bs = cond (is_numeral_of 10 bs) (Some (min (digits_value 10 bs) (2 ^ 64 - 1))) None

-- one to `most` hexadecimal digits of either case
abbrev pub hex_value : ℕ → List ℕ → Option ℕ
hex_value most bs = cond (is_numeral_of 16 bs && nat_le (length bs) most) (Some (digits_value 16 bs)) None

-- these bytes stand first
abbrev pub begins : List ℕ → List ℕ → Bool
begins [] bs = true
begins (c ∷ cs) [] = false
begins (c ∷ cs) (b ∷ bs) = c == b && begins cs bs

-- only below 2^32
abbrev pub narrowed : Option ℕ → Option ℕ
narrowed None = None
narrowed (Some v) = cond (nat_lt v (2 ^ 32)) (Some v) None

-- in decimal, or `0x` and at most eight hexadecimal digits
abbrev pub word : List ℕ → Option ℕ
word bs = narrowed (cond (begins (codes "0x") bs) (hex_value 8 (drop 2 bs)) (place bs))

-- the f64 with these bits, in sixteen hexadecimal digits
abbrev pub bits_number : List ℕ → Option Float
bits_number bs = option_map (Ieee.of_bits binary64) (cond (length bs == 16) (hex_value 16 bs) None)

abbrev pub is_word : List ℕ → Bool
is_word bs = is_some (word bs)

abbrev pub is_place : List ℕ → Bool
is_place bs = is_some (place bs)

-- `x` and the digits of its bits, or what Rust takes for an f64
abbrev pub is_number : List ℕ → Bool
is_number bs = cond (begins (codes "x") bs) (is_some (bits_number (drop 1 bs))) (is_float_text bs)

-- the f64 nearest to the whole number that the digits write, its opposite after a minus
abbrev pub whole_number : List ℕ → Float
whole_number bs =
    let nearest = Ieee.of_int binary64 (pos (digits_value 10 (without_leading_sign bs))) in
    cond (starts_with_minus bs) (opposite nearest) nearest

-- digits alone, or after a sign, below 2^64
abbrev pub Whole : Float → List ℕ → Type 0
Whole x bs = is_numeral_of 10 (without_leading_sign bs) ≡ true → digits_value 10 (without_leading_sign bs) < 2 ^ 64 → x ≡ whole_number bs

-- The word writes this number: the bits after `x` are its bits, and digits alone or after a sign give the f64 nearest to the whole number.
-- Of any other decimal, which f64 it gives is for the standard library to say.
pub record Writes (x : Float) (bs : List ℕ) : Type 0 where
  pub number : is_number bs ≡ true
  pub bits : begins (codes "x") bs ≡ true → bits_number (drop 1 bs) ≡ Some x
  pub whole : Whole x bs

-- the word settles which number it writes: by its bits, or as a whole number below 2^64 in size
abbrev pub settles : List ℕ → Bool
settles bs = begins (codes "x") bs || (is_numeral_of 10 (without_leading_sign bs) && nat_lt (digits_value 10 (without_leading_sign bs)) (2 ^ 64))
