-- A number times 1 is the number itself, and times -1 its opposite: neither product is rounded.
use Rattle.std.proofs.Common.{◌≡◌, ℕ, zero, suc, ◌+◌, ◌-◌, ◌*◌, ◌/◌, ◌^◌, Bool, true, false, cond, T, ℤ, sym, refl, ap, ◌∙◌, mul-one, mul_right_comm}
use lib.Ieee.{Float, nan, inf, fin, binary64, prec, low, hid, top, up, down, size, round, neg, mul, fits, of_bits, to_bits}
use lib.Ieee.Bits.{of_bits-to_bits}
use lib.Ieee.Exact.{HasValue}
use lib.Ieee.Fits.{down_pos, round-fits}
use lib.Ieee.Nearest.{div_same}
use Rattle.math.specs.Floats.{◌⊗◌, opposite, one}
use Rattle.math.proofs.OwnValue.{own_value}

-- the format holds a number with either sign
either_sign : (s t : Bool) (m : ℕ) (e : ℤ) → T (fits binary64 (fin s m e)) → T (fits binary64 (fin t m e))
unfolding fits
either_sign s t zero e h = h
either_sign s t (suc m) e h = h

-- what has the value of a number has its bits
same_bits : (x : Float) (t : Bool) (m : ℕ) (e : ℤ) → HasValue x t (m * up e) (down e) → to_bits binary64 x ≡ to_bits binary64 (fin t m e)
unfolding to_bits
same_bits nan t m e v = absurd v
same_bits (inf s) t m e v = absurd v
same_bits (fin s n d) t m e v =
    let l = 2 ^ low binary64 in
    let across : n * up d * l * down e ≡ m * up e * l * down d = mul_right_comm (n * up d) l (down e) ∙ ap (λ (p : ℕ). p * l) v.1 ∙ mul_right_comm (m * up e) (down d) l in
    let size_is : n * up d * l / down d ≡ m * up e * l / down e = div_same (n * up d * l) (down d) (m * up e * l) (down e) (down_pos d) (down_pos e) across in
    λ i. cond (v.0 i) (top binary64) 0 + (size (size_is i) - prec binary64) * hid binary64 + size_is i / 2 ^ (size (size_is i) - prec binary64)

-- a number that the format holds, written as a fraction, rounds to itself
own_rounding : (s t : Bool) (m : ℕ) (e : ℤ) → T (fits binary64 (fin s m e)) → round binary64 t (m * up e) (down e) ≡ fin t m e
own_rounding s t m e h =
    let r = round binary64 t (m * up e) (down e) in
    sym (of_bits-to_bits binary64 r (round-fits binary64 t (m * up e) (down e)))
    ∙ ap (of_bits binary64) (same_bits r t m e (own_value s t m e h))
    ∙ of_bits-to_bits binary64 (fin t m e) (either_sign s t m e h)

own_product : (s t : Bool) (m : ℕ) (e : ℤ) → T (fits binary64 (fin s m e)) → round binary64 t (m * up e * 1) (down e * 1) ≡ fin t m e
own_product s t m e h =
    ap (λ (p : ℕ). round binary64 t p (down e * 1)) (mul-one (m * up e)) ∙ ap (λ (p : ℕ). round binary64 t (m * up e) p) (mul-one (down e)) ∙ own_rounding s t m e h

pub times_one : (x : Float) → T (fits binary64 x) → x ⊗ one ≡ x
unfolding mul of_bits
times_one nan h = refl
times_one (inf true) h = refl
times_one (inf false) h = refl
times_one (fin true m e) h = own_product true true m e h
times_one (fin false m e) h = own_product false false m e h

pub times_minus_one : (x : Float) → T (fits binary64 x) → x ⊗ opposite one ≡ opposite x
unfolding mul neg of_bits
times_minus_one nan h = refl
times_minus_one (inf true) h = refl
times_minus_one (inf false) h = refl
times_minus_one (fin true m e) h = own_product true false m e h
times_minus_one (fin false m e) h = own_product false true m e h
