-- The sign of a NaN, and of what is rounded.
use Rattle.std.proofs.Common.{◌≡◌, ℕ, zero, suc, ◌+◌, ◌-◌, ◌*◌, ◌/◌, ◌%◌, ◌^◌, Bool, true, false, cond, ltb, ℤ, sym, refl, ap, ◌∙◌, true≢false}
use Prim.Native.Nat.{compare}
use lib.Ieee as Ieee
use lib.Ieee.{Float, Format, nan, inf, fin, is_nan, prec, emax, low, unlike, up, down, nearest, odd, units, round, mul}
use lib.Ieee.Fits.{round_is}
use Rattle.std.specs.Float.{is_sign_negative}

pub nan_positive : (x : Float) → is_nan x ≡ true → is_sign_negative x ≡ false
unfolding is_nan is_sign_negative
nan_positive nan e = refl
nan_positive (inf s) e = absurd (true≢false (sym e))
nan_positive (fin s m e) h = absurd (true≢false (sym h))

sign_odd : (d : ℕ) (s : Bool) (q k l : ℕ) → is_sign_negative (odd d s q k l) ≡ s
unfolding odd is_sign_negative
sign_odd d s zero k l = refl
sign_odd d s (suc q) k l = refl

sign_units : (f : Format) (s : Bool) (q k : ℕ) → is_sign_negative (units f s q k) ≡ s
unfolding units is_sign_negative
sign_units f s q k = go (ltb (q * 2 ^ k) (2 ^ (low f + suc (emax f))))
  where
    go : (b : Bool) → is_sign_negative (cond b (odd (suc (prec f)) s q k (low f)) (inf s)) ≡ s
    go true = sign_odd (suc (prec f)) s q k (low f)
    go false = refl

-- rounding keeps the sign, where it gives a zero or an infinity too
pub sign_round : (f : Format) (s : Bool) (a c : ℕ) → is_sign_negative (round f s a c) ≡ s
sign_round f s a c =
    let n = a * 2 ^ low f in
    let k = Ieee.size (n / c) - prec f in
    let u = c * 2 ^ k in
    ap is_sign_negative (round_is f s a c) ∙ sign_units f s (nearest (n / u) (compare (n % u * 2) u)) k

-- the sign of a product
pub sign_product : (f : Format) (s t : Bool) (m n : ℕ) (d e : ℤ) → is_sign_negative (mul f (fin s m d) (fin t n e)) ≡ unlike s t
unfolding mul
sign_product f s t m n d e = sign_round f (unlike s t) (m * up d * (n * up e)) (down d * down e)
