-- What the tests of digits say: a numeral as the library has it, with no sign before it; and a decimal that has no `x` in front.
use Rattle.std.proofs.Common.{◌≡◌, ℕ, zero, suc, ◌+◌, ◌-◌, ◌*◌, ◌^◌, ◌<◌, ◌≤◌, min, Bool, true, false, cond, ◌&&◌, eqb, leb, ltb, List, [], ◌∷◌, ◌++◌, length, drop, pos, is_some, IfSome, Some, None, Ok, Err, codes, Option, Result, unwrap_or, append-nil, mul-one, sym, refl, ap, ◌∙◌, subst, arith, lit<, lit≤, ltb-true, le-leb, ne_eqb, eqb-true}
use native.Mathlib.Nat.{pow-le-pow_right, min-eq_right, min-eq_left}
use lib.Ieee.{Float, Format, binary64, inf, prec, low, emax, neg, odd, units, of_int, round}
use lib.Ieee.Fits.{round_is}
use borrow.Author.Tests.{clash}
use Rattle.std.specs.Str.Parse.{AllDigits, IsNumeral, without_leading_plus, without_leading_sign, digits_value, ParsesUnsigned}
use Rattle.std.specs.Float.Parse.{is_float_text, parse_float, IsParseFloatResult}
use Rattle.std.specs.Float.Numeral.{Parts, IsWellFormed}
use Rattle.std.proofs.lemmas.Float.Parse.{is_some-parse_float, parse_float-text_of, parse_float-IsNumeral}
use Rattle.std.specs.Result.{result_ok, result_unwrap_or}
use Rattle.std.proofs.lemmas.Bool.{and_parts}
use Rattle.std.proofs.lemmas.Int.Digits.{digits_value-lt}
use Rattle.std.specs.Char.{digit_value}
use Rattle.math.specs.Floats.{opposite}
use Rattle.script.specs.Numerals.{all_digits, is_numeral_of, place, hex_value, begins, bits_number, is_number, Whole, Writes}

pub digits_hold : (radix : ℕ) (bs : List ℕ) → all_digits radix bs ≡ true → AllDigits radix bs
digits_hold radix [] e = tt
digits_hold radix (c ∷ cs) e =
    let h = and_parts (ltb (digit_value c) radix) (all_digits radix cs) e in
    (ltb-true (digit_value c) radix h.0, digits_hold radix cs h.1)

pub numeral_holds : (radix : ℕ) (bs : List ℕ) → is_numeral_of radix bs ≡ true → IsNumeral radix bs
numeral_holds radix bs e =
    let h = and_parts (ltb 0 (length bs)) (all_digits radix bs) e in
    (ltb-true 0 (length bs) h.0, digits_hold radix bs h.1)

-- what does not begin with a plus stays
kept : (c : ℕ) (cs : List ℕ) (b : Bool) → eqb c 43 ≡ b → (c ≡ 43 → ⊥) → drop (cond b 1 0) (c ∷ cs) ≡ c ∷ cs
kept c cs true q not = absurd (not (eqb-true c 43 q))
kept c cs false q not = refl

-- a plus is no digit
pub no_plus : (radix : ℕ) (bs : List ℕ) → radix ≤ 36 → is_numeral_of radix bs ≡ true → without_leading_plus bs ≡ bs
no_plus radix [] small e = refl
no_plus radix (c ∷ cs) small e =
    let h = numeral_holds radix (c ∷ cs) e in
    let not : c ≡ 43 → ⊥ = λ q. let k : digit_value 43 < radix = subst (λ (x : ℕ). digit_value x < radix) q h.1.0 in omega arith in
    kept c cs (eqb c 43) refl not

-- A numeral that is not read is too large.
pub too_large : (radix k : ℕ) (bs : List ℕ) → radix ≤ 36 → is_numeral_of radix bs ≡ true → (IsNumeral radix (without_leading_plus bs) × (digits_value radix (without_leading_plus bs) < 2 ^ k) → ⊥) → 2 ^ k ≤ digits_value radix bs
too_large radix k bs small e not =
    let p = sym (no_plus radix bs small e) in
    let n = subst (IsNumeral radix) p (numeral_holds radix bs e) in
    let same = ap (digits_value radix) p in
    let h : digits_value radix (without_leading_plus bs) < 2 ^ k → ⊥ = λ l. not (n, l) in
    omega arith

-- What is read of a numeral, and the largest number that 64 bits hold where it is not.
pub place_read : {E : Type 0} (bs : List ℕ) (r : Result ℕ E) → is_numeral_of 10 bs ≡ true → ParsesUnsigned 64 10 bs r → Some (result_unwrap_or r (2 ^ 64 - 1)) ≡ place bs
place_read bs r e reads = go r reads ∙ sym (ap (λ (b : Bool). cond b (Some (min (digits_value 10 bs) (2 ^ 64 - 1))) None) e)
  where
    go : {E : Type 0} (r : Result ℕ E) → ParsesUnsigned 64 10 bs r → Some (result_unwrap_or r (2 ^ 64 - 1)) ≡ Some (min (digits_value 10 bs) (2 ^ 64 - 1))
    go (Ok v) reads =
        let p = no_plus 10 bs (lit≤ tt) e in
        let small : digits_value 10 bs ≤ 2 ^ 64 - 1 = omega (arith, reads.0.1, ap (digits_value 10) p) in
        ap Some (reads.1 ∙ ap (digits_value 10) p ∙ sym (min-eq_left small))
    go (Err x) reads = ap Some (sym (min-eq_right (omega (arith, too_large 10 64 bs (lit≤ tt) e reads))))

sixteen_read : {E : Type 0} (most : ℕ) (bs : List ℕ) (r : Result ℕ E) → most ≤ 16 → length bs ≤ most → is_numeral_of 16 bs ≡ true → ParsesUnsigned 64 16 bs r → result_ok r ≡ Some (digits_value 16 bs)
sixteen_read most bs (Ok v) few short e reads = ap Some (reads.1 ∙ ap (digits_value 16) (no_plus 16 bs (lit≤ tt) e))
sixteen_read most bs (Err x) few short e reads =
    let big = too_large 16 64 bs (lit≤ tt) e reads in
    let low = digits_value-lt 16 bs (numeral_holds 16 bs e).1 in
    let within : length bs ≤ 16 = omega arith in
    let power : 16 ^ length bs ≤ 16 ^ 16 = pow-le-pow_right {n = 16} (lit< tt) {i = length bs} {j = 16} within in
    absurd (omega arith)

-- Sixteen hexadecimal digits are always read.
pub hex_read : {E : Type 0} (most : ℕ) (bs : List ℕ) (r : Result ℕ E) → most ≤ 16 → length bs ≤ most → is_numeral_of 16 bs ≡ true → ParsesUnsigned 64 16 bs r → result_ok r ≡ hex_value most bs
hex_read most bs r few short e reads =
    let both : is_numeral_of 16 bs && leb (length bs) most ≡ true = ap (λ (b : Bool). b && leb (length bs) most) e ∙ le-leb (length bs) most short in
    sixteen_read most bs r few short e reads ∙ sym (ap (λ (b : Bool). cond b (Some (digits_value 16 bs)) None) both)

-- a text that does not begin with `x`
pub without_mark : (bs : List ℕ) → ((rest : List ℕ) → bs ≡ 120 ∷ rest → ⊥) → begins (codes "x") bs ≡ false
without_mark [] h = refl
without_mark (b ∷ bs) h =
    let other : eqb 120 b ≡ false = ne_eqb 120 b (λ e. h bs (ap (λ (c : ℕ). c ∷ bs) (sym e))) in
    ap (λ (t : Bool). t && true) other

pub is_decimal : (bs : List ℕ) → ((rest : List ℕ) → bs ≡ 120 ∷ rest → ⊥) → is_float_text bs ≡ is_number bs
is_decimal bs h = sym (ap (λ (t : Bool). cond t (is_some (bits_number (drop 1 bs))) (is_float_text bs)) (without_mark bs h))

-- ---- a sign turned before rounding and after

odd_turned : (d q k l : ℕ) → neg (odd d false q k l) ≡ odd d true q k l
unfolding neg odd
odd_turned d zero k l = refl
odd_turned d (suc q) k l = refl

units_turned : (f : Format) (q k : ℕ) → neg (units f false q k) ≡ units f true q k
unfolding units neg
units_turned f q k = by_size (ltb (q * 2 ^ k) (2 ^ (low f + suc (emax f))))
  where
    by_size : (b : Bool) → neg (cond b (odd (suc (prec f)) false q k (low f)) (inf false)) ≡ cond b (odd (suc (prec f)) true q k (low f)) (inf true)
    by_size true = odd_turned (suc (prec f)) q k (low f)
    by_size false = refl

round_turned : (f : Format) (a c : ℕ) → neg (round f false a c) ≡ round f true a c
round_turned f a c = ap neg (round_is f false a c) ∙ units_turned f _ _ ∙ sym (round_is f true a c)

-- A minus before digits turns the sign of what they write.
minus_float : (ds : List ℕ) → IsNumeral 10 ds → parse_float binary64 (45 ∷ ds) ≡ Some (opposite (of_int binary64 (pos (digits_value 10 ds))))
unfolding of_int
minus_float ds n =
    let end : ds ++ [] ≡ ds = append-nil ds in
    let p : Parts = record { whole = ds; point = false; fraction = []; exponent_negative = false; exponent = []; len = length ds } in
    let fit : IsWellFormed p = record { whole_digits = n.1; fraction_digits = tt; exponent_digits = tt; no_point = λ _. refl; no_exponent = λ _. refl; len_is = sym (ap length end) } in
    let units : digits_value 10 (ds ++ []) * 1 ≡ digits_value 10 ds = mul-one (digits_value 10 (ds ++ [])) ∙ ap (digits_value 10) end in
    ap (λ (t : List ℕ). parse_float binary64 (45 ∷ t)) (sym end)
    ∙ parse_float-text_of binary64 true p fit n.0
    ∙ ap Some (ap (λ (k : ℕ). round binary64 true k 1) units ∙ sym (round_turned binary64 (digits_value 10 ds) 1))

same_float : {x y : Float} → Some x ≡ Some y → x ≡ y
same_float {y = y} e = ap (λ (o : Option Float). unwrap_or o y) e

-- What the library reads is the whole number, where the digits are one.
pub whole_read : (bs : List ℕ) (x : Float) → parse_float binary64 bs ≡ Some x → Whole x bs
whole_read [] x e = λ digits small. absurd (clash digits)
whole_read (c ∷ cs) x e = at (eqb c 45) refl
  where
    at : (b : Bool) → eqb c 45 ≡ b → Whole x (c ∷ cs)
    at true q digits small =
        let p = ap (λ (b : Bool). cond b cs (without_leading_plus (c ∷ cs))) q in
        let n = numeral_holds 10 cs (ap (is_numeral_of 10) (sym p) ∙ digits) in
        let read = ap (λ (k : ℕ). parse_float binary64 (k ∷ cs)) (sym (eqb-true c 45 q)) ∙ e in
        let nearest = of_int binary64 (pos (digits_value 10 (without_leading_sign (c ∷ cs)))) in
        same_float (sym read ∙ minus_float cs n)
        ∙ ap (λ (ds : List ℕ). opposite (of_int binary64 (pos (digits_value 10 ds)))) (sym p)
        ∙ ap (λ (b : Bool). cond b (opposite nearest) nearest) (sym q)
    at false q digits small =
        let p = ap (λ (b : Bool). cond b cs (without_leading_plus (c ∷ cs))) q in
        let n = numeral_holds 10 (without_leading_plus (c ∷ cs)) (ap (is_numeral_of 10) (sym p) ∙ digits) in
        let nearest = of_int binary64 (pos (digits_value 10 (without_leading_sign (c ∷ cs)))) in
        same_float (sym e ∙ parse_float-IsNumeral binary64 (c ∷ cs) n)
        ∙ ap (λ (ds : List ℕ). of_int binary64 (pos (digits_value 10 ds))) (sym p)
        ∙ ap (λ (b : Bool). cond b (opposite nearest) nearest) (sym q)

-- a text that does not begin with `x` is read as a decimal
pub decimal_read : (bs : List ℕ) (o : Option Float) → ((rest : List ℕ) → bs ≡ 120 ∷ rest → ⊥) → o ≡ parse_float binary64 bs → IfSome o (λ x. Writes x bs)
decimal_read bs None h read = tt
decimal_read bs (Some x) h read = record {
  number = sym (is_decimal bs h) ∙ sym (is_some-parse_float binary64 bs) ∙ ap is_some (sym read);
  bits = λ marked. absurd (clash (sym (without_mark bs h) ∙ marked));
  whole = whole_read bs x (sym read);
}

-- what the library answers, as the float of the text
pub float_read : {E : Type 0} (bs : List ℕ) (r : Result Float E) → IsParseFloatResult binary64 bs r → result_ok r ≡ parse_float binary64 bs
float_read bs (Ok x) reads = sym reads
float_read bs (Err e) reads = sym reads
