-- How far along: for c ≤ a ≤ b the rounded quotient (a - c) / (b - c) is at most 1 in size, since rounding keeps the order of the two differences.
-- A finite value is taken as a sign and a size; `dist` is the size of a difference.
use Rattle.std.proofs.Common.{◌≡◌, ℕ, zero, suc, ◌+◌, ◌-◌, ◌*◌, ◌^◌, ◌<◌, ◌≤◌, Bool, true, false, cond, not, ◌&&◌, ◌||◌, T, eqb, ltb, ℤ, pos, negsuc, sym, refl, ap, ◌∙◌, subst, inl, inr, le_trans, le_of_eq, le_refl, lt_of_lt_of_le, lt_irrefl, mul-le-mul_right, mul_assoc, mul_comm, add-mul, mul-le-mul_left, mul-pos, one-mul, zero-mul, mul-one, sub-add_cancel, mul_right_comm, arith, lit<, eqb→eq, pow_pos, pow-add}
use native.Mathlib.Nat.{mul-sub, eq-zero-or-pos}
use lib.Ieee.{Float, nan, inf, fin, binary64, below, level, low, up, down, round, neg, add, sub, sum, lt, le, eq, is_nan, fits}
use lib.Ieee.Fits.{down_pos}
use lib.Ieee.Positive.{num, den, den_pos, first_pos}
use lib.Ieee.Scale.{round_same}
use lib.Ieee.Bits.{is_true}
use Rattle.std.specs.Float.{float_with_sign, NotNan}
use Rattle.std.proofs.lemmas.Bool.{cases_lt, ltb-true, ltb-false, eq-eqb}
use Rattle.std.proofs.lemmas.Float as Laws
use Rattle.std.proofs.lemmas.Float.{T_from_true, T_from_false, eq-not_lt, lt-or-eq, le_of_not-lt}
use Rattle.math.specs.Floats.{◌⊕◌, ◌⊖◌, ◌⊘◌, size, one}
use Rattle.math.specs.Magnitude.{bound, within}
use Rattle.math.proofs.AzimuthMagnitude.{power_value}
use Rattle.math.proofs.Magnitude.{no, Small, small_of_within, within_round, small_div, sub_within, size_round, unit_round}
use Rattle.math.proofs.OwnValue.{held}
use Rattle.math.proofs.Parts.{round_cases, finite_within, value_small}

-- ---- signed sizes

absdiff : ℕ → ℕ → ℕ
absdiff x y = (x - y) + (y - x)

pub dist : Bool → ℕ → Bool → ℕ → ℕ
dist false x false y = absdiff x y
dist true x true y = absdiff x y
dist false x true y = x + y
dist true x false y = x + y

-- the first is at most the second
abbrev pub AtMost : Bool → ℕ → Bool → ℕ → Type 0
AtMost false x false y = x ≤ y
AtMost false x true y = (x ≡ 0) × (y ≡ 0)
AtMost true x false y = Unit {0}
AtMost true x true y = y ≤ x

dist_mono : (s : Bool) (x : ℕ) (t : Bool) (y : ℕ) (r : Bool) (z : ℕ) → AtMost r z s x → AtMost s x t y → dist s x r z ≤ dist t y r z
unfolding dist absdiff
dist_mono false x false y false z h k = omega arith
dist_mono false x false y true z h k = omega arith
dist_mono false x true y false z h k = omega arith
dist_mono false x true y true z h k = omega arith
dist_mono true x false y false z h k = omega arith
dist_mono true x false y true z h k = omega arith
dist_mono true x true y false z h k = omega arith
dist_mono true x true y true z h k = omega arith

at_most_scale : (s : Bool) (x : ℕ) (t : Bool) (y k : ℕ) → AtMost s x t y → AtMost s (x * k) t (y * k)
at_most_scale false x false y k h = mul-le-mul_right k h
at_most_scale false x true y k h = (rw h.0 (zero-mul k), rw h.1 (zero-mul k))
at_most_scale true x false y k h = tt
at_most_scale true x true y k h = mul-le-mul_right k h

sub_mul : (x y k : ℕ) → (x - y) * k ≡ x * k - y * k
sub_mul x y k = rw (mul_comm (x - y) k, mul-sub k x y, mul_comm k x, mul_comm k y)

dist_scale : (s : Bool) (x : ℕ) (t : Bool) (y k : ℕ) → dist s (x * k) t (y * k) ≡ dist s x t y * k
unfolding dist absdiff
dist_scale false x false y k = simp (add-mul, sub_mul)
dist_scale true x true y k = simp (add-mul, sub_mul)
dist_scale false x true y k = simp add-mul
dist_scale true x false y k = simp add-mul

-- ---- floats by sign and size

pub at_most_of_not_lt : (s : Bool) (x : ℕ) (t : Bool) (y : ℕ) → below s x t y ≡ false → AtMost t y s x
at_most_of_not_lt false x false y h = ltb-false x y h
at_most_of_not_lt false x true y h = tt
at_most_of_not_lt true x false y h = let z = ltb-false 0 (x + y) h in (omega arith, omega arith)
at_most_of_not_lt true x true y h = ltb-false y x h

at_most_of_lt : (s : Bool) (x : ℕ) (t : Bool) (y : ℕ) → below s x t y ≡ true → AtMost s x t y
at_most_of_lt false x false y h = let l = ltb-true x y h in omega arith
at_most_of_lt false x true y h = no h
at_most_of_lt true x false y h = tt
at_most_of_lt true x true y h = let l = ltb-true y x h in omega arith

-- no distance, so level
level_of_dist : (s : Bool) (x : ℕ) (t : Bool) (y : ℕ) → dist t y s x ≡ 0 → level s x t y ≡ true
unfolding dist absdiff
level_of_dist false x false y h = let e : x ≡ y = omega arith in ap (λ (b : Bool). b && (true || eqb x 0)) (eq-eqb x y e)
level_of_dist true x true y h = let e : x ≡ y = omega arith in ap (λ (b : Bool). b && (true || eqb x 0)) (eq-eqb x y e)
level_of_dist false x true y h = let e : x ≡ y = omega arith in let z : x ≡ 0 = omega arith in ap (λ (b : Bool). b && (false || eqb x 0)) (eq-eqb x y e) ∙ eq-eqb x 0 z
level_of_dist true x false y h = let e : x ≡ y = omega arith in let z : x ≡ 0 = omega arith in ap (λ (b : Bool). b && (false || eqb x 0)) (eq-eqb x y e) ∙ eq-eqb x 0 z

-- the size of a rounded difference
size_sum : (s t : Bool) (x y c : ℕ) → size (sum binary64 s x (not t) y c) ≡ round binary64 false (dist s x t y) c
unfolding sum dist absdiff
size_sum false true x y c = size_round binary64 false (x + y) c
size_sum true false x y c = size_round binary64 true (x + y) c
size_sum false false x y c = by (ltb x y) refl
  where
    by : (b : Bool) → ltb x y ≡ b → size (cond b (round binary64 true (y - x) c) (round binary64 (false && ltb y x) (x - y) c)) ≡ round binary64 false ((x - y) + (y - x)) c
    by true e = let l = ltb-true x y e in let same : y - x ≡ (x - y) + (y - x) = omega arith in size_round binary64 true (y - x) c ∙ ap (λ (n : ℕ). round binary64 false n c) same
    by false e = let l = ltb-false x y e in let same : x - y ≡ (x - y) + (y - x) = omega arith in size_round binary64 (false && ltb y x) (x - y) c ∙ ap (λ (n : ℕ). round binary64 false n c) same
size_sum true true x y c = by (ltb x y) refl
  where
    by : (b : Bool) → ltb x y ≡ b → size (cond b (round binary64 false (y - x) c) (round binary64 (true && ltb y x) (x - y) c)) ≡ round binary64 false ((x - y) + (y - x)) c
    by true e = let l = ltb-true x y e in let same : y - x ≡ (x - y) + (y - x) = omega arith in size_round binary64 false (y - x) c ∙ ap (λ (n : ℕ). round binary64 false n c) same
    by false e = let l = ltb-false x y e in let same : x - y ≡ (x - y) + (y - x) = omega arith in size_round binary64 (true && ltb y x) (x - y) c ∙ ap (λ (n : ℕ). round binary64 false n c) same

-- the distance of two finite values, over the product of their denominators
abbrev pub gap : Bool → ℕ → ℤ → Bool → ℕ → ℤ → ℕ
gap s m e t n d = dist s (m * up e * down d) t (n * up d * down e)

size_difference : (s : Bool) (m : ℕ) (e : ℤ) (t : Bool) (n : ℕ) (d : ℤ) → size (fin s m e ⊖ fin t n d) ≡ round binary64 false (gap s m e t n d) (down e * down d)
unfolding sub add neg
size_difference s m e t n d = size_sum s t (m * up e * down d) (n * up d * down e) (down e * down d)

within_of_size : (b x y : Float) → size x ≡ size y → within b x ≡ within b y
unfolding within
within_of_size b x y e = ap (λ (z : Float). le z b) e

-- ---- c ≤ a ≤ b, each by its sign, its digits and its exponent
module _ (sa : Bool) (ma : ℕ) (ea : ℤ) (sb : Bool) (mb : ℕ) (eb : ℤ) (sc : Bool) (mc : ℕ) (ec : ℤ) where
  abbrev A : ℕ
  A = ma * up ea

  abbrev B : ℕ
  B = mb * up eb

  abbrev C : ℕ
  C = mc * up ec

  gap_order : AtMost sc (C * down ea) sa (A * down ec) → AtMost sa (A * down eb) sb (B * down ea) → gap sa ma ea sc mc ec * down eb ≤ gap sb mb eb sc mc ec * down ea
  gap_order h k =
      let da = down ea in
      let db = down eb in
      let dc = down ec in
      let p : AtMost sa (A * dc * db) sb (B * dc * da) =
      subst (λ (x : ℕ). AtMost sa x sb (B * dc * da)) (mul_right_comm A db dc) (subst (λ (x : ℕ). AtMost sa (A * db * dc) sb x) (mul_right_comm B da dc) (at_most_scale sa (A * db) sb (B * da) dc k)) in
      let l : dist sa (A * dc * db) sc (C * da * db) ≡ gap sa ma ea sc mc ec * db = dist_scale sa (A * dc) sc (C * da) db in
      let r : dist sb (B * dc * da) sc (C * da * db) ≡ gap sb mb eb sc mc ec * da = ap (λ (x : ℕ). dist sb (B * dc * da) sc x) (mul_right_comm C da db) ∙ dist_scale sb (B * dc) sc (C * db) da in
      le_trans (le_of_eq (sym l)) (le_trans (dist_mono sa (A * dc * db) sb (B * dc * da) sc (C * da * db) (at_most_scale sc (C * da) sa (A * dc) db h) p) (le_of_eq r))

  -- the nearer difference is within the size of the farther one
  nearer : AtMost sc (C * down ea) sa (A * down ec) → AtMost sa (A * down eb) sb (B * down ea) → within (size (fin sb mb eb ⊖ fin sc mc ec)) (fin sa ma ea ⊖ fin sc mc ec) ≡ true
  nearer h k =
      let x = fin sa ma ea ⊖ fin sc mc ec in
      let n = gap sa ma ea sc mc ec in
      let m = gap sb mb eb sc mc ec in
      let cross : n * (down eb * down ec) ≤ m * (down ea * down ec) =
      le_trans (le_of_eq (sym (mul_assoc n (down eb) (down ec)))) (le_trans (mul-le-mul_right (down ec) (gap_order h k)) (le_of_eq (mul_assoc m (down ea) (down ec)))) in
      let rounded : within (round binary64 false m (down eb * down ec)) (round binary64 false n (down ea * down ec)) ≡ true = within_round binary64 false n (down ea * down ec) m (down eb * down ec) (mul-pos (down_pos ea) (down_pos ec)) (mul-pos (down_pos eb) (down_pos ec)) cross in
      subst (λ (b : Float). within b x ≡ true) (sym (size_difference sb mb eb sc mc ec))
      (within_of_size (round binary64 false m (down eb * down ec)) x (round binary64 false n (down ea * down ec)) (size_difference sa ma ea sc mc ec ∙ sym (size_round binary64 false n (down ea * down ec))) ∙ rounded)

-- ---- two values of the format that differ do so by at least its smallest value

down_power : (e : ℤ) → (i : ℕ) × (down e ≡ 2 ^ i)
down_power (pos k) = (0, refl)
down_power (negsuc k) = (suc k, refl)

fits_down : (s : Bool) (m : ℕ) (e : ℤ) → T (fits binary64 (fin s m e)) → down e ≤ 2 ^ low binary64
unfolding fits
fits_down s zero (pos k) F = pow_pos (low binary64)
fits_down s zero (negsuc k) F = let one_is = eqb→eq (up (negsuc k) * down (negsuc k)) 1 F in le_trans (le_of_eq (sym (one-mul (2 ^ suc k)) ∙ one_is)) (pow_pos (low binary64))
fits_down s (suc m) e F = (held s m e F).1

some_times : (x k : ℕ) → 0 < x * k → k ≤ x * k
some_times zero k h = absurd (lt_irrefl 0 (subst (λ (z : ℕ). 0 < z) (zero-mul k) h))
some_times (suc x) k h = le_trans (le_of_eq (sym (one-mul k))) (mul-le-mul_right k (omega arith))

gap_unit : (s : Bool) (m : ℕ) (e : ℤ) (t : Bool) (n : ℕ) (d : ℤ) → T (fits binary64 (fin s m e)) → T (fits binary64 (fin t n d)) → 0 < gap s m e t n d → down e * down d ≤ gap s m e t n d * 2 ^ low binary64
gap_unit s m e t n d F G h =
    let i = down_power e in
    let j = down_power d in
    elim (cases_lt i.0 j.0) [
      | inl l ↦
          let step : down d ≡ 2 ^ (j.0 - i.0) * down e = j.1 ∙ ap (λ (k : ℕ). 2 ^ k) (sym (sub-add_cancel {n = j.0} {m = i.0} (omega arith))) ∙ pow-add 2 (j.0 - i.0) i.0 ∙ ap (λ (k : ℕ). 2 ^ (j.0 - i.0) * k) (sym i.1) in
          let whole : gap s m e t n d ≡ dist s (m * up e * 2 ^ (j.0 - i.0)) t (n * up d) * down e =
          ap (λ (k : ℕ). dist s k t (n * up d * down e)) (ap (λ (k : ℕ). m * up e * k) step ∙ sym (mul_assoc (m * up e) (2 ^ (j.0 - i.0)) (down e))) ∙ dist_scale s (m * up e * 2 ^ (j.0 - i.0)) t (n * up d) (down e) in
          let some : down e ≤ gap s m e t n d = subst (λ (k : ℕ). down e ≤ k) (sym whole) (some_times _ (down e) (subst (λ (k : ℕ). 0 < k) whole h)) in
          le_trans (mul-le-mul_right (down d) some) (mul-le-mul_left (gap s m e t n d) (fits_down t n d G))
      | inr l ↦
          let step : down e ≡ 2 ^ (i.0 - j.0) * down d = i.1 ∙ ap (λ (k : ℕ). 2 ^ k) (sym (sub-add_cancel l)) ∙ pow-add 2 (i.0 - j.0) j.0 ∙ ap (λ (k : ℕ). 2 ^ (i.0 - j.0) * k) (sym j.1) in
          let whole : gap s m e t n d ≡ dist s (m * up e) t (n * up d * 2 ^ (i.0 - j.0)) * down d =
          ap (λ (k : ℕ). dist s (m * up e * down d) t k) (ap (λ (k : ℕ). n * up d * k) step ∙ sym (mul_assoc (n * up d) (2 ^ (i.0 - j.0)) (down d))) ∙ dist_scale s (m * up e) t (n * up d * 2 ^ (i.0 - j.0)) (down d) in
          let some : down d ≤ gap s m e t n d = subst (λ (k : ℕ). down d ≤ k) (sym whole) (some_times _ (down d) (subst (λ (k : ℕ). 0 < k) whole h)) in
          le_trans (le_of_eq (mul_comm (down e) (down d))) (le_trans (mul-le-mul_right (down e) some) (mul-le-mul_left (gap s m e t n d) (fits_down s m e F)))
    ]

-- ---- the quotient

-- A quotient is at most 1 where the divisor is finite, above 0, and no smaller than the dividend.
quotient : (x y r : Float) → size y ≡ r → bound r ≡ true → 0 < num r → within r x ≡ true → within one (x ⊘ y) ≡ true
unfolding float_with_sign
quotient x nan r e R N h = no (sym (ap bound (sym e)) ∙ R)
quotient x (inf s) r e R N h = no (sym (ap bound (sym e)) ∙ R)
quotient x (fin s n d) r e R N h =
    let p = n * up d in
    let q = down d in
    let P : 0 < p = subst (λ (z : Float). 0 < num z) (sym e) N in
    let small : Small x p q = small_of_within (fin false n d) x refl (subst (λ (z : Float). within z x ≡ true) (sym e) h) in
    let some : 0 < n = first_pos n (up d) P in
    let unit = round_same binary64 false (p * q) (p * q) 1 1 (mul-pos P (down_pos d)) (lit< tt) (mul-one (p * q) ∙ sym (one-mul (p * q))) ∙ unit_round in
    subst (λ (b : Float). within b (x ⊘ fin s n d) ≡ true) unit (small_div x (fin s n d) p q p q (down_pos d) P small (some, le_refl (p * q)))

-- ---- c ≤ a ≤ b, as floats

-- nothing infinite and no NaN is within a bound
no_nan : {X : Type 0} (k : Float) → bound k ≡ true → within k nan ≡ true → X
no_nan k K h = absurd (small_of_within k nan K h)

no_infinity : {X : Type 0} (k : Float) (s : Bool) → bound k ≡ true → within k (inf s) ≡ true → X
no_infinity k s K h = absurd (small_of_within k (inf s) K h)

module _ (sa : Bool) (ma : ℕ) (ea : ℤ) (sb : Bool) (mb : ℕ) (eb : ℤ) (sc : Bool) (mc : ℕ) (ec : ℤ) where
  abbrev a : Float
  a = fin sa ma ea

  abbrev b : Float
  b = fin sb mb eb

  abbrev c : Float
  c = fin sc mc ec

  written : (k : Float) → bound k ≡ true → within k (b ⊖ c) ≡ true → T (fits binary64 b) → T (fits binary64 c) → lt a c ≡ false → lt b a ≡ false → eq c b ≡ false → within one ((a ⊖ c) ⊘ (b ⊖ c)) ≡ true
  unfolding lt eq float_with_sign
  written k K W F G h j n =
      let g = gap sb mb eb sc mc ec in
      let r = round binary64 false g (down eb * down ec) in
      let e : size (b ⊖ c) ≡ r = size_difference sb mb eb sc mc ec in
      let some : 0 < g = elim (eq-zero-or-pos g) [ inl z ↦ no (sym n ∙ level_of_dist sc (mc * up ec * down eb) sb (mb * up eb * down ec) z) | inr p ↦ p ] in
      let R : bound r ≡ true = bounded g (down eb * down ec) e in
      let lowest = round binary64 false 1 (2 ^ low binary64) in
      let unit : within r lowest ≡ true = within_round binary64 false 1 (2 ^ low binary64) g (down eb * down ec) (pow_pos (low binary64)) (mul-pos (down_pos eb) (down_pos ec)) (le_trans (le_of_eq (one-mul (down eb * down ec))) (gap_unit sb mb eb sc mc ec F G some)) in
      let least = value_small lowest 1 (2 ^ low binary64) (num r) (den r) (power_value 0 (low binary64) (omega arith) (omega arith)) (small_of_within r lowest R unit) in
      let near = nearer sa ma ea sb mb eb sc mc ec (at_most_of_not_lt sa (ma * up ea * down ec) sc (mc * up ec * down ea) h) (at_most_of_not_lt sb (mb * up eb * down ea) sa (ma * up ea * down eb) j) in
      quotient (a ⊖ c) (b ⊖ c) r e R (first_pos (num r) (2 ^ low binary64) (lt_of_lt_of_le (den_pos r) (le_trans (le_of_eq (sym (one-mul (den r)))) least))) (subst (λ (z : Float). within z (a ⊖ c) ≡ true) e near)
    where
      bounded : (n d : ℕ) → size (b ⊖ c) ≡ round binary64 false n d → bound (round binary64 false n d) ≡ true
      bounded n d e =
          elim (round_cases n d) [
            | inl t ↦ t
            | inr i ↦ no (finite_within k K (within_of_size k (inf false) (b ⊖ c) (sym (e ∙ i)) ∙ W))
          ]

-- For c ≤ a ≤ b and c ≠ b the quotient (a - c) / (b - c) is at most 1 in size.
pub fraction_within : (k a b c : Float) → bound k ≡ true → bound (k ⊕ k) ≡ true → within k a ≡ true → within k b ≡ true → within k c ≡ true → T (fits binary64 b) → T (fits binary64 c) → lt a c ≡ false → lt b a ≡ false → eq c b ≡ false → within one ((a ⊖ c) ⊘ (b ⊖ c)) ≡ true
fraction_within k nan b c K KK A B C F G h j n = no_nan k K A
fraction_within k (inf s) b c K KK A B C F G h j n = no_infinity k s K A
fraction_within k (fin sa ma ea) nan c K KK A B C F G h j n = no_nan k K B
fraction_within k (fin sa ma ea) (inf s) c K KK A B C F G h j n = no_infinity k s K B
fraction_within k (fin sa ma ea) (fin sb mb eb) nan K KK A B C F G h j n = no_nan k K C
fraction_within k (fin sa ma ea) (fin sb mb eb) (inf s) K KK A B C F G h j n = no_infinity k s K C
fraction_within k (fin sa ma ea) (fin sb mb eb) (fin sc mc ec) K KK A B C F G h j n =
    written sa ma ea sb mb eb sc mc ec (k ⊕ k) KK (sub_within k k (fin sb mb eb) (fin sc mc ec) K K B C) F G h j n

number : (k x : Float) → bound k ≡ true → within k x ≡ true → NotNan x
unfolding is_nan
number k nan K h = no_nan k K h
number k (inf s) K h = tt
number k (fin s m e) K h = tt

-- For c ≤ a ≤ b, where c equals b all three are equal: were c below a or a below b, c would be below b.
pub squeezed : (k a b c : Float) → bound k ≡ true → within k a ≡ true → within k b ≡ true → within k c ≡ true → lt a c ≡ false → lt b a ≡ false → eq c b ≡ true → (eq c a ≡ true) × (eq a b ≡ true)
squeezed k a b c K A B C h j n =
    let low = le_of_not-lt a c (number k a K A) (number k c K C) (T_from_false _ h) in
    let high = le_of_not-lt b a (number k b K B) (number k a K A) (T_from_false _ j) in
    let level = eq-not_lt c b (T_from_true _ n) in (
      elim (lt-or-eq c a low) [ inl l ↦ absurd (level (Laws.lt_of_lt_of_le c a b l high)) | inr e ↦ is_true _ e ],
      elim (lt-or-eq a b high) [ inl l ↦ absurd (level (Laws.lt_of_le_of_lt c a b low l)) | inr e ↦ is_true _ e ],
    )
