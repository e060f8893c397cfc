-- A normalised vector of the plane has coordinates of at most 2 in size. It need not be a unit vector: where the squared length is subnormal its root is coarse.
-- The idea: let P be the power of two just below the coordinate, or 2^-537 where that is larger. The squared length is at least P times P, so its root is at least P.
-- Powers of two round to themselves, so the reciprocal is at most 1 / P, and the product at most 2.
use Rattle.std.proofs.Common.{◌≡◌, ℕ, zero, suc, ◌+◌, ◌-◌, ◌*◌, ◌/◌, ◌^◌, ◌<◌, ◌≤◌, Bool, true, false, T, ◌⊎◌, ℤ, pos, negsuc, sym, refl, ap, ◌∙◌, subst, inl, inr, true≢false, le_trans, le_of_eq, lt_irrefl, mul-le-mul_right, mul_assoc, mul_comm, add-sub_of_le, mul-le-mul, mul-le-mul_left, mul-pos, one-mul, pow-suc, le-div_iff_mul-le, zero-mul, mul-one, mul_right_comm, le_of_mul-le-mul_right, mul_left_comm, arith, lit<, pow_pos, pow_mono, pow-add}
use native.Mathlib.Nat.{mul-mul-mul_comm}
use lib.Pow.{pow-lt}
use lib.Ieee as Ieee
use lib.Ieee.{Float, nan, inf, fin, binary64, emax, low, up, down, round, mul, div, lt, fits, of_bits}
use lib.Ieee.Digits.{size-lt, size_reaches, back}
use lib.Ieee.Exact.{HasValue, round_exact}
use lib.Ieee.Fits.{down_pos, up_pos, mul-fits, add-fits}
use lib.Ieee.Positive.{num, den, den_pos}
use lib.Ieee.Scale.{round_same}
use Rattle.std.specs.Float.{float_is_finite}
use lib.Ieee.{root_twice}
use Rattle.std.proofs.lemmas.Bool.{cases_lt, and_from}
use Rattle.math.specs.Floats.{◌⊕◌, ◌⊗◌, ◌⊘◌, root, one, two}
use Rattle.math.specs.Limits.{limit}
use Rattle.math.specs.Magnitude.{bound, within, vector2_within}
use Rattle.math.specs.Vectors2.{dotted, scaled, reciprocal, usable}
use Rattle.math.specs.declared.vector2.Vector2.{Vector2}
use Rattle.math.proofs.Magnitude.{bound_is, no, Small, Large, small_of_within, within_more, within_round, add_within, within_self, small_mul, small_div, small_more}
use Rattle.math.proofs.OwnValue.{held, exponent_le}
use Rattle.math.proofs.Parts.{value_small, round_cases, square_bound, sum_left, sum_right, sum_bound}
use Rattle.math.proofs.WholeRoot.{twice_reaches, root_zero, of_root}
use Rattle.math.proofs.UnitMagnitude.{limit_bound, square, square_is_bound, two_squares, squared_within, squared_bound}

-- ---- powers of two are values of the format: 2^t / 2^u for u up to 1074, where it is at most 2^1000

pub power_value : (t u : ℕ) → t ≤ 1000 + u → u ≤ 1074 → HasValue (round binary64 false (2 ^ t) (2 ^ u)) false (2 ^ t) (2 ^ u)
power_value t u T' U =
    let l = low binary64 in
    let j = t + (l - u) in
    let e : 2 ^ t * 2 ^ l ≡ 1 * 2 ^ j * 2 ^ u =
    ap (λ (x : ℕ). 2 ^ t * x) (ap (λ (x : ℕ). 2 ^ x) (sym (back l u U)) ∙ pow-add 2 (l - u) u) ∙ sym (mul_assoc (2 ^ t) (2 ^ (l - u)) (2 ^ u)) ∙ ap (λ (x : ℕ). x * 2 ^ u) (sym (pow-add 2 t (l - u)) ∙ sym (one-mul (2 ^ j))) in
    let room : j < l + suc (emax binary64) = omega arith in
    let fine : 1 * 2 ^ j < 2 ^ (l + suc (emax binary64)) = subst (λ (x : ℕ). x < 2 ^ (l + suc (emax binary64))) (sym (one-mul (2 ^ j))) (pow-lt room) in
    round_exact binary64 false (2 ^ t) (2 ^ u) 1 j (pow_pos u) (lit< tt) fine e

-- within what a fraction rounds to, where it rounds to itself
pub small_of_value : (r x : Float) (p q : ℕ) → bound r ≡ true → HasValue r false p q → within r x ≡ true → Small x p q
small_of_value r x p q R v h = small_more x (num r) (den r) p q (den_pos r) (bound_is (λ r'. HasValue r' false p q → num r' * q ≤ p * den r') (λ m e w. le_of_eq w.1) r R v) (small_of_within r x R h)

value_bound : (r : Float) (p q : ℕ) → HasValue r false p q → bound r ≡ true
value_bound nan p q v = absurd v
value_bound (inf s) p q v = absurd v
value_bound (fin true m e) p q v = absurd (true≢false v.0)
value_bound (fin false m e) p q v = refl

-- ---- the root of a value that is at least (2^t / 2^u) squared

module _ (t u : ℕ) (few : u ≤ 537) (m : ℕ) (e : ℤ) (h : 2 ^ t * 2 ^ t * down e ≤ m * up e * (2 ^ u * 2 ^ u)) where
  -- 2^t / 2^u in units of 2^-2271
  whole : ℕ
  whole = 2 ^ t * 2 ^ (2271 - u)

  deep : 2 ^ (2271 - u) * 2 ^ u ≡ 2 ^ 2271
  deep = let s : u ≤ 2271 = omega arith in sym (pow-add 2 (2271 - u) u) ∙ ap (λ (x : ℕ). 2 ^ x) (back 2271 u s)

  whole_is : whole * 2 ^ u ≡ 2 ^ t * 2 ^ 2271
  unfolding whole
  whole_is = mul_assoc (2 ^ t) (2 ^ (2271 - u)) (2 ^ u) ∙ ap (λ (x : ℕ). 2 ^ t * x) deep

  squared : whole * whole * (2 ^ u * 2 ^ u) ≡ 2 ^ t * 2 ^ t * 2 ^ 4542
  squared = mul-mul-mul_comm whole whole (2 ^ u) (2 ^ u) ∙ ap (λ (x : ℕ). x * x) whole_is ∙ mul-mul-mul_comm (2 ^ t) (2 ^ 2271) (2 ^ t) (2 ^ 2271) ∙ ap (λ (x : ℕ). 2 ^ t * 2 ^ t * x) (sym (pow-add 2 2271 2271))

  -- the value in units of 2^-4542, cut to a whole number, is at least the square of that
  fits_in : whole * whole ≤ m * up e * 2 ^ 4542 / down e
  fits_in =
      (le-div_iff_mul-le (down_pos e)).1
      (le_of_mul-le-mul_right
      (le_trans (le_of_eq (mul_right_comm (whole * whole) (down e) (2 ^ u * 2 ^ u)))
      (le_trans (le_of_eq (ap (λ (x : ℕ). x * down e) squared))
      (le_trans (le_of_eq (mul_right_comm (2 ^ t * 2 ^ t) (2 ^ 4542) (down e)))
      (le_trans (mul-le-mul_right (2 ^ 4542) h) (le_of_eq (mul_right_comm (m * up e) (2 ^ u * 2 ^ u) (2 ^ 4542)))))))
      (mul-pos (pow_pos u) (pow_pos u)))

  pub root_at_least : within (round binary64 false (root_twice (m * up e * 2 ^ 4542 / down e)) (2 ^ 2272)) (round binary64 false (2 ^ t) (2 ^ u)) ≡ true
  root_at_least =
      let twice = twice_reaches whole (m * up e * 2 ^ 4542 / down e) fits_in in
      let doubled : 2 * whole * 2 ^ u ≡ 2 ^ t * 2 ^ 2272 = mul_assoc 2 whole (2 ^ u) ∙ ap (λ (x : ℕ). 2 * x) whole_is ∙ mul_left_comm 2 (2 ^ t) (2 ^ 2271) in
      within_round binary64 false (2 ^ t) (2 ^ u) (root_twice (m * up e * 2 ^ 4542 / down e)) (2 ^ 2272) (pow_pos u) (pow_pos 2272)
      (le_trans (le_of_eq (sym doubled)) (mul-le-mul_right (2 ^ u) twice))

-- ---- the reciprocal

-- Where 1 over a value rounded with no sign is finite and above 0, the value is neither 0 nor the infinity.
Fit : Float → Type 0
Fit nan = ⊥
Fit (inf s) = ⊥
Fit (fin true n d) = ⊥
Fit (fin false n d) = 0 < n

fit_of_usable : (r : Float) → (bound r ≡ true) ⊎ (r ≡ inf false) → usable (one ⊘ r) ≡ true → Fit r
unfolding Fit usable div lt float_is_finite of_bits round
fit_of_usable r (inr i) h = no (subst (λ (z : Float). usable (one ⊘ z) ≡ true) i h)
fit_of_usable nan (inl b) h = no b
fit_of_usable (inf s) (inl b) h = no b
fit_of_usable (fin true n d) (inl b) h = no b
fit_of_usable (fin false zero d) (inl b) h = no h
fit_of_usable (fin false (suc n) d) (inl b) h = omega arith

large_of_fit : (r : Float) (p q : ℕ) → Fit r → HasValue (round binary64 false p q) false p q → within r (round binary64 false p q) ≡ true → Large r p q
unfolding Fit
large_of_fit nan p q f v h = absurd f
large_of_fit (inf s) p q f v h = absurd f
large_of_fit (fin true n d) p q f v h = absurd f
large_of_fit (fin false n d) p q f v h = (f, value_small (round binary64 false p q) p q (n * up d) (down d) v (small_of_within (fin false n d) (round binary64 false p q) refl h))

one_small : Small one 1 1
unfolding of_bits
one_small = omega arith

two_is : round binary64 false 2 1 ≡ two
unfolding of_bits round
two_is = refl

-- a coordinate of at most twice 2^t / 2^u, times the reciprocal of a root of at least 2^t / 2^u
scaled_down : (t u : ℕ) → t ≤ 1000 → u ≤ 1000 → (z r : Float) → Small z (2 * 2 ^ t) (2 ^ u) → Large r (2 ^ t) (2 ^ u) → within two (z ⊗ (one ⊘ r)) ≡ true
scaled_down t u T' U z r Z R =
    let p = 2 ^ t in
    let q = 2 ^ u in
    let inverse = round binary64 false (1 * q) (p * 1) in
    let same : inverse ≡ round binary64 false q p = round_same binary64 false (1 * q) (p * 1) q p (mul-pos (pow_pos t) (lit< tt)) (pow_pos t) (simp (one-mul, mul-one) refl) in
    let h : within inverse (one ⊘ r) ≡ true = small_div one r 1 1 p q (lit< tt) (pow_pos t) one_small R in
    let v = power_value u t (omega arith) (omega arith) in
    let small : Small (one ⊘ r) q p = small_of_value (round binary64 false q p) (one ⊘ r) q p (value_bound _ q p v) v (subst (λ (b : Float). within b (one ⊘ r) ≡ true) same h) in
    let product = small_mul z (one ⊘ r) (2 * p) q q p (pow_pos u) (pow_pos t) Z small in
    let cancel : 2 * p * q * 1 ≡ 2 * (q * p) = mul-one (2 * p * q) ∙ mul_assoc 2 p q ∙ ap (λ (x : ℕ). 2 * x) (mul_comm p q) in
    subst (λ (b : Float). within b (z ⊗ (one ⊘ r)) ≡ true) (round_same binary64 false (2 * p * q) (q * p) 2 1 (mul-pos (pow_pos u) (pow_pos t)) (lit< tt) cancel ∙ two_is) product

-- ---- the power of two for a coordinate

-- 2^t / 2^u is at most the size of the value, or is 2^-537
abbrev Under : ℕ → ℕ → ℕ → ℤ → Type 0
Under t u n d = (2 ^ t * down d ≤ n * up d * 2 ^ u) ⊎ ((t ≡ 0) × (u ≡ 537))

record Choice (n : ℕ) (d : ℤ) : Type 0 where
  t : ℕ
  u : ℕ
  few : u ≤ 537
  over : n * up d * 2 ^ u ≤ 2 * 2 ^ t * down d
  under : Under t u n d

none_choice : (d : ℤ) → Choice 0 d
none_choice d = record { t = 0; u = 537; few = omega arith; over = simp zero-mul (omega arith); under = inr (refl, refl) }

-- 2^j ≤ n < 2^(j + 1)
module _ (n j : ℕ) (lower : 2 ^ j ≤ n) (upper : n < 2 ^ suc j) where
  next : n ≤ 2 * 2 ^ j
  next = let s : 2 ^ suc j ≡ 2 ^ j * 2 = pow-suc 2 j in omega arith

  whole_choice : (k : ℕ) → Choice n (pos k)
  whole_choice k =
      let s : 2 ^ (j + k) ≡ 2 ^ j * 2 ^ k = pow-add 2 j k in
      record {
        t = j + k;
        u = 0;
        few = omega arith;
        over = simp (s, mul-one) (le_trans (mul-le-mul_right (2 ^ k) next) (le_of_eq (mul_assoc 2 (2 ^ j) (2 ^ k))));
        under = inl (simp (s, mul-one) (mul-le-mul_right (2 ^ k) lower));
      }

  large_choice : (k : ℕ) → suc k ≤ j → Choice n (negsuc k)
  large_choice k h =
      let s : 2 ^ (j - suc k) * 2 ^ suc k ≡ 2 ^ j = sym (pow-add 2 (j - suc k) (suc k)) ∙ ap (λ (x : ℕ). 2 ^ x) (back j (suc k) h) in
      record {
        t = j - suc k;
        u = 0;
        few = omega arith;
        over = simp (mul-one, mul_assoc, s) next;
        under = inl (simp (mul-one, s) lower);
      }

  small_choice : (k : ℕ) → j ≤ suc k → suc k - j ≤ 537 → Choice n (negsuc k)
  small_choice k h f =
      let s : 2 ^ j * 2 ^ (suc k - j) ≡ 2 ^ suc k = sym (pow-add 2 j (suc k - j)) ∙ ap (λ (x : ℕ). 2 ^ x) (add-sub_of_le h) in
      record {
        t = 0;
        u = suc k - j;
        few = f;
        over = le_trans (mul-le-mul_right (2 ^ (suc k - j)) (le_trans (le_of_eq (mul-one n)) next)) (le_of_eq (mul_assoc 2 (2 ^ j) (2 ^ (suc k - j)) ∙ ap (λ (x : ℕ). 2 * x) s));
        under = inl (le_trans (le_of_eq (one-mul (2 ^ suc k) ∙ sym s)) (mul-le-mul_right (2 ^ (suc k - j)) (le_trans lower (le_of_eq (sym (mul-one n))))));
      }

  tiny_choice : (k : ℕ) → j + 537 ≤ suc k → Choice n (negsuc k)
  tiny_choice k h =
      let s : 2 ^ j * 2 ^ 537 ≡ 2 ^ (j + 537) = sym (pow-add 2 j 537) in
      record {
        t = 0;
        u = 537;
        few = omega arith;
        over = le_trans (mul-le-mul_right (2 ^ 537) (le_trans (le_of_eq (mul-one n)) next)) (le_trans (le_of_eq (mul_assoc 2 (2 ^ j) (2 ^ 537) ∙ ap (λ (x : ℕ). 2 * x) s)) (mul-le-mul_left 2 (pow_mono h)));
        under = inr (refl, refl);
      }

-- how many binary digits a number above zero has, less one
choice : (n : ℕ) (d : ℤ) → Choice n d
choice zero d = none_choice d
choice (suc n) d = by_exponent d
  where
    j : ℕ
    j = Ieee.size (suc n) - 1

    some : 0 < Ieee.size (suc n)
    some = elim (cases_lt 0 (Ieee.size (suc n))) [ inl h ↦ h | inr h ↦ absurd (no_digits (Ieee.size (suc n)) h (size-lt (suc n))) ]
      where
        no_digits : (k : ℕ) → k ≤ 0 → suc n < 2 ^ k → ⊥
        no_digits zero h l = omega arith
        no_digits (suc k) h l = omega arith

    lower : 2 ^ j ≤ suc n
    lower = size_reaches (suc n) j (omega (arith, some))

    upper : suc n < 2 ^ suc j
    upper = subst (λ (k : ℕ). suc n < 2 ^ k) (whole_size (Ieee.size (suc n)) some) (size-lt (suc n))
      where
        whole_size : (k : ℕ) → 0 < k → k ≡ suc (k - 1)
        whole_size k h = omega arith

    by_exponent : (d : ℤ) → Choice (suc n) d
    by_exponent (pos k) = whole_choice (suc n) j lower upper k
    by_exponent (negsuc k) =
        elim (cases_lt j (suc k)) [
          | inr h ↦ large_choice (suc n) j lower upper k h
          | inl h ↦ elim (cases_lt 537 (suc k - j)) [ inl g ↦ tiny_choice (suc n) j lower upper k (omega arith) | inr g ↦ small_choice (suc n) j lower upper k (omega arith) g ]
        ]

-- ---- put together

limit_small : (s : Bool) (n : ℕ) (d : ℤ) → within limit (fin s n d) ≡ true → n * up d ≤ 2 ^ 20 * down d
unfolding of_bits
limit_small s n d h = let k = small_of_within limit (fin s n d) limit_bound h in omega (arith, k)

-- 2^t is at most 2^20 times 2^u
exponent_bound : (t u n : ℕ) (d : ℤ) → u ≤ 537 → n * up d ≤ 2 ^ 20 * down d → Under t u n d → t ≤ 20 + u
exponent_bound t u n d U h (inr e) = omega (arith, e.0)
exponent_bound t u n d U h (inl l) =
    exponent_le t (20 + u)
    (le_of_mul-le-mul_right
    (le_trans l (le_trans (mul-le-mul_right (2 ^ u) h) (le_of_eq (mul_right_comm (2 ^ 20) (down d) (2 ^ u) ∙ ap (λ (x : ℕ). x * down d) (sym (pow-add 2 20 u))))))
    (down_pos d))

square_is : (s : Bool) (n : ℕ) (d : ℤ) → fin s n d ⊗ fin s n d ≡ round binary64 false (n * up d * (n * up d)) (down d * down d)
unfolding mul
square_is true n d = refl
square_is false n d = refl

module _ (s : Bool) (n : ℕ) (d : ℤ) (m : ℕ) (e : ℤ) (F : T (fits binary64 (fin false (suc m) e))) (Q : within (fin false (suc m) e) (fin s n d ⊗ fin s n d) ≡ true) where
  abbrev S : Float
  S = fin false (suc m) e

  -- the squared length is no less than the square of the power of two
  square_under : (t u : ℕ) → u ≤ 537 → t ≤ 20 + u → Under t u n d → 2 ^ t * 2 ^ t * down e ≤ suc m * up e * (2 ^ u * 2 ^ u)
  square_under t u U T' (inr z) =
      let h = (held false m e F).1 in
      let one-at-least : 1 ≤ suc m * up e = mul-pos (omega arith) (up_pos e) in
      subst (λ (k : ℕ). 2 ^ k * 2 ^ k * down e ≤ suc m * up e * (2 ^ u * 2 ^ u)) (sym z.0)
      (subst (λ (k : ℕ). 1 * down e ≤ suc m * up e * (2 ^ k * 2 ^ k)) (sym z.1) (mul-le-mul one-at-least (le_trans h (le_of_eq (pow-add 2 537 537)))))
  square_under t u U T' (inl l) =
      let p = 2 ^ t * 2 ^ t in
      let q = 2 ^ u * 2 ^ u in
      let z = fin s n d in
      let cross : p * (down d * down d) ≤ n * up d * (n * up d) * q =
      le_trans (le_of_eq (mul-mul-mul_comm (2 ^ t) (2 ^ t) (down d) (down d))) (le_trans (mul-le-mul l l) (le_of_eq (mul-mul-mul_comm (n * up d) (2 ^ u) (n * up d) (2 ^ u)))) in
      let r = round binary64 false p q in
      let below : within (z ⊗ z) r ≡ true = subst (λ (b : Float). within b r ≡ true) (sym (square_is s n d)) (within_round binary64 false p q (n * up d * (n * up d)) (down d * down d) (mul-pos (pow_pos u) (pow_pos u)) (mul-pos (down_pos d) (down_pos d)) cross) in
      let inside : within S r ≡ true = within_more (z ⊗ z) S r (square_bound S z refl Q) refl Q below in
      let value : HasValue r false p q = subst (λ (k : ℕ). HasValue (round binary64 false p k) false p k) (pow-add 2 u u) (subst (λ (k : ℕ). HasValue (round binary64 false k (2 ^ (u + u))) false k (2 ^ (u + u))) (pow-add 2 t t) (power_value (t + t) (u + u) (omega arith) (omega arith))) in
      value_small r p q (suc m * up e) (down e) value (small_of_within S r refl inside)

  reduced : within limit (fin s n d) ≡ true → usable (one ⊘ root S) ≡ true → within two (fin s n d ⊗ (one ⊘ root S)) ≡ true
  reduced g h =
      let c = choice n d in
      let t = c.t in
      let u = c.u in
      let T' : t ≤ 20 + u = exponent_bound t u n d c.few (limit_small s n d g) c.under in
      let U : u ≤ 537 = c.few in
      let N = root_twice (suc m * up e * 2 ^ 4542 / down e) in
      let at_least_lem = of_root (λ r. within r (round binary64 false (2 ^ t) (2 ^ u)) ≡ true) m e (root_at_least t u U (suc m) e (square_under t u U T' c.under)) in
      let fit = fit_of_usable (root S) (of_root (λ r. (bound r ≡ true) ⊎ (r ≡ inf false)) m e (round_cases N (2 ^ 2272))) h in
      scaled_down t u (omega arith) (omega arith) (fin s n d) (root S) c.over (large_of_fit (root S) (2 ^ t) (2 ^ u) fit (power_value t u (omega arith) (omega arith)) at_least_lem)

-- A coordinate whose square is no larger than the squared length S, divided by the root of S.
pub normalized_coordinate : (S z : Float) → bound S ≡ true → T (fits binary64 S) → within limit z ≡ true → within S (z ⊗ z) ≡ true → usable (one ⊘ root S) ≡ true → within two (z ⊗ (one ⊘ root S)) ≡ true
unfolding Fit
normalized_coordinate nan z B F g Q h = no B
normalized_coordinate (inf s) z B F g Q h = no B
normalized_coordinate (fin true m e) z B F g Q h = no B
normalized_coordinate (fin false zero e) z B F g Q h = absurd (lt_irrefl 0 (fit_of_usable (fin false 0 (pos 0)) (inl refl) (subst (λ (r : Float). usable (one ⊘ r) ≡ true) (root_zero false e) h)))
normalized_coordinate (fin false (suc m) e) nan B F g Q h = absurd (small_of_within limit nan limit_bound g)
normalized_coordinate (fin false (suc m) e) (inf s) B F g Q h = absurd (small_of_within limit (inf s) limit_bound g)
normalized_coordinate (fin false (suc m) e) (fin s n d) B F g Q h = reduced s n d m e F Q g h

-- ---- a vector of the plane whose coordinates may be given

module _ (v : Vector2) (gx : within limit v.x ≡ true) (gy : within limit v.y ≡ true) where
  abbrev xx : Float
  xx = v.x ⊗ v.x

  abbrev yy : Float
  yy = v.y ⊗ v.y

  pub plane_bound : bound (dotted v v) ≡ true
  unfolding dotted
  plane_bound = sum_bound (square ⊕ square) two_squares xx yy (squared_bound v.x gx) (squared_bound v.y gy) (add_within square square xx yy square_is_bound square_is_bound (squared_within v.x gx) (squared_within v.y gy))

  -- a normalised vector's coordinates
  pub normalized_within : usable (reciprocal v) ≡ true → vector2_within two (scaled v (reciprocal v)) ≡ true
  unfolding reciprocal scaled vector2_within dotted
  normalized_within h =
      let S = xx ⊕ yy in
      let self = within_self S plane_bound in
      let fits = add-fits binary64 xx yy in
      let x = sum_left S plane_bound xx yy (squared_bound v.x gx) (squared_bound v.y gy) (mul-fits binary64 v.x v.x) self in
      let y = sum_right S plane_bound xx yy (squared_bound v.x gx) (squared_bound v.y gy) (mul-fits binary64 v.y v.y) self in
      and_from _ _ (normalized_coordinate S v.x plane_bound fits gx x h) (normalized_coordinate S v.y plane_bound fits gy y h)
