-- A sum of two numbers that are not negative is no smaller than either, and a square that is small has a small root: what bounds a sum of squares bounds each term.
use Rattle.std.proofs.Common.{◌≡◌, ℕ, zero, suc, ◌+◌, ◌-◌, ◌*◌, ◌/◌, ◌%◌, ◌^◌, ◌<◌, ◌≤◌, Bool, true, false, cond, T, ltb, ◌⊎◌, ℤ, sym, refl, ap, ◌∙◌, subst, inl, inr, le_of_eq, le_of_lt, mul-le-mul, mul-pos, arith}
use Prim.Native.Nat.{compare}
use lib.Ieee as Ieee
use lib.Ieee.{Float, nan, inf, fin, binary64, prec, emax, low, up, down, nearest, odd, units, round, add, mul, sum, lt, eq, le, fits}
use lib.Ieee.Exact.{HasValue}
use lib.Ieee.Fits.{down_pos, round_is}
use lib.Ieee.Positive.{num, den, through}
use Rattle.std.specs.Float.{float_with_sign}
use Rattle.std.proofs.lemmas.Bool.{cases_Bool, cases_lt}
use Rattle.math.specs.Floats.{◌⊕◌, ◌⊗◌}
use Rattle.math.specs.Magnitude.{bound, within}
use Rattle.math.proofs.Magnitude.{bound_is, no, Small, small_of_within, within_of_small, within_more, within_round}
use Rattle.math.proofs.OwnValue.{own_value}

-- ---- what is rounded with no sign may stand as a bound, or is the infinity

units_cases : (q k : ℕ) → (bound (units binary64 false q k) ≡ true) ⊎ (units binary64 false q k ≡ inf false)
unfolding units odd
units_cases q k = go (ltb (q * 2 ^ k) (2 ^ (low binary64 + suc (emax binary64)))) q
  where
    go : (t : Bool) (q : ℕ) → (bound (cond t (odd (suc (prec binary64)) false q k (low binary64)) (inf false)) ≡ true) ⊎ (cond t (odd (suc (prec binary64)) false q k (low binary64)) (inf false) ≡ inf false)
    go true zero = inl refl
    go true (suc q) = inl refl
    go false q = inr refl

pub round_cases : (a c : ℕ) → (bound (round binary64 false a c) ≡ true) ⊎ (round binary64 false a c ≡ inf false)
round_cases a c =
    let n = a * 2 ^ low binary64 in
    let k = Ieee.size (n / c) - prec binary64 in
    let u = c * 2 ^ k in
    let e = round_is binary64 false a c in
    elim (units_cases (nearest (n / u) (compare (n % u * 2) u)) k) [ inl b ↦ inl (ap bound e ∙ b) | inr i ↦ inr (e ∙ i) ]

-- no bound is as large as an infinity
pub finite_within : (b : Float) → bound b ≡ true → within b (inf false) ≡ true → false ≡ true
unfolding within float_with_sign le lt eq
finite_within b B h = bound_is (λ c. within c (inf false) ≡ true → false ≡ true) (λ m e g. g) b B h

pub round_bound : (b : Float) (a c : ℕ) → bound b ≡ true → within b (round binary64 false a c) ≡ true → bound (round binary64 false a c) ≡ true
round_bound b a c B h = elim (round_cases a c) [ inl r ↦ r | inr i ↦ no (finite_within b B (subst (λ (z : Float). within b z ≡ true) i h)) ]

-- ---- from a rounded value back to the fraction

pub value_small : (x : Float) (a c p q : ℕ) → HasValue x false a c → Small x p q → a * q ≤ p * c
value_small nan a c p q v h = absurd v
value_small (inf s) a c p q v h = absurd v
value_small (fin s m e) a c p q v h = through a (m * up e) p c (down e) q (down_pos e) (le_of_eq (sym v.1)) h

-- Where a value of the format is no larger than a fraction, and what the fraction rounds to is within a bound, so is the value.
pub below_rounded : (c x : Float) (p q : ℕ) → bound c ≡ true → bound x ≡ true → T (fits binary64 x) → 0 < q → num x * q ≤ p * den x → within c (round binary64 false p q) ≡ true → within c x ≡ true
below_rounded c x p q C X = bound_is (λ y. T (fits binary64 y) → 0 < q → num y * q ≤ p * den y → within c (round binary64 false p q) ≡ true → within c y ≡ true) written x X
  where
    written : (m : ℕ) (e : ℤ) → T (fits binary64 (fin false m e)) → 0 < q → m * up e * q ≤ p * down e → within c (round binary64 false p q) ≡ true → within c (fin false m e) ≡ true
    written m e F Q h w =
        let r = round binary64 false p q in
        let own = round binary64 false (m * up e) (down e) in
        let R : bound r ≡ true = round_bound c p q C w in
        let o : within c own ≡ true = within_more r c own R C w (within_round binary64 false (m * up e) (down e) p q (down_pos e) Q h) in
        within_of_small c (fin false m e) C (value_small own (m * up e) (down e) (num c) (den c) (own_value false false m e F) (small_of_within c own C o))

-- ---- a sum bounds its terms

add_is : (m : ℕ) (e : ℤ) (n : ℕ) (d : ℤ) → fin false m e ⊕ fin false n d ≡ round binary64 false (m * up e * down d + n * up d * down e) (down e * down d)
unfolding add sum
add_is m e n d = refl

module _ (c : Float) (C : bound c ≡ true) where
  pub sum_left : (x y : Float) → bound x ≡ true → bound y ≡ true → T (fits binary64 x) → within c (x ⊕ y) ≡ true → within c x ≡ true
  sum_left x y X Y = bound_is (λ x'. T (fits binary64 x') → within c (x' ⊕ y) ≡ true → within c x' ≡ true) (λ m e. bound_is (λ y'. T (fits binary64 (fin false m e)) → within c (fin false m e ⊕ y') ≡ true → within c (fin false m e) ≡ true) (written m e) y Y) x X
    where
      written : (m : ℕ) (e : ℤ) (n : ℕ) (d : ℤ) → T (fits binary64 (fin false m e)) → within c (fin false m e ⊕ fin false n d) ≡ true → within c (fin false m e) ≡ true
      written m e n d F h =
          below_rounded c (fin false m e) (m * up e * down d + n * up d * down e) (down e * down d) C refl F (mul-pos (down_pos e) (down_pos d)) (omega arith)
          (subst (λ (z : Float). within c z ≡ true) (add_is m e n d) h)

  pub sum_right : (x y : Float) → bound x ≡ true → bound y ≡ true → T (fits binary64 y) → within c (x ⊕ y) ≡ true → within c y ≡ true
  sum_right x y X Y = bound_is (λ x'. T (fits binary64 y) → within c (x' ⊕ y) ≡ true → within c y ≡ true) (λ m e. bound_is (λ y'. T (fits binary64 y') → within c (fin false m e ⊕ y') ≡ true → within c y' ≡ true) (written m e) y Y) x X
    where
      written : (m : ℕ) (e : ℤ) (n : ℕ) (d : ℤ) → T (fits binary64 (fin false n d)) → within c (fin false m e ⊕ fin false n d) ≡ true → within c (fin false n d) ≡ true
      written m e n d F h =
          below_rounded c (fin false n d) (m * up e * down d + n * up d * down e) (down e * down d) C refl F (mul-pos (down_pos e) (down_pos d)) (omega arith)
          (subst (λ (z : Float). within c z ≡ true) (add_is m e n d) h)

  -- a sum of two bounds, itself within one, may stand as a bound
  pub sum_bound : (x y : Float) → bound x ≡ true → bound y ≡ true → within c (x ⊕ y) ≡ true → bound (x ⊕ y) ≡ true
  sum_bound x y X Y = bound_is (λ x'. within c (x' ⊕ y) ≡ true → bound (x' ⊕ y) ≡ true) (λ m e. bound_is (λ y'. within c (fin false m e ⊕ y') ≡ true → bound (fin false m e ⊕ y') ≡ true) (written m e) y Y) x X
    where
      written : (m : ℕ) (e : ℤ) (n : ℕ) (d : ℤ) → within c (fin false m e ⊕ fin false n d) ≡ true → bound (fin false m e ⊕ fin false n d) ≡ true
      written m e n d h =
          let s = add_is m e n d in
          subst (λ (z : Float). bound z ≡ true) (sym s) (round_bound c (m * up e * down d + n * up d * down e) (down e * down d) C (subst (λ (z : Float). within c z ≡ true) s h))

-- ---- squares

-- a square, itself within a bound, may stand as a bound
pub square_bound : (c x : Float) → bound c ≡ true → within c (x ⊗ x) ≡ true → bound (x ⊗ x) ≡ true
unfolding mul within float_with_sign le lt eq
square_bound c nan C h = h
square_bound nan (inf s) C h = no C
square_bound (inf t) (inf s) C h = no C
square_bound (fin t m e) (inf true) C h = h
square_bound (fin t m e) (inf false) C h = h
square_bound c (fin true m e) C h = round_bound c (m * up e * (m * up e)) (down e * down e) C h
square_bound c (fin false m e) C h = round_bound c (m * up e * (m * up e)) (down e * down e) C h

above : (n : ℕ) (d : ℤ) (s : Bool) (m : ℕ) (e : ℤ) → within (fin false n d) (fin s m e) ≡ false → n * up d * down e ≤ m * up e * down d
above n d s m e h =
    elim (cases_lt (n * up d * down e) (m * up e * down d)) [
      | inl l ↦ le_of_lt l
      | inr g ↦ no (sym h ∙ within_of_small (fin false n d) (fin s m e) refl g)
    ]

-- A square within a bound that the square of b exceeds is the square of a number within b.
pub small_root : (c b x : Float) → bound c ≡ true → bound b ≡ true → within c (b ⊗ b) ≡ false → within c (x ⊗ x) ≡ true → within b x ≡ true
unfolding mul within float_with_sign le lt eq
small_root c b nan C B f h = no h
small_root nan b (inf s) C B f h = no C
small_root (inf t) b (inf s) C B f h = no C
small_root (fin t n d) b (inf true) C B f h = no h
small_root (fin t n d) b (inf false) C B f h = no h
small_root c b (fin s m e) C B f h = elim (cases_Bool (within b (fin s m e))) [ inl t ↦ t | inr u ↦ bound_is (λ b'. within c (b' ⊗ b') ≡ false → within b' (fin s m e) ≡ false → within b' (fin s m e) ≡ true) (clash s h) b B f u ]
  where
    clash : (s : Bool) → within c (fin s m e ⊗ fin s m e) ≡ true → (n : ℕ) (d : ℤ) → within c (fin false n d ⊗ fin false n d) ≡ false → within (fin false n d) (fin s m e) ≡ false → within (fin false n d) (fin s m e) ≡ true
    clash s h n d f u =
        let x = fin s m e in
        let y = fin false n d in
        let a = above n d s m e u in
        let cross : n * up d * (n * up d) * (down e * down e) ≤ m * up e * (m * up e) * (down d * down d) = omega (arith, mul-le-mul a a) in
        let larger : within (x ⊗ x) (y ⊗ y) ≡ true = same s (within_round binary64 false (n * up d * (n * up d)) (down d * down d) (m * up e * (m * up e)) (down e * down e) (mul-pos (down_pos d) (down_pos d)) (mul-pos (down_pos e) (down_pos e)) cross) in
        no (sym f ∙ within_more (x ⊗ x) c (y ⊗ y) (square_bound c x C h) C h larger)
      where
        same : (s : Bool) → within (round binary64 false (m * up e * (m * up e)) (down e * down e)) (fin false n d ⊗ fin false n d) ≡ true → within (fin s m e ⊗ fin s m e) (fin false n d ⊗ fin false n d) ≡ true
        same true g = g
        same false g = g

-- a number that is not negative, by the order alone
pub within_of_le : (c x : Float) → bound x ≡ true → le x c ≡ true → within c x ≡ true
unfolding within float_with_sign
within_of_le c x X h = bound_is (λ y. le y c ≡ true → within c y ≡ true) (λ m e g. g) x X h
