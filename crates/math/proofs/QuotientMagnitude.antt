-- The laws of magnitude for quotients and roots.
use Rattle.std.proofs.Common.{◌≡◌, ℕ, zero, suc, ◌+◌, ◌*◌, ◌/◌, ◌^◌, ◌<◌, ◌≤◌, Bool, true, false, cond, T, eqb, ◌⊎◌, ℤ, pos, sym, refl, ap, ◌∙◌, subst, inl, inr, zero-le, le_trans, le_of_eq, lt_of_lt_of_le, lt_irrefl, mul-le-mul_right, le_antisymm, mul-pos, zero-mul, mul_right_comm, arith, eqb→eq, pow_pos}
use lib.Ieee.{Float, nan, inf, fin, binary64, up, down, round, div, le, lt}
use lib.Ieee.Fits.{down_pos}
use lib.Ieee.Nearest.{div_mono}
use lib.Ieee.Positive.{num, den, first_pos}
use Rattle.std.specs.Float.{float_with_sign}
use lib.Ieee.{root_twice}
use Rattle.std.proofs.lemmas.Bool.{cases_lt, cases_Bool, cond-true, cond-false, ne_eqb, eqb-false}
use Rattle.math.specs.Floats.{◌⊘◌, size, root}
use Rattle.math.specs.Magnitude.{bound, within}
use Rattle.math.proofs.Magnitude.{bound_is, no, Large, small_of_within, within_of_small, within_round, small_div}
use Rattle.math.proofs.Parts.{round_cases}
use Rattle.math.proofs.WholeRoot.{whole_root, whole_root_is, root_reaches, root_zero, of_root}

-- ---- a quotient, by a divisor of at least l in size

large_of_within : (l y : Float) → bound l ≡ true → 0 < num l → bound (size y) ≡ true → within (size y) l ≡ true → Large y (num l) (den l)
unfolding float_with_sign
large_of_within l nan L P Y h = no Y
large_of_within l (inf s) L P Y h = no Y
large_of_within l (fin s n d) L P Y h = bound_is (λ l'. 0 < num l' → within (fin false n d) l' ≡ true → Large (fin s n d) (num l') (den l')) written l L P h
  where
    written : (m : ℕ) (e : ℤ) → 0 < m * up e → within (fin false n d) (fin false m e) ≡ true → Large (fin s n d) (m * up e) (down e)
    written m e p w =
        let k = small_of_within (fin false n d) (fin false m e) refl w in
        (first_pos n (up d) (first_pos (n * up d) (down e) (lt_of_lt_of_le (mul-pos p (down_pos d)) k)), k)

pub div_within : (b l x y : Float) → bound b ≡ true → bound l ≡ true → 0 < num l → bound (size y) ≡ true → within b x ≡ true → within (size y) l ≡ true → within (b ⊘ l) (x ⊘ y) ≡ true
unfolding div
div_within b l x y B L P Y h k =
    bound_is (λ b'. within b' x ≡ true → within (b' ⊘ l) (x ⊘ y) ≡ true) (λ m e g. bound_is (λ l'. Large y (num l') (den l') → 0 < num l' → within (fin false m e ⊘ l') (x ⊘ y) ≡ true) (written m e g) l L (large_of_within l y L P Y k) P) b B h
  where
    written : (m : ℕ) (e : ℤ) → within (fin false m e) x ≡ true → (n : ℕ) (d : ℤ) → Large y (n * up d) (down d) → 0 < n * up d → within (fin false m e ⊘ fin false n d) (x ⊘ y) ≡ true
    written m e g n d big p = go (eqb n 0) (eqb→eq n 0)
      where
        go : (t : Bool) → (T t → n ≡ 0) → within (cond t (cond (eqb m 0) nan (inf false)) (round binary64 false (m * up e * down d) (n * up d * down e))) (x ⊘ y) ≡ true
        go true z = absurd (lt_irrefl 0 (subst (λ (i : ℕ). 0 < i) (ap (λ (i : ℕ). i * up d) (z tt) ∙ zero-mul (up d)) p))
        go false z = small_div x y (m * up e) (down e) (n * up d) (down d) (down_pos e) p (small_of_within (fin false m e) x refl g) big

-- ---- a root: a larger number has a root that is no smaller

twice_mono : (m n : ℕ) → m ≤ n → root_twice m ≤ root_twice n
unfolding root_twice whole_root
twice_mono m n h =
    let r = whole_root_is m in
    let more : whole_root m ≤ whole_root n = root_reaches (whole_root m) n (le_trans r.0 h) in
    elim (cases_lt (whole_root m) (whole_root n)) [
      | inl l ↦ apart (eqb (whole_root m * whole_root m) m) (eqb (whole_root n * whole_root n) n) l
      | inr g ↦ let same : whole_root m ≡ whole_root n = omega arith in level (cases_Bool (eqb (whole_root m * whole_root m) m)) same
    ]
  where
    apart : (s t : Bool) → whole_root m < whole_root n → 2 * whole_root m + cond s 0 1 ≤ 2 * whole_root n + cond t 0 1
    apart true true l = omega arith
    apart true false l = omega arith
    apart false true l = omega arith
    apart false false l = omega arith

    level : (eqb (whole_root m * whole_root m) m ≡ true) ⊎ (eqb (whole_root m * whole_root m) m ≡ false) → whole_root m ≡ whole_root n → 2 * whole_root m + cond (eqb (whole_root m * whole_root m) m) 0 1 ≤ 2 * whole_root n + cond (eqb (whole_root n * whole_root n) n) 0 1
    level (inl e) same = let p : ◌≡◌ {A = ℕ} (cond (eqb (whole_root m * whole_root m) m) 0 1) 0 = cond-true (eqb (whole_root m * whole_root m) m) 0 1 e in omega arith
    level (inr f) same =
        let ne = eqb-false (whole_root m * whole_root m) m f in
        let under : whole_root m * whole_root m < m = let r = (whole_root_is m).0 in strict (whole_root m * whole_root m) m r ne in
        let past : whole_root n * whole_root n < n = subst (λ (x : ℕ). x * x < n) same (lt_of_lt_of_le under h) in
        let p : ◌≡◌ {A = ℕ} (cond (eqb (whole_root m * whole_root m) m) 0 1) 1 = cond-false (eqb (whole_root m * whole_root m) m) 0 1 f in
        let q : ◌≡◌ {A = ℕ} (cond (eqb (whole_root n * whole_root n) n) 0 1) 1 = cond-false (eqb (whole_root n * whole_root n) n) 0 1 (ne_eqb (whole_root n * whole_root n) n (λ e. lt_irrefl n (subst (λ (x : ℕ). x < n) e past))) in
        omega arith
      where
        strict : (a b : ℕ) → a ≤ b → (a ≡ b → ⊥) → a < b
        strict a b l ne = elim (cases_lt a b) [ inl k ↦ k | inr k ↦ absurd (ne (le_antisymm l k)) ]

infinite : (d : ℤ) → within (inf false) (fin false 0 d) ≡ true
unfolding within float_with_sign le lt
infinite d = refl

-- zero is within every rounded root
zero_within : (r : ℕ) (d : ℤ) → within (round binary64 false r (2 ^ 2272)) (fin false 0 d) ≡ true
zero_within r d =
    elim (round_cases r (2 ^ 2272)) [
      | inl b ↦ within_of_small (round binary64 false r (2 ^ 2272)) (fin false 0 d) b (le_trans (le_of_eq (ap (λ (x : ℕ). x * den (round binary64 false r (2 ^ 2272))) (zero-mul (up d)) ∙ zero-mul (den (round binary64 false r (2 ^ 2272))))) zero-le)
      | inr i ↦ subst (λ (z : Float). within z (fin false 0 d) ≡ true) (sym i) (infinite d)
    ]

-- of two values that are not negative
pub root_within : (b x : Float) → bound b ≡ true → bound x ≡ true → within b x ≡ true → 0 < num b → within (root b) (root x) ≡ true
root_within b x B X h P = bound_is (λ b'. within b' x ≡ true → 0 < num b' → within (root b') (root x) ≡ true) (λ m e g. bound_is (λ x'. within (fin false m e) x' ≡ true → 0 < m * up e → within (root (fin false m e)) (root x') ≡ true) (written m e) x X g) b B h P
  where
    written : (m : ℕ) (e : ℤ) (n : ℕ) (d : ℤ) → within (fin false m e) (fin false n d) ≡ true → 0 < m * up e → within (root (fin false m e)) (root (fin false n d)) ≡ true
    written zero e n d g p = absurd (lt_irrefl 0 (subst (λ (x : ℕ). 0 < x) (zero-mul (up e)) p))
    written (suc m) e zero d g p =
        let N = root_twice (suc m * up e * 2 ^ 4542 / down e) in
        of_root (λ r. within r (root (fin false zero d)) ≡ true) m e (subst (λ z. within (round binary64 false N (2 ^ 2272)) z ≡ true) (sym (root_zero false d)) (zero_within N (pos 0)))
    written (suc m) e (suc n) d g p =
        let k = small_of_within (fin false (suc m) e) (fin false (suc n) d) refl g in
        let scaled : suc n * up d * 2 ^ 4542 * down e ≤ suc m * up e * 2 ^ 4542 * down d = le_trans (le_of_eq (mul_right_comm (suc n * up d) (2 ^ 4542) (down e))) (le_trans (mul-le-mul_right (2 ^ 4542) k) (le_of_eq (mul_right_comm (suc m * up e) (down d) (2 ^ 4542)))) in
        let fewer = twice_mono (suc n * up d * 2 ^ 4542 / down d) (suc m * up e * 2 ^ 4542 / down e) (div_mono (suc n * up d * 2 ^ 4542) (down d) (suc m * up e * 2 ^ 4542) (down e) (down_pos d) (down_pos e) scaled) in
        let N = root_twice (suc m * up e * 2 ^ 4542 / down e) in
        of_root (λ r. within r (root (fin false (suc n) d)) ≡ true) m e
        (of_root (λ z. within (round binary64 false N (2 ^ 2272)) z ≡ true) n d
        (within_round binary64 false (root_twice (suc n * up d * 2 ^ 4542 / down d)) (2 ^ 2272) N (2 ^ 2272) (pow_pos 2272) (pow_pos 2272) (mul-le-mul_right (2 ^ 2272) fewer)))
