-- The root that `sqrt` rounds follows the rule by whole numbers. With N the value in units of 2^-4542, N is m × 4^t for a whole m of 105 or 106 digits,
-- and the root to 2271 places with half a place more, R, lies in the step of 2^(t + 1) that begins at q, on the side of its middle that m - q × q tells.
use Rattle.std.proofs.Common.{◌≡◌, ℕ, zero, suc, ◌+◌, ◌-◌, ◌*◌, ◌/◌, ◌%◌, ◌^◌, ◌<◌, ◌≤◌, Bool, true, false, cond, not, T, eqb, leb, ◌⊎◌, ℤ, pos, negsuc, sym, refl, ap, ◌∙◌, subst, inl, inr, le_trans, le_of_eq, lt_of_lt_of_le, lt_of_le_of_lt, le_of_lt, lt_irrefl, mul-le-mul_right, mul_assoc, mul_comm, div-lt_iff_lt-mul, le_antisymm, lt_of_mul-lt-mul_right, mul-lt-mul_of_pos_right, mul-pos, one-mul, pow-suc, div-add-mod', le-div_iff_mul-le, mul-one, mul_right_comm, le_of_mul-le-mul_right, div-one, mul-div_cancel, add-one, arith, lit<, eqb→eq, leb→le, pow_pos, pow_mono, pow-add, shl_lt}
use Prim.Native.Nat.{compare, Ordering}
use native.Mathlib.Nat.{mul-mul-mul_comm}
use lib.Dec.{is_le, compare_is_eq, nleb→lt}
use lib.Pow.{pow-lt}
use lib.Ieee.{Float, nan, inf, fin, binary64, emax, low, up, down, size, nearest, units, round, fits}
use lib.Ieee.Digits.{size-lt, size-le, size_reaches, back}
use lib.Ieee.Exact.{HasValue, units_val}
use lib.Ieee.Fits.{round_is}
use lib.Ieee.Nearest.{closest, closest_same}
use lib.Ieee.Root.{Root}
use lib.Ieee.{root_twice}
use Rattle.std.proofs.lemmas.Bool.{cases_lt, le-leb, lt-leb, cond-true, cond-false, ne_eqb}
use Rattle.math.specs.Roots.{chosen, Rooted}
use Rattle.math.proofs.OwnValue.{held, exponent_le}
use Rattle.math.proofs.WholeRoot.{whole_root, whole_root_is, root_reaches, lt_of_squares}

-- ---- what `compare` answers

compare_less : (a b : ℕ) → a < b → compare a b ≡ Ordering.lt
compare_less a b h = go (compare a b) (nleb→lt a b) (eqb→eq a b)
  where
    go : (o : Ordering) → (T (not (is_le o)) → b < a) → (T (compare_is_eq o) → a ≡ b) → o ≡ Ordering.lt
    go Ordering.lt k e = refl
    go Ordering.eq k e = absurd (lt_irrefl a (lt_of_lt_of_le h (le_of_eq (sym (e tt)))))
    go Ordering.gt k e = absurd (lt_irrefl a (lt_of_lt_of_le h (le_of_lt (k tt))))

compare_more : (a b : ℕ) → b < a → compare a b ≡ Ordering.gt
compare_more a b h = go (compare a b) (leb→le a b)
  where
    go : (o : Ordering) → (T (is_le o) → a ≤ b) → o ≡ Ordering.gt
    go Ordering.lt k = absurd (lt_irrefl a (lt_of_le_of_lt (k tt) h))
    go Ordering.eq k = absurd (lt_irrefl a (lt_of_le_of_lt (k tt) h))
    go Ordering.gt k = refl

-- ---- a number in the step of u that begins at q
module _ (n q u : ℕ) (from : q * u ≤ n) (to : n < (q + 1) * u) where
  step_pos : 0 < u
  step_pos = elim (cases_lt 0 u) [ inl h ↦ h | inr h ↦ absurd (none u h to) ]
    where
      none : (u : ℕ) → u ≤ 0 → n < (q + 1) * u → ⊥
      none zero h l = omega arith
      none (suc u) h l = omega arith

  step_div : n / u ≡ q
  step_div = le_antisymm (below q (n / u) ((div-lt_iff_lt-mul step_pos).1 to)) ((le-div_iff_mul-le step_pos).1 from)
    where
      below : (q d : ℕ) → d < q + 1 → d ≤ q
      below q d h = omega arith

  step_mod : n % u ≡ n - q * u
  step_mod = let e = div-add-mod' n u in let d = ap (λ (x : ℕ). x * u) step_div in omega arith

  -- before the middle of the step
  pub closest_down : n * 2 < (2 * q + 1) * u → closest n u ≡ q
  closest_down h =
      let m = step_mod in
      let s : n % u * 2 < u = omega arith in
      ap (λ (o : Ordering). nearest (n / u) o) (compare_less (n % u * 2) u s) ∙ step_div

  -- past it
  pub closest_up : (2 * q + 1) * u < n * 2 → closest n u ≡ q + 1
  closest_up h =
      let m = step_mod in
      let s : u < n % u * 2 = omega arith in
      ap (λ (o : Ordering). nearest (n / u) o) (compare_more (n % u * 2) u s) ∙ ap suc step_div ∙ sym (add-one q)

-- ---- the root of m × (2 h) × (2 h), with q the whole root of m
module _ (m q h : ℕ) (H : 0 < h) (square : q * q ≤ m) (next : m < (q + 1) * (q + 1)) where
  abbrev T₀ : ℕ
  T₀ = 2 * h

  abbrev N₀ : ℕ
  N₀ = m * (T₀ * T₀)

  abbrev r₀ : ℕ
  r₀ = whole_root N₀

  abbrev R₀ : ℕ
  R₀ = root_twice N₀

  facts : Root r₀ N₀
  facts = whole_root_is N₀

  reaches : q * T₀ ≤ r₀
  reaches = root_reaches (q * T₀) N₀ (le_trans (le_of_eq (mul-mul-mul_comm q T₀ q T₀)) (mul-le-mul_right (T₀ * T₀) square))

  stays : r₀ < (q + 1) * T₀
  stays =
      lt_of_squares r₀ ((q + 1) * T₀)
      (lt_of_le_of_lt facts.0 (lt_of_lt_of_le (mul-lt-mul_of_pos_right next (mul-pos (mul-pos (lit< tt) H) (mul-pos (lit< tt) H))) (le_of_eq (mul-mul-mul_comm (q + 1) (q + 1) T₀ T₀))))

  twice_from : 2 * r₀ ≤ R₀
  unfolding root_twice whole_root
  twice_from = omega arith

  twice_to : R₀ ≤ 2 * r₀ + 1
  unfolding root_twice whole_root
  twice_to = bit (eqb (r₀ * r₀) N₀)
    where
      bit : (b : Bool) → 2 * r₀ + cond b 0 1 ≤ 2 * r₀ + 1
      bit true = omega arith
      bit false = omega arith

  begins : q * (2 * T₀) ≤ R₀
  begins = let a = reaches in let b = twice_from in omega arith

  ends : R₀ < (q + 1) * (2 * T₀)
  ends = let a = stays in let b = twice_to in omega arith

  -- half of an odd multiple of T₀
  abbrev half : ℕ
  half = (2 * q + 1) * h

  below_middle : m - q * q ≤ q → R₀ * 2 < (2 * q + 1) * (2 * T₀)
  below_middle l =
      let hh : 0 < h * h = mul-pos H H in
      let small : m ≤ q * q + q = omega arith in
      let a : N₀ ≤ (q * q + q) * (T₀ * T₀) = mul-le-mul_right (T₀ * T₀) small in
      let b : r₀ * r₀ < half * half = let f = facts.0 in omega arith in
      let c : r₀ < half = lt_of_squares r₀ half b in
      let d = twice_to in
      omega arith

  above_middle : q < m - q * q → (2 * q + 1) * (2 * T₀) < R₀ * 2
  unfolding root_twice whole_root
  above_middle l =
      let hh : 0 < h * h = mul-pos H H in
      let large : q * q + q + 1 ≤ m = omega arith in
      let a : (q * q + q + 1) * (T₀ * T₀) ≤ N₀ = mul-le-mul_right (T₀ * T₀) large in
      let b : half * half < N₀ = omega arith in
      let c : half ≤ r₀ = root_reaches half N₀ (le_of_lt b) in
      past c b
    where
      past : half ≤ r₀ → half * half < N₀ → (2 * q + 1) * (2 * T₀) < R₀ * 2
      past c b =
          elim (cases_lt half r₀) [
            | inl g ↦ let f = twice_from in omega arith
            | inr g ↦
                let same : r₀ ≡ half = le_antisymm g c in
                let off : eqb (r₀ * r₀) N₀ ≡ false = ne_eqb (r₀ * r₀) N₀ (λ e. lt_irrefl N₀ (subst (λ (x : ℕ). x < N₀) (ap (λ (x : ℕ). x * x) (sym same) ∙ e) b)) in
                let odd : R₀ ≡ 2 * r₀ + 1 = ap (λ (b : Bool). 2 * r₀ + cond b 0 1) off in
                omega arith
          ]

  -- the nearest multiple of the step is the rule's choice
  pub closest_is : closest R₀ (2 * T₀) ≡ chosen m q
  closest_is =
      elim (cases_lt q (m - q * q)) [
        | inl l ↦ closest_up R₀ q (2 * T₀) begins ends (above_middle l) ∙ sym (cond-false (leb (m - q * q) q) q (q + 1) (lt-leb (m - q * q) q l))
        | inr g ↦ closest_down R₀ q (2 * T₀) begins ends (below_middle g) ∙ sym (cond-true (leb (m - q * q) q) q (q + 1) (le-leb (m - q * q) q g))
      ]

-- ---- how many digits

pub size_is : (n j : ℕ) → 2 ^ j ≤ n → n < 2 ^ suc j → size n ≡ suc j
size_is n j from to = le_antisymm (size-le n (suc j) to) (reach (cases_lt (size n) (suc j)))
  where
    reach : (size n < suc j) ⊎ (suc j ≤ size n) → suc j ≤ size n
    reach (inr h) = h
    reach (inl h) = let small : size n ≤ j = omega arith in absurd (lt_irrefl n (lt_of_lt_of_le (size-lt n) (le_trans (pow_mono small) from)))

pub root_from : (m q : ℕ) → 2 ^ 104 ≤ m → m < (q + 1) * (q + 1) → 2 ^ 52 ≤ q
root_from m q h k = let l : 2 ^ 52 < q + 1 = lt_of_squares (2 ^ 52) (q + 1) (lt_of_le_of_lt h k) in omega arith

pub root_to : (m q : ℕ) → m < 2 ^ 106 → q * q ≤ m → q < 2 ^ 53
root_to m q h k = lt_of_squares q (2 ^ 53) (lt_of_le_of_lt k h)

chosen_to : (m q : ℕ) → q < 2 ^ 53 → chosen m q ≤ 2 ^ 53
chosen_to m q h = bit (leb (m - q * q) q)
  where
    bit : (b : Bool) → cond b q (q + 1) ≤ 2 ^ 53
    bit true = omega arith
    bit false = omega arith

-- ---- what `round` makes of the root of m × 2^s × 2^s, for an s = t + 1 from 1682 up to 2800, in units of 2^-2271
module _ (m q t : ℕ) (from : 2 ^ 104 ≤ m) (to : m < 2 ^ 106) (square : q * q ≤ m) (next : m < (q + 1) * (q + 1)) (deep : 1681 ≤ t) (high : t ≤ 2799) where
  abbrev T₁ : ℕ
  T₁ = 2 * 2 ^ t

  abbrev N₁ : ℕ
  N₁ = m * (T₁ * T₁)

  abbrev R₁ : ℕ
  R₁ = root_twice N₁

  K₁ : ℕ
  K₁ = t - 1196

  step_is : 2 * T₁ ≡ 2 ^ (t + 2)
  step_is = sym (pow-add 2 t 2 ∙ mul_comm (2 ^ t) 4 ∙ mul_assoc 2 2 (2 ^ t))

  R_from : 2 ^ (t + 54) ≤ R₁
  R_from =
      let a = begins m q (2 ^ t) (pow_pos t) square next in
      let b : 2 ^ 52 * (2 * T₁) ≤ q * (2 * T₁) = mul-le-mul_right (2 * T₁) (root_from m q from next) in
      let c : 2 ^ (t + 54) ≡ 2 ^ 52 * (2 * T₁) = pow-add 2 t 54 ∙ mul_comm (2 ^ t) (2 ^ 54) ∙ mul_assoc (2 ^ 52) 4 (2 ^ t) ∙ ap (λ (x : ℕ). 2 ^ 52 * x) (mul_assoc 2 2 (2 ^ t)) in
      le_trans (le_of_eq c) (le_trans b a)

  R_to : R₁ < 2 ^ (t + 55)
  R_to =
      let a = ends m q (2 ^ t) (pow_pos t) square next in
      let small : q + 1 ≤ 2 ^ 53 = let l = root_to m q to square in omega arith in
      let b : (q + 1) * (2 * T₁) ≤ 2 ^ 53 * (2 * T₁) = mul-le-mul_right (2 * T₁) small in
      let c : 2 ^ (t + 55) ≡ 2 ^ 53 * (2 * T₁) = pow-add 2 t 55 ∙ mul_comm (2 ^ t) (2 ^ 55) ∙ mul_assoc (2 ^ 53) 4 (2 ^ t) ∙ ap (λ (x : ℕ). 2 ^ 53 * x) (mul_assoc 2 2 (2 ^ t)) in
      lt_of_lt_of_le a (le_trans b (le_of_eq (sym c)))

  -- the whole part, in units of the smallest value, has 53 digits and K₁ more
  whole_size : size (R₁ * 2 ^ 1074 / 2 ^ 2272) ≡ K₁ + 53
  unfolding K₁
  whole_size =
      let exact : (j : ℕ) → 1198 ≤ j → 2 ^ (j - 1198) * 2 ^ 2272 ≡ 2 ^ j * 2 ^ 1074 =
      λ j l. sym (pow-add 2 (j - 1198) 2272) ∙ ap (λ (x : ℕ). 2 ^ x) (shift j l) ∙ pow-add 2 j 1074 in
      let a : 1198 ≤ t + 54 = omega arith in
      let b : 1198 ≤ t + 55 = omega arith in
      let lower : 2 ^ (t + 54 - 1198) ≤ R₁ * 2 ^ 1074 / 2 ^ 2272 = (le-div_iff_mul-le (pow_pos 2272)).1 (le_trans (le_of_eq (exact (t + 54) a)) (mul-le-mul_right (2 ^ 1074) R_from)) in
      let upper : R₁ * 2 ^ 1074 / 2 ^ 2272 < 2 ^ (t + 55 - 1198) = (div-lt_iff_lt-mul (pow_pos 2272)).1 (lt_of_lt_of_le (mul-lt-mul_of_pos_right R_to (pow_pos 1074)) (le_of_eq (sym (exact (t + 55) b)))) in
      let one_more : t + 55 - 1198 ≡ suc (t + 54 - 1198) = omega arith in
      size_is (R₁ * 2 ^ 1074 / 2 ^ 2272) (t + 54 - 1198) lower (subst (λ (x : ℕ). R₁ * 2 ^ 1074 / 2 ^ 2272 < 2 ^ x) one_more upper) ∙ count t deep
    where
      shift : (j : ℕ) → 1198 ≤ j → j - 1198 + 2272 ≡ j + 1074
      shift j l = omega arith

      count : (t : ℕ) → 1681 ≤ t → suc (t + 54 - 1198) ≡ t - 1196 + 53
      count t d = omega arith

  rounds_to : round binary64 false R₁ (2 ^ 2272) ≡ units binary64 false (chosen m q) K₁
  unfolding K₁
  rounds_to =
      let k = K₁ in
      let drop : size (R₁ * 2 ^ 1074 / 2 ^ 2272) - 53 ≡ k = ap (λ (x : ℕ). x - 53) whole_size ∙ less (t - 1196) in
      let cross : R₁ * 2 ^ 1074 * (2 * T₁) ≡ R₁ * (2 ^ 2272 * 2 ^ k) =
      ap (λ (x : ℕ). R₁ * 2 ^ 1074 * x) step_is ∙ mul_assoc R₁ (2 ^ 1074) (2 ^ (t + 2)) ∙ ap (λ (x : ℕ). R₁ * x) (sym (pow-add 2 1074 (t + 2)) ∙ ap (λ (x : ℕ). 2 ^ x) (same t deep) ∙ pow-add 2 2272 (t - 1196)) in
      round_is binary64 false R₁ (2 ^ 2272)
      ∙ ap (λ (x : ℕ). units binary64 false (closest (R₁ * 2 ^ 1074) (2 ^ 2272 * 2 ^ x)) x) drop
      ∙ ap (λ (x : ℕ). units binary64 false x k) (closest_same (R₁ * 2 ^ 1074) (2 ^ 2272 * 2 ^ k) R₁ (2 * T₁) (mul-pos (pow_pos 2272) (pow_pos k)) (mul-pos (lit< tt) (mul-pos (lit< tt) (pow_pos t))) cross ∙ closest_is m q (2 ^ t) (pow_pos t) square next)
    where
      less : (x : ℕ) → x + 53 - 53 ≡ x
      less x = omega arith

      same : (t : ℕ) → 1681 ≤ t → 1074 + (t + 2) ≡ 2272 + (t - 1196)
      same t d = omega arith

  pub rounded_value : HasValue (round binary64 false R₁ (2 ^ 2272)) false (chosen m q * 2 ^ (t + 1)) (2 ^ 2271)
  unfolding K₁
  rounded_value =
      let k = K₁ in
      let c = chosen m q in
      let room : 53 + k < low binary64 + suc (emax binary64) = omega arith in
      let fine : c * 2 ^ k < 2 ^ (low binary64 + suc (emax binary64)) =
      lt_of_le_of_lt (mul-le-mul_right (2 ^ k) (chosen_to m q (root_to m q to square))) (lt_of_le_of_lt (le_of_eq (sym (pow-add 2 53 k))) (pow-lt room)) in
      subst (λ (x : Float). HasValue x false (c * 2 ^ (t + 1)) (2 ^ 2271)) (sym rounds_to) (finer (units binary64 false c k) c k (units_val binary64 false c k fine) (whole t deep))
    where
      whole : (t : ℕ) → 1681 ≤ t → t - 1196 + 1197 ≡ t + 1
      whole t d = omega arith

      finer : (x : Float) (c k : ℕ) → HasValue x false (c * 2 ^ k) (2 ^ 1074) → k + 1197 ≡ t + 1 → HasValue x false (c * 2 ^ (t + 1)) (2 ^ 2271)
      finer nan c k v e = v
      finer (inf s) c k v e = v
      finer (fin s n d) c k v e = (
        v.0,
        sym (mul_assoc (n * up d) (2 ^ 1074) (2 ^ 1197))
            ∙ ap (λ (x : ℕ). x * 2 ^ 1197) v.1
            ∙ mul_right_comm (c * 2 ^ k) (down d) (2 ^ 1197)
            ∙ ap (λ (x : ℕ). x * down d) (mul_assoc c (2 ^ k) (2 ^ 1197) ∙ ap (λ (x : ℕ). c * x) (sym (pow-add 2 k 1197) ∙ ap (λ (x : ℕ). 2 ^ x) e)),
      )

-- ---- a value of the format in units of 2^-4542: n × 2^z

pub fourth : (k : ℕ) → 4 ^ k ≡ 2 ^ k * 2 ^ k
fourth zero = refl
fourth (suc k) = pow-suc 4 k ∙ ap (λ (x : ℕ). x * 4) (fourth k) ∙ sym (mul-mul-mul_comm (2 ^ k) 2 (2 ^ k) 2) ∙ ap (λ (x : ℕ). x * x) (sym (pow-suc 2 k))

record Scaled (n : ℕ) (e : ℤ) : Type 0 where
  z : ℕ
  units_are : n * up e * 2 ^ 4542 / down e ≡ n * 2 ^ z
  exact : n * up e * 2 ^ 4542 ≡ n * 2 ^ z * down e
  deep : 3468 ≤ z
  high : z ≤ 5565

scaled : (n : ℕ) (e : ℤ) → T (fits binary64 (fin false (suc n) e)) → Scaled (suc n) e
scaled n (pos k) F =
    let h = (held false n (pos k) F).2 in
    let big : 2 ^ k < 2 ^ 1024 = lt_of_le_of_lt (le_trans (le_of_eq (sym (one-mul (2 ^ k)))) (mul-le-mul_right (2 ^ k) (omega arith))) (lt_of_lt_of_le h (le_of_eq (mul-one (2 ^ 1024)))) in
    let few : k ≤ 1024 = exponent_le k 1024 (le_of_lt big) in
    let e : suc n * 2 ^ k * 2 ^ 4542 ≡ suc n * 2 ^ (k + 4542) = mul_assoc (suc n) (2 ^ k) (2 ^ 4542) ∙ ap (λ (x : ℕ). suc n * x) (sym (pow-add 2 k 4542)) in
    record { z = k + 4542; units_are = div-one (suc n * 2 ^ k * 2 ^ 4542) ∙ e; exact = e ∙ sym (mul-one (suc n * 2 ^ (k + 4542))); deep = omega arith; high = fewer k few big }
  where
    fewer : (k : ℕ) → k ≤ 1024 → 2 ^ k < 2 ^ 1024 → k + 4542 ≤ 5565
    fewer k a b = elim (cases_lt k 1024) [ inl l ↦ omega arith | inr g ↦ absurd (lt_irrefl (2 ^ k) (lt_of_lt_of_le b (pow_mono g))) ]
scaled n (negsuc k) F =
    let d : suc k ≤ 1074 = exponent_le (suc k) 1074 (held false n (negsuc k) F).1 in
    let near : suc k ≤ 4542 = omega arith in
    let e : suc n * 1 * 2 ^ 4542 ≡ suc n * 2 ^ (4542 - suc k) * 2 ^ suc k =
    ap (λ (x : ℕ). x * 2 ^ 4542) (mul-one (suc n)) ∙ ap (λ (x : ℕ). suc n * x) (ap (λ (x : ℕ). 2 ^ x) (sym (back 4542 (suc k) near)) ∙ pow-add 2 (4542 - suc k) (suc k)) ∙ sym (mul_assoc (suc n) (2 ^ (4542 - suc k)) (2 ^ suc k)) in
    record { z = 4542 - suc k; units_are = ap (λ (x : ℕ). x / 2 ^ suc k) e ∙ mul-div_cancel (suc n * 2 ^ (4542 - suc k)) (pow_pos (suc k)); exact = e; deep = omega arith; high = omega arith }

-- ---- the rule

halves : (l : ℕ) → (l - 105) / 2 * 2 ≤ l - 105
halves l = omega arith

module _ (n : ℕ) (e : ℤ) (F : T (fits binary64 (fin false (suc n) e))) where
  abbrev N : ℕ
  N = suc n * up e * 2 ^ 4542 / down e

  pub rooted : Rooted (fin false (suc n) e) (round binary64 false (root_twice N) (2 ^ 2272))
  rooted =
      let s = scaled n e F in
      let z = s.z in
      let W = suc n * 2 ^ z in
      let small : suc n < 2 ^ 53 = (held false n e F).0 in
      let L = size W in
      let t = (L - 105) / 2 in
      let few : L ≤ 53 + z = size-le W (53 + z) (shl_lt 53 z small) in
      let many : 3468 < L = digits W z s.deep (le_trans (le_of_eq (sym (one-mul (2 ^ z)))) (mul-le-mul_right (2 ^ z) (omega arith))) in
      let within-z : 2 * t ≤ z = omega arith in
      let m = suc n * 2 ^ (z - 2 * t) in
      let four : 2 ^ t * 2 ^ t ≡ 2 ^ (2 * t) = sym (pow-add 2 t t) ∙ ap (λ (x : ℕ). 2 ^ x) (double t) in
      let whole : m * (2 ^ t * 2 ^ t) ≡ W = ap (λ (x : ℕ). m * x) four ∙ mul_assoc (suc n) (2 ^ (z - 2 * t)) (2 ^ (2 * t)) ∙ ap (λ (x : ℕ). suc n * x) (sym (pow-add 2 (z - 2 * t) (2 * t)) ∙ ap (λ (x : ℕ). 2 ^ x) (back z (2 * t) within-z)) in
      let last : L - 1 < L = omega arith in
      let room-low : 104 + 2 * t ≤ L - 1 = omega arith in
      let room-high : L ≤ 106 + 2 * t = omega arith in
      let again : t - 1 + 1 ≡ t = omega arith in
      let deep : 1681 ≤ t - 1 = omega arith in
      let high : t - 1 ≤ 2799 = let y = s.high in omega arith in
      let least : 2 ^ (L - 1) ≤ W = size_reaches W (L - 1) last in
      let from : 2 ^ 104 ≤ m = le_of_mul-le-mul_right (le_trans (le_of_eq (sym (pow-add 2 104 (2 * t)))) (le_trans (pow_mono room-low) (le_trans least (le_of_eq (sym whole ∙ ap (λ (x : ℕ). m * x) four))))) (pow_pos (2 * t)) in
      let to : m < 2 ^ 106 = lt_of_mul-lt-mul_right (2 ^ (2 * t)) (lt_of_le_of_lt (le_of_eq (ap (λ (x : ℕ). m * x) (sym four) ∙ whole)) (lt_of_lt_of_le (size-lt W) (le_trans (pow_mono room-high) (le_of_eq (pow-add 2 106 (2 * t)))))) in
      let q = whole_root m in
      let r = whole_root_is m in
      let twice : 2 * 2 ^ (t - 1) ≡ 2 ^ t = mul_comm 2 (2 ^ (t - 1)) ∙ sym (pow-suc 2 (t - 1)) ∙ ap (λ (x : ℕ). 2 ^ x) (sym (add-one (t - 1)) ∙ again) in
      let units_equal : m * (2 * 2 ^ (t - 1) * (2 * 2 ^ (t - 1))) ≡ N = ap (λ (x : ℕ). m * (x * x)) twice ∙ whole ∙ sym s.units_are in
      let v = rounded_value m q (t - 1) from to r.0 r.1 deep high in
      record {
        m = m;
        q = q;
        i = t;
        j = 2271;
        at_least = from;
        below = to;
        value = s.exact ∙ ap (λ (x : ℕ). x * down e) (sym whole ∙ ap (λ (x : ℕ). m * x) (sym (fourth t)));
        square = r.0;
        next_square = r.1;
        root = subst (λ (x : ℕ). HasValue (round binary64 false (root_twice x) (2 ^ 2272)) false (chosen m q * 2 ^ t) (2 ^ 2271)) units_equal (subst (λ (x : ℕ). HasValue (round binary64 false (root_twice (m * (2 * 2 ^ (t - 1) * (2 * 2 ^ (t - 1))))) (2 ^ 2272)) false (chosen m q * 2 ^ x) (2 ^ 2271)) again v);
      }
    where
      double : (t : ℕ) → t + t ≡ 2 * t
      double t = omega arith

      digits : (w z : ℕ) → 3468 ≤ z → 2 ^ z ≤ w → 3468 < size w
      digits w z d h = elim (cases_lt 3468 (size w)) [ inl l ↦ l | inr g ↦ absurd (lt_irrefl w (lt_of_lt_of_le (size-lt w) (le_trans (pow_mono (le_trans g d)) h))) ]
