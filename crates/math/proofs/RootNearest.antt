-- A root by the rule is the nearest f64. In steps of 2^k the root lies between q and q + 1, and no f64 lies strictly between those two, since q has 53 digits.
use Rattle.std.proofs.Common.{◌≡◌, ℕ, zero, suc, ◌+◌, ◌-◌, ◌*◌, ◌^◌, ◌<◌, ◌≤◌, true, false, T, eqb, leb, ℤ, pos, negsuc, sym, refl, ap, ◌∙◌, subst, inl, inr, true≢false, le_trans, le_of_eq, lt_of_lt_of_le, lt_of_le_of_lt, le_of_lt, lt_irrefl, mul-le-mul_right, mul_assoc, mul-le-mul, lt_of_mul-lt-mul_right, mul-le-mul_left, mul-lt-mul_of_pos_right, mul-pos, mul-one, sub-add_cancel, mul_right_comm, arith, eqb→eq, pow-suc, pow_pos, pow_mono, pow-add, shl_lt}
use lib.Ieee.{Float, nan, inf, fin, binary64, up, down, fits}
use lib.Ieee.Fits.{down_pos}
use lib.Ieee.Positive.{num, den, den_pos}
use lib.Ieee.{sqrt}
use Rattle.std.proofs.lemmas.Bool.{cases_lt, cases_Bool, leb-true, leb-false, cond-true, cond-false}
use Rattle.math.specs.Floats.{root}
use Rattle.math.specs.Magnitude.{bound}
use Rattle.math.specs.Roots.{chosen, Rooted, Nearest, RootIs, middle, target}
use Rattle.math.proofs.Magnitude.{no}
use Rattle.math.proofs.OwnValue.{held}
use Rattle.math.proofs.RootRule.{fourth, root_from, rooted}
use Rattle.math.proofs.WholeRoot.{of_root}

-- ---- the steps of the format: n × 2^a, with n of at most 53 digits, and a step of 2^b

few_digits : (n : ℕ) (d : ℤ) → T (fits binary64 (fin false n d)) → n < 2 ^ 53
few_digits zero d F = pow_pos 53
few_digits (suc n) d F = (held false n d F).0

-- none strictly between q and q + 1 steps
gap : (n a b q : ℕ) → n < 2 ^ 53 → 2 ^ 52 ≤ q → q * 2 ^ b < n * 2 ^ a → (q + 1) * 2 ^ b ≤ n * 2 ^ a
gap n a b q small large h =
    elim (cases_lt a b) [
      | inl l ↦
          let next : a + 1 ≤ b = omega arith in
          let top : n * 2 ^ a < 2 ^ (53 + a) = shl_lt 53 a small in
          let same : 2 ^ (53 + a) ≡ 2 ^ 52 * 2 ^ (a + 1) = ap (λ (x : ℕ). 2 ^ x) (apart a) ∙ pow-add 2 52 (a + 1) in
          absurd (lt_irrefl (q * 2 ^ b) (lt_of_lt_of_le h (le_trans (le_of_lt top) (le_trans (le_of_eq same) (mul-le-mul large (pow_mono next))))))
      | inr g ↦
          let k = a - b in
          let whole : n * 2 ^ a ≡ n * 2 ^ k * 2 ^ b = ap (λ (x : ℕ). n * x) (ap (λ (x : ℕ). 2 ^ x) (sym (sub-add_cancel g)) ∙ pow-add 2 k b) ∙ sym (mul_assoc n (2 ^ k) (2 ^ b)) in
          let more : q < n * 2 ^ k = lt_of_mul-lt-mul_right (2 ^ b) (lt_of_lt_of_le h (le_of_eq whole)) in
          le_trans (mul-le-mul_right (2 ^ b) (step q (n * 2 ^ k) more)) (le_of_eq (sym whole))
    ]
  where
    apart : (a : ℕ) → 53 + a ≡ 52 + (a + 1)
    apart a = omega arith

    step : (q y : ℕ) → q < y → q + 1 ≤ y
    step q y h = omega arith

-- a value of the format against steps of 2^i / 2^j
value_gap : (n : ℕ) (d : ℤ) (q i j : ℕ) → T (fits binary64 (fin false n d)) → 2 ^ 52 ≤ q → q * (2 ^ i * down d) < n * up d * 2 ^ j → (q + 1) * (2 ^ i * down d) ≤ n * up d * 2 ^ j
value_gap n (pos g) q i j F Q h =
    let e : n * 2 ^ g * 2 ^ j ≡ n * 2 ^ (g + j) = mul_assoc n (2 ^ g) (2 ^ j) ∙ ap (λ (x : ℕ). n * x) (sym (pow-add 2 g j)) in
    let s : 2 ^ i * 1 ≡ 2 ^ i = mul-one (2 ^ i) in
    let k = gap n (g + j) i q (few_digits n (pos g) F) Q (subst (λ (x : ℕ). q * x < n * 2 ^ (g + j)) s (subst (λ (x : ℕ). q * (2 ^ i * 1) < x) e h)) in
    subst (λ (x : ℕ). (q + 1) * (2 ^ i * 1) ≤ x) (sym e) (subst (λ (x : ℕ). (q + 1) * x ≤ n * 2 ^ (g + j)) (sym s) k)
value_gap n (negsuc g) q i j F Q h =
    let e : n * 1 * 2 ^ j ≡ n * 2 ^ j = ap (λ (x : ℕ). x * 2 ^ j) (mul-one n) in
    let s : 2 ^ i * 2 ^ suc g ≡ 2 ^ (i + suc g) = sym (pow-add 2 i (suc g)) in
    let k = gap n j (i + suc g) q (few_digits n (negsuc g) F) Q (subst (λ (x : ℕ). q * x < n * 2 ^ j) s (subst (λ (x : ℕ). q * (2 ^ i * 2 ^ suc g) < x) e h)) in
    subst (λ (x : ℕ). (q + 1) * (2 ^ i * 2 ^ suc g) ≤ x) (sym e) (subst (λ (x : ℕ). (q + 1) * x ≤ n * 2 ^ j) (sym s) k)

-- ---- by squares, in steps of s: the root of m is between q and q + 1, and y is another place
module _ (m q s y : ℕ) (S : 0 < s) (square : q * q ≤ m) (next : m < (q + 1) * (q + 1)) where
  ss : 0 < s * s
  ss = mul-pos S S

  -- y above the choice
  above_choice : (q * s < y → (q + 1) * s ≤ y) → chosen m q * s < y → 4 * m * (s * s) < (chosen m q * s + y) * (chosen m q * s + y)
  above_choice g h =
      elim (cases_Bool (leb (m - q * q) q)) [
        | inl t ↦
            let c : chosen m q ≡ q = cond-true (leb (m - q * q) q) q (q + 1) t in
            subst (λ (x : ℕ). 4 * m * (s * s) < (x * s + y) * (x * s + y)) (sym c) (lower t (g (subst (λ (x : ℕ). x * s < y) c h)))
        | inr f ↦
            let c : chosen m q ≡ q + 1 = cond-false (leb (m - q * q) q) q (q + 1) f in
            subst (λ (x : ℕ). 4 * m * (s * s) < (x * s + y) * (x * s + y)) (sym c) (upper (subst (λ (x : ℕ). x * s < y) c h))
      ]
    where
      lower : leb (m - q * q) q ≡ true → (q + 1) * s ≤ y → 4 * m * (s * s) < (q * s + y) * (q * s + y)
      lower t k =
          let l = leb-true (m - q * q) q t in
          let small : m ≤ q * q + q = omega arith in
          let wide : (2 * q + 1) * s ≤ q * s + y = omega arith in
          let a : 4 * m * (s * s) ≤ 4 * (q * q + q) * (s * s) = mul-le-mul_right (s * s) (mul-le-mul_left 4 small) in
          let b : (2 * q + 1) * s * ((2 * q + 1) * s) ≤ (q * s + y) * (q * s + y) = mul-le-mul wide wide in
          let e : 4 * (q * q + q) * (s * s) < (2 * q + 1) * s * ((2 * q + 1) * s) = let z = ss in omega arith in
          lt_of_le_of_lt a (lt_of_lt_of_le e b)

      upper : (q + 1) * s < y → 4 * m * (s * s) < ((q + 1) * s + y) * ((q + 1) * s + y)
      upper k =
          let wide : 2 * ((q + 1) * s) ≤ (q + 1) * s + y = omega arith in
          let a : m * (s * s) < (q + 1) * (q + 1) * (s * s) = mul-lt-mul_of_pos_right next ss in
          let b : 2 * ((q + 1) * s) * (2 * ((q + 1) * s)) ≤ ((q + 1) * s + y) * ((q + 1) * s + y) = mul-le-mul wide wide in
          let e : 4 * m * (s * s) < 2 * ((q + 1) * s) * (2 * ((q + 1) * s)) = omega arith in
          lt_of_lt_of_le e b

  -- y below it
  below_choice : (q * s < y → (q + 1) * s ≤ y) → y < chosen m q * s → (chosen m q * s + y) * (chosen m q * s + y) < 4 * m * (s * s)
  below_choice g h =
      elim (cases_Bool (leb (m - q * q) q)) [
        | inl t ↦
            let c : chosen m q ≡ q = cond-true (leb (m - q * q) q) q (q + 1) t in
            subst (λ (x : ℕ). (x * s + y) * (x * s + y) < 4 * m * (s * s)) (sym c) (lower (subst (λ (x : ℕ). y < x * s) c h))
        | inr f ↦
            let c : chosen m q ≡ q + 1 = cond-false (leb (m - q * q) q) q (q + 1) f in
            subst (λ (x : ℕ). (x * s + y) * (x * s + y) < 4 * m * (s * s)) (sym c) (upper f (subst (λ (x : ℕ). y < x * s) c h))
      ]
    where
      lower : y < q * s → (q * s + y) * (q * s + y) < 4 * m * (s * s)
      lower k =
          let narrow : q * s + y < 2 * (q * s) = omega arith in
          let a : q * q * (s * s) ≤ m * (s * s) = mul-le-mul_right (s * s) square in
          let b : (q * s + y) * (q * s + y) < 2 * (q * s) * (2 * (q * s)) = squares_lt (q * s + y) (2 * (q * s)) narrow in
          omega arith
        where
          squares_lt : (u v : ℕ) → u < v → u * u < v * v
          squares_lt u v h = let w : u + 1 ≤ v = omega arith in let z = mul-le-mul w w in omega arith

      upper : leb (m - q * q) q ≡ false → y < (q + 1) * s → ((q + 1) * s + y) * ((q + 1) * s + y) < 4 * m * (s * s)
      upper f k =
          let l = leb-false (m - q * q) q f in
          let large : q * q + q + 1 ≤ m = omega arith in
          let at : y ≤ q * s = elim (cases_lt (q * s) y) [ inl j ↦ absurd (lt_irrefl y (lt_of_lt_of_le k (g j))) | inr j ↦ j ] in
          let narrow : (q + 1) * s + y ≤ (2 * q + 1) * s = omega arith in
          let a : (q * q + q + 1) * (s * s) ≤ m * (s * s) = mul-le-mul_right (s * s) large in
          let b : ((q + 1) * s + y) * ((q + 1) * s + y) ≤ (2 * q + 1) * s * ((2 * q + 1) * s) = mul-le-mul narrow narrow in
          let z = ss in
          omega arith

-- ---- from steps back to fractions: v is p / w, r is a / b, and x is e / f
module _ (p w a b e f m c I J : ℕ) (W : 0 < w) (B : 0 < b) (value : p * (J * J) ≡ m * (I * I) * w) (root : a * J ≡ c * I * b) where
  middle_is : (a * f + e * b) * J ≡ (c * (I * f) + e * J) * b
  middle_is = omega (arith, ap (λ (x : ℕ). x * f) root)

  middle_square : (a * f + e * b) * (a * f + e * b) * w * (J * J) ≡ (c * (I * f) + e * J) * (c * (I * f) + e * J) * (b * b * w)
  middle_square = omega (arith, ap (λ (x : ℕ). x * x * w) middle_is)

  target_is : 4 * p * (b * f * (b * f)) * (J * J) ≡ 4 * m * (I * f * (I * f)) * (b * b * w)
  target_is = omega (arith, ap (λ (x : ℕ). 4 * x * (b * f * (b * f))) value)

  bw : 0 < b * b * w
  bw = mul-pos (mul-pos B B) W

  past : 4 * m * (I * f * (I * f)) < (c * (I * f) + e * J) * (c * (I * f) + e * J) → 4 * p * (b * f * (b * f)) < (a * f + e * b) * (a * f + e * b) * w
  past h = lt_of_mul-lt-mul_right (J * J) (lt_of_le_of_lt (le_of_eq target_is) (lt_of_lt_of_le (mul-lt-mul_of_pos_right h bw) (le_of_eq (sym middle_square))))

  short : (c * (I * f) + e * J) * (c * (I * f) + e * J) < 4 * m * (I * f * (I * f)) → (a * f + e * b) * (a * f + e * b) * w < 4 * p * (b * f * (b * f))
  short h = lt_of_mul-lt-mul_right (J * J) (lt_of_le_of_lt (le_of_eq middle_square) (lt_of_lt_of_le (mul-lt-mul_of_pos_right h bw) (le_of_eq (sym target_is))))

  left_is : c * (I * f) * b ≡ a * f * J
  left_is = omega (arith, ap (λ (x : ℕ). x * f) root)

  order_up : 0 < J → a * f < e * b → c * (I * f) < e * J
  order_up P h = lt_of_mul-lt-mul_right b (lt_of_le_of_lt (le_of_eq left_is) (lt_of_lt_of_le (mul-lt-mul_of_pos_right h P) (le_of_eq (mul_right_comm e b J))))

  order_down : 0 < J → e * b < a * f → e * J < c * (I * f)
  order_down P h = lt_of_mul-lt-mul_right b (lt_of_le_of_lt (le_of_eq (mul_right_comm e J b)) (lt_of_lt_of_le (mul-lt-mul_of_pos_right h P) (le_of_eq (sym left_is))))

-- ---- the nearest

pub nearest : (v r : Float) → Rooted v r → Nearest v r
nearest v nan R = absurd R.root
nearest v (inf s) R = absurd R.root
nearest v (fin true k g) R = absurd (true≢false R.root.0)
nearest v (fin false k g) R = record { larger = up_side; smaller = down_side }
  where
    I : ℕ
    I = 2 ^ R.i

    J : ℕ
    J = 2 ^ R.j

    c : ℕ
    c = chosen R.m R.q

    value : num v * (J * J) ≡ R.m * (I * I) * den v
    value = ap (λ (x : ℕ). num v * x) (sym (fourth R.j)) ∙ R.value ∙ ap (λ (x : ℕ). R.m * x * den v) (fourth R.i)

    root : k * up g * J ≡ c * I * down g
    root = R.root.1

    least : 2 ^ 52 ≤ R.q
    least = root_from R.m R.q R.at_least R.next_square

    up_side : (x : Float) → T (fits binary64 x) → bound x ≡ true → k * up g * den x < num x * down g → target v (fin false k g) x < middle (fin false k g) x * middle (fin false k g) x * den v
    up_side nan F N h = no N
    up_side (inf s) F N h = no N
    up_side (fin true n d) F N h = no N
    up_side (fin false n d) F N h =
        past (num v) (den v) (k * up g) (down g) (n * up d) (down d) R.m c I J (den_pos v) (down_pos g) value root
        (above_choice R.m R.q (I * down d) (n * up d * J) (mul-pos (pow_pos R.i) (down_pos d)) R.square R.next_square (value_gap n d R.q R.i R.j F least)
        (order_up (num v) (den v) (k * up g) (down g) (n * up d) (down d) R.m c I J (den_pos v) (down_pos g) value root (pow_pos R.j) h))

    down_side : (x : Float) → T (fits binary64 x) → bound x ≡ true → num x * down g < k * up g * den x → middle (fin false k g) x * middle (fin false k g) x * den v < target v (fin false k g) x
    down_side nan F N h = no N
    down_side (inf s) F N h = no N
    down_side (fin true n d) F N h = no N
    down_side (fin false n d) F N h =
        short (num v) (den v) (k * up g) (down g) (n * up d) (down d) R.m c I J (den_pos v) (down_pos g) value root
        (below_choice R.m R.q (I * down d) (n * up d * J) (mul-pos (pow_pos R.i) (down_pos d)) R.square R.next_square (value_gap n d R.q R.i R.j F least)
        (order_down (num v) (den v) (k * up g) (down g) (n * up d) (down d) R.m c I J (den_pos v) (down_pos g) value root (pow_pos R.j) h))

above_zero : (n : ℕ) (e : ℤ) → T (fits binary64 (fin false (suc n) e)) → RootIs (fin false (suc n) e) (root (fin false (suc n) e))
above_zero n e F = let R = of_root (Rooted (fin false (suc n) e)) n e (rooted n e F) in (R, nearest (fin false (suc n) e) (root (fin false (suc n) e)) R)

-- a zero that a format holds has the exponent 0
zero_written : (e : ℤ) → T (eqb (up e * down e) 1) → e ≡ pos 0
zero_written (pos zero) F = refl
zero_written (pos (suc k)) F = absurd (let h : 2 ^ suc k * 1 ≡ 1 = eqb→eq _ _ F in omega (arith, pow-suc 2 k, pow_pos k))
zero_written (negsuc k) F = absurd (let h : 1 * 2 ^ suc k ≡ 1 = eqb→eq _ _ F in omega (arith, pow-suc 2 k, pow_pos k))

pub root_is : (v : Float) → T (fits binary64 v) → RootIs v (root v)
unfolding sqrt fits
root_is nan F = refl
root_is (inf false) F = refl
root_is (inf true) F = refl
root_is (fin false zero e) F = ap (fin false zero) (sym (zero_written e F))
root_is (fin true zero e) F = ap (fin true zero) (sym (zero_written e F))
root_is (fin true (suc n) e) F = refl
root_is (fin false (suc n) e) F = above_zero n e F
