-- The laws of magnitude: from bounds on the arguments of an operation to a bound on its result.
-- A bound is itself an f64, and rounding keeps order, so the bound of a result is the same operation on the bounds.
use Rattle.std.proofs.Common.{◌≡◌, ℕ, zero, suc, ◌+◌, ◌-◌, ◌*◌, ◌/◌, ◌%◌, ◌^◌, ◌<◌, ◌≤◌, Bool, true, false, cond, ◌&&◌, ◌||◌, T, eqb, ltb, ℤ, sym, refl, ap, ◌∙◌, subst, inl, inr, true≢false, le_trans, le_of_eq, le_refl, le_of_lt, lt_irrefl, mul-le-mul_right, mul-le-mul, lt_of_mul-lt-mul_right, eq-or-lt_of_le, mul-lt-mul_of_pos_right, mul-pos, arith, eqb→eq}
use mathlib.Core.Bool.{beq}
use Prim.Native.Nat.{compare}
use lib.Ieee.{Float, Format, binary64, nan, inf, fin, prec, emax, low, unlike, up, down, nearest, odd, units, round, neg, add, sub, mul, div, sum, le, lt, eq}
use lib.Ieee as Ieee
use lib.Ieee.Fits.{down_pos, up_pos, round_is}
use lib.Ieee.Bits.{is_true}
use lib.Ieee.Order.{round_mono}
use lib.Ieee.Positive.{num, den, den_pos, through}
use Rattle.std.specs.Float.{float_with_sign}
use Rattle.std.proofs.lemmas.Bool.{ltb-true, lt-ltb, eqb-true, eq-eqb, and_parts, and_from, or_cases, or_left, or_right}
use Rattle.math.specs.Floats.{size, one}
use Rattle.math.specs.Magnitude.{bound, within}

pub no : {X : Type 0} → false ≡ true → X
no e = absurd (true≢false (sym e))

-- finite, and at most p / q in size
abbrev pub Small : Float → ℕ → ℕ → Type 0
Small nan p q = ⊥
Small (inf s) p q = ⊥
Small (fin s m e) p q = m * up e * q ≤ p * down e

-- ---- the order of floats, as one of fractions

of_test : (a b : ℕ) → (ltb a b || (eqb a b && true)) ≡ true → a ≤ b
of_test a b t = elim (or_cases _ _ t) [ inl l ↦ le_of_lt (ltb-true a b l) | inr e ↦ le_of_eq (eqb-true a b (and_parts _ _ e).0) ]

to_test : (a b : ℕ) → a ≤ b → (ltb a b || (eqb a b && true)) ≡ true
to_test a b h = elim (eq-or-lt_of_le h) [ inl e ↦ or_right _ _ (and_from _ _ (eq-eqb a b e) refl) | inr l ↦ or_left _ _ (lt-ltb a b l) ]

pub small_of_within : (b x : Float) → bound b ≡ true → within b x ≡ true → Small x (num b) (den b)
unfolding within float_with_sign le lt eq
small_of_within nan x k h = no k
small_of_within (inf s) x k h = no k
small_of_within (fin true n d) x k h = no k
small_of_within (fin false n d) nan k h = no h
small_of_within (fin false n d) (inf s) k h = no h
small_of_within (fin false n d) (fin s m e) k h = of_test (m * up e * down d) (n * up d * down e) h

pub within_of_small : (b x : Float) → bound b ≡ true → Small x (num b) (den b) → within b x ≡ true
unfolding within float_with_sign le lt eq
within_of_small nan x k h = no k
within_of_small (inf s) x k h = no k
within_of_small (fin true n d) x k h = no k
within_of_small (fin false n d) nan k h = absurd h
within_of_small (fin false n d) (inf s) k h = absurd h
within_of_small (fin false n d) (fin s m e) k h = to_test (m * up e * down d) (n * up d * down e) h

-- ---- a larger bound
pub small_more : (x : Float) (p q r s : ℕ) → 0 < q → p * s ≤ r * q → Small x p q → Small x r s
small_more nan p q r s Q h k = k
small_more (inf t) p q r s Q h k = k
small_more (fin t m e) p q r s Q h k = through (m * up e) p r (down e) q s Q k h

-- what holds of a bound written out holds of every bound
pub bound_is : (P : Float → Type 0) → ((m : ℕ) (e : ℤ) → P (fin false m e)) → (b : Float) → bound b ≡ true → P b
bound_is P p nan k = no k
bound_is P p (inf s) k = no k
bound_is P p (fin true m e) k = no k
bound_is P p (fin false m e) k = p m e

-- of two values where the first is a bound, the order is that of `within`
order_of_bound : (b b' : Float) → bound b ≡ true → bound b' ≡ true → within b' b ≡ true → num b * den b' ≤ num b' * den b
order_of_bound b b' k k' h = bound_is (λ c. within b' c ≡ true → num c * den b' ≤ num b' * den c) (λ m e g. small_of_within b' (fin false m e) k' g) b k h

pub within_more : (b b' x : Float) → bound b ≡ true → bound b' ≡ true → within b' b ≡ true → within b x ≡ true → within b' x ≡ true
within_more b b' x k k' h w = within_of_small b' x k' (small_more x (num b) (den b) (num b') (den b') (den_pos b) (order_of_bound b b' k k' h) (small_of_within b x k w))

pub within_self : (b : Float) → bound b ≡ true → within b b ≡ true
within_self b B = within_of_small b b B (bound_is (λ c. Small c (num c) (den c)) (λ m e. le_refl (m * up e * down e)) b B)

-- ---- rounding: the sign goes through it, and the order stays

size_odd : (d : ℕ) (s : Bool) (q k l : ℕ) → size (odd d s q k l) ≡ odd d false q k l
unfolding odd float_with_sign
size_odd d s zero k l = refl
size_odd d s (suc q) k l = refl

size_units : (f : Format) (s : Bool) (q k : ℕ) → size (units f s q k) ≡ units f false q k
unfolding units float_with_sign
size_units f s q k = go (ltb (q * 2 ^ k) (2 ^ (low f + suc (emax f))))
  where
    go : (b : Bool) → size (cond b (odd (suc (prec f)) s q k (low f)) (inf s)) ≡ cond b (odd (suc (prec f)) false q k (low f)) (inf false)
    go true = size_odd (suc (prec f)) s q k (low f)
    go false = refl

pub size_round : (f : Format) (s : Bool) (a c : ℕ) → size (round f s a c) ≡ round f false a c
size_round f s a c =
    let n = a * 2 ^ low f in
    let k = Ieee.size (n / c) - prec f in
    let u = c * 2 ^ k in
    ap size (round_is f s a c) ∙ size_units f s (nearest (n / u) (compare (n % u * 2) u)) k ∙ sym (round_is f false a c)

pub within_round : (f : Format) (s : Bool) (a c p q : ℕ) → 0 < c → 0 < q → a * q ≤ p * c → within (round f false p q) (round f s a c) ≡ true
unfolding within
within_round f s a c p q C Q h = is_true _ (subst (λ (z : Float). T (le z (round f false p q))) (sym (size_round f s a c)) (round_mono f a c p q C Q h))

-- ---- the operations, by any fractions that bound their arguments

pub small_mul : (x y : Float) (p q r s : ℕ) → 0 < q → 0 < s → Small x p q → Small y r s → within (round binary64 false (p * r) (q * s)) (mul binary64 x y) ≡ true
unfolding mul
small_mul nan y p q r s Q S h k = absurd h
small_mul (inf a) y p q r s Q S h k = absurd h
small_mul (fin a m e) nan p q r s Q S h k = absurd k
small_mul (fin a m e) (inf b) p q r s Q S h k = absurd k
small_mul (fin a m e) (fin b n d) p q r s Q S h k =
    within_round binary64 (unlike a b) (m * up e * (n * up d)) (down e * down d) (p * r) (q * s) (mul-pos (down_pos e) (down_pos d)) (mul-pos Q S) (omega (arith, mul-le-mul h k))

-- a sum or a difference of two sizes is at most their sum
sum_within : (a b : Bool) (x y c p q : ℕ) → 0 < c → 0 < q → (x + y) * q ≤ p * c → within (round binary64 false p q) (sum binary64 a x b y c) ≡ true
unfolding sum
sum_within a b x y c p q C Q h = by_sign (beq a b)
  where
    at_most : (n : ℕ) → n ≤ x + y → n * q ≤ p * c
    at_most n l = le_trans (mul-le-mul_right q l) h

    by_order : (t : Bool) → within (round binary64 false p q) (cond t (round binary64 b (y - x) c) (round binary64 (a && ltb y x) (x - y) c)) ≡ true
    by_order true = within_round binary64 b (y - x) c p q C Q (at_most (y - x) (omega arith))
    by_order false = within_round binary64 (a && ltb y x) (x - y) c p q C Q (at_most (x - y) (omega arith))

    by_sign : (t : Bool) → within (round binary64 false p q) (cond t (round binary64 a (x + y) c) (cond (ltb x y) (round binary64 b (y - x) c) (round binary64 (a && ltb y x) (x - y) c))) ≡ true
    by_sign true = within_round binary64 a (x + y) c p q C Q h
    by_sign false = by_order (ltb x y)

cross_sum : (x dx p q y dy r s : ℕ) → x * q ≤ p * dx → y * s ≤ r * dy → (x * dy + y * dx) * (q * s) ≤ (p * s + r * q) * (dx * dy)
cross_sum x dx p q y dy r s h k = omega (arith, mul-le-mul_right (dy * s) h, mul-le-mul_right (dx * q) k)

small_add : (x y : Float) (p q r s : ℕ) → 0 < q → 0 < s → Small x p q → Small y r s → within (round binary64 false (p * s + r * q) (q * s)) (add binary64 x y) ≡ true
unfolding add
small_add nan y p q r s Q S h k = absurd h
small_add (inf a) y p q r s Q S h k = absurd h
small_add (fin a m e) nan p q r s Q S h k = absurd k
small_add (fin a m e) (inf b) p q r s Q S h k = absurd k
small_add (fin a m e) (fin b n d) p q r s Q S h k =
    sum_within a b (m * up e * down d) (n * up d * down e) (down e * down d) (p * s + r * q) (q * s) (mul-pos (down_pos e) (down_pos d)) (mul-pos Q S)
    (cross_sum (m * up e) (down e) p q (n * up d) (down d) r s h k)

-- finite, and at least r / s in size, which is above 0
abbrev pub Large : Float → ℕ → ℕ → Type 0
Large nan r s = ⊥
Large (inf t) r s = ⊥
Large (fin t n d) r s = (0 < n) × (r * down d ≤ n * up d * s)

pub small_div : (x y : Float) (p q r s : ℕ) → 0 < q → 0 < r → Small x p q → Large y r s → within (round binary64 false (p * s) (r * q)) (div binary64 x y) ≡ true
unfolding div
small_div nan y p q r s Q R h k = absurd h
small_div (inf a) y p q r s Q R h k = absurd h
small_div (fin a m e) nan p q r s Q R h k = absurd k
small_div (fin a m e) (inf b) p q r s Q R h k = absurd k
small_div (fin a m e) (fin b n d) p q r s Q R h k = go (eqb n 0) (eqb→eq n 0)
  where
    value : Float
    value = round binary64 (unlike a b) (m * up e * down d) (n * up d * down e)

    cross : m * up e * down d * (r * q) ≤ p * s * (n * up d * down e)
    cross = omega (arith, mul-le-mul h k.1)

    go : (t : Bool) → (T t → n ≡ 0) → within (round binary64 false (p * s) (r * q)) (cond t (cond (eqb m 0) nan (inf (unlike a b))) value) ≡ true
    go true z = absurd (lt_irrefl 0 (subst (λ (i : ℕ). 0 < i) (z tt) k.0))
    go false z =
        within_round binary64 (unlike a b) (m * up e * down d) (n * up d * down e) (p * s) (r * q) (mul-pos (mul-pos k.0 (up_pos d)) (down_pos e)) (mul-pos R Q) cross

-- ---- the laws: each operation's result is within the same operation on the bounds

pub mul_within : (b c x y : Float) → bound b ≡ true → bound c ≡ true → within b x ≡ true → within c y ≡ true → within (mul binary64 b c) (mul binary64 x y) ≡ true
unfolding mul
mul_within b c x y k l h j = bound_is (λ b'. within b' x ≡ true → within (mul binary64 b' c) (mul binary64 x y) ≡ true) (λ m e g. bound_is (λ c'. within c' y ≡ true → within (mul binary64 (fin false m e) c') (mul binary64 x y) ≡ true) (written m e g) c l j) b k h
  where
    written : (m : ℕ) (e : ℤ) → within (fin false m e) x ≡ true → (n : ℕ) (d : ℤ) → within (fin false n d) y ≡ true → within (mul binary64 (fin false m e) (fin false n d)) (mul binary64 x y) ≡ true
    written m e g n d i = small_mul x y (m * up e) (down e) (n * up d) (down d) (down_pos e) (down_pos d) (small_of_within (fin false m e) x refl g) (small_of_within (fin false n d) y refl i)

pub add_within : (b c x y : Float) → bound b ≡ true → bound c ≡ true → within b x ≡ true → within c y ≡ true → within (add binary64 b c) (add binary64 x y) ≡ true
unfolding add sum
add_within b c x y k l h j = bound_is (λ b'. within b' x ≡ true → within (add binary64 b' c) (add binary64 x y) ≡ true) (λ m e g. bound_is (λ c'. within c' y ≡ true → within (add binary64 (fin false m e) c') (add binary64 x y) ≡ true) (written m e g) c l j) b k h
  where
    written : (m : ℕ) (e : ℤ) → within (fin false m e) x ≡ true → (n : ℕ) (d : ℤ) → within (fin false n d) y ≡ true → within (add binary64 (fin false m e) (fin false n d)) (add binary64 x y) ≡ true
    written m e g n d i = small_add x y (m * up e) (down e) (n * up d) (down d) (down_pos e) (down_pos d) (small_of_within (fin false m e) x refl g) (small_of_within (fin false n d) y refl i)

pub neg_within : (b x : Float) → within b (neg x) ≡ within b x
unfolding within float_with_sign neg
neg_within b nan = refl
neg_within b (inf s) = refl
neg_within b (fin s m e) = refl

pub sub_within : (b c x y : Float) → bound b ≡ true → bound c ≡ true → within b x ≡ true → within c y ≡ true → within (add binary64 b c) (sub binary64 x y) ≡ true
unfolding sub
sub_within b c x y k l h j = add_within b c x (neg y) k l h (neg_within c y ∙ j)

-- ---- the difference of two numbers that are not negative is no larger than the larger one

apart_within : (x y c p q : ℕ) → 0 < c → 0 < q → x * q ≤ p * c → y * q ≤ p * c → within (round binary64 false p q) (sum binary64 false x true y c) ≡ true
unfolding sum
apart_within x y c p q C Q h k = by_order (ltb x y)
  where
    under : (n m : ℕ) → n ≤ m → m * q ≤ p * c → n * q ≤ p * c
    under n m l g = le_trans (mul-le-mul_right q l) g

    by_order : (t : Bool) → within (round binary64 false p q) (cond t (round binary64 true (y - x) c) (round binary64 (false && ltb y x) (x - y) c)) ≡ true
    by_order true = within_round binary64 true (y - x) c p q C Q (under (y - x) y (omega arith) k)
    by_order false = within_round binary64 false (x - y) c p q C Q (under (x - y) x (omega arith) h)

-- a bound that rounding keeps, as every bound that is an f64 does
pub difference_within : (b x y : Float) → bound b ≡ true → round binary64 false (num b) (den b) ≡ b → bound x ≡ true → bound y ≡ true → within b x ≡ true → within b y ≡ true → within b (sub binary64 x y) ≡ true
unfolding sub add neg
difference_within b x y B own X Y h k =
    bound_is (λ x'. within b x' ≡ true → within b (sub binary64 x' y) ≡ true) (λ m e g. bound_is (λ y'. within b y' ≡ true → within b (sub binary64 (fin false m e) y') ≡ true) (written m e g) y Y k) x X h
  where
    written : (m : ℕ) (e : ℤ) → within b (fin false m e) ≡ true → (n : ℕ) (d : ℤ) → within b (fin false n d) ≡ true → within b (sub binary64 (fin false m e) (fin false n d)) ≡ true
    written m e g n d j =
        let s = sub binary64 (fin false m e) (fin false n d) in
        let p = num b in
        let q = den b in
        let x : m * up e * down d * q ≤ p * (down e * down d) = omega (arith, mul-le-mul_right (down d) (small_of_within b (fin false m e) B g)) in
        let y : n * up d * down e * q ≤ p * (down e * down d) = omega (arith, mul-le-mul_right (down e) (small_of_within b (fin false n d) B j)) in
        subst (λ (z : Float). within z s ≡ true) own (apart_within (m * up e * down d) (n * up d * down e) (down e * down d) p q (mul-pos (down_pos e) (down_pos d)) (den_pos b) x y)

-- ---- strictly below a larger bound

pub below_of_within : (b l x : Float) → bound b ≡ true → lt b l ≡ true → within b x ≡ true → lt (size x) l ≡ true
unfolding lt float_with_sign
below_of_within b l x B h w = bound_is (λ b'. lt b' l ≡ true → Small x (num b') (den b') → lt (size x) l ≡ true) (λ n d g k. below_written n d l x g k) b B h (small_of_within b x B w)
  where
    below_written : (n : ℕ) (d : ℤ) (l x : Float) → lt (fin false n d) l ≡ true → Small x (n * up d) (down d) → lt (size x) l ≡ true
    below_written n d l nan g k = absurd k
    below_written n d l (inf s) g k = absurd k
    below_written n d nan (fin s m e) g k = no g
    below_written n d (inf t) (fin s m e) g k = g
    below_written n d (fin true j i) (fin s m e) g k = no g
    below_written n d (fin false j i) (fin s m e) g k =
        let cross : m * up e * down i * down d < j * up i * down e * down d =
        omega (arith, mul-le-mul_right (down i) k, mul-lt-mul_of_pos_right (ltb-true (n * up d * down i) (j * up i * down d) g) (down_pos e)) in
        lt-ltb (m * up e * down i) (j * up i * down e) (lt_of_mul-lt-mul_right (down d) cross)

-- one rounds to itself
pub unit_round : round binary64 false 1 1 ≡ one
unfolding Ieee.of_bits round
unit_round = refl
