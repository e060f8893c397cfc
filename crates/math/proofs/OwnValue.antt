-- A value that the format holds, written as a fraction, rounds to its own value.
use Rattle.std.proofs.Common.{◌≡◌, ℕ, zero, suc, ◌+◌, ◌-◌, ◌*◌, ◌%◌, ◌^◌, ◌<◌, ◌≤◌, Bool, true, false, ◌&&◌, T, eqb, ltb, leb, ℤ, pos, negsuc, sym, refl, ap, ◌∙◌, subst, inl, inr, le_of_eq, lt_of_lt_of_le, lt_irrefl, mul_assoc, mul-lt-mul_of_pos_right, zero-mul, mul-one, arith, lit<, ltb→lt, leb→le, pow_pos, pow_mono, pow-add, shl_lt}
use lib.Pow.{pow-lt}
use lib.Ieee.{fin, binary64, prec, emax, low, up, down, round, fits}
use lib.Ieee.Digits.{back}
use lib.Ieee.Exact.{HasValue, round_exact}
use lib.Ieee.Fits.{down_pos}
use Rattle.std.proofs.lemmas.Bool.{cases_lt}

pub exponent_le : (k l : ℕ) → 2 ^ k ≤ 2 ^ l → k ≤ l
exponent_le k l h = elim (cases_lt l k) [ inl g ↦ absurd (lt_irrefl (2 ^ l) (lt_of_lt_of_le (pow-lt g) h)) | inr g ↦ g ]

own_zero : (t : Bool) (e : ℤ) → HasValue (round binary64 t (0 * up e) (down e)) t (0 * up e) (down e)
own_zero t e = round_exact binary64 t (0 * up e) (down e) 0 0 (down_pos e) (lit< tt) (lit< tt) (simp zero-mul)

own_whole : (t : Bool) (m k : ℕ) → m < 2 ^ prec binary64 → m * 2 ^ k < 2 ^ suc (emax binary64) * 1 → HasValue (round binary64 t (m * 2 ^ k) 1) t (m * 2 ^ k) 1
own_whole t m k small below =
    let l = low binary64 in
    let e : m * 2 ^ k * 2 ^ l ≡ m * 2 ^ (k + l) = mul_assoc m (2 ^ k) (2 ^ l) ∙ ap (λ (p : ℕ). m * p) (sym (pow-add 2 k l)) in
    let b : m * 2 ^ k * 2 ^ l < 2 ^ suc (emax binary64) * 2 ^ l = mul-lt-mul_of_pos_right (subst (λ (p : ℕ). m * 2 ^ k < p) (mul-one (2 ^ suc (emax binary64))) below) (pow_pos l) in
    let fine : m * 2 ^ (k + l) < 2 ^ (l + suc (emax binary64)) = subst (λ (p : ℕ). p < 2 ^ (l + suc (emax binary64))) e (lt_of_lt_of_le b (le_of_eq refl)) in
    round_exact binary64 t (m * 2 ^ k) 1 m (k + l) (lit< tt) small fine (e ∙ sym (mul-one (m * 2 ^ (k + l))))

own_part : (t : Bool) (m k : ℕ) → m < 2 ^ prec binary64 → suc k ≤ low binary64 → HasValue (round binary64 t (m * 1) (2 ^ suc k)) t (m * 1) (2 ^ suc k)
own_part t m k small deep =
    let l = low binary64 in
    let j = l - suc k in
    let room : prec binary64 + j ≤ l + suc (emax binary64) = omega arith in
    let fine : m * 2 ^ j < 2 ^ (l + suc (emax binary64)) = lt_of_lt_of_le (shl_lt (prec binary64) j small) (pow_mono room) in
    let e : m * 1 * 2 ^ l ≡ m * 2 ^ j * 2 ^ suc k =
    ap (λ (p : ℕ). p * 2 ^ l) (mul-one m) ∙ ap (λ (p : ℕ). m * p) (ap (λ (p : ℕ). 2 ^ p) (sym (back l (suc k) deep)) ∙ pow-add 2 j (suc k)) ∙ sym (mul_assoc m (2 ^ j) (2 ^ suc k)) in
    round_exact binary64 t (m * 1) (2 ^ suc k) m j (pow_pos (suc k)) small fine e

four : (a b c d : Bool) → T (a && b && c && d) → T b × T c × T d
four true true true true h = (tt, tt, tt)
four true true true false h = absurd h
four true true false d h = absurd h
four true false c d h = absurd h
four false b c d h = absurd h

-- what the format asks of a value above zero: few digits, and an exponent within its range
pub held : (s : Bool) (m : ℕ) (e : ℤ) → T (fits binary64 (fin s (suc m) e)) → (suc m < 2 ^ prec binary64) × (down e ≤ 2 ^ low binary64) × (suc m * up e < 2 ^ suc (emax binary64) * down e)
unfolding fits
held s m e h =
    let t = four (eqb (suc m % 2) 1) (ltb (suc m) (2 ^ prec binary64)) (leb (down e) (2 ^ low binary64)) (ltb (suc m * up e) (2 ^ suc (emax binary64) * down e)) h in
    (ltb→lt (suc m) (2 ^ prec binary64) t.0, leb→le (down e) (2 ^ low binary64) t.1, ltb→lt (suc m * up e) (2 ^ suc (emax binary64) * down e) t.2)

-- with any sign
pub own_value : (s t : Bool) (m : ℕ) (e : ℤ) → T (fits binary64 (fin s m e)) → HasValue (round binary64 t (m * up e) (down e)) t (m * up e) (down e)
own_value s t zero e h = own_zero t e
own_value s t (suc m) (pos k) h = let n = held s m (pos k) h in own_whole t (suc m) k n.0 n.2
own_value s t (suc m) (negsuc k) h = let n = held s m (negsuc k) h in own_part t (suc m) k n.0 (exponent_le (suc k) (low binary64) n.1)
