-- The whole part of a square root, and how it bounds the root that `sqrt` rounds.
use Rattle.std.proofs.Common.{◌≡◌, ℕ, ℤ, zero, suc, ◌+◌, ◌*◌, ◌/◌, ◌^◌, ◌<◌, ◌≤◌, Bool, false, pos, refl, sym, subst, lt_of_le_of_lt, mul-le-mul, lt_of_not-le, arith}
use lib.Ieee.{size}
use lib.Ieee.Root.{Root, whole_part}
use lib.Ieee.{Float, binary64, fin, up, down, round, sqrt, root_below, root_twice}
use Rattle.math.specs.Floats.{root}

unfoldable pub whole_root : ℕ → ℕ
whole_root n = root_below (size n) n

pub whole_root_is : (n : ℕ) → Root (whole_root n) n
unfolding whole_root
whole_root_is = whole_part

pub lt_of_squares : (a b : ℕ) → a * a < b * b → a < b
lt_of_squares a b h = lt_of_not-le (λ (g : b ≤ a). omega (arith, mul-le-mul g g))

-- what squares to at most n is at most the whole root of n
pub root_reaches : (k n : ℕ) → k * k ≤ n → k ≤ whole_root n
root_reaches k n h =
    let r = whole_root_is n in
    let l : k < whole_root n + 1 = lt_of_squares k (whole_root n + 1) (lt_of_le_of_lt h r.1) in
    omega arith

-- twice the root, cut to a whole number where the root is whole and to an odd one elsewhere, is at least twice what squares to at most n
pub twice_reaches : (k n : ℕ) → k * k ≤ n → 2 * k ≤ root_twice n
unfolding root_twice whole_root
twice_reaches k n h = omega (arith, root_reaches k n h)

-- What `sqrt` rounds at a number above zero. Proofs cite this, since `sqrt` opened there would open `round` with it.
pub root_rounded : (m : ℕ) (e : ℤ) → root (fin false (suc m) e) ≡ round binary64 false (root_twice (suc m * up e * 2 ^ 4542 / down e)) (2 ^ 2272)
unfolding sqrt
root_rounded m e = refl

-- the root of a zero is a zero of its sign
pub root_zero : (s : Bool) (e : ℤ) → root (fin s zero e) ≡ fin s zero (pos 0)
unfolding sqrt
root_zero s e = refl

-- what holds of the number that is rounded holds of the root
pub of_root : (P : Float → Type 0) (m : ℕ) (e : ℤ) → P (round binary64 false (root_twice (suc m * up e * 2 ^ 4542 / down e)) (2 ^ 2272)) → P (root (fin false (suc m) e))
of_root P m e p = subst P (sym (root_rounded m e)) p
