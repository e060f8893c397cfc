-- The square root: the rule by whole numbers, and the standard's own words, that no other f64 is as near to the exact root.
use Rattle.std.specs.Prelude.{◌≡◌, ℕ, zero, suc, ◌+◌, ◌-◌, ◌*◌, ◌^◌, ◌<◌, ◌≤◌, true, false, cond, T, nat_le, Float}
use Rattle.std.specs.Float.{nan, inf, fin, binary64}
use Rattle.std.specs.Float.Ieee.{fits}
use Rattle.std.specs.Float.Ieee.Exact.{HasValue}
use Rattle.std.specs.Float.Ieee.Positive.{num, den}
use Rattle.math.specs.Magnitude.{bound}

-- q, or q + 1 where m - q * q is above q
abbrev pub chosen : ℕ → ℕ → ℕ
chosen m q = cond (nat_le (m - q * q) q) q (q + 1)

-- v is m × 4^k for a whole m from 2^104 up to 2^106, with k = i - j; q is the largest whole number whose square is at most m; and r is q × 2^k or (q + 1) × 2^k.
pub record Rooted (v r : Float) : Type 0 where
  pub m : ℕ
  pub q : ℕ
  pub i : ℕ
  pub j : ℕ
  pub at_least : 2 ^ 104 ≤ m
  pub below : m < 2 ^ 106
  pub value : num v * 4 ^ j ≡ m * 4 ^ i * den v
  pub square : q * q ≤ m
  pub next_square : m < (q + 1) * (q + 1)
  pub root : HasValue r false (chosen m q * 2 ^ i) (2 ^ j)

-- twice the point half way between r and x, over the product of their denominators
abbrev pub middle : Float → Float → ℕ
middle r x = num r * den x + num x * den r

-- 4 times v, over the square of that product
abbrev pub target : Float → Float → Float → ℕ
target v r x = 4 * num v * (den r * den x * (den r * den x))

-- Every other f64 that is not negative lies farther from the exact root than r does: the root is below the point half way to a larger one, and above the point half way to a smaller one.
-- Said by squares: 4 v is below (r + x) squared, or above it. Neither is ever equal, so there is no tie.
pub record Nearest (v r : Float) : Type 0 where
  pub larger : (x : Float) → T (fits binary64 x) → bound x ≡ true → num r * den x < num x * den r → target v r x < middle r x * middle r x * den v
  pub smaller : (x : Float) → T (fits binary64 x) → bound x ≡ true → num x * den r < num r * den x → middle r x * middle r x * den v < target v r x

-- What the root is, for every f64. A zero is its own root, sign and all; what is below zero has none.
abbrev pub RootIs : Float → Float → Type 0
RootIs nan r = r ≡ nan
RootIs (inf false) r = r ≡ inf false
RootIs (inf true) r = r ≡ nan
RootIs (fin s zero e) r = r ≡ fin s zero e
RootIs (fin true (suc n) e) r = r ≡ nan
RootIs (fin false (suc n) e) r = Rooted (fin false (suc n) e) r × Nearest (fin false (suc n) e) r
