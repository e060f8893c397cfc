-- Where two lines of the plane meet, after Ericson, Real-Time Collision Detection: the formulas, as f64 computes them and as exact numbers have them.
use Rattle.std.specs.Prelude.{◌≡◌, Bool, cond, ◌&&◌, ◌||◌, List, ℤ, pos, ◌+ℤ◌, ◌-ℤ◌, ◌*ℤ◌, Some, None, Option, ◌≢◌, Float}
use Rattle.std.specs.Float.Ieee as Ieee
use Rattle.math.specs.Floats.{◌⊕◌, ◌⊖◌, ◌⊗◌, ◌⊘◌, opposite, zero}
use Rattle.math.specs.Limits.{limit}
use Rattle.math.specs.Magnitude.{vector2_within}
use Rattle.math.specs.Nearly.{epsilon, bits_close}
use Rattle.math.specs.Refusals.{Answer, done, refused}
use Rattle.math.specs.Vectors2.{point_at, subtracted, dotted}
use Rattle.math.specs.declared.vector2.Vector2.{Vector2}

-- ---- the formulas, over any numbers

-- p × q − r × s
abbrev pub cross_difference : {N : Type 0} → (N → N → N) → (N → N → N) → N → N → N → N → N
cross_difference times minus p q r s = minus (times p q) (times r s)

-- the numerator of s, the denominator of s, and the numerator of t
abbrev pub numerator_s : {N : Type 0} → (N → N → N) → (N → N → N) → N → N → N → N → N
numerator_s times minus b c e f = cross_difference times minus b f c e

abbrev pub denominator : {N : Type 0} → (N → N → N) → (N → N → N) → N → N → N → N
denominator times minus a b e = cross_difference times minus a e b b

-- ---- as f64 computes them

-- the lines through two points each; r leads from the start of the second to that of the first
pub record Products : Type 0 where
  pub a : Float
  pub b : Float
  pub c : Float
  pub e : Float
  pub f : Float

unfoldable pub products : List Vector2 → List Vector2 → Products
products edge1 edge2 =
    let d1 = subtracted (point_at edge1 1) (point_at edge1 0) in
    let d2 = subtracted (point_at edge2 1) (point_at edge2 0) in
    let r = subtracted (point_at edge1 0) (point_at edge2 0) in
    record { a = dotted d1 d1; b = dotted d1 d2; c = dotted d1 r; e = dotted d2 d2; f = dotted d2 r }

-- at most 2^-52
abbrev pub tiny : Float → Bool
tiny x = Ieee.le x epsilon

-- a × e and b × b are too near each other for the lines to meet in one place
unfoldable pub parallel : Products → Bool
parallel p = tiny (denominator ◌⊗◌ ◌⊖◌ p.a p.b p.e) || bits_close (p.a ⊗ p.e) (p.b ⊗ p.b)

abbrev pub place_s : Products → Float
place_s p = numerator_s ◌⊗◌ ◌⊖◌ p.b p.c p.e p.f ⊘ denominator ◌⊗◌ ◌⊖◌ p.a p.b p.e

abbrev pub place_t : Products → Float
place_t p = (p.b ⊗ place_s p ⊕ p.f) ⊘ p.e

-- Two lines of no length meet at their starts; one of no length is met at its start; none where they are parallel.
unfoldable pub meeting : Products → Option (Float × Float)
meeting p =
    cond (tiny p.a && tiny p.e) (Some (zero, zero))
    (cond (tiny p.a) (Some (zero, p.f ⊘ p.e))
    (cond (tiny p.e) (Some (opposite p.c ⊘ p.a, zero))
    (cond (parallel p) None (Some (place_s p, place_t p)))))

-- Turned down with 2 where a coordinate may not be given.
unfoldable pub meeting_answer : List Vector2 → List Vector2 → Answer (Option (Float × Float))
meeting_answer edge1 edge2 =
    cond (vector2_within limit (point_at edge1 0) && vector2_within limit (point_at edge1 1) && vector2_within limit (point_at edge2 0) && vector2_within limit (point_at edge2 1))
    (done (meeting (products edge1 edge2))) (refused 2)

-- ---- as exact numbers have them: coordinates are whole numbers in any common unit, so every fraction is covered

pub record Lines : Type 0 where
  pub x1 : ℤ
  pub y1 : ℤ
  pub x2 : ℤ
  pub y2 : ℤ
  pub xr : ℤ
  pub yr : ℤ

abbrev pub exact_dot : ℤ → ℤ → ℤ → ℤ → ℤ
exact_dot x y x' y' = x *ℤ x' +ℤ y *ℤ y'

module _ (l : Lines) where
  abbrev pub A : ℤ
  A = exact_dot l.x1 l.y1 l.x1 l.y1

  abbrev pub B : ℤ
  B = exact_dot l.x1 l.y1 l.x2 l.y2

  abbrev pub C : ℤ
  C = exact_dot l.x1 l.y1 l.xr l.yr

  abbrev pub E : ℤ
  E = exact_dot l.x2 l.y2 l.x2 l.y2

  abbrev pub F : ℤ
  F = exact_dot l.x2 l.y2 l.xr l.yr

  -- s is S / Q, and t, which is (b s + f) / e, is T / (E Q)
  abbrev pub S : ℤ
  S = numerator_s ◌*ℤ◌ ◌-ℤ◌ B C E F

  abbrev pub Q : ℤ
  Q = denominator ◌*ℤ◌ ◌-ℤ◌ A B E

  abbrev pub T : ℤ
  T = B *ℤ S +ℤ F *ℤ Q

-- What the formulas give, for every pair of lines with a e other than b b, where neither Q nor E Q is 0: the join of the two points, r + s d1 − t d2, is at right angles to both lines;
-- no other places on them have such a join; and the join is nothing, so that the two points are one.
pub record Ericson (l : Lines) : Type 0 where
  pub proper : (Q l ≢ pos 0) → E l *ℤ Q l ≢ pos 0
  pub across_first : E l *ℤ (C l *ℤ Q l +ℤ A l *ℤ S l) ≡ B l *ℤ T l
  pub across_second : E l *ℤ (F l *ℤ Q l +ℤ B l *ℤ S l) ≡ E l *ℤ T l
  pub only : (s t q : ℤ) → C l *ℤ q +ℤ A l *ℤ s ≡ B l *ℤ t → F l *ℤ q +ℤ B l *ℤ s ≡ E l *ℤ t → (s *ℤ Q l ≡ S l *ℤ q) × (t *ℤ (E l *ℤ Q l) ≡ T l *ℤ q)
  pub same_x : l.xr *ℤ (E l *ℤ Q l) +ℤ l.x1 *ℤ (E l *ℤ S l) ≡ l.x2 *ℤ T l
  pub same_y : l.yr *ℤ (E l *ℤ Q l) +ℤ l.y1 *ℤ (E l *ℤ S l) ≡ l.y2 *ℤ T l
