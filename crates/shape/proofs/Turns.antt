-- Where the vertices of a cylinder's feature stand: a product with an opposite is the opposite product, so each vertex of a cap is a quarter turn from the one before.
use Rattle.std.proofs.Common.{◌≡◌, ℕ, zero, suc, ◌+◌, ◌-◌, ◌*◌, ◌/◌, ◌%◌, ◌^◌, ◌<◌, Bool, true, false, cond, not, eqb, ltb, ◌⊎◌, Some, None, Option, unwrap_or, sym, refl, ap, ◌∙◌, subst, inl, inr}
use Prim.Native.Nat.{compare}
use lib.Ieee as Ieee
use lib.Ieee.{Float, Format, nan, inf, fin, binary64, prec, emax, low, unlike, nearest, odd, units, round, neg, mul, up, down}
use lib.Ieee.Fits.{round_is}
use Rattle.std.proofs.lemmas.Bool.{cond-true, cond-false}
use Rattle.math.specs.Basis.{signed}
use Rattle.math.specs.Floats.{◌⊗◌, opposite, size}
use Rattle.math.specs.Floats as F
use Rattle.math.specs.Vectors2.{normalized}
use Rattle.math.specs.declared.vector.Vector.{Vector}
use Rattle.math.specs.declared.vector2.Vector2.{Vector2}
use Rattle.shape.specs.Cylinders.{flat, from_hint, azimuth, rim, side, top, bottom, cap, half, cylinder_fields, AzimuthFrom, quarter_turned, SegmentAt, SquareAt, StandsAt}
use Rattle.shape.specs.Nearness.{vertex_at}
use Rattle.shape.proofs.Cases.{of_three}

-- ---- opposites

opposite_odd : (d : ℕ) (s : Bool) (q k l : ℕ) → odd d (not s) q k l ≡ neg (odd d s q k l)
unfolding odd neg
opposite_odd d s zero k l = refl
opposite_odd d s (suc q) k l = refl

opposite_units : (f : Format) (s : Bool) (q k : ℕ) → units f (not s) q k ≡ neg (units f s q k)
unfolding units neg
opposite_units f s q k = go (ltb (q * 2 ^ k) (2 ^ (low f + suc (emax f))))
  where
    go : (b : Bool) → cond b (odd (suc (prec f)) (not s) q k (low f)) (inf (not s)) ≡ neg (cond b (odd (suc (prec f)) s q k (low f)) (inf s))
    go true = opposite_odd (suc (prec f)) s q k (low f)
    go false = refl

opposite_round : (f : Format) (s : Bool) (a c : ℕ) → round f (not s) a c ≡ neg (round f s a c)
opposite_round f s a c =
    let n = a * 2 ^ low f in
    let k = Ieee.size (n / c) - prec f in
    let u = c * 2 ^ k in
    round_is f (not s) a c ∙ opposite_units f s (nearest (n / u) (compare (n % u * 2) u)) k ∙ ap neg (sym (round_is f s a c))

other_sign : (s t : Bool) → unlike (not s) t ≡ not (unlike s t)
other_sign true true = refl
other_sign true false = refl
other_sign false true = refl
other_sign false false = refl

opposite_inf : (b s t : Bool) → cond b nan (inf (unlike (not s) t)) ≡ neg (cond b nan (inf (unlike s t)))
unfolding neg
opposite_inf true s t = refl
opposite_inf false s t = ap inf (other_sign s t)

pub opposite_product : (x y : Float) → opposite x ⊗ y ≡ opposite (x ⊗ y)
unfolding mul neg
opposite_product nan y = refl
opposite_product (inf s) nan = refl
opposite_product (inf s) (inf t) = ap inf (other_sign s t)
opposite_product (inf s) (fin t n d) = opposite_inf (eqb n 0) s t
opposite_product (fin s m e) nan = refl
opposite_product (fin s m e) (inf t) = opposite_inf (eqb m 0) s t
opposite_product (fin s m e) (fin t n d) =
    ap (λ (b : Bool). round binary64 b (m * up e * (n * up d)) (down e * down d)) (other_sign s t) ∙ opposite_round binary64 (unlike s t) (m * up e * (n * up d)) (down e * down d)

opposite_twice : (x : Float) → x ≡ opposite (opposite x)
unfolding neg
opposite_twice nan = refl
opposite_twice (inf true) = refl
opposite_twice (inf false) = refl
opposite_twice (fin true m e) = refl
opposite_twice (fin false m e) = refl

-- ---- the square on a rim

rim_turns : (y r : Float) (az : Vector2) (i : ℕ) → i < 3 → vertex_at (rim y r az) (suc i) ≡ quarter_turned (vertex_at (rim y r az) i)
rim_turns y r az =
    let a = opposite_product az.x r in
    let b = opposite_product az.y r in
    let d = opposite_twice (az.y ⊗ r) in
    of_three (λ i. vertex_at (rim y r az) (suc i) ≡ quarter_turned (vertex_at (rim y r az) i)) (cc) (cc) (cc)

cap_square : (hh r : Float) (dir : Vector) (az : Vector2) → SquareAt (signed dir.y hh) r az (cap hh r dir az)
unfolding cap top bottom
cap_square hh r dir az = go (Ieee.lt dir.y F.zero)
  where
    go : (b : Bool) → SquareAt (signed dir.y hh) r az (cond b (bottom (signed dir.y hh) r az) (top (signed dir.y hh) r az))
    go true = record { four_vertices = refl; first = refl; next = rim_turns (signed dir.y hh) r az }
    go false = record { four_vertices = refl; first = refl; next = rim_turns (signed dir.y hh) r az }

side_segment : (hh r : Float) (az : Vector2) → SegmentAt hh r az (side hh r az)
unfolding side
side_segment hh r az = record { two_vertices = refl; lower = refl; upper = refl }

pub stands : (hh r : Float) (dir : Vector) (az : Vector2) → StandsAt hh r dir az (cylinder_fields hh r dir az)
unfolding cylinder_fields
stands hh r dir az =
    let t = Ieee.lt (size dir.y) half in
    record {
      beside = λ h. subst (SegmentAt hh r az) (sym (cond-true t (side hh r az) (cap hh r dir az) h)) (side_segment hh r az);
      above_or_below = λ h. subst (SquareAt (signed dir.y hh) r az) (sym (cond-false t (side hh r az) (cap hh r dir az) h)) (cap_square hh r dir az);
    }

-- ---- the azimuth

first_there : (o p : Option Vector2) (a : Vector2) → (o ≡ Some (unwrap_or o (unwrap_or p a))) ⊎ ((o ≡ None) × (p ≡ Some (unwrap_or o (unwrap_or p a)))) ⊎ ((o ≡ None) × (p ≡ None) × (unwrap_or o (unwrap_or p a) ≡ a))
first_there (Some b) p a = inl refl
first_there None (Some b) a = inr (inl (refl, refl))
first_there None None a = inr (inr (refl, refl, refl))

pub azimuth_from : (dir : Vector) (hint : Option Vector) → AzimuthFrom dir hint (azimuth dir hint)
unfolding azimuth
azimuth_from dir hint = first_there (from_hint hint) (normalized (flat dir)) _
