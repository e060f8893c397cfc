-- The numbers of a contact are no NaN: each is below a bound in size, and a NaN is below nothing.
use Rattle.std.proofs.Common.{◌≡◌, true, not, T, sym, true≢false}
use lib.Ieee.{Float, nan, inf, fin, lt, is_nan}
use Rattle.std.proofs.lemmas.Bool.{and_parts}
use Rattle.std.specs.Float.{float_with_sign}
use Rattle.math.specs.Floats.{size}
use Rattle.math.specs.declared.vector.Vector.{Vector}
use Rattle.query.specs.Bounds.{below_all, bounded}
use Rattle.query.specs.declared.contact_manifold.TrackedContact.{TrackedContact}

below_number : (x y : Float) → lt (size x) y ≡ true → T (not (is_nan x))
unfolding lt is_nan float_with_sign
below_number nan y e = absurd (true≢false (sym e))
below_number (inf s) y e = tt
below_number (fin s m k) y e = tt

-- a point's three numbers
pub record AreNumbers (v : Vector) : Type 0 where
  pub x : T (not (is_nan v.x))
  pub y : T (not (is_nan v.y))
  pub z : T (not (is_nan v.z))

below_numbers : (v : Vector) → below_all v ≡ true → AreNumbers v
unfolding below_all
below_numbers v e =
    let xyz = and_parts _ _ e in
    let xy = and_parts _ _ xyz.0 in
    record { x = below_number v.x _ xy.0; y = below_number v.y _ xy.1; z = below_number v.z _ xyz.1 }

-- those of a contact
pub record HasNumbers {D : Type 0} (k : TrackedContact D) : Type 0 where
  pub p1 : AreNumbers k.local_p1
  pub p2 : AreNumbers k.local_p2
  pub dist : T (not (is_nan k.dist))

pub has_numbers : {D : Type 0} (k : TrackedContact D) → HasNumbers k
unfolding bounded
has_numbers k =
    let e = and_parts _ _ k.lawful in
    let points = and_parts _ _ e.0 in
    record { p1 = below_numbers k.local_p1 points.0; p2 = below_numbers k.local_p2 points.1; dist = below_number k.dist _ e.1 }
