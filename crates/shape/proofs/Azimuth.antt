-- The azimuth of a round shape's feature has coordinates of at most 2, wherever it is from.
use Rattle.std.proofs.Common.{◌≡◌, true, Some, None, Option, unwrap_or, sym, refl, subst, inl, inr}
use lib.Ieee.{of_bits, le}
use Rattle.std.specs.Float.{float_with_sign}
use Rattle.std.proofs.lemmas.Bool.{and_parts, cases_Bool, cond-true, cond-false}
use Rattle.math.specs.Floats.{zero, one, two}
use Rattle.math.specs.Limits.{limit}
use Rattle.math.specs.Magnitude.{within, vector_within, vector2_within}
use Rattle.math.specs.Vectors2.{scaled, reciprocal, usable, normalized}
use Rattle.math.specs.declared.vector.Vector.{Vector}
use Rattle.math.specs.declared.vector2.Vector2.{Vector2}
use Rattle.math.proofs.AzimuthMagnitude.{normalized_within}
use Rattle.math.proofs.VectorMagnitude.{coordinates}
use Rattle.shape.specs.Cylinders.{flat, from_hint, azimuth}
use Rattle.shape.specs.Supports.{hint_given, direction_given}

-- what there is, is within 2
abbrev Short : Option Vector2 → Type 0
Short (Some a) = vector2_within two a ≡ true
Short None = Unit {0}

unwrap_or-short : (o : Option Vector2) (a : Vector2) → Short o → vector2_within two a ≡ true → vector2_within two (unwrap_or o a) ≡ true
unwrap_or-short (Some b) a h k = h
unwrap_or-short None a h k = k

normalized_short : (v : Vector) → vector_within limit v ≡ true → Short (normalized (flat v))
unfolding normalized
normalized_short v g =
    let c = coordinates limit v g in
    let f = flat v in
    elim (cases_Bool (usable (reciprocal f))) [
      | inl t ↦ subst Short (sym (cond-true (usable (reciprocal f)) (Some (scaled f (reciprocal f))) None t)) (normalized_within f c.x c.z t)
      | inr t ↦ subst Short (sym (cond-false (usable (reciprocal f)) (Some (scaled f (reciprocal f))) None t)) tt
    ]

hint_short : (hint : Option Vector) → hint_given hint ≡ true → Short (from_hint hint)
hint_short None g = tt
hint_short (Some h) g = normalized_short h g

along_x : vector2_within two (record { x = one; y = zero }) ≡ true
unfolding vector2_within within float_with_sign of_bits le
along_x = refl

pub azimuth_within : (dir : Vector) (hint : Option Vector) → direction_given dir hint ≡ true → vector2_within two (azimuth dir hint) ≡ true
unfolding azimuth
azimuth_within dir hint g =
    let p = and_parts _ _ g in
    unwrap_or-short (from_hint hint) _ (hint_short hint p.1) (unwrap_or-short (normalized (flat dir)) _ (normalized_short dir p.0) along_x)
