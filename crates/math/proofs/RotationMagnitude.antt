-- How far an accepted rotation or pose takes a vector: rotated, a coordinate grows at most 24.5 times.
use Rattle.std.proofs.Common.{◌≡◌, true, false, refl, subst, rules}
use lib.Ieee.{Float, nan, inf, fin, binary64, of_bits, round, neg, mul, le}
use lib.Ieee.Positive.{num, den}
use Rattle.std.specs.Float.{float_with_sign}
use Rattle.std.proofs.lemmas.Bool.{and_parts}
use Rattle.math.specs.Floats.{◌⊕◌, ◌⊖◌, ◌⊗◌, two}
use Rattle.math.specs.Limits.{limit, pose_given, unit_rotation}
use Rattle.math.specs.Magnitude.{bound, within, vector_within}
use Rattle.math.specs.MagnitudeLaws.{three_halves, along, product, axial, turned, rotated_bound, rotates, transformed_bound, untransformed_bound}
use Rattle.math.specs.Poses.{inverted, rotated, transformed, untransformed}
use Rattle.math.specs.Vectors.{subtracted, negated, dotted, crossed}
use Rattle.math.specs.declared.pose.Pose.{Pose}
use Rattle.math.specs.declared.pose.Rotation.{Rotation}
use Rattle.math.specs.declared.vector.Vector.{Vector}
use Rattle.math.proofs.Magnitude.{mul_within, difference_within}
use Rattle.math.proofs.UnitMagnitude.{three_halves_bound, two_bound, limit_bound, Accepted, accepted}
use Rattle.math.proofs.VectorMagnitude.{added_within, subtracted_within, scaled_within, dotted_within, crossed_within, negated_within}

two_itself : within two two ≡ true
unfolding within float_with_sign of_bits le
two_itself = refl

two_own : round binary64 false (num two) (den two) ≡ two
unfolding of_bits round
two_own = refl

module _ (v : Float) (ok : rotates v ≡ true) (q : Rotation) (a : Accepted q) where
  pub rotated_within : (u : Vector) → vector_within v u ≡ true → vector_within (rotated_bound v) (rotated q u) ≡ true
  unfolding rotated
  rotated_within u h =
      let V : bound v ≡ true = search rules in
      let along_is : bound (along v) ≡ true = search rules in
      let axial_is : bound (axial v) ≡ true = search rules in
      let turned_is : bound (turned v) ≡ true = search rules in
      let both_are : bound (along v ⊕ axial v) ≡ true = search rules in
      let b = q.b in
      let w = q.w in
      let straight = scaled_within v two V two_bound u (w ⊗ w ⊖ dotted b b) h (difference_within two (w ⊗ w) (dotted b b) two_bound two_own a.ww_bound a.bb_bound a.ww a.bb) in
      let dot = dotted_within v three_halves V three_halves_bound (search rules) (search rules) u b h a.b in
      let twice = mul_within (product v) two (dotted u b) two (search rules) two_bound dot two_itself in
      let onto = scaled_within three_halves (product v ⊗ two) three_halves_bound (search rules) b (dotted u b ⊗ two) a.b twice in
      let cross = crossed_within three_halves v three_halves_bound V (search rules) (search rules) b u a.b h in
      let weight = mul_within three_halves two w two three_halves_bound two_bound a.w two_itself in
      let across = scaled_within (three_halves ⊗ v ⊕ v ⊗ three_halves) (three_halves ⊗ two) (search rules) (search rules) (crossed b u) (w ⊗ two) cross weight in
      added_within (along v ⊕ axial v) (turned v) both_are turned_is _ _ (added_within (along v) (axial v) along_is axial_is _ _ straight onto) across

-- ---- poses

opposite_square : (x : Float) → neg x ⊗ neg x ≡ x ⊗ x
unfolding neg mul
opposite_square nan = refl
opposite_square (inf true) = refl
opposite_square (inf false) = refl
opposite_square (fin true m e) = refl
opposite_square (fin false m e) = refl

negated_dot : (v : Vector) → dotted v v ≡ dotted (negated v) (negated v)
unfolding dotted negated
negated_dot v = let x = opposite_square v.x in let y = opposite_square v.y in let z = opposite_square v.z in cc

pub accepted_inverse : (q : Rotation) → Accepted q → Accepted (inverted q)
unfolding inverted
accepted_inverse q a =
    let same = negated_dot q.b in
    record {
      b = negated_within three_halves q.b a.b;
      w = a.w;
      bb = subst (λ (s : Float). within two s ≡ true) same a.bb;
      bb_bound = subst (λ (s : Float). bound s ≡ true) same a.bb_bound;
      ww = a.ww;
      ww_bound = a.ww_bound;
    }

module _ (p : Pose) (given : pose_given p ≡ true) (unit : unit_rotation p.rotation ≡ true) where
  pub translation_within : vector_within limit p.translation ≡ true
  unfolding pose_given
  translation_within = (and_parts _ _ (and_parts _ _ given).0).0

  pub rotation_accepted : Accepted p.rotation
  unfolding pose_given
  rotation_accepted = accepted p.rotation (and_parts _ _ (and_parts _ _ given).0).1 (and_parts _ _ given).1 unit

  pub transformed_within : (v : Float) → rotates v ≡ true → bound (rotated_bound v) ≡ true → (u : Vector) → vector_within v u ≡ true → vector_within (transformed_bound v) (transformed p u) ≡ true
  unfolding transformed
  transformed_within v ok B u h = added_within (rotated_bound v) limit B limit_bound _ _ (rotated_within v ok p.rotation rotation_accepted u h) translation_within

  pub untransformed_within : (v : Float) → bound v ≡ true → rotates (v ⊕ limit) ≡ true → (u : Vector) → vector_within v u ≡ true → vector_within (untransformed_bound v) (untransformed p u) ≡ true
  unfolding untransformed
  untransformed_within v V ok u h =
      rotated_within (v ⊕ limit) ok (inverted p.rotation) (accepted_inverse p.rotation rotation_accepted) (subtracted u p.translation) (subtracted_within v limit V limit_bound u p.translation h translation_within)
