-- The contacts of two edges are within the bounds of a contact: accepted poses and axes keep everything far below them.
use Rattle.std.proofs.Common.{◌≡◌, true, ◌&&◌, List, Some, refl, subst}
use lib.Ieee.{Float, of_bits, add, mul, round, lt}
use Rattle.std.proofs.lemmas.Bool.{and_parts, and_from}
use Rattle.math.specs.Floats.{◌⊕◌, ◌⊗◌, size}
use Rattle.math.specs.Limits.{limit, vector_given, pose_given, unit_rotation, unit_vector}
use Rattle.math.specs.MagnitudeLaws.{three_halves}
use Rattle.math.specs.Magnitude.{bound, vector_within}
use Rattle.math.specs.Refusals.{done}
use Rattle.math.specs.Poses.{transformed, untransformed}
use Rattle.math.specs.Vectors.{subtracted, dotted}
use Rattle.math.specs.declared.pose.Pose.{Pose}
use Rattle.math.specs.declared.vector.Vector.{Vector}
use Rattle.math.proofs.Magnitude.{below_of_within}
use Rattle.math.specs.MagnitudeLaws.{rotated_bound, rotates, transformed_bound, untransformed_bound}
use Rattle.math.proofs.RotationMagnitude.{transformed_within, untransformed_within}
use Rattle.math.proofs.UnitMagnitude.{three_halves_bound, unit_components}
use Rattle.math.proofs.VectorMagnitude.{coordinates, subtracted_within, dotted_within}
use Rattle.shape.specs.Features.{Fields}
use Rattle.shape.specs.Nearness.{vertex_limit, vertex_at, all_within, near_all}
use Rattle.query.specs.Bounds.{point_limit, dist_limit, below_all, bounded}
use Rattle.query.specs.Clips.{Clip, clip_limit, clip_near, clipped}
use Rattle.query.specs.Edges.{framed, edge_of, moved}
use Rattle.query.proofs.ClipMagnitude.{end2, clip_limit_is, clipped_near}

-- ---- the closed facts, which antt computes

vertex_rotates : rotates vertex_limit ≡ true
unfolding of_bits add mul round
vertex_rotates = refl

rotated_is : bound (rotated_bound vertex_limit) ≡ true
unfolding of_bits add mul round
rotated_is = refl

moved_is : transformed_bound vertex_limit ≡ end2
unfolding of_bits add mul round
moved_is = refl

clip_rotates : rotates (clip_limit ⊕ limit) ≡ true
unfolding of_bits add mul round
clip_rotates = refl

back_is : bound (untransformed_bound clip_limit) ≡ true
unfolding of_bits add mul round
back_is = refl

back_below : lt (untransformed_bound clip_limit) point_limit ≡ true
unfolding of_bits add mul round lt
back_below = refl

clip_below : lt clip_limit point_limit ≡ true
unfolding of_bits lt
clip_below = refl

abbrev apart : Float
apart = clip_limit ⊕ clip_limit

abbrev part : Float
part = apart ⊗ three_halves

apart_is : bound apart ≡ true
unfolding of_bits add
apart_is = refl

part_is : bound part ≡ true
unfolding of_bits add mul round
part_is = refl

two_parts_is : bound (part ⊕ part) ≡ true
unfolding of_bits add mul round
two_parts_is = refl

parts_is : bound (part ⊕ part ⊕ part) ≡ true
unfolding of_bits add mul round
parts_is = refl

parts_below : lt (part ⊕ part ⊕ part) dist_limit ≡ true
unfolding of_bits add mul round lt
parts_below = refl

all_below : (b : Float) (v : Vector) → bound b ≡ true → lt b point_limit ≡ true → vector_within b v ≡ true → below_all v ≡ true
unfolding below_all
all_below b v B l h =
    let c = coordinates b v h in
    and_from _ _ (and_from _ _ (below_of_within b point_limit v.x B l c.x) (below_of_within b point_limit v.y B l c.y)) (below_of_within b point_limit v.z B l c.z)

-- points and ids exchanged
pub bounded_swap : (p q : Vector) (d : Float) → bounded p q d ≡ true → bounded q p d ≡ true
unfolding bounded
bounded_swap p q d h =
    let a = and_parts (below_all p && below_all q) (lt (size d) dist_limit) h in
    let b = and_parts (below_all p) (below_all q) a.0 in
    and_from (below_all q && below_all p) (lt (size d) dist_limit) (and_from (below_all q) (below_all p) b.1 b.0) a.1

module _ (pose : Pose) (axis : Vector) (fit : framed pose axis ≡ true) where
  pg : pose_given pose ≡ true
  unfolding framed
  pg = (and_parts _ _ (and_parts _ _ (and_parts _ _ fit).0).0).0

  ag : vector_given axis ≡ true
  unfolding framed
  ag = (and_parts _ _ (and_parts _ _ (and_parts _ _ fit).0).0).1

  pu : unit_rotation pose.rotation ≡ true
  unfolding framed
  pu = (and_parts _ _ (and_parts _ _ fit).0).1

  au : unit_vector axis ≡ true
  unfolding framed
  au = (and_parts _ _ fit).1

  -- a vertex of the second feature in the frame of the first
  pub moved_within : (v : Vector) → vector_within vertex_limit v ≡ true → vector_within end2 (transformed pose v) ≡ true
  moved_within v h = subst (λ (b : Float). vector_within b (transformed pose v) ≡ true) moved_is (transformed_within pose pg pu vertex_limit vertex_rotates rotated_is v h)

  pub clip_bounded : (c : Clip) → clip_near c ≡ true → bounded c.0 (untransformed pose c.1) (dotted (subtracted c.1 c.0) axis) ≡ true
  unfolding bounded
  clip_bounded c h =
      let n = and_parts _ _ h in
      let p2 = untransformed_within pose pg pu clip_limit clip_limit_is clip_rotates c.1 n.1 in
      let d = dotted_within apart three_halves apart_is three_halves_bound part_is two_parts_is (subtracted c.1 c.0) axis (subtracted_within clip_limit clip_limit clip_limit_is clip_limit_is c.1 c.0 n.1 n.0) (unit_components axis ag au) in
      and_from _ _ (and_from _ _ (all_below clip_limit c.0 clip_limit_is clip_below n.0) (all_below (untransformed_bound clip_limit) _ back_is back_below p2)) (below_of_within (part ⊕ part ⊕ part) dist_limit _ parts_is parts_below d)

  -- the clip of two features' edges, whatever it answers
  module _ (f1 f2 : Fields) (n1 : near_all f1.vertices ≡ true) (n2 : near_all f2.vertices ≡ true) where
    start : (vs : List Vector) → near_all vs ≡ true → vector_within vertex_limit (vertex_at vs 0) ≡ true
    unfolding all_within
    start vs h = (and_parts _ _ (and_parts _ _ (and_parts _ _ h).0).0).0

    finish : (vs : List Vector) → near_all vs ≡ true → vector_within vertex_limit (vertex_at vs 1) ≡ true
    unfolding all_within
    finish vs h = (and_parts _ _ (and_parts _ _ (and_parts _ _ h).0).0).1

    pub edges_near : (lo hi : Clip) → clipped (edge_of f1) (moved pose (edge_of f2)) ≡ done (Some (lo, hi)) → (clip_near lo ≡ true) × (clip_near hi ≡ true)
    edges_near =
        clipped_near (edge_of f1) (start f1.vertices n1) (finish f1.vertices n1) (moved pose (edge_of f2)) (moved_within _ (start f2.vertices n2)) (moved_within _ (finish f2.vertices n2))
