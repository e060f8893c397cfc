-- The laws of magnitude: from bounds on the arguments of an operation to a bound on its result. A bound is an f64, and the bound of a result is the same operation on the bounds.
use Rattle.std.specs.Prelude.{◌≡◌, ◌<◌, Bool, true, ◌&&◌, Float}
use Rattle.std.specs.Float.Ieee.Positive.{num}
use Rattle.math.specs.Basis.{basis0, basis1}
use Rattle.math.specs.Floats.{◌⊕◌, ◌⊖◌, ◌⊗◌, ◌⊘◌, opposite, size, root, bits, two}
use Rattle.math.specs.Limits.{limit, pose_given, unit_rotation, unit_vector}
use Rattle.math.specs.Magnitude.{bound, within, vector_within, vector2_within}
use Rattle.math.specs.Poses.{rotated, transformed, untransformed}
use Rattle.math.specs.Vectors.{added, subtracted, negated, scaled, dotted, crossed}
use Rattle.math.specs.Vectors2 as Plane
use Rattle.math.specs.declared.pose.Pose.{Pose}
use Rattle.math.specs.declared.vector.Vector.{Vector}
use Rattle.math.specs.declared.vector2.Vector2.{Vector2}

-- ---- the operations of f64

pub record OperationLaws : Type 0 where
  pub negation : (b x : Float) → within b (opposite x) ≡ within b x
  pub sum : (b c x y : Float) → bound b ≡ true → bound c ≡ true → within b x ≡ true → within c y ≡ true → within (b ⊕ c) (x ⊕ y) ≡ true
  pub difference : (b c x y : Float) → bound b ≡ true → bound c ≡ true → within b x ≡ true → within c y ≡ true → within (b ⊕ c) (x ⊖ y) ≡ true
  pub product : (b c x y : Float) → bound b ≡ true → bound c ≡ true → within b x ≡ true → within c y ≡ true → within (b ⊗ c) (x ⊗ y) ≡ true
  -- y is finite and at least l in size, which is above 0
  pub quotient : (b l x y : Float) → bound b ≡ true → bound l ≡ true → 0 < num l → bound (size y) ≡ true → within b x ≡ true → within (size y) l ≡ true → within (b ⊘ l) (x ⊘ y) ≡ true
  pub square_root : (b x : Float) → bound b ≡ true → bound x ≡ true → within b x ≡ true → 0 < num b → within (root b) (root x) ≡ true

-- ---- vectors, by one bound on all coordinates

pub record VectorLaws : Type 0 where
  pub negated : (b : Float) (v : Vector) → vector_within b v ≡ true → vector_within b (negated v) ≡ true
  pub added : (b c : Float) → bound b ≡ true → bound c ≡ true → (u v : Vector) → vector_within b u ≡ true → vector_within c v ≡ true → vector_within (b ⊕ c) (added u v) ≡ true
  pub subtracted : (b c : Float) → bound b ≡ true → bound c ≡ true → (u v : Vector) → vector_within b u ≡ true → vector_within c v ≡ true → vector_within (b ⊕ c) (subtracted u v) ≡ true
  pub scaled : (b c : Float) → bound b ≡ true → bound c ≡ true → (v : Vector) (f : Float) → vector_within b v ≡ true → within c f ≡ true → vector_within (b ⊗ c) (scaled v f) ≡ true
  pub dotted : (b c : Float) → bound b ≡ true → bound c ≡ true → bound (b ⊗ c) ≡ true → bound (b ⊗ c ⊕ b ⊗ c) ≡ true → (u v : Vector) → vector_within b u ≡ true → vector_within c v ≡ true → within (b ⊗ c ⊕ b ⊗ c ⊕ b ⊗ c) (dotted u v) ≡ true
  pub crossed : (b c : Float) → bound b ≡ true → bound c ≡ true → bound (b ⊗ c) ≡ true → bound (c ⊗ b) ≡ true → (u v : Vector) → vector_within b u ≡ true → vector_within c v ≡ true → vector_within (b ⊗ c ⊕ c ⊗ b) (crossed u v) ≡ true
  pub plane_subtracted : (b c : Float) → bound b ≡ true → bound c ≡ true → (u v : Vector2) → vector2_within b u ≡ true → vector2_within c v ≡ true → vector2_within (b ⊕ c) (Plane.subtracted u v) ≡ true
  pub plane_dotted : (b c : Float) → bound b ≡ true → bound c ≡ true → bound (b ⊗ c) ≡ true → (u v : Vector2) → vector2_within b u ≡ true → vector2_within c v ≡ true → within (b ⊗ c ⊕ b ⊗ c) (Plane.dotted u v) ≡ true
  pub perp_dotted : (b c : Float) → bound b ≡ true → bound c ≡ true → bound (b ⊗ c) ≡ true → (u v : Vector2) → vector2_within b u ≡ true → vector2_within c v ≡ true → within (b ⊗ c ⊕ b ⊗ c) (Plane.perp_dotted u v) ≡ true

-- ---- accepted rotations, axes and poses

-- 1.5
abbrev pub three_halves : Float
three_halves = bits 0x3ff8_0000_0000_0000

-- 3.25
abbrev pub basis_bound : Float
basis_bound = bits 0x400a_0000_0000_0000

-- the three parts of a rotated vector, for a vector within v
abbrev pub along : Float → Float
along v = v ⊗ two

abbrev pub product : Float → Float
product v = v ⊗ three_halves ⊕ v ⊗ three_halves ⊕ v ⊗ three_halves

abbrev pub axial : Float → Float
axial v = three_halves ⊗ (product v ⊗ two)

abbrev pub turned : Float → Float
turned v = (three_halves ⊗ v ⊕ v ⊗ three_halves) ⊗ (three_halves ⊗ two)

-- 24.5 times v, where every product and sum on the way is exact
abbrev pub rotated_bound : Float → Float
rotated_bound v = along v ⊕ axial v ⊕ turned v

-- every bound on the way is one
abbrev pub rotates : Float → Bool
rotates v =
    bound v && bound (along v) && bound (v ⊗ three_halves) && bound (three_halves ⊗ v) && bound (v ⊗ three_halves ⊕ v ⊗ three_halves) && bound (product v) && bound (product v ⊗ two) && bound (axial v)
    && bound (three_halves ⊗ v ⊕ v ⊗ three_halves) && bound (three_halves ⊗ two) && bound (turned v) && bound (along v ⊕ axial v)

abbrev pub transformed_bound : Float → Float
transformed_bound v = rotated_bound v ⊕ limit

abbrev pub untransformed_bound : Float → Float
untransformed_bound v = rotated_bound (v ⊕ limit)

-- 49 × 2^20, which is 24.5 × 2^21
abbrev pub rotated_vertex : Float
rotated_vertex = bits 0x4188_8000_0000_0000

-- 2^21
abbrev pub far_vertex : Float
far_vertex = bits 0x4140_0000_0000_0000

pub record AcceptedLaws : Type 0 where
  -- a component of an accepted axis or normal, and of an accepted rotation, is at most 1.5
  pub axis : (v : Vector) → vector_within limit v ≡ true → unit_vector v ≡ true → vector_within three_halves v ≡ true
  pub rotation_vector : (p : Pose) → pose_given p ≡ true → unit_rotation p.rotation ≡ true → vector_within three_halves p.rotation.b ≡ true
  pub rotation_scalar : (p : Pose) → pose_given p ≡ true → unit_rotation p.rotation ≡ true → within three_halves p.rotation.w ≡ true
  pub rotated : (p : Pose) → pose_given p ≡ true → unit_rotation p.rotation ≡ true → (v : Float) → rotates v ≡ true → (u : Vector) → vector_within v u ≡ true → vector_within (rotated_bound v) (rotated p.rotation u) ≡ true
  pub transformed : (p : Pose) → pose_given p ≡ true → unit_rotation p.rotation ≡ true → (v : Float) → rotates v ≡ true → bound (rotated_bound v) ≡ true → (u : Vector) → vector_within v u ≡ true → vector_within (transformed_bound v) (transformed p u) ≡ true
  pub untransformed : (p : Pose) → pose_given p ≡ true → unit_rotation p.rotation ≡ true → (v : Float) → bound v ≡ true → rotates (v ⊕ limit) ≡ true → (u : Vector) → vector_within v u ≡ true → vector_within (untransformed_bound v) (untransformed p u) ≡ true
  -- at the bound of a feature's vertices the factor is 24.5
  pub vertex_rotates : rotates far_vertex ≡ true
  pub vertex_rotated : rotated_bound far_vertex ≡ rotated_vertex
  pub first_of_basis : (v : Vector) → vector_within limit v ≡ true → unit_vector v ≡ true → vector_within basis_bound (basis0 v) ≡ true
  pub second_of_basis : (v : Vector) → vector_within limit v ≡ true → unit_vector v ≡ true → vector_within basis_bound (basis1 v) ≡ true
  -- a normalised vector of the plane, as an azimuth is, has coordinates of at most 2
  pub normalized : (v : Vector2) → vector2_within limit v ≡ true → Plane.usable (Plane.reciprocal v) ≡ true → vector2_within two (Plane.scaled v (Plane.reciprocal v)) ≡ true
