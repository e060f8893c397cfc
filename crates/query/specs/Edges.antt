-- The contacts of two edges: refused where they cross at an angle, else one at each end of the clip.
use Rattle.std.specs.Prelude.{ℕ, zero, suc, Bool, false, cond, ◌&&◌, List, Some, None, Option, slice_index_or}
use Rattle.std.specs.Float.Ieee as Ieee
use Rattle.math.specs.Basis.{basis0, basis1}
use Rattle.math.specs.Floats.{size}
use Rattle.math.specs.Nearly.{cos_pi_8}
use Rattle.math.specs.Limits.{vector_given, pose_given, unit_rotation, unit_vector}
use Rattle.math.specs.Poses.{transformed, untransformed}
use Rattle.math.specs.Refusals.{Answer, done, refused}
use Rattle.math.specs.Vectors.{subtracted, dotted}
use Rattle.math.specs.Vectors2 as Plane
use Rattle.math.specs.declared.pose.Pose.{Pose}
use Rattle.math.specs.declared.vector.Vector.{Vector}
use Rattle.math.specs.declared.vector2.Vector2.{Vector2}
use Rattle.shape.specs.Features.{Fields, unknown}
use Rattle.shape.specs.Nearness.{vertex_at}
use Rattle.shape.specs.declared.feature_id.PackedFeatureId.{PackedFeatureId}
use Rattle.query.specs.Clips.{Segment, Clip, clipped}
use Rattle.query.specs.Contacts.{Contact, turned}

abbrev pub plane_basis : Vector → Vector × Vector
plane_basis axis = (basis0 axis, basis1 axis)

-- a point in the plane through the origin that these two vectors span
unfoldable pub projected : Vector × Vector → Vector → Vector2
projected basis v = record { x = dotted v basis.0; y = dotted v basis.1 }

unfoldable pub edge_tangent : Vector × Vector → Segment → Option Vector2
edge_tangent basis e = Plane.normalized (Plane.subtracted (projected basis e.1) (projected basis e.0))

-- Both edges have a projected tangent, and the size of their dot is below cos(pi / 8).
abbrev pub crossing : Option Vector2 → Option Vector2 → Bool
crossing (Some t) (Some u) = Ieee.lt (size (Plane.dotted t u)) cos_pi_8
crossing (Some t) None = false
crossing None (Some u) = false
crossing None None = false

abbrev pub id_at : List PackedFeatureId → ℕ → PackedFeatureId
id_at ids i = slice_index_or ids i unknown

-- by a clip's feature number: the first vertex, the edge, the second vertex
abbrev pub feature_at : Fields → ℕ → PackedFeatureId
feature_at f zero = id_at f.vids 0
feature_at f (suc zero) = id_at f.eids 0
feature_at f (suc (suc n)) = id_at f.vids 1

-- the contact at one end of the clip: both points in their own frames, and how far the second lies from the first along the axis
unfoldable pub clip_contact : {D : Type 0} → Bool → D → Pose → Fields → Vector → Fields → Clip → Contact D
clip_contact flip datum pose f1 axis f2 clip =
    turned flip datum clip.0 (untransformed pose clip.1) (feature_at f1 clip.2) (feature_at f2 clip.3) (dotted (subtracted clip.1 clip.0) axis)

abbrev pub clip_contacts : {D : Type 0} → (Clip → Contact D) → Answer (Option (Clip × Clip)) → Answer (Option (Contact D × Contact D))
clip_contacts contact (done None) = done None
clip_contacts contact (done (Some p)) = done (Some (contact p.0, contact p.1))
clip_contacts contact (refused n) = refused n

abbrev pub edge_of : Fields → Segment
edge_of f = (vertex_at f.vertices 0, vertex_at f.vertices 1)

abbrev pub moved : Pose → Segment → Segment
moved pose e = (transformed pose e.0, transformed pose e.1)

-- a pose and an axis that a call accepts
unfoldable pub framed : Pose → Vector → Bool
framed pose axis = pose_given pose && vector_given axis && unit_rotation pose.rotation && unit_vector axis

unfoldable pub edge_rule : {D : Type 0} → Bool → D → Pose → Fields → Vector → Fields → Answer (Option (Contact D × Contact D))
edge_rule flip datum pose f1 axis f2 =
    let basis = plane_basis axis in
    let e1 = edge_of f1 in
    let e2 = moved pose (edge_of f2) in
    cond (crossing (edge_tangent basis e1) (edge_tangent basis e2)) (refused 12)
    (clip_contacts (clip_contact flip datum pose f1 axis f2) (clipped e1 e2))

-- Turned down with 2 where a number of the pose or the axis may not be given, with 4 where the rotation and with 5 where the axis is not of unit length.
unfoldable pub edging : {D : Type 0} → Bool → D → Pose → Fields → Vector → Fields → Answer (Option (Contact D × Contact D))
edging flip datum pose f1 axis f2 =
    cond (pose_given pose && vector_given axis)
    (cond (unit_rotation pose.rotation) (cond (unit_vector axis) (edge_rule flip datum pose f1 axis f2) (refused 5)) (refused 4))
    (refused 2)
