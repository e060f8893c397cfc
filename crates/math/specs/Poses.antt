-- What rotations and poses do to a vector, written as it is computed.
use Rattle.std.specs.Prelude.{Float}
use Rattle.math.specs.Floats.{◌⊕◌, ◌⊖◌, ◌⊗◌, two}
use Rattle.math.specs.Vectors.{added, subtracted, negated, scaled, dotted, crossed}
use Rattle.math.specs.declared.pose.Pose.{Pose}
use Rattle.math.specs.declared.pose.Rotation.{Rotation}
use Rattle.math.specs.declared.vector.Vector.{Vector}

-- the squared length of the quaternion
unfoldable pub rotation_squared : Rotation → Float
rotation_squared q = q.b.x ⊗ q.b.x ⊕ q.b.y ⊗ q.b.y ⊕ q.b.z ⊗ q.b.z ⊕ q.w ⊗ q.w

unfoldable pub inverted : Rotation → Rotation
inverted q = record { b = negated q.b; w = q.w }

unfoldable pub rotated : Rotation → Vector → Vector
rotated q v =
    let along = scaled v (q.w ⊗ q.w ⊖ dotted q.b q.b) in
    let axial = scaled q.b (dotted v q.b ⊗ two) in
    let turned = scaled (crossed q.b v) (q.w ⊗ two) in
    added (added along axial) turned

unfoldable pub transformed : Pose → Vector → Vector
transformed p v = added (rotated p.rotation v) p.translation

unfoldable pub untransformed : Pose → Vector → Vector
untransformed p v = rotated (inverted p.rotation) (subtracted v p.translation)
