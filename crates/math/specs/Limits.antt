-- Which numbers may be given, and what counts as unit length.
use Rattle.std.specs.Prelude.{Bool, ◌&&◌, Float}
use Rattle.std.specs.Float.Ieee as Ieee
use Rattle.math.specs.Floats.{bits}
use Rattle.math.specs.Magnitude.{within, vector_within}
use Rattle.math.specs.Poses.{rotation_squared}
use Rattle.math.specs.Vectors.{dotted}
use Rattle.math.specs.declared.pose.Pose.{Pose}
use Rattle.math.specs.declared.pose.Rotation.{Rotation}
use Rattle.math.specs.declared.vector.Vector.{Vector}

-- 2^20
abbrev pub limit : Float
limit = bits 0x4130_0000_0000_0000

-- no NaN, no infinity, and at most 2^20 in size
abbrev pub may_be_given : Float → Bool
may_be_given x = within limit x

abbrev pub vector_given : Vector → Bool
vector_given v = vector_within limit v

unfoldable pub pose_given : Pose → Bool
pose_given p = vector_given p.translation && vector_given p.rotation.b && may_be_given p.rotation.w

-- 1 - 2^-20
abbrev pub unit_low : Float
unit_low = bits 0x3fef_fffe_0000_0000

-- 1 + 2^-20
abbrev pub unit_high : Float
unit_high = bits 0x3ff0_0001_0000_0000

unfoldable pub near_one : Float → Bool
near_one s = Ieee.le unit_low s && Ieee.le s unit_high

abbrev pub unit_vector : Vector → Bool
unit_vector v = near_one (dotted v v)

abbrev pub unit_rotation : Rotation → Bool
unit_rotation q = near_one (rotation_squared q)
