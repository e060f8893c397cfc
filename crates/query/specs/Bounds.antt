-- The bounds on the numbers of a contact: finite, a point's coordinates below 2^150 in size, the distance below 2^200.
use Rattle.std.specs.Prelude.{Bool, ◌&&◌, Float}
use Rattle.std.specs.Float.Ieee as Ieee
use Rattle.math.specs.Floats.{size, bits}
use Rattle.math.specs.declared.vector.Vector.{Vector}

-- 2^150
abbrev pub point_limit : Float
point_limit = bits 0x4950_0000_0000_0000

-- 2^200
abbrev pub dist_limit : Float
dist_limit = bits 0x4c70_0000_0000_0000

unfoldable pub below_all : Vector → Bool
below_all v = Ieee.lt (size v.x) point_limit && Ieee.lt (size v.y) point_limit && Ieee.lt (size v.z) point_limit

unfoldable pub bounded : Vector → Vector → Float → Bool
bounded p1 p2 d = below_all p1 && below_all p2 && Ieee.lt (size d) dist_limit
