-- How large a number may be: finite, and at most a bound in size.
use Rattle.std.specs.Prelude.{Bool, true, false, ◌&&◌, Float}
use Rattle.std.specs.Float.Ieee as Ieee
use Rattle.std.specs.Float.{nan, inf, fin}
use Rattle.math.specs.Floats.{size}
use Rattle.math.specs.declared.vector.Vector.{Vector}
use Rattle.math.specs.declared.vector2.Vector2.{Vector2}

-- what may stand as a bound: finite, and not negative
abbrev pub bound : Float → Bool
bound nan = false
bound (inf s) = false
bound (fin true m e) = false
bound (fin false m e) = true

unfoldable pub within : Float → Float → Bool
within b x = Ieee.le (size x) b

unfoldable pub vector_within : Float → Vector → Bool
vector_within b v = within b v.x && within b v.y && within b v.z

unfoldable pub vector2_within : Float → Vector2 → Bool
vector2_within b v = within b v.x && within b v.y
