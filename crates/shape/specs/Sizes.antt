-- What may be a half extent, a half height or a radius: a number that may be given, above 0.
use Rattle.std.specs.Prelude.{Bool, ◌&&◌, Float}
use Rattle.std.specs.Float.Ieee as Ieee
use Rattle.math.specs.Floats.{zero}
use Rattle.math.specs.Limits.{may_be_given}
use Rattle.math.specs.declared.vector.Vector.{Vector}

unfoldable pub is_size : Float → Bool
is_size x = may_be_given x && Ieee.lt zero x

unfoldable pub are_sizes : Vector → Bool
unfolding is_size
are_sizes v = is_size v.x && is_size v.y && is_size v.z
