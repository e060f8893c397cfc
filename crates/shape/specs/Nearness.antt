-- How far a feature's vertices may lie: no coordinate NaN, infinite or above 2^21 in size.
use Rattle.std.specs.Prelude.{ℕ, Bool, ◌&&◌, List, slice_index_or, Float}
use Rattle.std.specs.Float.{nan}
use Rattle.math.specs.Floats.{bits}
use Rattle.math.specs.Limits.{limit}
use Rattle.math.specs.Magnitude.{vector_within}
use Rattle.math.specs.declared.vector.Vector.{Vector}

-- 2^21
abbrev pub vertex_limit : Float
vertex_limit = bits 0x4140_0000_0000_0000

-- the vertex at a place; none is read past the end, where an all-NaN vector would stand
abbrev pub vertex_at : List Vector → ℕ → Vector
vertex_at vs i = slice_index_or vs i (record { x = nan; y = nan; z = nan })

-- each of the four within a bound
unfoldable pub all_within : Float → List Vector → Bool
all_within b vs = vector_within b (vertex_at vs 0) && vector_within b (vertex_at vs 1) && vector_within b (vertex_at vs 2) && vector_within b (vertex_at vs 3)

abbrev pub near_all : List Vector → Bool
near_all vs = all_within vertex_limit vs

-- all twelve coordinates may be given
abbrev pub given_all : List Vector → Bool
given_all vs = all_within limit vs
