-- What the operations on vectors of the plane give, written as they are computed.
use Rattle.std.specs.Prelude.{ℕ, Bool, cond, ◌&&◌, List, Some, None, Option, slice_index_or, Float}
use Rattle.std.specs.Float.Ieee as Ieee
use Rattle.std.specs.Float.{float_is_finite, nan}
use Rattle.math.specs.Floats.{◌⊕◌, ◌⊖◌, ◌⊗◌, ◌⊘◌, root, zero, one}
use Rattle.math.specs.declared.vector2.Vector2.{Vector2}

-- the point at a place; none is read past the end, where an all-NaN one would stand
abbrev pub point_at : List Vector2 → ℕ → Vector2
point_at ps i = slice_index_or ps i (record { x = nan; y = nan })

unfoldable pub subtracted : Vector2 → Vector2 → Vector2
subtracted a b = record { x = a.x ⊖ b.x; y = a.y ⊖ b.y }

unfoldable pub scaled : Vector2 → Float → Vector2
scaled v k = record { x = v.x ⊗ k; y = v.y ⊗ k }

unfoldable pub dotted : Vector2 → Vector2 → Float
dotted a b = a.x ⊗ b.x ⊕ a.y ⊗ b.y

unfoldable pub perp_dotted : Vector2 → Vector2 → Float
perp_dotted a b = a.x ⊗ b.y ⊖ a.y ⊗ b.x

-- 1 divided by the length
unfoldable pub reciprocal : Vector2 → Float
reciprocal v = one ⊘ root (dotted v v)

-- finite and above 0
unfoldable pub usable : Float → Bool
usable r = float_is_finite r && Ieee.lt zero r

unfoldable pub normalized : Vector2 → Option Vector2
normalized v = cond (usable (reciprocal v)) (Some (scaled v (reciprocal v))) None
