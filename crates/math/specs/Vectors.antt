-- What the operations on vectors give, written as they are computed: every sum, difference and product rounds once, from the left.
use Rattle.std.specs.Prelude.{◌≡◌, ℕ, zero, suc, ◌<◌, Bool, true, false, cond, not, ◌&&◌, Float}
use Rattle.std.specs.Float.Ieee as Ieee
use Rattle.math.specs.Floats.{◌⊕◌, ◌⊖◌, ◌⊗◌, opposite, size}
use Rattle.math.specs.declared.vector.Vector.{Vector}

unfoldable pub added : Vector → Vector → Vector
added a b = record { x = a.x ⊕ b.x; y = a.y ⊕ b.y; z = a.z ⊕ b.z }

unfoldable pub subtracted : Vector → Vector → Vector
subtracted a b = record { x = a.x ⊖ b.x; y = a.y ⊖ b.y; z = a.z ⊖ b.z }

unfoldable pub negated : Vector → Vector
negated v = record { x = opposite v.x; y = opposite v.y; z = opposite v.z }

unfoldable pub scaled : Vector → Float → Vector
scaled v k = record { x = v.x ⊗ k; y = v.y ⊗ k; z = v.z ⊗ k }

unfoldable pub dotted : Vector → Vector → Float
dotted a b = a.x ⊗ b.x ⊕ a.y ⊗ b.y ⊕ a.z ⊗ b.z

unfoldable pub crossed : Vector → Vector → Vector
crossed a b = record {
  x = a.y ⊗ b.z ⊖ b.y ⊗ a.z;
  y = a.z ⊗ b.x ⊖ b.z ⊗ a.x;
  z = a.x ⊗ b.y ⊖ b.x ⊗ a.y;
}

-- every coordinate without its sign
unfoldable pub sizes : Vector → Vector
sizes v = record { x = size v.x; y = size v.y; z = size v.z }

-- no coordinate is a NaN
unfoldable pub vector_number : Vector → Bool
vector_number v = not (Ieee.is_nan v.x) && not (Ieee.is_nan v.y) && not (Ieee.is_nan v.z)

-- the place of the largest coordinate, the first of those that are equal
unfoldable pub largest_place : Vector → ℕ
largest_place v = cond (Ieee.lt v.x v.y) (cond (Ieee.lt v.y v.z) 2 1) (cond (Ieee.lt v.x v.z) 2 0)

-- the coordinate at a place: 0 is x, 1 is y, and any other z
abbrev pub coordinate : Vector → ℕ → Float
coordinate v zero = v.x
coordinate v (suc zero) = v.y
coordinate v (suc (suc i)) = v.z

-- no coordinate is above the one at this place, and each earlier one is below it
pub record FirstLargest (v : Vector) (i : ℕ) : Type 0 where
  pub place : i < 3
  pub largest : (j : ℕ) → Ieee.lt (coordinate v i) (coordinate v j) ≡ false
  pub earlier : (j : ℕ) → j < i → Ieee.lt (coordinate v j) (coordinate v i) ≡ true
