-- The orthonormal basis of a vector: the two vectors, written as they are computed.
use Rattle.std.specs.Prelude.{Float}
use Rattle.std.specs.Float.{float_with_sign, is_sign_negative}
use Rattle.math.specs.Floats.{◌⊕◌, ◌⊗◌, ◌⊘◌, opposite, one}
use Rattle.math.specs.declared.vector.Vector.{Vector}

-- the size of the second with the sign of the first
abbrev pub signed : Float → Float → Float
signed sign to = float_with_sign (is_sign_negative sign) to

unfoldable pub basis_sign : Vector → Float
basis_sign v = signed v.z one

unfoldable pub basis_a : Vector → Float
unfolding basis_sign
basis_a v = opposite one ⊘ (basis_sign v ⊕ v.z)

unfoldable pub basis_b : Vector → Float
unfolding basis_a
basis_b v = v.x ⊗ v.y ⊗ basis_a v

unfoldable pub basis0 : Vector → Vector
unfolding basis_sign basis_a basis_b
basis0 v = record {
  x = one ⊕ basis_sign v ⊗ v.x ⊗ v.x ⊗ basis_a v;
  y = basis_sign v ⊗ basis_b v;
  z = opposite (basis_sign v) ⊗ v.x;
}

unfoldable pub basis1 : Vector → Vector
unfolding basis_sign basis_a basis_b
basis1 v = record {
  x = basis_b v;
  y = basis_sign v ⊕ v.y ⊗ v.y ⊗ basis_a v;
  z = opposite v.y;
}
