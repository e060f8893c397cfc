-- The laws of magnitude together.
use Rattle.std.proofs.Common.{refl}
use lib.Ieee.{of_bits, add, mul, round}
use Rattle.math.specs.MagnitudeLaws.{OperationLaws, VectorLaws, AcceptedLaws}
use Rattle.math.proofs.AzimuthMagnitude.{normalized_within}
use Rattle.math.proofs.BasisMagnitude.{basis0_within, basis1_within}
use Rattle.math.proofs.Magnitude.{neg_within, add_within, sub_within, mul_within}
use Rattle.math.proofs.QuotientMagnitude.{div_within, root_within}
use Rattle.math.proofs.RotationMagnitude.{rotated_within, rotation_accepted, transformed_within, untransformed_within}
use Rattle.math.proofs.UnitMagnitude.{unit_components}
use Rattle.math.proofs.VectorMagnitude.{negated_within, added_within, subtracted_within, scaled_within, dotted_within, crossed_within, plane_coordinates, plane_subtracted_within, plane_dotted_within, perp_dotted_within}

pub operation_laws : OperationLaws
operation_laws = record { negation = neg_within; sum = add_within; difference = sub_within; product = mul_within; quotient = div_within; square_root = root_within }

pub vector_laws : VectorLaws
vector_laws =
    record {
      negated = negated_within;
      added = added_within;
      subtracted = subtracted_within;
      scaled = scaled_within;
      dotted = dotted_within;
      crossed = crossed_within;
      plane_subtracted = plane_subtracted_within;
      plane_dotted = plane_dotted_within;
      perp_dotted = perp_dotted_within;
    }

pub accepted_laws : AcceptedLaws
unfolding of_bits add mul round
accepted_laws =
    record {
      axis = unit_components;
      rotation_vector = λ p g u. (rotation_accepted p g u).b;
      rotation_scalar = λ p g u. (rotation_accepted p g u).w;
      rotated = λ p g u v ok. rotated_within v ok p.rotation (rotation_accepted p g u);
      transformed = transformed_within;
      untransformed = untransformed_within;
      vertex_rotates = refl;
      vertex_rotated = refl;
      first_of_basis = λ v g u. basis0_within v (unit_components v g u);
      second_of_basis = λ v g u. basis1_within v (unit_components v g u);
      normalized = λ v g u. let c = plane_coordinates _ v g in normalized_within v c.x c.y u;
    }
