-- The format holds an f64, so the product by 1 or -1 is exact.
use Rattle.std.proofs.Common.{refl, ap, ◌∙◌}
use lib.Ieee.{Float}
use Rattle.math.specs.Floats.{◌⊗◌}
use Rattle.std.proofs.lemmas.Float.{T_from_true}
use Rattle.shape.proofs.ExactCorners.{times_side}
use Rattle.shape.proofs.cuboid.face.across.Goals as goal

pub returns : goal.returns
returns c =
    let h = c.args.half_extent in
    record { value = refl; exact = λ side e. ap (λ (s : Float). h ⊗ s) e ∙ times_side h side (T_from_true _ c.well_formed.0.1) }
