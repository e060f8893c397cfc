-- Each of the three ways is short.
use Rattle.std.proofs.Common.{◌≡◌, ap, ◌∙◌, rules}
use Rattle.math.specs.Floats.{two}
use Rattle.math.specs.Magnitude.{vector2_within}
use Rattle.shape.specs.Cylinders.{azimuth}
use Rattle.shape.proofs.Azimuth.{azimuth_within}
use Rattle.shape.proofs.polygonal_feature_map.feature_azimuth.Goals as goal

pub invariant_of-result : goal.invariant_of-result
unfolding azimuth
invariant_of-result c =
    let chosen : c.unwrap_or-along.result ≡ azimuth c.args.dir c.args.hint = search rules in
    record { short = ap (vector2_within two) chosen ∙ azimuth_within c.args.dir c.args.hint c.requires }
