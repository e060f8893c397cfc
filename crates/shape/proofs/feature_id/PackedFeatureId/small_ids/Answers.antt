-- The closure packs each code, and there are four.
use Rattle.std.proofs.Common.{◌≡◌, length, map, ◌∙◌, arith}
use Rattle.std.proofs.lemmas.Grind.{common_steps}
use Rattle.shape.specs.Ids.{header, packed}
use Rattle.shape.proofs.Ids.{four_packed}
use Rattle.shape.proofs.feature_id.PackedFeatureId.small_ids.Goals as goal

pub returns : goal.returns
returns c =
    let h = header c.args.kind in
    let long : length c.args.codes ≡ 4 = omega arith in
    let each : c.map.result ≡ map (packed h) c.args.codes = grind (arith, common_steps) in
    each ∙ four_packed h c.args.codes long
