-- Each of the four vertices is tested.
use Rattle.std.proofs.Common.{◌∙◌, rules, tests}
use Rattle.std.proofs.lemmas.Iterator.{YieldsList-from_slice}
use Rattle.std.proofs.lemmas.Iterator.Search.{all_from_yields_List}
use Rattle.math.specs.Magnitude.{vector_within}
use Rattle.shape.specs.Nearness.{vertex_limit}
use Rattle.shape.proofs.Near.{four_within}
use Rattle.shape.proofs.polygonal_feature3d.are_near.Goals as goal

pub returns : goal.returns
returns c =
    let vs = c.args.vertices.now in
    all_from_yields_List (vector_within vertex_limit) _ _ _ c.all.ensures.ran (YieldsList-from_slice vs cc) (λ x b q k. search (rules, tests)) ∙ four_within vertex_limit vs c.told-vertices
