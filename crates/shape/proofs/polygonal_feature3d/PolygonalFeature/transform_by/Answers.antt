-- The moved vertices are those of `moved`, and the test of them is `all_land_near`.
use Rattle.std.proofs.Common.{◌≡◌, true, false, length, sym, ap, ◌∙◌, arith, rules}
use Rattle.shape.specs.Features.{fields}
use Rattle.shape.specs.Moves.{moved, all_land_near}
use Rattle.shape.specs.Nearness.{near_all}
use Rattle.shape.proofs.Moves.{near_moved, moved_in_place}
use Rattle.shape.proofs.polygonal_feature3d.PolygonalFeature.transform_by.Goals as goal

pub returns-then-not-are_near : goal.returns-then-not-are_near
returns-then-not-are_near c =
    let f = fields c.args.self.now in
    let p = c.args.pos.now in
    let long : length f.vertices ≡ 4 = omega arith in
    let here = moved_in_place p f long c.args.self.now.few c.loop-v.v-items c.loop-v.v-index c.loop-v-test.false c.loop-v.invariant in
    let far : all_land_near p f ≡ false = sym (near_moved p f c.args.self.now.near) ∙ ap near_all (sym here) ∙ sym c.are_near.ensures ∙ c.if-not-are_near.true in
    record { answer = search rules; after = search rules }

pub returns : goal.returns
unfolding moved
returns c =
    let f = fields c.args.self.now in
    let p = c.args.pos.now in
    let long : length f.vertices ≡ 4 = omega arith in
    let here = moved_in_place p f long c.args.self.now.few c.loop-v.v-items c.loop-v.v-index c.loop-v-test.false c.loop-v.invariant in
    let close : all_land_near p f ≡ true = sym (near_moved p f c.args.self.now.near) ∙ ap near_all (sym here) ∙ sym c.are_near.ensures ∙ c.if-not-are_near.false in
    record { answer = search rules; after = search rules }
