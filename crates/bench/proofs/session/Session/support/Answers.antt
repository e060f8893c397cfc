-- The feature in its slot is the shape's, or kept.
use Rattle.std.proofs.Common.{Some, arith}
use Rattle.bench.specs.Solids.{solid_form}
use Rattle.bench.specs.Sessions.{support_left}
use Rattle.bench.proofs.Slots.{feature_remade, shape_read}
use Rattle.bench.proofs.session.Session.support.Goals as goal

pub returns-in_err-local_support_feature-clause-after : goal.returns-in_err-local_support_feature-clause-after
returns-in_err-local_support_feature-clause-after c =
    let place = c.from.ensures.0 in
    let solid = c.in_ok-shape.shape in
    let there = shape_read c.args.which c.args.self.now c.from.result c.index-self-from.result solid place (omega arith) c.in_ok-shape.ensures.ok_part in
    rw there (feature_remade c.args.which c.args.self.now c.from.result c.index-self-from.result c.local_support_feature.new.out_feature (support_left (Some (solid_form solid)) c.args.dir c.args.hint) place (omega arith) c.local_support_feature.ensures.after)

pub returns-clause-after : goal.returns-clause-after
returns-clause-after c =
    let place = c.from.ensures.0 in
    let solid = c.in_ok-shape.shape in
    let there = shape_read c.args.which c.args.self.now c.from.result c.index-self-from.result solid place (omega arith) c.in_ok-shape.ensures.ok_part in
    rw there (feature_remade c.args.which c.args.self.now c.from.result c.index-self-from.result c.local_support_feature.new.out_feature (support_left (Some (solid_form solid)) c.args.dir c.args.hint) place (omega arith) c.local_support_feature.ensures.after)
