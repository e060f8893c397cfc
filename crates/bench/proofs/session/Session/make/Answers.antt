-- The feature in its slot is made anew or kept.
use Rattle.std.proofs.Common.{arith}
use Rattle.shape.specs.Features.{made}
use Rattle.bench.proofs.Slots.{feature_remade}
use Rattle.bench.proofs.session.Session.make.Goals as goal

pub returns-in_err-make-clause-after : goal.returns-in_err-make-clause-after
returns-in_err-make-clause-after c =
    feature_remade c.args.which c.args.self.now c.from.result c.index-self-from.result c.make.new.out (made c.args.row) c.from.ensures.0 (omega arith) c.make.ensures.after

pub returns-clause-after : goal.returns-clause-after
returns-clause-after c =
    feature_remade c.args.which c.args.self.now c.from.result c.index-self-from.result c.make.new.out (made c.args.row) c.from.ensures.0 (omega arith) c.make.ensures.after
