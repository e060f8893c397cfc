-- The vertices written are those of the fields.
use Rattle.std.proofs.Common.{sym, subst}
use Rattle.shape.specs.Cuboids.{cuboid_fields, AroundFace}
use Rattle.shape.specs.Features.{Fields}
use Rattle.shape.proofs.Cuboids.{around}
use Rattle.shape.proofs.cuboid.Cuboid.support_face.Goals as goal

pub returns-clause-corners : goal.returns-clause-corners
returns-clause-corners c =
    let k = c.args.self.now in
    let dir = c.args.local_dir in
    λ g. subst (λ (f : Fields). AroundFace k.half_extents dir f.vertices) {x = cuboid_fields k.half_extents dir} (sym c.face_towards.ensures.value) (around k.half_extents dir k.sized)
