-- The points of both clips are near, as `edges_near` says of whatever the clip answers.
use Rattle.std.proofs.Common.{◌≡◌, Some}
use Rattle.math.specs.Refusals.{done}
use Rattle.shape.specs.Features.{fields}
use Rattle.query.specs.Clips.{clipped}
use Rattle.query.specs.Edges.{edge_of, moved}
use Rattle.query.proofs.ContactMagnitude.{edges_near}
use Rattle.query.proofs.polygonal_contacts.EdgePair.contacts.Goals as goal

pub map-requires : goal.map-requires
map-requires g c = λ x e.
    let pair = c.args.self.now in
    let answer = c.in_ok-clips.ensures in
    let same : clipped (edge_of (fields pair.face1.now)) (moved pair.pos12.now (edge_of (fields pair.face2.now))) ≡ done (Some x) = cc in
    edges_near pair.pos12.now pair.sep_axis1 pair.fit (fields pair.face1.now) (fields pair.face2.now) pair.face1.now.near pair.face2.now.near x.0 x.1 same
