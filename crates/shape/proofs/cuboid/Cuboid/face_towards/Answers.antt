-- The sign tells the side, every corner lies near by `face_near`, and each vertex is one, and exactly one, by `around` and `exactly_around`.
use Rattle.std.proofs.Common.{◌≡◌, ℕ, sym, ap, ◌∙◌, subst, arith}
use Rattle.math.specs.Basis.{signed}
use Rattle.math.specs.Floats.{one}
use Rattle.math.specs.Vectors.{coordinate}
use Rattle.shape.specs.Cuboids.{main_axis_of, side_of, on_side, face_vertices_of, cuboid_fields, Across, AroundFace}
use Rattle.shape.specs.Nearness.{near_all}
use Rattle.shape.proofs.Cuboids.{side_found, face_near, around}
use Rattle.shape.proofs.ExactCorners.{sign_on_side, exactly_around}
use Rattle.shape.proofs.cuboid.Cuboid.face_towards.Goals as goal

pub invariant_of-out_feature : goal.invariant_of-out_feature
invariant_of-out_feature c =
    let k = c.args.self.now in
    let dir = c.args.local_dir in
    let d = coordinate dir (main_axis_of dir) in
    let here : c.vertices.result ≡ face_vertices_of k.half_extents (main_axis_of dir) (signed d one) = cc in
    record { near = ap near_all here ∙ face_near k.half_extents (main_axis_of dir) d k.sized; few = omega arith }

pub returns : goal.returns
unfolding cuboid_fields
returns c =
    let k = c.args.self.now in
    let he = k.half_extents in
    let dir = c.args.local_dir in
    let axis = main_axis_of dir in
    let d = coordinate dir axis in
    let found = side_found d in
    let sign = sign_on_side d in
    let here : c.vertices.result ≡ face_vertices_of he axis (signed d one) = cc in
    let is : c.copy_sign_to-sign.result ≡ on_side (side_of d) one = cc in
    let exact = subst (λ (a : ℕ). Across he a (side_of d) c.vertices.result) c.main-axis.ensures (c.vertices.ensures.exact (side_of d) is) in
    let corners = subst (AroundFace he dir) {x = face_vertices_of he axis (signed d one)} (sym here) (around he dir k.sized) in
    record { value = cc; exact = exactly_around he dir _ corners exact }
