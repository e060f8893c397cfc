-- Both sides of each axis are worked out.
use Rattle.std.proofs.Common.{inl, inr}
use Rattle.shape.specs.Cuboids.{face_corners, edge_codes_of}
use Rattle.shape.proofs.Cuboids.{sides}
use Rattle.shape.proofs.cuboid.face.Face.edge_ids.Goals as goal

pub returns-in-X : goal.returns-in-X
unfolding face_corners edge_codes_of
returns-in-X c =
    elim (sides c.args.self.side) [
      | inl e ↦ simp (c.ids_with_bits.ensures, e, c.in-X.is)
      | inr e ↦ simp (c.ids_with_bits.ensures, e, c.in-X.is)
    ]

pub returns-in-Y : goal.returns-in-Y
unfolding face_corners edge_codes_of
returns-in-Y c =
    elim (sides c.args.self.side) [
      | inl e ↦ simp (c.ids_with_bits-in-Y.ensures, e, c.in-Y.is)
      | inr e ↦ simp (c.ids_with_bits-in-Y.ensures, e, c.in-Y.is)
    ]

pub returns-in-Z : goal.returns-in-Z
unfolding face_corners edge_codes_of
returns-in-Z c =
    elim (sides c.args.self.side) [
      | inl e ↦ simp (c.ids_with_bits-in-Z.ensures, e, c.in-Z.is)
      | inr e ↦ simp (c.ids_with_bits-in-Z.ensures, e, c.in-Z.is)
    ]
