-- A contact as a plain row, which two contacts are compared by, and the making of one.
use Rattle.std.specs.Prelude.{Bool, true, false, Some, None, Option, Float}
use Rattle.math.specs.declared.vector.Vector.{Vector}
use Rattle.shape.specs.declared.feature_id.PackedFeatureId.{PackedFeatureId}
use Rattle.query.specs.declared.contact_manifold.TrackedContact.{TrackedContact}

pub record Contact (D : Type 0) : Type 0 where
  pub p1 : Vector
  pub p2 : Vector
  pub dist : Float
  pub fid1 : PackedFeatureId
  pub fid2 : PackedFeatureId
  pub datum : D

abbrev pub seen : {D : Type 0} → TrackedContact D → Contact D
seen c = record { p1 = c.local_p1; p2 = c.local_p2; dist = c.dist; fid1 = c.fid1; fid2 = c.fid2; datum = c.«data» }

-- a new contact
unfoldable pub fresh : {D : Type 0} → D → Vector → Vector → PackedFeatureId → PackedFeatureId → Float → Contact D
fresh datum p1 p2 fid1 fid2 dist = record { p1 = p1; p2 = p2; dist = dist; fid1 = fid1; fid2 = fid2; datum = datum }

-- points and ids exchanged where the flag is set
unfoldable pub turned : {D : Type 0} → Bool → D → Vector → Vector → PackedFeatureId → PackedFeatureId → Float → Contact D
turned false datum p1 p2 fid1 fid2 dist = fresh datum p1 p2 fid1 fid2 dist
turned true datum p1 p2 fid1 fid2 dist = fresh datum p2 p1 fid2 fid1 dist

abbrev pub seen_both : {D : Type 0} → Option (TrackedContact D × TrackedContact D) → Option (Contact D × Contact D)
seen_both None = None
seen_both (Some p) = Some (seen p.0, seen p.1)
