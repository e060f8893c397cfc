-- A feature's fields as a plain row, which two features are compared by.
use Rattle.std.specs.Prelude.{cond, [], ◌∷◌, nat_lt}
use Rattle.math.specs.Floats.{zero}
use Rattle.math.specs.Refusals.{Answer, done, refused}
use Rattle.math.specs.declared.vector.Vector.{Vector}
use Rattle.shape.specs.Nearness.{given_all}
use Rattle.shape.specs.declared.feature_id.PackedFeatureId.{PackedFeatureId}
use Rattle.shape.specs.declared.polygonal_feature3d.FeatureRow.{FeatureRow}
use Rattle.shape.specs.declared.polygonal_feature3d.PolygonalFeature.{PolygonalFeature}

abbrev pub Fields : Type 0
Fields = FeatureRow

abbrev pub fields : PolygonalFeature → Fields
fields f = record { vertices = f.vertices; vids = f.vids; eids = f.eids; fid = f.fid; num_vertices = f.num_vertices }

abbrev pub origin : Vector
origin = record { x = zero; y = zero; z = zero }

abbrev pub unknown : PackedFeatureId
unknown = record { 0 = 0 }

-- the feature with no vertices
abbrev pub nothing : Fields
nothing = record {
  vertices = origin ∷ origin ∷ origin ∷ origin ∷ [];
  vids = unknown ∷ unknown ∷ unknown ∷ unknown ∷ [];
  eids = unknown ∷ unknown ∷ unknown ∷ unknown ∷ [];
  fid = unknown;
  num_vertices = 0;
}

-- Turned down with 2 where a coordinate may not be given, with 6 where there are more than four vertices.
abbrev pub making : Fields → Answer (Unit {0})
making f = cond (given_all f.vertices) (cond (nat_lt 4 f.num_vertices) (refused 6) (done tt)) (refused 2)

-- what stands in the place after: the new fields, or the old ones where the making is turned down
abbrev pub made : Fields → Fields → Fields
made f old = cond (given_all f.vertices) (cond (nat_lt 4 f.num_vertices) old f) old
