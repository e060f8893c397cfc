-- The cylinder: its sizes, the azimuth of its feature, and the feature.
use Rattle.std.specs.Prelude.{◌≡◌, ℕ, suc, ◌<◌, true, false, cond, ◌&&◌, ◌⊎◌, List, [], ◌∷◌, Some, None, Option, option_and_then, unwrap_or, Float}
use Rattle.std.specs.Float.Ieee as Ieee
use Rattle.math.specs.Basis.{signed}
use Rattle.math.specs.Floats.{◌⊗◌, opposite, size, bits, zero, one}
use Rattle.math.specs.Limits.{may_be_given}
use Rattle.math.specs.Refusals.{Answer, done, refused}
use Rattle.math.specs.Vectors2.{normalized}
use Rattle.math.specs.declared.vector.Vector.{Vector}
use Rattle.math.specs.declared.vector2.Vector2.{Vector2}
use Rattle.shape.specs.Features.{Fields, origin}
use Rattle.shape.specs.Ids.{packed, four_ids, vertex_header, edge_header, face_header}
use Rattle.shape.specs.Nearness.{vertex_at}
use Rattle.shape.specs.Supports.{Meaning}
use Rattle.shape.specs.declared.cylinder.Cylinder.{Cylinder}

-- half height and radius
abbrev pub sizes : Cylinder → Float × Float
sizes c = (c.half_height, c.radius)

-- Turned down with 2 where a size may not be given, with 3 where one is not above 0.
abbrev pub making : Float → Float → Answer (Float × Float)
making hh r = cond (may_be_given hh && may_be_given r) (cond (Ieee.lt zero hh && Ieee.lt zero r) (done (hh, r)) (refused 3)) (refused 2)

-- a vector seen along the y axis: its x and its z
abbrev pub flat : Vector → Vector2
flat v = record { x = v.x; y = v.z }

abbrev pub from_hint : Option Vector → Option Vector2
from_hint hint = option_and_then (λ h. normalized (flat h)) hint

-- the hint's, then the direction's, then (1, 0)
unfoldable pub azimuth : Vector → Option Vector → Vector2
azimuth dir hint = unwrap_or (from_hint hint) (unwrap_or (normalized (flat dir)) (record { x = one; y = zero }))

-- The curved side is one segment, its feature the face 0: from below, vertex 1, up to vertex 11.
unfoldable pub side : Float → Float → Vector2 → Fields
side hh r az = record {
  vertices = record { x = az.x ⊗ r; y = opposite hh; z = az.y ⊗ r } ∷ record { x = az.x ⊗ r; y = hh; z = az.y ⊗ r } ∷ origin ∷ origin ∷ [];
  vids = four_ids vertex_header 1 11 11 11;
  eids = four_ids edge_header 0 0 0 0;
  fid = packed face_header 0;
  num_vertices = 2;
}

-- A cap is a square on the rim, its first vertex at the azimuth and each next one a quarter turn on.
abbrev pub rim : Float → Float → Vector2 → List Vector
rim y r az =
    record { x = az.x ⊗ r; y = y; z = az.y ⊗ r }
    ∷ record { x = opposite az.y ⊗ r; y = y; z = az.x ⊗ r }
    ∷ record { x = opposite az.x ⊗ r; y = y; z = opposite az.y ⊗ r }
    ∷ record { x = az.y ⊗ r; y = y; z = opposite az.x ⊗ r }
    ∷ []

-- The bottom cap is the face 9, with vertices 1, 3, 5, 7 and edges 2, 4, 6, 8.
unfoldable pub bottom : Float → Float → Vector2 → Fields
bottom y r az = record {
  vertices = rim y r az;
  vids = four_ids vertex_header 1 3 5 7;
  eids = four_ids edge_header 2 4 6 8;
  fid = packed face_header 9;
  num_vertices = 4;
}

-- The top cap has ten more throughout.
unfoldable pub top : Float → Float → Vector2 → Fields
top y r az = record {
  vertices = rim y r az;
  vids = four_ids vertex_header 11 13 15 17;
  eids = four_ids edge_header 12 14 16 18;
  fid = packed face_header 19;
  num_vertices = 4;
}

abbrev pub half : Float
half = bits 0x3fe0_0000_0000_0000

-- the cap on y's side
unfoldable pub cap : Float → Float → Vector → Vector2 → Fields
cap hh r dir az = cond (Ieee.lt dir.y zero) (bottom (signed dir.y hh) r az) (top (signed dir.y hh) r az)

-- The side where y is below 0.5 in size, else a cap.
unfoldable pub cylinder_fields : Float → Float → Vector → Vector2 → Fields
cylinder_fields hh r dir az = cond (Ieee.lt (size dir.y) half) (side hh r az) (cap hh r dir az)

unfoldable pub cylinder_meaning : Meaning Cylinder
cylinder_meaning c dir hint = cylinder_fields c.half_height c.radius dir (azimuth dir hint)

-- ---- laws

-- The azimuth is the hint's; or the hint gives none and it is the direction's; or neither gives one and it is along x.
abbrev pub AzimuthFrom : Vector → Option Vector → Vector2 → Type 0
AzimuthFrom dir hint az =
    (from_hint hint ≡ Some az) ⊎ ((from_hint hint ≡ None) × (normalized (flat dir) ≡ Some az)) ⊎ ((from_hint hint ≡ None) × (normalized (flat dir) ≡ None) × (az ≡ record { x = one; y = zero }))

-- the point of the curved side at a height and an azimuth
abbrev pub rim_point : Float → Float → Vector2 → Vector
rim_point y r az = record { x = az.x ⊗ r; y = y; z = az.y ⊗ r }

-- a quarter turn around the y axis, from x towards z
abbrev pub quarter_turned : Vector → Vector
quarter_turned v = record { x = opposite v.z; y = v.y; z = v.x }

-- from the lower rim up to the upper one
pub record SegmentAt (hh r : Float) (az : Vector2) (f : Fields) : Type 0 where
  pub two_vertices : f.num_vertices ≡ 2
  pub lower : vertex_at f.vertices 0 ≡ rim_point (opposite hh) r az
  pub upper : vertex_at f.vertices 1 ≡ rim_point hh r az

-- on one rim, each vertex a quarter turn from the one before
pub record SquareAt (y r : Float) (az : Vector2) (f : Fields) : Type 0 where
  pub four_vertices : f.num_vertices ≡ 4
  pub first : vertex_at f.vertices 0 ≡ rim_point y r az
  pub next : (i : ℕ) → i < 3 → vertex_at f.vertices (suc i) ≡ quarter_turned (vertex_at f.vertices i)

-- the segment where y is below 0.5 in size, else the square on the rim on y's side
pub record StandsAt (hh r : Float) (dir : Vector) (az : Vector2) (f : Fields) : Type 0 where
  pub beside : Ieee.lt (size dir.y) half ≡ true → SegmentAt hh r az f
  pub above_or_below : Ieee.lt (size dir.y) half ≡ false → SquareAt (signed dir.y hh) r az f
