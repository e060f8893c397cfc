-- Packed feature ids: a code below 2^30 under a header of two bits, 01 for a vertex, 10 for an edge, 11 for a face.
use Rattle.std.specs.Prelude.{◌≡◌, ℕ, ◌+◌, ◌*◌, ◌/◌, ◌%◌, ◌^◌, ◌≤◌, Bool, cond, List, [], ◌∷◌, Some, None, Option, ◌==◌, nat_lt, slice_index}
use Rattle.std.specs.Option.{option_map_or}
use Rattle.math.specs.Refusals.{Answer, done, refused}
use Rattle.shape.specs.declared.feature_id.FeatureId.{FeatureId}
use Rattle.shape.specs.declared.feature_id.FeatureId.TheVariants.{Vertex, Edge, Face, Unknown}
use Rattle.shape.specs.declared.feature_id.FeatureKind.{FeatureKind}
use Rattle.shape.specs.declared.feature_id.FeatureKind.TheVariants as KindOf
use Rattle.shape.specs.declared.feature_id.PackedFeatureId.{PackedFeatureId}

abbrev pub vertex_header : ℕ
vertex_header = 1

abbrev pub edge_header : ℕ
edge_header = 2

abbrev pub face_header : ℕ
face_header = 3

abbrev pub header : FeatureKind → ℕ
header KindOf.Vertex = vertex_header
header KindOf.Edge = edge_header
header KindOf.Face = face_header

unfoldable pub packed : ℕ → ℕ → PackedFeatureId
packed h code = record { 0 = h * 2 ^ 30 + code }

-- four ids under one header
abbrev pub four_ids : ℕ → ℕ → ℕ → ℕ → ℕ → List PackedFeatureId
four_ids h a b c d = packed h a ∷ packed h b ∷ packed h c ∷ packed h d ∷ []

-- the ids of the first four codes of a list
abbrev pub four_codes : ℕ → List ℕ → List PackedFeatureId
four_codes h codes = four_ids h (slice_index codes 0) (slice_index codes 1) (slice_index codes 2) (slice_index codes 3)

-- A code of 2^30 or more is turned down with 7.
abbrev pub packing : ℕ → ℕ → Answer PackedFeatureId
packing h code = cond (nat_lt code (2 ^ 30)) (done (packed h code)) (refused 7)

abbrev pub has_header : ℕ → PackedFeatureId → Bool
has_header h id = id.0 / 2 ^ 30 == h

-- the kind that the header tells; 00 tells none
abbrev pub kind_of : PackedFeatureId → Option FeatureKind
kind_of id = cond (has_header vertex_header id) (Some KindOf.Vertex) (cond (has_header edge_header id) (Some KindOf.Edge) (cond (has_header face_header id) (Some KindOf.Face) None))

abbrev pub feature_of : FeatureKind → ℕ → FeatureId
feature_of KindOf.Vertex code = Vertex code
feature_of KindOf.Edge code = Edge code
feature_of KindOf.Face code = Face code

-- The header tells the kind; an id under the header 00 names nothing.
unfoldable pub unpacked : PackedFeatureId → FeatureId
unpacked id = option_map_or (λ kind. feature_of kind (id.0 % 2 ^ 30)) (kind_of id) Unknown

-- the one id that stands for no feature
abbrev pub is_nothing : PackedFeatureId → Bool
is_nothing id = id.0 == 0

-- ---- laws

-- an id that is given unpacks to its own kind and code
abbrev pub UnpacksTo : Answer PackedFeatureId → FeatureId → Type 0
UnpacksTo (done id) feature = unpacked id ≡ feature
UnpacksTo (refused n) feature = Unit {0}

-- an id that is given comes from no other header and no other code
abbrev pub OnlyFrom : Answer PackedFeatureId → ℕ → ℕ → Type 0
OnlyFrom (done id) h code = (k c : ℕ) → packing k c ≡ done id → (k ≡ h) × (c ≡ code)
OnlyFrom (refused n) h code = Unit {0}

-- the packing of a kind and a code
abbrev pub repacking : FeatureId → Answer PackedFeatureId
repacking (Vertex c) = packing vertex_header c
repacking (Edge c) = packing edge_header c
repacking (Face c) = packing face_header c
repacking Unknown = done (record { 0 = 0 })

-- an id under one of the three headers is packed again from what it unpacks to
abbrev pub PacksBack : PackedFeatureId → FeatureId → Type 0
PacksBack id feature = 2 ^ 30 ≤ id.0 → repacking feature ≡ done id
