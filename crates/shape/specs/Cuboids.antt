-- The cuboid: its half extents, and the face that supports a direction, with the numbers of its corners, edges and faces.
use Rattle.std.specs.Prelude.{◌≡◌, ℕ, ◌+◌, ◌*◌, ◌<◌, cond, ◌&&◌, ◌⊎◌, List, [], ◌∷◌, ◌==◌, ◌≢◌, nat_lt, slice_index, slice_index_or, Float}
use Rattle.std.specs.Float.Ieee as Ieee
use Rattle.std.specs.Float.{is_sign_negative}
use Rattle.math.specs.Basis.{signed}
use Rattle.math.specs.Floats.{◌⊗◌, opposite, zero, one}
use Rattle.math.specs.Limits.{vector_given}
use Rattle.math.specs.Refusals.{Answer, done, refused}
use Rattle.math.specs.Vectors.{sizes, largest_place, coordinate}
use Rattle.math.specs.declared.vector.Vector.{Vector}
use Rattle.shape.specs.Features.{Fields, unknown}
use Rattle.shape.specs.Ids.{packed, four_codes, vertex_header, edge_header, face_header}
use Rattle.shape.specs.Nearness.{vertex_at}
use Rattle.shape.specs.Supports.{Meaning}
use Rattle.shape.specs.declared.cuboid.Cuboid.{Cuboid}
use Rattle.shape.specs.declared.cuboid.face.Axis.{Axis}
use Rattle.shape.specs.declared.cuboid.face.Axis.TheVariants.{X, Y, Z}
use Rattle.shape.specs.declared.cuboid.face.Side.{Side}
use Rattle.shape.specs.declared.cuboid.face.Side.TheVariants.{Negative, Positive}

abbrev pub extents_of : Cuboid → Vector
extents_of c = c.half_extents

-- Turned down with 2 where a half extent may not be given, with 3 where one is not above 0.
abbrev pub making : Vector → Answer Vector
making he = cond (vector_given he) (cond (Ieee.lt zero he.x && Ieee.lt zero he.y && Ieee.lt zero he.z) (done he) (refused 3)) (refused 2)

-- the first axis along which the direction is largest in size
abbrev pub main_axis_of : Vector → ℕ
main_axis_of dir = largest_place (sizes dir)

-- the side of the face: 0 where the number is negative, -0 too, and 1 elsewhere
abbrev pub side_of : Float → ℕ
side_of d = cond (is_sign_negative d) 0 1

abbrev pub axis_number : Axis → ℕ
axis_number X = 0
axis_number Y = 1
axis_number Z = 2

abbrev pub side_number : Side → ℕ
side_number Negative = 0
side_number Positive = 1

-- one of three by the axis: x is 0, y is 1, z is 2
abbrev pub by_axis : {A : Type 0} → ℕ → A → A → A → A
by_axis axis x y z = cond (axis == 0) x (cond (axis == 1) y z)

abbrev point : Float → Float → Float → Vector
point x y z = record { x = x; y = y; z = z }

-- the corners around the face, the half extent along its axis times the sign
unfoldable pub face_vertices_of : Vector → ℕ → Float → List Vector
face_vertices_of he axis sign =
    let x = he.x in
    let y = he.y in
    let z = he.z in
    let x' = opposite x in
    let y' = opposite y in
    let z' = opposite z in
    by_axis axis
    (point (x ⊗ sign) y z ∷ point (x ⊗ sign) y' z ∷ point (x ⊗ sign) y' z' ∷ point (x ⊗ sign) y z' ∷ [])
    (point x (y ⊗ sign) z ∷ point x' (y ⊗ sign) z ∷ point x' (y ⊗ sign) z' ∷ point x (y ⊗ sign) z' ∷ [])
    (point x y (z ⊗ sign) ∷ point x y' (z ⊗ sign) ∷ point x' y' (z ⊗ sign) ∷ point x' y (z ⊗ sign) ∷ [])

-- The number of a corner has three bits, 4 for x, 2 for y and 1 for z: along the face's axis the bit is the side, along another axis it is set where the coordinate is negative.
unfoldable pub face_corners : ℕ → ℕ → List ℕ
face_corners axis side =
    by_axis axis
    ((4 * side) ∷ (4 * side + 2) ∷ (4 * side + 3) ∷ (4 * side + 1) ∷ [])
    ((2 * side) ∷ (2 * side + 4) ∷ (2 * side + 5) ∷ (2 * side + 1) ∷ [])
    (side ∷ (side + 2) ∷ (side + 6) ∷ (side + 4) ∷ [])

abbrev pub corner_at : ℕ → ℕ → ℕ → ℕ
corner_at axis side i = slice_index (face_corners axis side) i

-- a vertex's code is twice its corner's number
unfoldable pub vertex_codes_of : ℕ → ℕ → List ℕ
vertex_codes_of axis side = (2 * corner_at axis side 0) ∷ (2 * corner_at axis side 1) ∷ (2 * corner_at axis side 2) ∷ (2 * corner_at axis side 3) ∷ []

-- an edge's code, from the numbers of the corners that it joins: 192 and 8 times the larger and the smaller
abbrev pub joining : ℕ → ℕ → ℕ
joining a b = 192 + cond (nat_lt a b) (8 * b + a) (8 * a + b)

-- each edge joins a corner to the next one, the last to the first
unfoldable pub edge_codes_of : ℕ → ℕ → List ℕ
edge_codes_of axis side =
    let a = corner_at axis side 0 in
    let b = corner_at axis side 1 in
    let c = corner_at axis side 2 in
    let d = corner_at axis side 3 in
    joining a b ∷ joining b c ∷ joining c d ∷ joining d a ∷ []

-- The face lies across the main axis, on the side of the direction's sign there. Its number is 10 and the axis, and 3 more on the positive side.
unfoldable pub cuboid_fields : Vector → Vector → Fields
cuboid_fields he dir =
    let axis = main_axis_of dir in
    let along = coordinate dir axis in
    let side = side_of along in
    record {
      vertices = face_vertices_of he axis (signed along one);
      vids = four_codes vertex_header (vertex_codes_of axis side);
      eids = four_codes edge_header (edge_codes_of axis side);
      fid = packed face_header (axis + side * 3 + 10);
      num_vertices = 4;
    }

unfoldable pub cuboid_meaning : Meaning Cuboid
cuboid_meaning c dir hint = cuboid_fields c.half_extents dir

-- ---- laws

-- the half extent or its opposite
abbrev pub PlusOrMinus : Float → Float → Type 0
PlusOrMinus h c = (c ≡ h) ⊎ (c ≡ opposite h)

-- which of the two: the number itself on side 1, its opposite on side 0
abbrev pub on_side : ℕ → Float → Float
on_side side h = cond (side == 1) h (opposite h)

-- across the face each of the four vertices has the one of the side
abbrev pub Across : Vector → ℕ → ℕ → List Vector → Type 0
Across he axis side vs = (i : ℕ) → i < 4 → coordinate (vertex_at vs i) axis ≡ on_side side (coordinate he axis)

-- the bit of a corner's number for one axis
abbrev pub corner_bit : ℕ → ℕ → Vector → ℕ → ℕ
corner_bit axis side v k = cond (k == axis) side (cond (is_sign_negative (coordinate v k)) 1 0)

-- A corner of the face: across the face the half extent times the sign, along it the half extent or its opposite, and its number by its bits.
pub record FaceCorner (he : Vector) (axis : ℕ) (sign : Float) (side : ℕ) (v : Vector) (number : ℕ) : Type 0 where
  pub across : coordinate v axis ≡ coordinate he axis ⊗ sign
  pub along : (k : ℕ) → k < 3 → (k ≢ axis) → PlusOrMinus (coordinate he k) (coordinate v k)
  pub bits : number ≡ 4 * corner_bit axis side v 0 + 2 * corner_bit axis side v 1 + corner_bit axis side v 2

-- each of the four vertices is a corner of the face that supports the direction
abbrev pub AroundFace : Vector → Vector → List Vector → Type 0
AroundFace he dir vs =
    let axis = main_axis_of dir in
    let d = coordinate dir axis in
    (i : ℕ) → i < 4 → FaceCorner he axis (signed d one) (side_of d) (vertex_at vs i) (corner_at axis (side_of d) i)

-- A corner of the cuboid that lies on the face: along each axis its coordinate is exactly the half extent or its opposite, and across the face the side says which. Its number is by its bits.
pub record ExactCorner (he : Vector) (axis side : ℕ) (v : Vector) (number : ℕ) : Type 0 where
  pub corner : (k : ℕ) → k < 3 → PlusOrMinus (coordinate he k) (coordinate v k)
  pub across : coordinate v axis ≡ on_side side (coordinate he axis)
  pub bits : number ≡ 4 * corner_bit axis side v 0 + 2 * corner_bit axis side v 1 + corner_bit axis side v 2

-- each of the four vertices is exactly a corner of the cuboid, on the face that supports the direction
abbrev pub ExactlyAround : Vector → Vector → List Vector → Type 0
ExactlyAround he dir vs =
    let axis = main_axis_of dir in
    let side = side_of (coordinate dir axis) in
    (i : ℕ) → i < 4 → ExactCorner he axis side (vertex_at vs i) (corner_at axis side i)

-- the bit of an axis in a corner's number
abbrev pub axis_bit : ℕ → ℕ
axis_bit k = by_axis k 4 2 1

-- the corner after this one, around the face
abbrev pub next : ℕ → ℕ
next i = cond (i == 3) 0 (i + 1)

-- two corners that differ along one axis, and that not the face's own
pub record Neighbours (axis a b : ℕ) : Type 0 where
  pub k : ℕ
  pub other : k ≡ axis → ⊥
  pub apart : (b ≡ a + axis_bit k) ⊎ (a ≡ b + axis_bit k)

-- The face that supports a direction: along the main axis every vertex has the direction's sign, -0 counting as negative;
-- each vertex has the code of its corner; each edge joins a corner to the next, which is its neighbour; axis and side number the face.
pub record Supports (dir : Vector) (axis side : ℕ) (f : Fields) : Type 0 where
  pub signs : (i : ℕ) → i < 4 → is_sign_negative (coordinate (vertex_at f.vertices i) axis) ≡ is_sign_negative (coordinate dir axis)
  pub vertex : (i : ℕ) → i < 4 → slice_index_or f.vids i unknown ≡ packed vertex_header (2 * corner_at axis side i)
  pub edge : (i : ℕ) → i < 4 → slice_index_or f.eids i unknown ≡ packed edge_header (joining (corner_at axis side i) (corner_at axis side (next i)))
  pub neighbours : (i : ℕ) → i < 4 → Neighbours axis (corner_at axis side i) (corner_at axis side (next i))
  pub face : f.fid ≡ packed face_header (10 + axis + 3 * side)

abbrev pub Supporting : Vector → Fields → Type 0
Supporting dir f =
    let axis = main_axis_of dir in
    Supports dir axis (side_of (coordinate dir axis)) f
