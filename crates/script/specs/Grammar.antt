-- How each command is spelt, word by word.
use Rattle.std.specs.Prelude.{◌≡◌, ℕ, cond, List, [], ◌∷◌, ◌++◌, Some, None, codes, Option, slice_index_or, Float}
use Rattle.math.specs.Floats.{zero}
use Rattle.math.specs.Vectors2.{point_at}
use Rattle.math.specs.declared.pose.Pose.{Pose}
use Rattle.math.specs.declared.vector.Vector.{Vector}
use Rattle.math.specs.declared.vector2.Vector2.{Vector2}
use Rattle.shape.specs.Features.{unknown}
use Rattle.shape.specs.Nearness.{vertex_at}
use Rattle.shape.specs.declared.feature_id.PackedFeatureId.{PackedFeatureId}
use Rattle.script.specs.Numerals.{Writes, word, place, settles}
use Rattle.script.specs.Words.{Text}
use Rattle.script.specs.declared.command.Command.{Command}
use Rattle.script.specs.declared.command.Command.TheVariants.{Remark, Shape, Support, Make, Transform, Show, Pack, Clip, Lines, Sqrt}
use Rattle.script.specs.declared.command.Form.{Form}
use Rattle.script.specs.declared.command.Form.TheVariants.{Cylinder, Cuboid}
use Rattle.shape.specs.declared.feature_id.FeatureKind.{FeatureKind}
use Rattle.shape.specs.declared.feature_id.FeatureKind.TheVariants.{Vertex, Edge, Face}
use Rattle.shape.specs.declared.polygonal_feature3d.FeatureRow.{FeatureRow}
use Rattle.script.specs.declared.command.Which.{Which}
use Rattle.script.specs.declared.command.Which.TheVariants.{First, Second}

-- what one word of a line has to be: this text, 1 or 2, or one that writes this number
pub data Item : Type 0 where
  Says : Text → Item
  Chosen : Which → Item
  Number : Float → Item
  Word : ℕ → Item
  Place : ℕ → Item

abbrev pub ordinal : Which → Text
ordinal First = codes "1"
ordinal Second = codes "2"

-- counted from 0, as the slots of a session are
abbrev pub ordinal_index : Which → ℕ
ordinal_index First = 0
ordinal_index Second = 1

abbrev pub Spells : Item → Text → Type 0
Spells (Says t) w = w ≡ t
Spells (Chosen k) w = w ≡ ordinal k
Spells (Number x) w = Writes x w
Spells (Word n) w = word w ≡ Some n
Spells (Place n) w = place w ≡ Some n

-- the words begin with one for each item, and then `rest` follows
abbrev pub Spelt : List Item → List Text → List Text → Type 0
Spelt [] ws rest = ws ≡ rest
Spelt (i ∷ is) [] rest = ⊥
Spelt (i ∷ is) (w ∷ ws) rest = Spells i w × Spelt is ws rest

-- ---- the parts of commands

abbrev pub vector_items : Vector → List Item
vector_items v = Number v.x ∷ Number v.y ∷ Number v.z ∷ []

abbrev pub segment_items : Vector × Vector → List Item
segment_items s = vector_items s.0 ++ vector_items s.1

-- translation, then rotation: its vector part and its scalar part
abbrev pub pose_items : Pose → List Item
pose_items p = vector_items p.translation ++ (vector_items p.rotation.b ++ (Number p.rotation.w ∷ []))

abbrev pub point2_items : Vector2 → List Item
point2_items p = Number p.x ∷ Number p.y ∷ []

abbrev pub segment2_items : List Vector2 → List Item
segment2_items ps = point2_items (point_at ps 0) ++ point2_items (point_at ps 1)

-- what is spelt only if it is there
abbrev pub optional_items : {A : Type 0} → (A → List Item) → Option A → List Item
optional_items items None = []
optional_items items (Some a) = items a

abbrev pub hint_items : Option Vector → List Item
hint_items = optional_items vector_items

abbrev pub vectors_items : List Vector → List Item
vectors_items vs = vector_items (vertex_at vs 0) ++ (vector_items (vertex_at vs 1) ++ (vector_items (vertex_at vs 2) ++ vector_items (vertex_at vs 3)))

abbrev pub id_item : PackedFeatureId → Item
id_item i = Word i.0

abbrev pub ids_items : List PackedFeatureId → List Item
ids_items is = id_item (slice_index_or is 0 unknown) ∷ id_item (slice_index_or is 1 unknown) ∷ id_item (slice_index_or is 2 unknown) ∷ id_item (slice_index_or is 3 unknown) ∷ []

-- how many vertices are used, the vertices, their ids, the ids of the edges, that of the face
abbrev pub row_items : FeatureRow → List Item
row_items r = Place r.num_vertices ∷ (vectors_items r.vertices ++ (ids_items r.vids ++ (ids_items r.eids ++ (id_item r.fid ∷ []))))

abbrev pub form_items : Form → List Item
form_items (Cylinder hh r) = Says (codes "cylinder") ∷ Number hh ∷ Number r ∷ []
form_items (Cuboid he) = Says (codes "cuboid") ∷ vector_items he

abbrev pub kind_name : FeatureKind → Text
kind_name Vertex = codes "vertex"
kind_name Edge = codes "edge"
kind_name Face = codes "face"

abbrev pub kind_items : FeatureKind → List Item
kind_items k = Says (kind_name k) ∷ []

-- ---- the commands

abbrev pub shape_items : Which → Form → List Item
shape_items k f = Says (codes "shape") ∷ Chosen k ∷ form_items f

abbrev pub feature_items : Which → Text → List Item → List Item
feature_items k deed is = Says (codes "feature") ∷ Chosen k ∷ Says deed ∷ is

-- a remark has no words of its own
abbrev pub spelling : Command → List Item
spelling Remark = []
spelling (Shape k f) = shape_items k f
spelling (Support k dir hint) = feature_items k (codes "support") (vector_items dir ++ hint_items hint)
spelling (Make k row) = feature_items k (codes "make") (row_items row)
spelling (Transform k pose) = feature_items k (codes "transform") (pose_items pose)
spelling (Show k) = feature_items k (codes "show") []
spelling (Pack kind code) = Says (codes "id") ∷ Says (kind_name kind) ∷ Word code ∷ []
spelling (Clip a b) = Says (codes "clip") ∷ (segment_items a ++ segment_items b)
spelling (Lines a b) = Says (codes "lines") ∷ (segment2_items a ++ segment2_items b)
spelling (Sqrt v) = Says (codes "sqrt") ∷ Number v ∷ []

-- ---- what the words settle

-- the item as the word settles it: a number that the word leaves open becomes 0
abbrev pub settled_item : Text → Item → Item
settled_item w (Says t) = Says t
settled_item w (Chosen k) = Chosen k
settled_item w (Number x) = cond (settles w) (Number x) (Number zero)
settled_item w (Word n) = Word n
settled_item w (Place n) = Place n

abbrev pub settled_items : List Text → List Item → List Item
settled_items [] is = []
settled_items (w ∷ ws) [] = []
settled_items (w ∷ ws) (i ∷ is) = settled_item w i ∷ settled_items ws is
