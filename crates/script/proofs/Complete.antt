-- A line whose words spell a command is read to its end: what spells an item passes its test, part by part.
use Rattle.std.proofs.Common.{◌≡◌, ℕ, Bool, true, cond, ◌||◌, List, [], ◌∷◌, ◌++◌, get_or, is_some, Some, None, codes, Option, sym, refl, ap, ◌∙◌, subst, append_assoc, append-nil}
use lib.Ieee.{Float}
use Rattle.std.specs.Str.{bytes_eq}
use Rattle.math.specs.Vectors2.{point_at}
use Rattle.math.specs.declared.pose.Pose.{Pose}
use Rattle.math.specs.declared.vector.Vector.{Vector}
use Rattle.math.specs.declared.vector2.Vector2.{Vector2}
use Rattle.shape.specs.Features.{unknown}
use Rattle.shape.specs.Nearness.{vertex_at}
use Rattle.shape.specs.declared.feature_id.PackedFeatureId.{PackedFeatureId}
use Rattle.script.specs.Grammar.{Item, Says, Chosen, Number, Word, Place, ordinal, Spells, Spelt, vector_items, segment_items, pose_items, point2_items, segment2_items, hint_items, vectors_items, ids_items, row_items, form_items, kind_items, feature_items, spelling}
use Rattle.script.specs.Numerals.{is_number, is_word, is_place}
use Rattle.script.specs.Readings.{Progress, reached, faulty, ◌then◌, past_one, past_number, past_word, past_place, past_ordinal, past_vector, past_segment, past_point2, past_segment2, past_pose, past_hint, past_row, past_form, past_deed, past_kind, past_named, past_command, past_end, past_line, times, by_name}
use Rattle.script.specs.Words.{Text}
use Rattle.script.specs.declared.command.Command.{Command}
use Rattle.script.specs.declared.command.Command.TheVariants.{Remark, Shape, Support, Make, Transform, Show, Pack, Clip, Lines, Sqrt}
use Rattle.script.specs.declared.command.Form.{Form}
use Rattle.script.specs.declared.command.Form.TheVariants.{Cylinder, Cuboid}
use Rattle.shape.specs.declared.feature_id.FeatureKind.{FeatureKind}
use Rattle.shape.specs.declared.feature_id.FeatureKind.TheVariants.{Vertex, Edge, Face}
use Rattle.shape.specs.declared.polygonal_feature3d.FeatureRow.{FeatureRow}
use Rattle.script.specs.declared.command.Which.{Which}
use Rattle.script.specs.declared.command.Which.TheVariants.{First, Second}
use Rattle.script.specs.declared.fault.Fault.{Fault}
use Rattle.script.specs.declared.fault.Fault.TheVariants.{NotNumber, NotWord, NotPlace, NotOneOrTwo}

-- words that begin with these items are passed, and what follows them is left
record Passes (is : List Item) (past : List Text → Progress) : Type 0 where
  pass : (js : List Item) (ws rest : List Text) → Spelt (is ++ js) ws rest → (mid : List Text) × (past ws ≡ reached mid) × Spelt js mid rest

-- words that are just these items are passed, and the line is at its end
record Ends (is : List Item) (past : List Text → Progress) : Type 0 where
  end : (ws : List Text) → Spelt is ws [] → past ws ≡ reached []

none : Passes [] reached
none = record { pass = λ js ws rest s. (ws, refl, s) }

one : (i : Item) (test : Text → Bool) (f : Fault) → ((w : Text) → Spells i w → test w ≡ true) → Passes (i ∷ []) (past_one test f)
one i test f h = record { pass = go }
  where
    go : (js : List Item) (ws rest : List Text) → Spelt (i ∷ js) ws rest → (mid : List Text) × (past_one test f ws ≡ reached mid) × Spelt js mid rest
    go js [] rest s = absurd s
    go js (w ∷ ws) rest s = (ws, ap (λ (b : Bool). cond b (reached ws) (faulty f)) (h w s.0), s.1)

infixr 20 ◌&◌
◌&◌ : {is js : List Item} {p q : List Text → Progress} → Passes is p → Passes js q → Passes (is ++ js) (λ ws. p ws then q)
◌&◌ {is} {js} {p} {q} P Q = record {
  pass = λ ks ws rest s.
      let a = P.pass (js ++ ks) ws rest (subst (λ (l : List Item). Spelt l ws rest) (append_assoc is js ks) s) in
      let b = Q.pass ks a.0 rest a.2 in
      (b.0, ap (λ (x : Progress). x then q) a.1 ∙ b.1, b.2);
}

ending : {is : List Item} {p : List Text → Progress} → Passes is p → Ends is p
ending {is} {p} P = record {
  end = λ ws s.
      let a = P.pass [] ws [] (subst (λ (l : List Item). Spelt l ws []) (sym (append-nil is)) s) in
      a.1 ∙ ap reached a.2;
}

infixr 20 ◌&&◌
◌&&◌ : {is js : List Item} {p q : List Text → Progress} → Passes is p → Ends js q → Ends (is ++ js) (λ ws. p ws then q)
◌&&◌ {is} {js} {p} {q} P Q = record {
  end = λ ws s.
      let a = P.pass js ws [] s in
      ap (λ (x : Progress). x then q) a.1 ∙ Q.end a.0 a.2;
}

named : (t : Text) (is : List Item) (next : Text → List Text → Progress) → Ends is (next t) → Ends (Says t ∷ is) (by_name next)
named t is next P = record { end = go }
  where
    go : (ws : List Text) → Spelt (Says t ∷ is) ws [] → by_name next ws ≡ reached []
    go [] s = absurd s
    go (w ∷ ws) s = ap (λ (u : Text). next u ws) s.0 ∙ P.end ws s.1

naming : {is : List Item} (t : Text) (next : Text → List Text → Progress) → Passes is (next t) → Passes (Says t ∷ is) (by_name next)
naming {is} t next P = record { pass = go }
  where
    go : (js : List Item) (ws rest : List Text) → Spelt (Says t ∷ is ++ js) ws rest → (mid : List Text) × (by_name next ws ≡ reached mid) × Spelt js mid rest
    go js [] rest s = absurd s
    go js (w ∷ ws) rest s =
        let a = P.pass js ws rest s.1 in
        (a.0, ap (λ (u : Text). next u ws) s.0 ∙ a.1, a.2)

-- ---- the parts

number : (x : Float) → Passes (Number x ∷ []) past_number
number x = one (Number x) is_number NotNumber (λ w h. h.number)

word : (n : ℕ) → Passes (Word n ∷ []) past_word
word n = one (Word n) is_word NotWord (λ w h. ap is_some h)

place : (n : ℕ) → Passes (Place n ∷ []) past_place
place n = one (Place n) is_place NotPlace (λ w h. ap is_some h)

abbrev one_or_two : Text → Bool
one_or_two w = bytes_eq w (codes "1") || bytes_eq w (codes "2")

is_ordinal : (k : Which) → one_or_two (ordinal k) ≡ true
is_ordinal First = refl
is_ordinal Second = refl

which : (k : Which) → Passes (Chosen k ∷ []) past_ordinal
which k = one (Chosen k) one_or_two NotOneOrTwo (λ w h. ap one_or_two h ∙ is_ordinal k)

vector : (v : Vector) → Passes (vector_items v) past_vector
vector v = number v.x & number v.y & number v.z & none

segment : (s : Vector × Vector) → Passes (segment_items s) past_segment
segment s = vector s.0 & vector s.1

pose : (p : Pose) → Passes (pose_items p) past_pose
pose p = vector p.translation & vector p.rotation.b & number p.rotation.w

point2 : (p : Vector2) → Passes (point2_items p) past_point2
point2 p = number p.x & number p.y & none

segment2 : (ps : List Vector2) → Passes (segment2_items ps) past_segment2
segment2 ps = point2 (point_at ps 0) & point2 (point_at ps 1) & none

vectors : (vs : List Vector) → Passes (vectors_items vs) (times 4 past_vector)
vectors vs = vector (vertex_at vs 0) & vector (vertex_at vs 1) & vector (vertex_at vs 2) & vector (vertex_at vs 3) & none

ids : (is : List PackedFeatureId) → Passes (ids_items is) (times 4 past_word)
ids is = word (get_or is 0 unknown).0 & word (get_or is 1 unknown).0 & word (get_or is 2 unknown).0 & word (get_or is 3 unknown).0 & none

row : (r : FeatureRow) → Passes (row_items r) past_row
row r = place r.num_vertices & vectors r.vertices & ids r.vids & ids r.eids & word r.fid.0

-- a hint stands last
hint : (h : Option Vector) → Ends (hint_items h) past_hint
hint None = record { end = λ ws s. ap past_hint s }
hint (Some v) = record { end = go }
  where
    go : (ws : List Text) → Spelt (vector_items v) ws [] → past_hint ws ≡ reached []
    go [] s = absurd s
    go (w ∷ ws) s = (ending (vector v)).end (w ∷ ws) s

-- ---- the commands

form : (f : Form) → Ends (form_items f) (by_name past_form)
form (Cylinder hh r) = named (codes "cylinder") _ past_form (ending (number hh & number r & none))
form (Cuboid he) = named (codes "cuboid") _ past_form (ending (vector he))

kind : (k : FeatureKind) → Passes (kind_items k) (by_name past_kind)
kind Vertex = naming (codes "vertex") past_kind none
kind Edge = naming (codes "edge") past_kind none
kind Face = naming (codes "face") past_kind none

feature : (k : Which) (deed : Text) (is : List Item) → Ends is (past_deed deed) → Ends (feature_items k deed is) past_command
feature k deed is P = named (codes "feature") _ past_named (which k && named deed is past_deed P)

-- the words of every command but a remark
command : (c : Command) → (c ≡ Remark → ⊥) → Ends (spelling c) past_command
command Remark h = absurd (h refl)
command (Shape k f) h = named (codes "shape") _ past_named (which k && form f)
command (Support k dir x) h = feature k (codes "support") _ (vector dir && hint x)
command (Make k r) h = feature k (codes "make") _ (ending (row r))
command (Transform k p) h = feature k (codes "transform") _ (ending (pose p))
command (Show k) h = feature k (codes "show") _ (ending none)
command (Pack k n) h = named (codes "id") _ past_named (ending (kind k & word n))
command (Clip a b) h = named (codes "clip") _ past_named (ending (segment a & segment b & none))
command (Lines a b) h = named (codes "lines") _ past_named (ending (segment2 a & segment2 b & none))
command (Sqrt v) h = named (codes "sqrt") _ past_named (ending (number v))

pub whole_line : (c : Command) (ws : List Text) → (c ≡ Remark → ⊥) → Spelt (spelling c) ws [] → past_line ws ≡ reached []
whole_line c ws h s = ap (λ (p : Progress). p then past_end) ((command c h).end ws s)
