-- What a session holds, and what each command answers and leaves there.
use Rattle.std.specs.Prelude.{◌≡◌, ℕ, cond, List, map, slice_index_or, Some, None, Option}
use Rattle.math.specs.Floats.{root}
use Rattle.math.specs.Refusals as Refusals
use Rattle.math.specs.Refusals.{done, refused}
use Rattle.math.specs.declared.vector.Vector.{Vector}
use Rattle.shape.specs.Features.{Fields, fields, nothing}
use Rattle.shape.specs.Features as Features
use Rattle.shape.specs.Ids.{header, packing}
use Rattle.shape.specs.Moves.{moving, moved_or_kept}
use Rattle.shape.specs.Supports.{direction_given, supporting}
use Rattle.query.specs.Clips.{clipping}
use Rattle.query.specs.Meeting.{meeting_answer}
use Rattle.script.specs.Lines.{Means, Faulty}
use Rattle.script.specs.Words.{Text}
use Rattle.script.specs.declared.command.Command.{Command}
use Rattle.script.specs.declared.command.Command.TheVariants.{Remark, Shape, Support, Make, Transform, Show, Pack, Clip, Lines, Sqrt}
use Rattle.script.specs.declared.command.Form.{Form}
use Rattle.script.specs.declared.command.Which.{Which}
use Rattle.script.specs.declared.command.Which.TheVariants.{First, Second}
use Rattle.script.specs.declared.fault.Fault.{Fault}
use Rattle.script.specs.declared.fault.Fault.TheVariants.{NoShape}
use Rattle.bench.specs.Answers.{Answer, Nothing, Done, Unreadable, Feature, Packed, Clipped, Meeting, Root, replied}
use Rattle.bench.specs.Solids.{form, forming, supported}
use Rattle.bench.specs.declared.session.Session.{Session}
use Rattle.bench.specs.declared.session.Slot.{Slot}
use Rattle.bench.specs.declared.session.Solid.{Solid}

-- the two shapes and the two features
pub record State : Type 0 where
  pub shape1 : Option Form
  pub shape2 : Option Form
  pub feature1 : Fields
  pub feature2 : Fields

-- the shape and the feature that stand in a slot; past the last slot, nothing
abbrev pub shape_in : List Slot → ℕ → Option Solid
shape_in slots k = slice_index_or (map (λ (slot : Slot). slot.shape) slots) k None

abbrev pub fields_in : List Slot → ℕ → Fields
fields_in slots k = slice_index_or (map (λ (slot : Slot). fields slot.feature) slots) k nothing

abbrev pub state : Session → State
state s = record {
  shape1 = form (shape_in s.slots 0);
  shape2 = form (shape_in s.slots 1);
  feature1 = fields_in s.slots 0;
  feature2 = fields_in s.slots 1;
}

-- no shapes, and features with no vertices
abbrev pub start : State
start = record { shape1 = None; shape2 = None; feature1 = nothing; feature2 = nothing }

abbrev pub shape_at : Which → State → Option Form
shape_at First s = s.shape1
shape_at Second s = s.shape2

abbrev pub feature_at : Which → State → Fields
feature_at First s = s.feature1
feature_at Second s = s.feature2

abbrev pub with_shape : Which → Option Form → State → State
with_shape First f s = record { shape1 = f; shape2 = s.shape2; feature1 = s.feature1; feature2 = s.feature2 }
with_shape Second f s = record { shape1 = s.shape1; shape2 = f; feature1 = s.feature1; feature2 = s.feature2 }

abbrev pub with_feature : Which → Fields → State → State
with_feature First f s = record { shape1 = s.shape1; shape2 = s.shape2; feature1 = f; feature2 = s.feature2 }
with_feature Second f s = record { shape1 = s.shape1; shape2 = s.shape2; feature1 = s.feature1; feature2 = f }

-- the first where the call is done, the second where it is turned down
abbrev pub if_done : {A B : Type 0} → Refusals.Answer A → B → B → B
if_done (done a) x y = x
if_done (refused n) x y = y

-- A shape that is not there is no refusal: the line cannot be read.
abbrev pub support_answer : Option Form → Vector → Option Vector → Answer
support_answer None dir hint = Unreadable NoShape
support_answer (Some f) dir hint = replied (λ _. Done) (supporting dir hint)

abbrev pub support_left : Option Form → Vector → Option Vector → Fields → Fields
support_left None dir hint old = old
support_left (Some f) dir hint old = cond (direction_given dir hint) (supported f dir hint) old

abbrev pub answered : Command → State → Answer
answered Remark s = Nothing
answered (Shape w f) s = replied (λ _. Done) (forming f)
answered (Support w dir hint) s = support_answer (shape_at w s) dir hint
answered (Make w row) s = replied (λ _. Done) (Features.making row)
answered (Transform w pose) s = replied (λ _. Done) (moving pose (feature_at w s))
answered (Show w) s = Feature (feature_at w s)
answered (Pack kind code) s = replied Packed (packing (header kind) code)
answered (Clip a b) s = replied Clipped (clipping a b)
answered (Lines a b) s = replied Meeting (meeting_answer a b)
answered (Sqrt v) s = Root (root v)

-- A command that is turned down or cannot be read leaves all as it was.
abbrev pub performed : Command → State → State
performed Remark s = s
performed (Shape w f) s = if_done (forming f) (with_shape w (Some f) s) s
performed (Support w dir hint) s = with_feature w (support_left (shape_at w s) dir hint (feature_at w s)) s
performed (Make w row) s = with_feature w (Features.made row (feature_at w s)) s
performed (Transform w pose) s = with_feature w (moved_or_kept pose (feature_at w s)) s
performed (Show w) s = s
performed (Pack kind code) s = s
performed (Clip a b) s = s
performed (Lines a b) s = s
performed (Sqrt v) s = s

-- A line is performed as a command, or it cannot be read and changes nothing.
pub data Ran (s : State) (r : Answer) (t : State) : Type 0 where
  ran : (c : Command) → r ≡ answered c s → t ≡ performed c s → Ran s r t
  unread : (f : Fault) → r ≡ Unreadable f → t ≡ s → Ran s r t

-- A line is performed as the command that it means; one that means none is told its first fault, and changes nothing.
pub data RanAsMeant (line : Text) (s : State) (r : Answer) (t : State) : Type 0 where
  meant : (c : Command) → Means line c → r ≡ answered c s → t ≡ performed c s → RanAsMeant line s r t
  without_meaning : (f : Fault) → Faulty line f → ((c : Command) → Means line c → ⊥) → r ≡ Unreadable f → t ≡ s → RanAsMeant line s r t
