-- A feature or a shape written into its slot of a session, and a shape read there.
use Rattle.std.proofs.Common.{◌≡◌, ℕ, List, [], ◌∷◌, length, get_or, set, Some, Option, sym, refl, ap, ◌∙◌, subst, arith}
use Rattle.math.specs.Refusals as Refusals
use Rattle.math.specs.Refusals.{done, refused}
use Rattle.shape.specs.Features.{Fields, fields}
use Rattle.shape.specs.declared.polygonal_feature3d.PolygonalFeature.{PolygonalFeature}
use Rattle.script.specs.Grammar.{ordinal_index}
use Rattle.script.specs.declared.command.Form.{Form}
use Rattle.script.specs.declared.command.Form.TheVariants as FormOf
use Rattle.script.specs.declared.command.Which.{Which}
use Rattle.script.specs.declared.command.Which.TheVariants.{First, Second}
use Rattle.bench.specs.declared.session.Session.{Session}
use Rattle.bench.specs.declared.session.Slot.{Slot}
use Rattle.bench.specs.declared.session.Solid.{Solid}
use Rattle.bench.specs.Solids.{solid_form, form, formed, forming}
use Rattle.bench.specs.Sessions.{State, state, shape_at, feature_at, with_shape, with_feature, if_done}

-- the session with these slots
abbrev with_row : Session → List Slot → State
with_row s ps = state (record s { slots = ps })

at_slot : (w : Which) (s : Session) (ps : List Slot) (d : Slot) (f : PolygonalFeature) (rule : Fields → Fields) → length ps ≡ 2 → fields f ≡ rule (fields (get_or ps (ordinal_index w) d).feature) → with_row s (set ps (ordinal_index w) (record (get_or ps (ordinal_index w) d) { feature = f })) ≡ with_feature w (rule (feature_at w (with_row s ps))) (with_row s ps)
at_slot First s [] d f rule n e = cc
at_slot First s (p ∷ ps) d f rule n e = ap (λ (x : Fields). with_feature First x (with_row s (p ∷ ps))) e
at_slot Second s [] d f rule n e = cc
at_slot Second s (p ∷ []) d f rule n e = absurd (omega arith)
at_slot Second s (p ∷ q ∷ ps) d f rule n e = ap (λ (x : Fields). with_feature Second x (with_row s (p ∷ q ∷ ps))) e

-- a feature made of the one in its slot, by any rule of fields
pub feature_remade : (w : Which) (s : Session) (k : ℕ) (d : Slot) (f : PolygonalFeature) (rule : Fields → Fields) → k ≡ ordinal_index w → length s.slots ≡ 2 → fields f ≡ rule (fields (get_or s.slots k d).feature) → state (record s { slots = set s.slots k (record (get_or s.slots k d) { feature = f }) }) ≡ with_feature w (rule (feature_at w (state s))) (state s)
feature_remade w s k d f rule p n e =
    subst (λ (j : ℕ). fields f ≡ rule (fields (get_or s.slots j d).feature) → with_row s (set s.slots j (record (get_or s.slots j d) { feature = f })) ≡ with_feature w (rule (feature_at w (state s))) (state s)) (sym p) (at_slot w s s.slots d f rule n) e

at_shape : (w : Which) (s : Session) (ps : List Slot) (d : Slot) → length ps ≡ 2 → shape_at w (with_row s ps) ≡ form (get_or ps (ordinal_index w) d).shape
at_shape First s [] d n = absurd (omega arith)
at_shape First s (p ∷ ps) d n = refl
at_shape Second s [] d n = absurd (omega arith)
at_shape Second s (p ∷ []) d n = absurd (omega arith)
at_shape Second s (p ∷ q ∷ ps) d n = refl

-- the shape in a slot, as it is read there
pub shape_read : (w : Which) (s : Session) (k : ℕ) (d : Slot) (x : Solid) → k ≡ ordinal_index w → length s.slots ≡ 2 → (get_or s.slots k d).shape ≡ Some x → shape_at w (state s) ≡ Some (solid_form x)
shape_read w s k d x p n e = at_shape w s s.slots d n ∙ ap (λ (j : ℕ). form (get_or s.slots j d).shape) (sym p) ∙ ap form e

put_shape : (w : Which) (s : Session) (ps : List Slot) (d : Slot) (x : Solid) → length ps ≡ 2 → with_row s (set ps (ordinal_index w) (record (get_or ps (ordinal_index w) d) { shape = Some x })) ≡ with_shape w (form (Some x)) (with_row s ps)
put_shape First s [] d x n = absurd (omega arith)
put_shape First s (p ∷ ps) d x n = refl
put_shape Second s [] d x n = absurd (omega arith)
put_shape Second s (p ∷ []) d x n = absurd (omega arith)
put_shape Second s (p ∷ q ∷ ps) d x n = refl

formed_whole : {A : Type 0} (f : Form) (a : Refusals.Answer A) (y : Option Form) → done y ≡ formed f a → y ≡ Some f
formed_whole f (done a) y e = cc
formed_whole f (refused n) y e = cc

forming_whole : (f : Form) (y : Option Form) → done y ≡ forming f → y ≡ Some f
forming_whole (FormOf.Cylinder hh r) y e = formed_whole (FormOf.Cylinder hh r) _ y e
forming_whole (FormOf.Cuboid he) y e = formed_whole (FormOf.Cuboid he) _ y e

-- a shape of the sizes that are asked for, put into its slot
pub shape_put : (w : Which) (s : Session) (k : ℕ) (d : Slot) (x : Solid) (f : Form) → k ≡ ordinal_index w → length s.slots ≡ 2 → done (form (Some x)) ≡ forming f → state (record s { slots = set s.slots k (record (get_or s.slots k d) { shape = Some x }) }) ≡ if_done (forming f) (with_shape w (Some f) (state s)) (state s)
shape_put w s k d x f p n e =
    subst (λ r. state (record s { slots = set s.slots k (record (get_or s.slots k d) { shape = Some x }) }) ≡ if_done r (with_shape w (Some f) (state s)) (state s)) e
    (subst (λ (j : ℕ). with_row s (set s.slots j (record (get_or s.slots j d) { shape = Some x })) ≡ with_shape w (form (Some x)) (state s)) (sym p) (put_shape w s s.slots d x n)
    ∙ ap (λ (y : Option Form). with_shape w y (state s)) (forming_whole f (form (Some x)) e))
