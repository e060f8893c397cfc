-- A line means one command: its words settle each item of the spelling, but for numbers that they leave open.
use Rattle.std.proofs.Common.{◌≡◌, ℕ, ◌^◌, Bool, true, false, cond, ◌&&◌, ◌||◌, ltb, List, [], ◌∷◌, ◌++◌, map, get_or, drop, replicate, Some, None, codes, Option, unwrap_or, sym, refl, ap, ◌∙◌, inl, inr}
use lib.Ieee.{Float}
use Rattle.std.proofs.lemmas.Bool.{cases_Bool, cond-true, cond-false, and_parts, ltb-true}
use Rattle.std.specs.Str.Parse.{without_leading_sign, digits_value}
use Rattle.std.specs.Str.{bytes_eq}
use Rattle.math.specs.Floats.{zero}
use Rattle.script.specs.Grammar.{Item, Says, Chosen, Number, Word, Place, ordinal, Spells, Spelt, vector_items, row_items, pose_items, segment_items, segment2_items, kind_name, feature_items, spelling, settled_item, settled_items}
use Rattle.script.specs.Numerals.{word, place, begins, bits_number, is_numeral_of, whole_number, settles, Writes}
use Rattle.script.specs.Words.{Text}
use Rattle.script.specs.declared.command.Command.{Command}
use Rattle.script.specs.declared.command.Command.TheVariants.{Remark, Shape, Support, Make, Transform, Show, Pack, Clip, Lines, Sqrt}
use Rattle.script.specs.declared.command.Form.TheVariants.{Cylinder, Cuboid}
use Rattle.script.specs.declared.command.Which.{Which}
use Rattle.script.specs.declared.command.Which.TheVariants.{First, Second}

-- ---- each item by its word

-- an item without its value
abbrev bare : Item → Item
bare (Says t) = Says t
bare (Chosen k) = Chosen First
bare (Number x) = Number zero
bare (Word n) = Word 0
bare (Place n) = Place 0

-- the number that a word writes, where it settles one
abbrev written : Text → Float
written w = cond (begins (codes "x") w) (unwrap_or (bits_number (drop 1 w)) zero) (whole_number w)

-- the item that a word settles, by its kind alone
abbrev by_word : Text → Item → Item
by_word w (Says t) = Says t
by_word w (Chosen k) = Chosen (cond (bytes_eq w (codes "1")) First Second)
by_word w (Number x) = cond (settles w) (Number (written w)) (Number zero)
by_word w (Word n) = Word (unwrap_or (word w) 0)
by_word w (Place n) = Place (unwrap_or (place w) 0)

chosen : (k : Which) (w : Text) → w ≡ ordinal k → k ≡ cond (bytes_eq w (codes "1")) First Second
chosen First w e = sym (ap (λ (u : Text). cond (bytes_eq u (codes "1")) First Second) e)
chosen Second w e = sym (ap (λ (u : Text). cond (bytes_eq u (codes "1")) First Second) e)

by_bits : (x : Float) (w : Text) → Writes x w → begins (codes "x") w ≡ true → x ≡ written w
by_bits x w h b = sym (ap (λ (o : Option Float). unwrap_or o zero) (h.bits b)) ∙ sym (cond-true (begins (codes "x") w) _ _ b)

by_digits : (x : Float) (w : Text) → Writes x w → begins (codes "x") w ≡ false → settles w ≡ true → x ≡ written w
by_digits x w h b s =
    let small = is_numeral_of 10 (without_leading_sign w) && ltb (digits_value 10 (without_leading_sign w)) (2 ^ 64) in
    let digits : small ≡ true = sym (ap (λ (t : Bool). t || small) b) ∙ s in
    let both = and_parts _ _ digits in
    h.whole both.0 (ltb-true _ _ both.1) ∙ sym (cond-false (begins (codes "x") w) _ _ b)

number_settled : (x : Float) (w : Text) → Writes x w → settles w ≡ true → x ≡ written w
number_settled x w h s = elim (cases_Bool (begins (codes "x") w)) [ inl b ↦ by_bits x w h b | inr b ↦ by_digits x w h b s ]

settled : (i : Item) (w : Text) → Spells i w → settled_item w i ≡ by_word w (bare i)
settled (Says t) w h = refl
settled (Chosen k) w h = ap Chosen (chosen k w h)
settled (Number x) w h =
    elim (cases_Bool (settles w)) [
      | inl s ↦ ap (λ (y : Float). cond (settles w) (Number y) (Number zero)) (number_settled x w h s)
      | inr s ↦ cond-false (settles w) _ _ s ∙ sym (cond-false (settles w) _ _ s)
    ]
settled (Word n) w h = ap Word (sym (ap (λ (o : Option ℕ). unwrap_or o 0) h))
settled (Place n) w h = ap Place (sym (ap (λ (o : Option ℕ). unwrap_or o 0) h))

abbrev by_words : List Text → List Item → List Item
by_words [] is = []
by_words (w ∷ ws) [] = []
by_words (w ∷ ws) (i ∷ is) = by_word w i ∷ by_words ws is

all_settled : (ws : List Text) (is : List Item) → Spelt is ws [] → settled_items ws is ≡ by_words ws (map bare is)
all_settled [] is s = refl
all_settled (w ∷ ws) [] s = refl
all_settled (w ∷ ws) (i ∷ is) s =
    ap (λ (j : Item). j ∷ settled_items ws is) (settled i w s.0) ∙ ap (λ (js : List Item). by_word w (bare i) ∷ js) (all_settled ws is s.1)

-- ---- the kinds of a line's items, by the words that name them

abbrev numbers : ℕ → List Item
numbers n = replicate n (Number zero)

abbrev form_sketch : Text → List Item
form_sketch w = Says w ∷ cond (bytes_eq w (codes "cylinder")) (numbers 2) (numbers 3)

abbrev deed_sketch : Text → List Text → List Item
deed_sketch w ws =
    Says w
    ∷ cond (bytes_eq w (codes "support")) (map (λ _. Number zero) ws)
    (cond (bytes_eq w (codes "make")) (Place 0 ∷ (numbers 12 ++ replicate 9 (Word 0)))
    (cond (bytes_eq w (codes "transform")) (numbers 7) []))

abbrev sketch : List Text → List Item
sketch ws =
    let w = get_or ws 0 [] in
    Says w
    ∷ cond (bytes_eq w (codes "shape")) (Chosen First ∷ form_sketch (get_or ws 2 []))
    (cond (bytes_eq w (codes "feature")) (Chosen First ∷ deed_sketch (get_or ws 2 []) (drop 3 ws))
    (cond (bytes_eq w (codes "id")) (Says (get_or ws 1 []) ∷ Word 0 ∷ [])
    (cond (bytes_eq w (codes "clip")) (numbers 12)
    (cond (bytes_eq w (codes "lines")) (numbers 8) (numbers 1)))))

after_name : (t : Text) (is : List Item) (ws : List Text) → Spelt (Says t ∷ is) ws [] → (rest : List Text) × (ws ≡ t ∷ rest) × Spelt is rest []
after_name t is [] s = absurd s
after_name t is (w ∷ ws) s = (ws, ap (λ (u : Text). u ∷ ws) s.0, s.1)

after_kind : (t u : Text) (is : List Item) (ws : List Text) → Spelt (Says t ∷ Says u ∷ is) ws [] → (rest : List Text) × (ws ≡ t ∷ u ∷ rest) × Spelt is rest []
after_kind t u is ws s =
    let a = after_name t (Says u ∷ is) ws s in
    let b = after_name u is a.0 a.2 in
    (b.0, a.1 ∙ ap (λ (us : List Text). t ∷ us) b.1, b.2)

after_deed : (t : Text) (k : Which) (u : Text) (is : List Item) (ws : List Text) → Spelt (Says t ∷ Chosen k ∷ Says u ∷ is) ws [] → (rest : List Text) × (ws ≡ t ∷ ordinal k ∷ u ∷ rest) × Spelt is rest []
after_deed t k u is ws s =
    let a = after_name t (Chosen k ∷ Says u ∷ is) ws s in
    let b = after_kind (ordinal k) u is a.0 a.2 in
    (b.0, a.1 ∙ ap (λ (us : List Text). t ∷ us) b.1, b.2)

bare_numbers : (xs : List Float) (ws : List Text) → Spelt (map Number xs) ws [] → map bare (map Number xs) ≡ map (λ _. Number zero) ws
bare_numbers [] ws s = ap (map (λ _. Number zero)) (sym s)
bare_numbers (x ∷ xs) [] s = absurd s
bare_numbers (x ∷ xs) (w ∷ ws) s = ap (λ (is : List Item). Number zero ∷ is) (bare_numbers xs ws s.1)

supported : (k : Which) (xs : List Float) (ws : List Text) → Spelt (feature_items k (codes "support") (map Number xs)) ws [] → map bare (feature_items k (codes "support") (map Number xs)) ≡ sketch ws
supported k xs ws s =
    let p = after_deed (codes "feature") k (codes "support") (map Number xs) ws s in
    ap (λ (is : List Item). Says (codes "feature") ∷ Chosen First ∷ Says (codes "support") ∷ is) (bare_numbers xs p.0 p.2) ∙ sym (ap sketch p.1)

sketched : (c : Command) (ws : List Text) → (c ≡ Remark → ⊥) → Spelt (spelling c) ws [] → map bare (spelling c) ≡ sketch ws
sketched Remark ws h s = absurd (h refl)
sketched (Shape k (Cylinder hh r)) ws h s = sym (ap sketch (after_deed (codes "shape") k (codes "cylinder") (Number hh ∷ Number r ∷ []) ws s).1)
sketched (Shape k (Cuboid he)) ws h s = sym (ap sketch (after_deed (codes "shape") k (codes "cuboid") (vector_items he) ws s).1)
sketched (Support k dir None) ws h s = supported k (dir.x ∷ dir.y ∷ dir.z ∷ []) ws s
sketched (Support k dir (Some v)) ws h s = supported k (dir.x ∷ dir.y ∷ dir.z ∷ v.x ∷ v.y ∷ v.z ∷ []) ws s
sketched (Make k row) ws h s = sym (ap sketch (after_deed (codes "feature") k (codes "make") (row_items row) ws s).1)
sketched (Transform k pose) ws h s = sym (ap sketch (after_deed (codes "feature") k (codes "transform") (pose_items pose) ws s).1)
sketched (Show k) ws h s = sym (ap sketch (after_deed (codes "feature") k (codes "show") [] ws s).1)
sketched (Pack kind code) ws h s = sym (ap sketch (after_kind (codes "id") (kind_name kind) (Word code ∷ []) ws s).1)
sketched (Clip a b) ws h s = sym (ap sketch (after_name (codes "clip") (segment_items a ++ segment_items b) ws s).1)
sketched (Lines a b) ws h s = sym (ap sketch (after_name (codes "lines") (segment2_items a ++ segment2_items b) ws s).1)
sketched (Sqrt v) ws h s = sym (ap sketch (after_name (codes "sqrt") (Number v ∷ []) ws s).1)

pub same_items : (c d : Command) (ws : List Text) → (c ≡ Remark → ⊥) → (d ≡ Remark → ⊥) → Spelt (spelling c) ws [] → Spelt (spelling d) ws [] → settled_items ws (spelling c) ≡ settled_items ws (spelling d)
same_items c d ws hc hd sc sd =
    all_settled ws (spelling c) sc ∙ ap (by_words ws) (sketched c ws hc sc ∙ sym (sketched d ws hd sd)) ∙ sym (all_settled ws (spelling d) sd)
