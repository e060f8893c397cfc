-- The face of a cuboid: its axis is one of three, its side one of two, its corners lie near.
use Rattle.std.proofs.Common.{◌≡◌, ℕ, ◌+◌, ◌*◌, ◌<◌, Bool, true, false, cond, not, ◌&&◌, eqb, ◌⊎◌, List, get_or, ℤ, refl, ap, ◌∙◌, subst, inl, inr, arith}
use lib.Ieee.{Float, binary64, nan, inf, fin, of_bits, is_nan, lt, le, neg, mul, round}
use Rattle.std.specs.Float.{float_with_sign, is_sign_negative}
use Rattle.std.proofs.lemmas.Bool.{and_parts, and_from, cond_both}
use Rattle.math.specs.Basis.{signed}
use Rattle.math.specs.Floats.{◌⊗◌, opposite, one}
use Rattle.math.specs.Floats as F
use Rattle.math.specs.Limits.{limit}
use Rattle.math.specs.Magnitude.{bound, within, vector_within}
use Rattle.math.specs.Vectors.{sizes, vector_number, largest_place, coordinate, FirstLargest}
use Rattle.math.specs.declared.vector.Vector.{Vector}
use Rattle.math.proofs.Largest as Largest
use Rattle.math.proofs.Signs.{sign_product}
use Rattle.math.proofs.Magnitude.{no, mul_within, neg_within}
use Rattle.math.proofs.UnitMagnitude.{limit_bound}
use Rattle.math.proofs.VectorMagnitude.{coordinates}
use Rattle.shape.specs.Cuboids.{main_axis_of, side_of, face_vertices_of, face_corners, corner_at, vertex_codes_of, joining, edge_codes_of, cuboid_fields, PlusOrMinus, FaceCorner, AroundFace, next, Neighbours, Supporting}
use Rattle.shape.specs.declared.cuboid.face.Side.{Side}
use Rattle.shape.specs.declared.cuboid.face.Side.TheVariants.{Negative, Positive}
use Rattle.shape.specs.Features.{unknown}
use Rattle.shape.specs.Ids.{packed, four_codes, vertex_header, edge_header, face_header}
use Rattle.shape.specs.Nearness.{vertex_limit, vertex_at, near_all}
use Rattle.shape.specs.Sizes.{is_size, are_sizes}
use Rattle.shape.proofs.Cases.{of_three, of_four}
use Rattle.shape.proofs.Near.{given_near, size_given, point, from_four}

pub axis_below : (dir : Vector) → main_axis_of dir < 3
unfolding largest_place
axis_below dir =
    let v = sizes dir in
    let below : ℕ → Type 0 = λ i. i < 3 in
    cond_both (lt v.x v.y) _ _ below
    (λ h. cond_both (lt v.y v.z) 2 1 below (λ k. omega arith) (λ k. omega arith))
    (λ h. cond_both (lt v.x v.z) 2 0 below (λ k. omega arith) (λ k. omega arith))

pub sides : (s : Side) → (s ≡ Negative) ⊎ (s ≡ Positive)
sides Negative = inl refl
sides Positive = inr refl

sign_side : (b : Bool) → ◌≡◌ {A = ℕ} (cond (lt F.zero (float_with_sign b one)) 1 0) (cond b 0 1)
unfolding of_bits lt float_with_sign
sign_side true = refl
sign_side false = refl

-- the test of the sign finds the side
pub side_found : (d : Float) → ◌≡◌ {A = ℕ} (cond (lt F.zero (signed d one)) 1 0) (side_of d)
side_found d = sign_side (is_sign_negative d)

-- ---- nearness

one_bound : bound one ≡ true
unfolding of_bits
one_bound = refl

sign_within : (b : Bool) → within one (float_with_sign b one) ≡ true
unfolding of_bits within float_with_sign le
sign_within true = refl
sign_within false = refl

limit_by_one : limit ⊗ one ≡ limit
unfolding of_bits mul round
limit_by_one = refl

-- a half extent times the sign
reach : (h d : Float) → is_size h ≡ true → within vertex_limit (h ⊗ signed d one) ≡ true
reach h d H = given_near _ (subst (λ (b : Float). within b (h ⊗ signed d one) ≡ true) limit_by_one (mul_within limit one h (signed d one) limit_bound one_bound (size_given h H) (sign_within (is_sign_negative d))))

-- each half extent
record Sized (he : Vector) : Type 0 where
  x : is_size he.x ≡ true
  y : is_size he.y ≡ true
  z : is_size he.z ≡ true

sized_each : (he : Vector) → are_sizes he ≡ true → Sized he
unfolding are_sizes
sized_each he H =
    let xyz = and_parts _ _ H in
    let xy = and_parts _ _ xyz.0 in
    record { x = xy.0; y = xy.1; z = xyz.1 }

pub face_near : (he : Vector) (axis : ℕ) (d : Float) → are_sizes he ≡ true → near_all (face_vertices_of he axis (signed d one)) ≡ true
unfolding face_vertices_of
face_near he axis d H =
    let s = sized_each he H in
    let x = given_near _ (size_given he.x s.x) in
    let y = given_near _ (size_given he.y s.y) in
    let z = given_near _ (size_given he.z s.z) in
    let x' = neg_within vertex_limit he.x ∙ x in
    let y' = neg_within vertex_limit he.y ∙ y in
    let z' = neg_within vertex_limit he.z ∙ z in
    let sx = reach he.x d s.x in
    let sy = reach he.y d s.y in
    let sz = reach he.z d s.z in
    let near : List Vector → Type 0 = λ vs. near_all vs ≡ true in
    cond_both (eqb axis 0) _ _ near
    (λ h. from_four vertex_limit _ (point _ _ _ sx y z) (point _ _ _ sx y' z) (point _ _ _ sx y' z') (point _ _ _ sx y z'))
    (λ h. cond_both (eqb axis 1) _ _ near
    (λ k. from_four vertex_limit _ (point _ _ _ x sy z) (point _ _ _ x' sy z) (point _ _ _ x' sy z') (point _ _ _ x sy z'))
    (λ k. from_four vertex_limit _ (point _ _ _ x y sz) (point _ _ _ x y' sz) (point _ _ _ x' y' sz) (point _ _ _ x' y sz)))

-- each half extent is in range, and above 0
pub sized : (he : Vector) → vector_within limit he ≡ true → (lt F.zero he.x && lt F.zero he.y && lt F.zero he.z) ≡ true → are_sizes he ≡ true
unfolding is_size are_sizes
sized he g a =
    let given = coordinates limit he g in
    let xyz = and_parts _ _ a in
    let xy = and_parts _ _ xyz.0 in
    and_from _ _ (and_from _ _ (and_from _ _ given.x xy.0) (and_from _ _ given.y xy.1)) (and_from _ _ given.z xyz.1)

-- ---- laws

number_of_given : (x : Float) → within limit x ≡ true → not (is_nan (float_with_sign false x)) ≡ true
unfolding within float_with_sign le is_nan
number_of_given nan h = no h
number_of_given (inf s) h = refl
number_of_given (fin s m e) h = refl

-- sizes of numbers that may be given can be told apart
pub sizes_number : (dir : Vector) → vector_within limit dir ≡ true → vector_number (sizes dir) ≡ true
unfolding sizes vector_number
sizes_number dir g =
    let c = coordinates limit dir g in
    and_from _ _ (and_from _ _ (number_of_given dir.x c.x) (number_of_given dir.y c.y)) (number_of_given dir.z c.z)

-- a number or its opposite
abbrev put : Bool → Float → Float
put b h = cond b (opposite h) h

put_either : (b : Bool) (h : Float) → PlusOrMinus h (put b h)
put_either true h = inr refl
put_either false h = inl refl

above_positive : (h : Float) → lt F.zero h ≡ true → is_sign_negative h ≡ false
unfolding of_bits lt is_sign_negative
above_positive nan l = no l
above_positive (inf true) l = no l
above_positive (inf false) l = refl
above_positive (fin true m e) l = no l
above_positive (fin false m e) l = refl

opposite_sign : (h : Float) → lt F.zero h ≡ true → is_sign_negative (opposite h) ≡ true
unfolding of_bits lt is_sign_negative neg
opposite_sign nan l = no l
opposite_sign (inf true) l = no l
opposite_sign (inf false) l = refl
opposite_sign (fin true m e) l = no l
opposite_sign (fin false m e) l = refl

put_sign : (b : Bool) (h : Float) → is_size h ≡ true → is_sign_negative (put b h) ≡ b
unfolding is_size
put_sign true h H = opposite_sign h (and_parts _ _ H).1
put_sign false h H = above_positive h (and_parts _ _ H).1

abbrev bit : Bool → ℕ
bit b = cond b 1 0

module _ (he : Vector) (H : are_sizes he ≡ true) (sign : Float) (side : ℕ) where
  each : Sized he
  each = sized_each he H

  on_x : Bool → Bool → Vector
  on_x b c = record { x = he.x ⊗ sign; y = put b he.y; z = put c he.z }

  at_x : (b c : Bool) (n : ℕ) → n ≡ 4 * side + 2 * bit b + bit c → FaceCorner he 0 sign side (on_x b c) n
  unfolding on_x
  at_x b c n e =
      let p = put_sign b he.y each.y in
      let q = put_sign c he.z each.z in
      record {
        across = refl;
        along = of_three (λ k. (k ≡ 0 → ⊥) → PlusOrMinus (coordinate he k) (coordinate (on_x b c) k)) (λ m. absurd (m refl)) (λ m. put_either b he.y) (λ m. put_either c he.z);
        bits = cc;
      }

  on_y : Bool → Bool → Vector
  on_y b c = record { x = put b he.x; y = he.y ⊗ sign; z = put c he.z }

  at_y : (b c : Bool) (n : ℕ) → n ≡ 4 * bit b + 2 * side + bit c → FaceCorner he 1 sign side (on_y b c) n
  unfolding on_y
  at_y b c n e =
      let p = put_sign b he.x each.x in
      let q = put_sign c he.z each.z in
      record {
        across = refl;
        along = of_three (λ k. (k ≡ 1 → ⊥) → PlusOrMinus (coordinate he k) (coordinate (on_y b c) k)) (λ m. put_either b he.x) (λ m. absurd (m refl)) (λ m. put_either c he.z);
        bits = cc;
      }

  on_z : Bool → Bool → Vector
  on_z b c = record { x = put b he.x; y = put c he.y; z = he.z ⊗ sign }

  at_z : (b c : Bool) (n : ℕ) → n ≡ 4 * bit b + 2 * bit c + side → FaceCorner he 2 sign side (on_z b c) n
  unfolding on_z
  at_z b c n e =
      let p = put_sign b he.x each.x in
      let q = put_sign c he.y each.y in
      record {
        across = refl;
        along = of_three (λ k. (k ≡ 2 → ⊥) → PlusOrMinus (coordinate he k) (coordinate (on_z b c) k)) (λ m. put_either b he.x) (λ m. put_either c he.y) (λ m. absurd (m refl));
        bits = cc;
      }

  pub face_corner : (axis : ℕ) → axis < 3 → (i : ℕ) → i < 4 → FaceCorner he axis sign side (vertex_at (face_vertices_of he axis sign) i) (corner_at axis side i)
  unfolding face_vertices_of face_corners on_x on_y on_z
  face_corner =
      of_three Corners
      (of_four (Corner 0) (at_x false false _ (omega arith)) (at_x true false _ (omega arith)) (at_x true true _ (omega arith)) (at_x false true _ (omega arith)))
      (of_four (Corner 1) (at_y false false _ (omega arith)) (at_y true false _ (omega arith)) (at_y true true _ (omega arith)) (at_y false true _ (omega arith)))
      (of_four (Corner 2) (at_z false false _ (omega arith)) (at_z false true _ (omega arith)) (at_z true true _ (omega arith)) (at_z true false _ (omega arith)))
    where
      Corner : ℕ → ℕ → Type 0
      Corner axis i = FaceCorner he axis sign side (vertex_at (face_vertices_of he axis sign) i) (corner_at axis side i)

      Corners : ℕ → Type 0
      Corners axis = (i : ℕ) → i < 4 → Corner axis i

pub around : (he dir : Vector) → are_sizes he ≡ true → AroundFace he dir (cuboid_fields he dir).vertices
unfolding cuboid_fields
around he dir H i l = face_corner he H _ _ (main_axis_of dir) (axis_below dir) i l

pub first_largest : (v : Vector) → vector_number v ≡ true → FirstLargest v (largest_place v)
unfolding largest_place
first_largest v n =
    cond_both (lt v.x v.y) _ _ (FirstLargest v)
    (λ h. cond_both (lt v.y v.z) 2 1 (FirstLargest v) (λ k. Largest.at_z_by_y v h k) (λ k. Largest.at_y v h k))
    (λ h. cond_both (lt v.x v.z) 2 0 (FirstLargest v) (λ k. Largest.at_z_by_x v n h k) (λ k. Largest.at_x v h k))

-- ---- sign and numbers

one_sign : (b : Bool) (m : ℕ) (e : ℤ) → is_sign_negative (fin false m e ⊗ float_with_sign b one) ≡ b
unfolding of_bits float_with_sign
one_sign true m e = sign_product binary64 false true m _ e _
one_sign false m e = sign_product binary64 false false m _ e _

above_zero : (h : Float) → is_size h ≡ true → lt F.zero h ≡ true
unfolding is_size
above_zero h H = (and_parts _ _ H).1

finite_sign : (h d : Float) → within limit h ≡ true → lt F.zero h ≡ true → is_sign_negative (h ⊗ signed d one) ≡ is_sign_negative d
unfolding of_bits lt within le float_with_sign
finite_sign nan d w l = no l
finite_sign (inf true) d w l = no l
finite_sign (inf false) d w l = no w
finite_sign (fin true m e) d w l = no l
finite_sign (fin false m e) d w l = one_sign (is_sign_negative d) m e

-- a half extent times the sign has that sign
across_sign : (h d : Float) → is_size h ≡ true → is_sign_negative (h ⊗ signed d one) ≡ is_sign_negative d
across_sign h d H = finite_sign h d (size_given h H) (above_zero h H)

face_sign : (he : Vector) (d : Float) (axis : ℕ) → are_sizes he ≡ true → axis < 3 → is_sign_negative (coordinate he axis ⊗ signed d one) ≡ is_sign_negative d
face_sign he d axis H =
    let s = sized_each he H in
    of_three (λ axis. is_sign_negative (coordinate he axis ⊗ signed d one) ≡ is_sign_negative d) (across_sign he.x d s.x) (across_sign he.y d s.y) (across_sign he.z d s.z) axis

neighbours : (axis side : ℕ) → axis < 3 → (i : ℕ) → i < 4 → Neighbours axis (corner_at axis side i) (corner_at axis side (next i))
unfolding face_corners
neighbours axis side a =
    of_three Around
    (of_four (Pair 0)
    (record { k = 1; other = λ e. omega arith; apart = inl (omega arith) })
    (record { k = 2; other = λ e. omega arith; apart = inl (omega arith) })
    (record { k = 1; other = λ e. omega arith; apart = inr (omega arith) })
    (record { k = 2; other = λ e. omega arith; apart = inr (omega arith) }))
    (of_four (Pair 1)
    (record { k = 0; other = λ e. omega arith; apart = inl (omega arith) })
    (record { k = 2; other = λ e. omega arith; apart = inl (omega arith) })
    (record { k = 0; other = λ e. omega arith; apart = inr (omega arith) })
    (record { k = 2; other = λ e. omega arith; apart = inr (omega arith) }))
    (of_four (Pair 2)
    (record { k = 1; other = λ e. omega arith; apart = inl (omega arith) })
    (record { k = 0; other = λ e. omega arith; apart = inl (omega arith) })
    (record { k = 1; other = λ e. omega arith; apart = inr (omega arith) })
    (record { k = 0; other = λ e. omega arith; apart = inr (omega arith) }))
    axis a
  where
    Pair : ℕ → ℕ → Type 0
    Pair axis i = Neighbours axis (corner_at axis side i) (corner_at axis side (next i))

    Around : ℕ → Type 0
    Around axis = (i : ℕ) → i < 4 → Pair axis i

vertex_numbers : (axis side i : ℕ) → i < 4 → get_or (four_codes vertex_header (vertex_codes_of axis side)) i unknown ≡ packed vertex_header (2 * corner_at axis side i)
unfolding vertex_codes_of
vertex_numbers axis side = of_four (λ i. get_or (four_codes vertex_header (vertex_codes_of axis side)) i unknown ≡ packed vertex_header (2 * corner_at axis side i)) refl refl refl refl

edge_numbers : (axis side i : ℕ) → i < 4 → get_or (four_codes edge_header (edge_codes_of axis side)) i unknown ≡ packed edge_header (joining (corner_at axis side i) (corner_at axis side (next i)))
unfolding edge_codes_of
edge_numbers axis side = of_four (λ i. get_or (four_codes edge_header (edge_codes_of axis side)) i unknown ≡ packed edge_header (joining (corner_at axis side i) (corner_at axis side (next i)))) refl refl refl refl

face_number : (axis side : ℕ) → axis + side * 3 + 10 ≡ 10 + axis + 3 * side
face_number axis side = omega arith

pub supports : (he dir : Vector) → are_sizes he ≡ true → Supporting dir (cuboid_fields he dir)
unfolding cuboid_fields
supports he dir H =
    let axis = main_axis_of dir in
    let d = coordinate dir axis in
    let a = axis_below dir in
    record {
      signs = λ i l. ap is_sign_negative (face_corner he H (signed d one) (side_of d) axis a i l).across ∙ face_sign he d axis H a;
      vertex = vertex_numbers axis (side_of d);
      edge = edge_numbers axis (side_of d);
      neighbours = neighbours axis (side_of d) a;
      face = ap (packed face_header) (face_number axis (side_of d));
    }
