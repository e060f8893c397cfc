-- Each vertex of a cuboid's face is exactly a corner of the cuboid: a product by 1 or -1 is exact, so across the face the half extent is kept or turned.
use Rattle.std.proofs.Common.{◌≡◌, ℕ, Bool, true, false, cond, T, eqb, List, sym, refl, subst, inl, inr}
use lib.Ieee.{Float, binary64, of_bits, neg, fits}
use Rattle.std.specs.Float.{float_with_sign, is_sign_negative}
use Rattle.std.proofs.lemmas.Bool.{cond_both, cases_Bool, eqb-true, eqb-false}
use Rattle.math.specs.Basis.{signed}
use Rattle.math.specs.Floats.{◌⊗◌, opposite, one}
use Rattle.math.specs.Vectors.{coordinate}
use Rattle.math.specs.declared.vector.Vector.{Vector}
use Rattle.math.proofs.TimesOne.{times_one, times_minus_one}
use Rattle.shape.specs.Cuboids.{main_axis_of, side_of, PlusOrMinus, on_side, Across, FaceCorner, AroundFace, ExactCorner, ExactlyAround}

one_on_side : (b : Bool) → float_with_sign b one ≡ on_side (cond b 0 1) one
unfolding of_bits float_with_sign neg
one_on_side true = refl
one_on_side false = refl

-- the sign is 1 on the side 1, -1 on the side 0
pub sign_on_side : (d : Float) → signed d one ≡ on_side (side_of d) one
sign_on_side d = one_on_side (is_sign_negative d)

-- a half extent times the sign of a side is the half extent on that side
pub times_side : (h : Float) (side : ℕ) → T (fits binary64 h) → h ⊗ on_side side one ≡ on_side side h
times_side h side H = go (eqb side 1)
  where
    go : (b : Bool) → h ⊗ cond b one (opposite one) ≡ cond b h (opposite h)
    go true = times_one h H
    go false = times_minus_one h H

side_either : (side : ℕ) (h : Float) → PlusOrMinus h (on_side side h)
side_either side h = cond_both (eqb side 1) h (opposite h) (PlusOrMinus h) (λ p. inl refl) (λ p. inr refl)

-- where the coordinate across the face is exact, a corner of the face is exactly one of the cuboid
corner_exact : {he : Vector} {axis : ℕ} {sign : Float} {side : ℕ} {v : Vector} {n : ℕ} → FaceCorner he axis sign side v n → coordinate v axis ≡ on_side side (coordinate he axis) → ExactCorner he axis side v n
corner_exact {he} {axis} {sign} {side} {v} c e = record {
  corner = λ k l. elim (cases_Bool (eqb k axis)) [
    | inl same ↦ subst (λ (j : ℕ). PlusOrMinus (coordinate he j) (coordinate v j)) (sym (eqb-true k axis same)) (subst (PlusOrMinus (coordinate he axis)) (sym e) (side_either side (coordinate he axis)))
    | inr other ↦ c.along k l (eqb-false k axis other)
  ];
  across = e;
  bits = c.bits;
}

pub exactly_around : (he dir : Vector) (vs : List Vector) → AroundFace he dir vs → Across he (main_axis_of dir) (side_of (coordinate dir (main_axis_of dir))) vs → ExactlyAround he dir vs
exactly_around he dir vs around exact i l = corner_exact (around i l) (exact i l)
