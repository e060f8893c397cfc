-- The orthonormal basis of an accepted axis: the divisor is at least 1 in size, since its two terms have the same sign, and every coordinate is at most 3.25.
use Rattle.std.proofs.Common.{◌≡◌, ℕ, ◌+◌, ◌*◌, ◌<◌, ◌≤◌, Bool, true, false, ℤ, sym, refl, ◌∙◌, subst, mul-pos, arith, lit<}
use lib.Ieee.{Float, nan, inf, fin, binary64, up, down, round, add, sum, mul, div, le, of_bits}
use lib.Ieee.Fits.{down_pos}
use lib.Ieee.Positive.{num}
use Rattle.std.specs.Float.{float_with_sign, is_sign_negative}
use Rattle.math.specs.Basis.{signed, basis_sign, basis_a, basis_b, basis0, basis1}
use Rattle.math.specs.Floats.{◌⊕◌, ◌⊗◌, ◌⊘◌, opposite, size, one}
use Rattle.math.specs.Magnitude.{bound, within, vector_within}
use Rattle.math.specs.MagnitudeLaws.{three_halves, basis_bound}
use Rattle.math.specs.declared.vector.Vector.{Vector}
use Rattle.math.proofs.Magnitude.{small_of_within, within_more, within_round, size_round, mul_within, add_within, neg_within, unit_round}
use Rattle.math.proofs.Parts.{round_bound}
use Rattle.math.proofs.QuotientMagnitude.{div_within}
use Rattle.math.proofs.UnitMagnitude.{three_halves_bound}
use Rattle.math.proofs.VectorMagnitude.{coordinates, from_coordinates}

-- ---- closed facts, which antt computes

one_bound : bound one ≡ true
unfolding of_bits
one_bound = refl

one_some : 0 < num one
unfolding of_bits
one_some = omega arith

sum_bound : bound (one ⊕ three_halves) ≡ true
unfolding of_bits add
sum_bound = refl

quotient_is : one ⊘ one ≡ one
unfolding of_bits div round
quotient_is = refl

square_is : bound (three_halves ⊗ three_halves) ≡ true
unfolding of_bits mul round
square_is = refl

weighted_is : bound (three_halves ⊗ three_halves ⊗ one) ≡ true
unfolding of_bits mul round
weighted_is = refl

signed_is : bound (one ⊗ three_halves) ≡ true
unfolding of_bits mul round
signed_is = refl

signed_square_is : bound (one ⊗ three_halves ⊗ three_halves) ≡ true
unfolding of_bits mul round
signed_square_is = refl

signed_weighted_is : bound (one ⊗ three_halves ⊗ three_halves ⊗ one) ≡ true
unfolding of_bits mul round
signed_weighted_is = refl

first_is : bound (one ⊕ one ⊗ three_halves ⊗ three_halves ⊗ one) ≡ true
unfolding of_bits mul round add
first_is = refl

second_is : bound (one ⊗ (three_halves ⊗ three_halves ⊗ one)) ≡ true
unfolding of_bits mul round
second_is = refl

middle_is : bound (one ⊕ three_halves ⊗ three_halves ⊗ one) ≡ true
unfolding of_bits mul round add
middle_is = refl

basis_bound_is : bound basis_bound ≡ true
unfolding of_bits
basis_bound_is = refl

fits_first : within basis_bound (one ⊕ one ⊗ three_halves ⊗ three_halves ⊗ one) ≡ true
unfolding within float_with_sign of_bits mul round add le
fits_first = refl

fits_second : within basis_bound (one ⊗ (three_halves ⊗ three_halves ⊗ one)) ≡ true
unfolding within float_with_sign of_bits mul round le
fits_second = refl

fits_signed : within basis_bound (one ⊗ three_halves) ≡ true
unfolding within float_with_sign of_bits mul round le
fits_signed = refl

fits_weighted : within basis_bound (three_halves ⊗ three_halves ⊗ one) ≡ true
unfolding within float_with_sign of_bits mul round le
fits_weighted = refl

fits_middle : within basis_bound (one ⊕ three_halves ⊗ three_halves ⊗ one) ≡ true
unfolding within float_with_sign of_bits mul round add le
fits_middle = refl

fits_component : within basis_bound three_halves ≡ true
unfolding within float_with_sign of_bits le
fits_component = refl

-- ---- the sign, and the divisor

sign_within : (z : Float) → within one (signed z one) ≡ true
unfolding within float_with_sign of_bits le
sign_within z = refl

-- 1 with the sign of z, and z: the sizes add
divisor_is : (s : Bool) (n : ℕ) (d : ℤ) → size (float_with_sign s one ⊕ fin s n d) ≡ round binary64 false (1 * 1 * down d + n * up d * 1) (1 * down d)
unfolding float_with_sign of_bits add sum
divisor_is true n d = size_round binary64 true (1 * 1 * down d + n * up d * 1) (1 * down d)
divisor_is false n d = size_round binary64 false (1 * 1 * down d + n * up d * 1) (1 * down d)

divisor_at_least : (z : Float) → within three_halves z ≡ true → within (size (signed z one ⊕ z)) one ≡ true
unfolding is_sign_negative
divisor_at_least nan h = absurd (small_of_within three_halves nan three_halves_bound h)
divisor_at_least (inf s) h = absurd (small_of_within three_halves (inf s) three_halves_bound h)
divisor_at_least (fin s n d) h =
    let a = 1 * 1 * down d + n * up d * 1 in
    let c = 1 * down d in
    let more : 1 * c ≤ a * 1 = omega arith in
    subst (λ (b : Float). within b one ≡ true) (sym (divisor_is s n d))
    (subst (λ (x : Float). within (round binary64 false a c) x ≡ true) unit_round (within_round binary64 false 1 1 a c (lit< tt) (mul-pos (lit< tt) (down_pos d)) more))

size_within : (b x : Float) → within b x ≡ true → within b (size x) ≡ true
unfolding within float_with_sign
size_within b nan h = h
size_within b (inf s) h = h
size_within b (fin s n d) h = h

one_within : within one one ≡ true
unfolding within float_with_sign of_bits le
one_within = refl

divisor_bound : (z : Float) → within three_halves z ≡ true → bound (size (signed z one ⊕ z)) ≡ true
unfolding is_sign_negative
divisor_bound nan h = absurd (small_of_within three_halves nan three_halves_bound h)
divisor_bound (inf s) h = absurd (small_of_within three_halves (inf s) three_halves_bound h)
divisor_bound (fin s n d) h =
    let a = 1 * 1 * down d + n * up d * 1 in
    let c = 1 * down d in
    let w = add_within one three_halves (signed (fin s n d) one) (fin s n d) one_bound three_halves_bound (sign_within (fin s n d)) h in
    subst (λ (b : Float). bound b ≡ true) (sym (divisor_is s n d)) (round_bound (one ⊕ three_halves) a c sum_bound (subst (λ (b : Float). within (one ⊕ three_halves) b ≡ true) (divisor_is s n d) (size_within (one ⊕ three_halves) _ w)))

-- ---- the two vectors
module _ (v : Vector) (unit : vector_within three_halves v ≡ true) where
  x_in : within three_halves v.x ≡ true
  x_in = (coordinates three_halves v unit).x

  y_in : within three_halves v.y ≡ true
  y_in = (coordinates three_halves v unit).y

  z_in : within three_halves v.z ≡ true
  z_in = (coordinates three_halves v unit).z

  s_in : within one (basis_sign v) ≡ true
  unfolding basis_sign
  s_in = sign_within v.z

  a_in : within one (basis_a v) ≡ true
  unfolding basis_a basis_sign
  a_in = subst (λ (b : Float). within b (opposite one ⊘ (signed v.z one ⊕ v.z)) ≡ true) quotient_is (div_within one one (opposite one) (signed v.z one ⊕ v.z) one_bound one_bound one_some (divisor_bound v.z z_in) (neg_within one one ∙ one_within) (divisor_at_least v.z z_in))

  b_in : within (three_halves ⊗ three_halves ⊗ one) (basis_b v) ≡ true
  unfolding basis_b
  b_in = mul_within (three_halves ⊗ three_halves) one (v.x ⊗ v.y) (basis_a v) square_is one_bound (mul_within three_halves three_halves v.x v.y three_halves_bound three_halves_bound x_in y_in) a_in

  pub basis0_within : vector_within basis_bound (basis0 v) ≡ true
  unfolding basis0
  basis0_within =
      let sx = mul_within one three_halves (basis_sign v) v.x one_bound three_halves_bound s_in x_in in
      let sxx = mul_within (one ⊗ three_halves) three_halves (basis_sign v ⊗ v.x) v.x signed_is three_halves_bound sx x_in in
      let sxxa = mul_within (one ⊗ three_halves ⊗ three_halves) one (basis_sign v ⊗ v.x ⊗ v.x) (basis_a v) signed_square_is one_bound sxx a_in in
      let first = add_within one (one ⊗ three_halves ⊗ three_halves ⊗ one) one (basis_sign v ⊗ v.x ⊗ v.x ⊗ basis_a v) one_bound signed_weighted_is one_within sxxa in
      let second = mul_within one (three_halves ⊗ three_halves ⊗ one) (basis_sign v) (basis_b v) one_bound weighted_is s_in b_in in
      let third = mul_within one three_halves (opposite (basis_sign v)) v.x one_bound three_halves_bound (neg_within one (basis_sign v) ∙ s_in) x_in in
      from_coordinates basis_bound (basis0 v)
      (record { x = within_more _ basis_bound _ first_is basis_bound_is fits_first first; y = within_more _ basis_bound _ second_is basis_bound_is fits_second second; z = within_more _ basis_bound _ signed_is basis_bound_is fits_signed third })

  pub basis1_within : vector_within basis_bound (basis1 v) ≡ true
  unfolding basis1
  basis1_within =
      let yy = mul_within three_halves three_halves v.y v.y three_halves_bound three_halves_bound y_in y_in in
      let yya = mul_within (three_halves ⊗ three_halves) one (v.y ⊗ v.y) (basis_a v) square_is one_bound yy a_in in
      let middle = add_within one (three_halves ⊗ three_halves ⊗ one) (basis_sign v) (v.y ⊗ v.y ⊗ basis_a v) one_bound weighted_is s_in yya in
      from_coordinates basis_bound (basis1 v)
      (record { x = within_more _ basis_bound _ weighted_is basis_bound_is fits_weighted b_in; y = within_more _ basis_bound _ middle_is basis_bound_is fits_middle middle; z = within_more three_halves basis_bound _ three_halves_bound basis_bound_is fits_component (neg_within three_halves v.y ∙ y_in) })
