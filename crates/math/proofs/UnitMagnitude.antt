-- The numbers of an accepted rotation, axis or normal: each component is at most 1.5 in size, and the partial sums of the tested sum are at most 2.
use Rattle.std.proofs.Common.{◌≡◌, true, false, refl}
use lib.Ieee.{Float, binary64, of_bits, mul, add, le}
use lib.Ieee.Fits.{mul-fits, add-fits}
use Rattle.std.specs.Float.{float_with_sign}
use Rattle.std.proofs.lemmas.Bool.{and_parts}
use Rattle.math.specs.Floats.{◌⊕◌, ◌⊗◌, two}
use Rattle.math.specs.Limits.{limit, unit_high, near_one, unit_vector, unit_rotation}
use Rattle.math.specs.Magnitude.{bound, within, vector_within}
use Rattle.math.specs.MagnitudeLaws.{three_halves}
use Rattle.math.specs.Poses.{rotation_squared}
use Rattle.math.specs.Vectors.{dotted}
use Rattle.math.specs.declared.pose.Rotation.{Rotation}
use Rattle.math.specs.declared.vector.Vector.{Vector}
use Rattle.math.proofs.Magnitude.{within_more, mul_within, add_within}
use Rattle.math.proofs.Parts.{sum_left, sum_right, sum_bound, square_bound, small_root, within_of_le}
use Rattle.math.proofs.VectorMagnitude.{Coordinates, coordinates, from_coordinates}

-- what a sum of at most four squares of numbers that may be given is within
pub square : Float
square = limit ⊗ limit

pub limit_bound : bound limit ≡ true
unfolding of_bits
limit_bound = refl

pub square_is_bound : bound square ≡ true
unfolding square of_bits mul
square_is_bound = refl

pub two_squares : bound (square ⊕ square) ≡ true
unfolding square of_bits mul add
two_squares = refl

three_squares : bound (square ⊕ square ⊕ square) ≡ true
unfolding square of_bits mul add
three_squares = refl

four_squares : bound (square ⊕ square ⊕ square ⊕ square) ≡ true
unfolding square of_bits mul add
four_squares = refl

high_bound : bound unit_high ≡ true
unfolding of_bits
high_bound = refl

pub three_halves_bound : bound three_halves ≡ true
unfolding of_bits
three_halves_bound = refl

pub two_bound : bound two ≡ true
unfolding of_bits
two_bound = refl

high_below_two : within two unit_high ≡ true
unfolding within float_with_sign of_bits le
high_below_two = refl

-- 2.25 is above 1 + 2^-20
past_high : within unit_high (three_halves ⊗ three_halves) ≡ false
unfolding within float_with_sign of_bits mul le
past_high = refl

module _ (x : Float) (g : within limit x ≡ true) where
  pub squared_within : within square (x ⊗ x) ≡ true
  unfolding square
  squared_within = mul_within limit limit x x limit_bound limit_bound g g

  pub squared_bound : bound (x ⊗ x) ≡ true
  squared_bound = square_bound square x square_is_bound squared_within

pub at_most_three_halves : (x : Float) → within unit_high (x ⊗ x) ≡ true → within three_halves x ≡ true
at_most_three_halves x h = small_root unit_high three_halves x high_bound three_halves_bound past_high h

-- the sum of three squares
module _ (v : Vector) (given : vector_within limit v ≡ true) where
  xx : Float
  xx = v.x ⊗ v.x

  yy : Float
  yy = v.y ⊗ v.y

  zz : Float
  zz = v.z ⊗ v.z

  parts : Coordinates limit v
  parts = coordinates limit v given

  two_within : within (square ⊕ square) (xx ⊕ yy) ≡ true
  unfolding xx yy
  two_within = add_within square square xx yy square_is_bound square_is_bound (squared_within v.x parts.x) (squared_within v.y parts.y)

  two_are_bound : bound (xx ⊕ yy) ≡ true
  unfolding xx yy
  two_are_bound = sum_bound (square ⊕ square) two_squares xx yy (squared_bound v.x parts.x) (squared_bound v.y parts.y) two_within

  dotted_limit : within (square ⊕ square ⊕ square) (dotted v v) ≡ true
  unfolding xx yy zz dotted
  dotted_limit = add_within (square ⊕ square) square (xx ⊕ yy) zz two_squares square_is_bound two_within (squared_within v.z parts.z)

  pub dotted_bound : bound (dotted v v) ≡ true
  unfolding xx yy zz dotted
  dotted_bound = sum_bound (square ⊕ square ⊕ square) three_squares (xx ⊕ yy) zz two_are_bound (squared_bound v.z parts.z) dotted_limit

  -- where the sum is at most 1 + 2^-20, each component is at most 1.5
  pub components : within unit_high (dotted v v) ≡ true → vector_within three_halves v ≡ true
  unfolding xx yy zz dotted
  components h =
      let xy = sum_left unit_high high_bound (xx ⊕ yy) zz two_are_bound (squared_bound v.z parts.z) (add-fits binary64 xx yy) h in
      let z = sum_right unit_high high_bound (xx ⊕ yy) zz two_are_bound (squared_bound v.z parts.z) (mul-fits binary64 v.z v.z) h in
      let x = sum_left unit_high high_bound xx yy (squared_bound v.x parts.x) (squared_bound v.y parts.y) (mul-fits binary64 v.x v.x) xy in
      let y = sum_right unit_high high_bound xx yy (squared_bound v.x parts.x) (squared_bound v.y parts.y) (mul-fits binary64 v.y v.y) xy in
      from_coordinates three_halves v (record { x = at_most_three_halves v.x x; y = at_most_three_halves v.y y; z = at_most_three_halves v.z z })

  -- an accepted axis or normal
  pub unit_components : unit_vector v ≡ true → vector_within three_halves v ≡ true
  unfolding near_one
  unit_components h = components (within_of_le unit_high (dotted v v) dotted_bound (and_parts _ _ h).1)

-- an accepted rotation
pub record Accepted (q : Rotation) : Type 0 where
  pub b : vector_within three_halves q.b ≡ true
  pub w : within three_halves q.w ≡ true
  pub bb : within two (dotted q.b q.b) ≡ true
  pub bb_bound : bound (dotted q.b q.b) ≡ true
  pub ww : within two (q.w ⊗ q.w) ≡ true
  pub ww_bound : bound (q.w ⊗ q.w) ≡ true

pub accepted : (q : Rotation) → vector_within limit q.b ≡ true → within limit q.w ≡ true → unit_rotation q ≡ true → Accepted q
unfolding rotation_squared near_one dotted
accepted q g j h =
    let bb = dotted q.b q.b in
    let ww = q.w ⊗ q.w in
    let B = dotted_bound q.b g in
    let W = squared_bound q.w j in
    let all = add_within (square ⊕ square ⊕ square) square bb ww three_squares square_is_bound (dotted_limit q.b g) (squared_within q.w j) in
    let s = within_of_le unit_high (bb ⊕ ww) (sum_bound (square ⊕ square ⊕ square ⊕ square) four_squares bb ww B W all) (and_parts _ _ h).1 in
    let l = sum_left unit_high high_bound bb ww B W (add-fits binary64 (q.b.x ⊗ q.b.x ⊕ q.b.y ⊗ q.b.y) (q.b.z ⊗ q.b.z)) s in
    let r = sum_right unit_high high_bound bb ww B W (mul-fits binary64 q.w q.w) s in
    record {
      b = components q.b g l;
      w = at_most_three_halves q.w r;
      bb = within_more unit_high two bb high_bound two_bound high_below_two l;
      bb_bound = B;
      ww = within_more unit_high two ww high_bound two_bound high_below_two r;
      ww_bound = W;
    }
