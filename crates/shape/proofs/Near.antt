-- The vertices of every feature lie within 2^21: what may be given does, and so does an azimuth of at most 2 times a radius of at most 2^20.
use Rattle.std.proofs.Common.{◌≡◌, ℕ, ◌<◌, true, List, length, lit<, refl, ◌∙◌, subst}
use lib.Ieee.{Float, nan, inf, fin, of_bits, mul, round, le}
use Rattle.std.specs.Float.{float_with_sign}
use Rattle.std.specs.List.{list_all}
use Rattle.std.proofs.lemmas.Bool.{and_parts, and_from}
use Rattle.math.specs.Basis.{signed}
use Rattle.math.specs.Floats.{◌⊗◌, opposite, two}
use Rattle.math.specs.Limits.{limit, vector_given}
use Rattle.math.specs.Magnitude.{bound, within, vector_within, vector2_within}
use Rattle.math.specs.declared.vector.Vector.{Vector}
use Rattle.math.specs.declared.vector2.Vector2.{Vector2}
use Rattle.math.proofs.Arrays.{all_of_four}
use Rattle.math.proofs.Magnitude.{within_more, mul_within, neg_within}
use Rattle.math.proofs.UnitMagnitude.{limit_bound, two_bound}
use Rattle.math.proofs.VectorMagnitude.{from_coordinates, vector_more}
use Rattle.shape.specs.Cylinders.{side, rim}
use Rattle.shape.specs.Features.{origin, nothing}
use Rattle.shape.specs.Nearness.{vertex_limit, vertex_at, all_within, near_all, given_all}
use Rattle.shape.specs.Sizes.{is_size}
use Rattle.shape.proofs.Cases.{of_four}

vertex_limit_bound : bound vertex_limit ≡ true
unfolding of_bits
vertex_limit_bound = refl

limit_nearer : within vertex_limit limit ≡ true
unfolding within float_with_sign of_bits le
limit_nearer = refl

twice_limit : two ⊗ limit ≡ vertex_limit
unfolding of_bits mul round
twice_limit = refl

pub given_near : (x : Float) → within limit x ≡ true → within vertex_limit x ≡ true
given_near x h = within_more limit vertex_limit x limit_bound vertex_limit_bound limit_nearer h

pub vertex_near : (v : Vector) → vector_within limit v ≡ true → vector_within vertex_limit v ≡ true
vertex_near v h = vector_more limit vertex_limit v limit_bound vertex_limit_bound limit_nearer h

-- a test of all four vertices is the test of each
pub four_within : (b : Float) (vs : List Vector) → length vs ≡ 4 → list_all (vector_within b) vs ≡ all_within b vs
unfolding all_within
four_within b vs long = all_of_four (vector_within b) _ vs long

pub all_given : (vs : List Vector) → length vs ≡ 4 → list_all vector_given vs ≡ given_all vs
all_given vs long = four_within limit vs long

pub within_each : (b : Float) (vs : List Vector) → all_within b vs ≡ true → (i : ℕ) → i < 4 → vector_within b (vertex_at vs i) ≡ true
unfolding all_within
within_each b vs h =
    let p3 = and_parts _ _ h in
    let p2 = and_parts _ _ p3.0 in
    let p1 = and_parts _ _ p2.0 in
    of_four (λ i. vector_within b (vertex_at vs i) ≡ true) p1.0 p1.1 p2.1 p3.1

pub from_four : (b : Float) (vs : List Vector) → vector_within b (vertex_at vs 0) ≡ true → vector_within b (vertex_at vs 1) ≡ true → vector_within b (vertex_at vs 2) ≡ true → vector_within b (vertex_at vs 3) ≡ true → all_within b vs ≡ true
unfolding all_within
from_four b vs p q r s = and_from _ _ (and_from _ _ (and_from _ _ p q) r) s

pub all_near : (vs : List Vector) → given_all vs ≡ true → near_all vs ≡ true
all_near vs h =
    let near : (i : ℕ) → i < 4 → vector_within vertex_limit (vertex_at vs i) ≡ true = λ i l. vertex_near (vertex_at vs i) (within_each limit vs h i l) in
    from_four vertex_limit vs (near 0 (lit< tt)) (near 1 (lit< tt)) (near 2 (lit< tt)) (near 3 (lit< tt))

pub origin_near : vector_within vertex_limit origin ≡ true
unfolding vector_within within float_with_sign of_bits le
origin_near = refl

pub size_given : (x : Float) → is_size x ≡ true → within limit x ≡ true
unfolding is_size
size_given x h = (and_parts _ _ h).0

-- a coordinate of an azimuth, times a radius
module _ (a r : Float) (A : within two a ≡ true) (R : within limit r ≡ true) where
  reach : within vertex_limit (a ⊗ r) ≡ true
  reach = subst (λ (b : Float). within b (a ⊗ r) ≡ true) twice_limit (mul_within two limit a r two_bound limit_bound A R)

  reach_back : within vertex_limit (opposite a ⊗ r) ≡ true
  reach_back = subst (λ (b : Float). within b (opposite a ⊗ r) ≡ true) twice_limit (mul_within two limit (opposite a) r two_bound limit_bound (neg_within two a ∙ A) R)

signed_within : (b s x : Float) → within b x ≡ true → within b (signed s x) ≡ true
unfolding within float_with_sign
signed_within b s nan h = h
signed_within b s (inf t) h = h
signed_within b s (fin t m e) h = h

pub point : (x y z : Float) → within vertex_limit x ≡ true → within vertex_limit y ≡ true → within vertex_limit z ≡ true → vector_within vertex_limit (record { x = x; y = y; z = z }) ≡ true
point x y z X Y Z = from_coordinates vertex_limit (record { x = x; y = y; z = z }) (record { x = X; y = Y; z = Z })

module _ (hh r : Float) (az : Vector2) (H : is_size hh ≡ true) (R : is_size r ≡ true) (A : vector2_within two az ≡ true) where
  ax : within two az.x ≡ true
  unfolding vector2_within
  ax = (and_parts _ _ A).0

  ay : within two az.y ≡ true
  unfolding vector2_within
  ay = (and_parts _ _ A).1

  rg : within limit r ≡ true
  rg = size_given r R

  tall : within vertex_limit hh ≡ true
  tall = given_near hh (size_given hh H)

  pub side_near : near_all (side hh r az).vertices ≡ true
  unfolding side
  side_near =
      let x = reach az.x r ax rg in
      let z = reach az.y r ay rg in
      from_four vertex_limit _ (point _ _ _ x (neg_within vertex_limit hh ∙ tall) z) (point _ _ _ x tall z) origin_near origin_near

  pub rim_near : (s : Float) → near_all (rim (signed s hh) r az) ≡ true
  rim_near s =
      let x = reach az.x r ax rg in
      let z = reach az.y r ay rg in
      let bx = reach_back az.x r ax rg in
      let bz = reach_back az.y r ay rg in
      let y = signed_within vertex_limit s hh tall in
      from_four vertex_limit _ (point _ _ _ x y z) (point _ _ _ bz y x) (point _ _ _ bx y bz) (point _ _ _ z y bx)

pub nothing_near : near_all nothing.vertices ≡ true
nothing_near = from_four vertex_limit _ origin_near origin_near origin_near origin_near
