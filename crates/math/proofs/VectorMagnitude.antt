-- The laws of magnitude for vectors: from one bound on all coordinates of each argument to a bound on the result.
use Rattle.std.proofs.Common.{◌≡◌, true, ◌∙◌}
use lib.Ieee.{Float}
use Rattle.std.proofs.lemmas.Bool.{and_parts, and_from}
use Rattle.math.specs.Floats.{◌⊕◌, ◌⊗◌}
use Rattle.math.specs.Magnitude.{bound, within, vector_within, vector2_within}
use Rattle.math.specs.Vectors.{added, subtracted, negated, scaled, dotted, crossed}
use Rattle.math.specs.Vectors2 as Plane
use Rattle.math.specs.declared.vector.Vector.{Vector}
use Rattle.math.specs.declared.vector2.Vector2.{Vector2}
use Rattle.math.proofs.Magnitude.{within_more, mul_within, add_within, sub_within, neg_within}

pub record Coordinates (b : Float) (v : Vector) : Type 0 where
  pub x : within b v.x ≡ true
  pub y : within b v.y ≡ true
  pub z : within b v.z ≡ true

pub coordinates : (b : Float) (v : Vector) → vector_within b v ≡ true → Coordinates b v
unfolding vector_within
coordinates b v e =
    let xyz = and_parts _ _ e in
    let xy = and_parts _ _ xyz.0 in
    record { x = xy.0; y = xy.1; z = xyz.1 }

pub from_coordinates : (b : Float) (v : Vector) → Coordinates b v → vector_within b v ≡ true
unfolding vector_within
from_coordinates b v c = and_from _ _ (and_from _ _ c.x c.y) c.z

pub vector_more : (b b' : Float) (v : Vector) → bound b ≡ true → bound b' ≡ true → within b' b ≡ true → vector_within b v ≡ true → vector_within b' v ≡ true
vector_more b b' v k k' h e =
    let c = coordinates b v e in
    from_coordinates b' v (record { x = within_more b b' _ k k' h c.x; y = within_more b b' _ k k' h c.y; z = within_more b b' _ k k' h c.z })

pub negated_within : (b : Float) (v : Vector) → vector_within b v ≡ true → vector_within b (negated v) ≡ true
unfolding negated
negated_within b v e =
    let c = coordinates b v e in
    from_coordinates b (negated v) (record { x = neg_within b v.x ∙ c.x; y = neg_within b v.y ∙ c.y; z = neg_within b v.z ∙ c.z })

module _ (b c : Float) (k : bound b ≡ true) (l : bound c ≡ true) where
  pub added_within : (u v : Vector) → vector_within b u ≡ true → vector_within c v ≡ true → vector_within (b ⊕ c) (added u v) ≡ true
  unfolding added
  added_within u v h j =
      let p = coordinates b u h in
      let q = coordinates c v j in
      from_coordinates (b ⊕ c) (added u v) (record { x = add_within b c _ _ k l p.x q.x; y = add_within b c _ _ k l p.y q.y; z = add_within b c _ _ k l p.z q.z })

  pub subtracted_within : (u v : Vector) → vector_within b u ≡ true → vector_within c v ≡ true → vector_within (b ⊕ c) (subtracted u v) ≡ true
  unfolding subtracted
  subtracted_within u v h j =
      let p = coordinates b u h in
      let q = coordinates c v j in
      from_coordinates (b ⊕ c) (subtracted u v) (record { x = sub_within b c _ _ k l p.x q.x; y = sub_within b c _ _ k l p.y q.y; z = sub_within b c _ _ k l p.z q.z })

  pub scaled_within : (v : Vector) (f : Float) → vector_within b v ≡ true → within c f ≡ true → vector_within (b ⊗ c) (scaled v f) ≡ true
  unfolding scaled
  scaled_within v f h j =
      let p = coordinates b v h in
      from_coordinates (b ⊗ c) (scaled v f) (record { x = mul_within b c _ _ k l p.x j; y = mul_within b c _ _ k l p.y j; z = mul_within b c _ _ k l p.z j })

  -- the bound of a product of coordinates, and of two of them together
  module _ (m : bound (b ⊗ c) ≡ true) where
    pub crossed_within : bound (c ⊗ b) ≡ true → (u v : Vector) → vector_within b u ≡ true → vector_within c v ≡ true → vector_within (b ⊗ c ⊕ c ⊗ b) (crossed u v) ≡ true
    unfolding crossed
    crossed_within n u v h j =
        let p = coordinates b u h in
        let q = coordinates c v j in
        let minor : (s t s' t' : Float) → within b s ≡ true → within c t ≡ true → within c s' ≡ true → within b t' ≡ true → within (b ⊗ c ⊕ c ⊗ b) _ ≡ true =
        λ s t s' t' f g f' g'. sub_within (b ⊗ c) (c ⊗ b) (s ⊗ t) (s' ⊗ t') m n (mul_within b c s t k l f g) (mul_within c b s' t' l k f' g') in
        from_coordinates (b ⊗ c ⊕ c ⊗ b) (crossed u v)
        (record { x = minor _ _ _ _ p.y q.z q.y p.z; y = minor _ _ _ _ p.z q.x q.z p.x; z = minor _ _ _ _ p.x q.y q.x p.y })

    pub dotted_within : bound (b ⊗ c ⊕ b ⊗ c) ≡ true → (u v : Vector) → vector_within b u ≡ true → vector_within c v ≡ true → within (b ⊗ c ⊕ b ⊗ c ⊕ b ⊗ c) (dotted u v) ≡ true
    unfolding dotted
    dotted_within n u v h j =
        let p = coordinates b u h in
        let q = coordinates c v j in
        let x = mul_within b c u.x v.x k l p.x q.x in
        let y = mul_within b c u.y v.y k l p.y q.y in
        let z = mul_within b c u.z v.z k l p.z q.z in
        add_within (b ⊗ c ⊕ b ⊗ c) (b ⊗ c) (u.x ⊗ v.x ⊕ u.y ⊗ v.y) (u.z ⊗ v.z) n m (add_within (b ⊗ c) (b ⊗ c) (u.x ⊗ v.x) (u.y ⊗ v.y) m m x y) z

-- ---- in the plane

pub record PlaneCoordinates (b : Float) (v : Vector2) : Type 0 where
  pub x : within b v.x ≡ true
  pub y : within b v.y ≡ true

pub plane_coordinates : (b : Float) (v : Vector2) → vector2_within b v ≡ true → PlaneCoordinates b v
unfolding vector2_within
plane_coordinates b v e = let p = and_parts _ _ e in record { x = p.0; y = p.1 }

module _ (b c : Float) (k : bound b ≡ true) (l : bound c ≡ true) where
  pub plane_subtracted_within : (u v : Vector2) → vector2_within b u ≡ true → vector2_within c v ≡ true → vector2_within (b ⊕ c) (Plane.subtracted u v) ≡ true
  unfolding Plane.subtracted vector2_within
  plane_subtracted_within u v h j =
      let p = plane_coordinates b u h in
      let q = plane_coordinates c v j in
      and_from _ _ (sub_within b c _ _ k l p.x q.x) (sub_within b c _ _ k l p.y q.y)

  module _ (m : bound (b ⊗ c) ≡ true) where
    pub plane_dotted_within : (u v : Vector2) → vector2_within b u ≡ true → vector2_within c v ≡ true → within (b ⊗ c ⊕ b ⊗ c) (Plane.dotted u v) ≡ true
    unfolding Plane.dotted
    plane_dotted_within u v h j =
        let p = plane_coordinates b u h in
        let q = plane_coordinates c v j in
        add_within (b ⊗ c) (b ⊗ c) (u.x ⊗ v.x) (u.y ⊗ v.y) m m (mul_within b c _ _ k l p.x q.x) (mul_within b c _ _ k l p.y q.y)

    pub perp_dotted_within : (u v : Vector2) → vector2_within b u ≡ true → vector2_within c v ≡ true → within (b ⊗ c ⊕ b ⊗ c) (Plane.perp_dotted u v) ≡ true
    unfolding Plane.perp_dotted
    perp_dotted_within u v h j =
        let p = plane_coordinates b u h in
        let q = plane_coordinates c v j in
        sub_within (b ⊗ c) (b ⊗ c) (u.x ⊗ v.y) (u.y ⊗ v.x) m m (mul_within b c _ _ k l p.x q.y) (mul_within b c _ _ k l p.y q.x)
