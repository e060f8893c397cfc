-- The place of the largest coordinate, by the order of floats.
use Rattle.std.proofs.Common.{◌≡◌, ℕ, zero, suc, ◌<◌, true, false, arith}
use lib.Ieee.{Float, lt}
use Rattle.std.proofs.lemmas.Bool.{and_parts, not-true}
use Rattle.math.specs.Vectors.{vector_number, coordinate, FirstLargest}
use Rattle.math.specs.declared.vector.Vector.{Vector}
use Rattle.math.proofs.Order.{lt_after, lt_trans, lt_irrefl, lt_asym}

module _ (v : Vector) where
  -- from the three comparisons with each coordinate, at any place
  at_each : (x : Float) → lt x v.x ≡ false → lt x v.y ≡ false → lt x v.z ≡ false → (j : ℕ) → lt x (coordinate v j) ≡ false
  at_each x a b c zero = a
  at_each x a b c (suc zero) = b
  at_each x a b c (suc (suc j)) = c

  pub at_x : lt v.x v.y ≡ false → lt v.x v.z ≡ false → FirstLargest v 0
  at_x h k = record { place = omega arith; largest = at_each v.x (lt_irrefl v.x) h k; earlier = λ j l. absurd (none j l) }
    where
      none : (j : ℕ) → j < 0 → ⊥
      none j l = omega arith

  pub at_y : lt v.x v.y ≡ true → lt v.y v.z ≡ false → FirstLargest v 1
  at_y h k = record { place = omega arith; largest = at_each v.y (lt_asym v.x v.y h) (lt_irrefl v.y) k; earlier = only }
    where
      only : (j : ℕ) → j < 1 → lt (coordinate v j) v.y ≡ true
      only zero l = h
      only (suc j) l = absurd (none j l)
        where
          none : (j : ℕ) → suc j < 1 → ⊥
          none j l = omega arith

  pub at_z : lt v.x v.z ≡ true → lt v.y v.z ≡ true → FirstLargest v 2
  at_z h k = record { place = omega arith; largest = at_each v.z (lt_asym v.x v.z h) (lt_asym v.y v.z k) (lt_irrefl v.z); earlier = both }
    where
      both : (j : ℕ) → j < 2 → lt (coordinate v j) v.z ≡ true
      both zero l = h
      both (suc zero) l = k
      both (suc (suc j)) l = absurd (none j l)
        where
          none : (j : ℕ) → suc (suc j) < 2 → ⊥
          none j l = omega arith

  -- z above y, which is above x
  pub at_z_by_y : lt v.x v.y ≡ true → lt v.y v.z ≡ true → FirstLargest v 2
  at_z_by_y h k = at_z (lt_trans v.x v.y v.z h k) k

  -- z above x, which is no smaller than y
  pub at_z_by_x : vector_number v ≡ true → lt v.x v.y ≡ false → lt v.x v.z ≡ true → FirstLargest v 2
  unfolding vector_number
  at_z_by_x n h k = at_z k (lt_after v.y v.x v.z (not-true _ (and_parts _ _ (and_parts _ _ n).0).1) h k)
