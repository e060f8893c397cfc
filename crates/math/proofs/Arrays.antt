-- A test of every element of an array of two or four, as the tests of its elements by place.
use Rattle.std.proofs.Common.{◌≡◌, Bool, true, false, ◌&&◌, List, [], ◌∷◌, length, slice_index_or, refl}
use Rattle.std.specs.List.{list_all}

last_true : (a b : Bool) → (a && (b && true)) ≡ (a && b)
last_true a b = elim a as (λ a. (a && (b && true)) ≡ (a && b)) [ true ↦ elim b as (λ b. (b && true) ≡ b) [ true ↦ refl | false ↦ refl ] | false ↦ refl ]

from_left : (a b c d : Bool) → (a && (b && (c && (d && true)))) ≡ (a && b && c && d)
from_left a b c d = elim a as (λ a. (a && (b && (c && (d && true)))) ≡ (a && b && c && d)) [ true ↦ elim b as (λ b. (b && (c && (d && true))) ≡ (b && c && d)) [ true ↦ last_true c d | false ↦ refl ] | false ↦ refl ]

-- No element is read past the end, where `e` would stand.
module _ {A : Type 0} (p : A → Bool) (e : A) where
  pub all_of_two : (xs : List A) → length xs ≡ 2 → list_all p xs ≡ (p (slice_index_or xs 0 e) && p (slice_index_or xs 1 e))
  all_of_two [] h = cc
  all_of_two (a ∷ []) h = cc
  all_of_two (a ∷ b ∷ []) h = last_true (p a) (p b)
  all_of_two (a ∷ b ∷ c ∷ xs) h = cc

  pub all_of_four : (xs : List A) → length xs ≡ 4 → list_all p xs ≡ (p (slice_index_or xs 0 e) && p (slice_index_or xs 1 e) && p (slice_index_or xs 2 e) && p (slice_index_or xs 3 e))
  all_of_four [] h = cc
  all_of_four (a ∷ []) h = cc
  all_of_four (a ∷ b ∷ []) h = cc
  all_of_four (a ∷ b ∷ c ∷ []) h = cc
  all_of_four (a ∷ b ∷ c ∷ d ∷ []) h = from_left (p a) (p b) (p c) (p d)
  all_of_four (a ∷ b ∷ c ∷ d ∷ f ∷ xs) h = cc
