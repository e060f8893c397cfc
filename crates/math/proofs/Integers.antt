-- Products of whole numbers with a sign: the laws that the kit does not have, by the two parts, positive and negative, that it reads of each.
use Rattle.std.proofs.Common.{◌≡◌, ℕ, suc, ◌+◌, ◌-◌, ◌*◌, ltb, ℤ, pos, negsuc, ◌+ℤ◌, ◌-ℤ◌, ◌*ℤ◌, neg_ℤ, ap, ◌∙◌, inl, inr, arith}
use lib.IntN.{sub_ℕ}
use borrow.Author.Differences.{up, down, same_in, sum_is_lem, neg_is, product_is}
use Rattle.std.proofs.lemmas.Bool.{cases_lt, cond-true, cond-false, lt-ltb, le-ltb}

-- an operation on equal numbers
pub both : (op : ℤ → ℤ → ℤ) {x x' y y' : ℤ} → x ≡ x' → y ≡ y' → op x y ≡ op x' y'
both op {x} {x'} {y} {y'} e f = ap (λ (z : ℤ). op z y) e ∙ ap (λ (z : ℤ). op x' z) f

up_product : (a b : ℤ) → up (a *ℤ b) ≡ up a * up b + down a * down b
up_product a b = (product_is a b).0

down_product : (a b : ℤ) → down (a *ℤ b) ≡ up a * down b + down a * up b
down_product a b = (product_is a b).1

pub mul_assoc : (x y z : ℤ) → x *ℤ y *ℤ z ≡ x *ℤ (y *ℤ z)
mul_assoc x y z = same_in (x *ℤ y *ℤ z) (x *ℤ (y *ℤ z)) (simp (up_product, down_product) (omega arith))

pub mul_add : (x y z : ℤ) → x *ℤ (y +ℤ z) ≡ x *ℤ y +ℤ x *ℤ z
mul_add x y z =
    let s = sum_is_lem y z in
    let u = ap (λ n. up x * n) s in
    let d = ap (λ n. down x * n) s in
    let w = sum_is_lem (x *ℤ y) (x *ℤ z) in
    same_in (x *ℤ (y +ℤ z)) (x *ℤ y +ℤ x *ℤ z) (omega (arith, product_is x (y +ℤ z), product_is x y, product_is x z))

-- p - n
pub difference : ℕ → ℕ → ℤ
difference p n = sub_ℕ p n

difference_parts : (p n : ℕ) → up (difference p n) + n ≡ down (difference p n) + p
unfolding difference
difference_parts p n =
    elim (cases_lt p n) [
      | inl h ↦ rw (cond-true (ltb p n) (negsuc (n - suc p)) (pos (p - n)) (lt-ltb p n h)) (omega arith)
      | inr h ↦ rw (cond-false (ltb p n) (negsuc (n - suc p)) (pos (p - n)) (le-ltb p n h)) (omega arith)
    ]

pub neg_difference : (p n : ℕ) → neg_ℤ (difference p n) ≡ difference n p
neg_difference p n = same_in (neg_ℤ (difference p n)) (difference n p) (omega (arith, neg_is (difference p n), difference_parts p n, difference_parts n p))

pub sub_difference : (p n q m : ℕ) → difference p n -ℤ difference q m ≡ difference (p + m) (n + q)
sub_difference p n q m =
    same_in (difference p n -ℤ difference q m) (difference (p + m) (n + q))
    (omega (arith, sum_is_lem (difference p n) (neg_ℤ (difference q m)), neg_is (difference q m), difference_parts p n, difference_parts q m, difference_parts (p + m) (n + q)))
