-- Ericson's formulas solve his two equations, by the laws of a ring: each part is a sum of products that cancel in pairs.
use Rattle.std.proofs.Common.{◌≡◌, zero, suc, ◌⊎◌, ℤ, pos, negsuc, ◌+ℤ◌, ◌-ℤ◌, ◌*ℤ◌, neg_ℤ, sym, refl, ap, ◌∙◌, inl, inr, arith}
use lib.IntN.{*ℤ_comm, +ℤ_comm, -ℤ-+ℤ_cancel, +ℤ_invl, *ℤ-zero, zero-*ℤ}
use Rattle.std.proofs.lemmas.Int.{ints}
use Rattle.math.proofs.Integers.{both, mul_assoc, mul_add}
use Rattle.query.specs.Meeting.{Lines, Ericson, A, B, C, E, F, S, Q}

mul_left_comm : (x y z : ℤ) → x *ℤ (y *ℤ z) ≡ y *ℤ (x *ℤ z)
mul_left_comm x y z = sym (mul_assoc x y z) ∙ ap (λ (w : ℤ). w *ℤ z) (*ℤ_comm x y) ∙ mul_assoc y x z

add_mul : (x y z : ℤ) → (x +ℤ y) *ℤ z ≡ x *ℤ z +ℤ y *ℤ z
add_mul x y z = *ℤ_comm (x +ℤ y) z ∙ mul_add z x y ∙ both ◌+ℤ◌ (*ℤ_comm z x) (*ℤ_comm z y)

-- each side as a sum of products, the factors of each in one order
ruleset ring = (mul_add, add_mul, mul_assoc, *ℤ_comm, mul_left_comm, *ℤ-zero, zero-*ℤ)

times : (k : ℤ) {x y : ℤ} → x ≡ y → k *ℤ x ≡ k *ℤ y
times k h = ap (λ (x : ℤ). k *ℤ x) h

-- ---- over any a, b, c, e, f, with q = a e − b b, s = b f − c e and t = b s + f q
module _ (a b c e f q s : ℤ) (hq : q +ℤ b *ℤ b ≡ a *ℤ e) (hs : s +ℤ c *ℤ e ≡ b *ℤ f) where
  abbrev t : ℤ
  t = b *ℤ s +ℤ f *ℤ q

  first : e *ℤ (c *ℤ q +ℤ a *ℤ s) ≡ b *ℤ t
  first =
      let u = simp ring at (times s hq) in
      let v = simp ring at (times q hs) in
      simp ring (omega (arith, ints))

  second : e *ℤ (f *ℤ q +ℤ b *ℤ s) ≡ e *ℤ t
  second = times e (+ℤ_comm (f *ℤ q) (b *ℤ s))

  module _ (s' t' q' : ℤ) (h : c *ℤ q' +ℤ a *ℤ s' ≡ b *ℤ t') (k : f *ℤ q' +ℤ b *ℤ s' ≡ e *ℤ t') where
    same_s : s' *ℤ q ≡ s *ℤ q'
    same_s =
        let u = simp ring at (times e h) in
        let v = simp ring at (times b k) in
        let y = simp ring at (times s' hq) in
        let z = simp ring at (times q' hs) in
        simp ring (omega (arith, ints))

    same_t : t' *ℤ (e *ℤ q) ≡ t *ℤ q'
    same_t =
        let u = simp ring at (times q k) in
        let v = simp ring at (times b same_s) in
        simp ring (omega (arith, ints))

-- ---- in the plane: d is the cross product of the two directions, g that of r and the second direction
module _ (x1 y1 x2 y2 xr yr d g : ℤ) (hd : d +ℤ x2 *ℤ y1 ≡ x1 *ℤ y2) (hg : g +ℤ x2 *ℤ yr ≡ xr *ℤ y2) where
  abbrev b₁ : ℤ
  b₁ = x1 *ℤ x2 +ℤ y1 *ℤ y2

  abbrev c₁ : ℤ
  c₁ = x1 *ℤ xr +ℤ y1 *ℤ yr

  abbrev e₁ : ℤ
  e₁ = x2 *ℤ x2 +ℤ y2 *ℤ y2

  abbrev f₁ : ℤ
  f₁ = x2 *ℤ xr +ℤ y2 *ℤ yr

  -- b f + d g = c e
  pub numerator_is : b₁ *ℤ f₁ +ℤ d *ℤ g ≡ c₁ *ℤ e₁
  numerator_is =
      let u = simp ring at (times d hg) in
      let v = simp ring at (times (x2 *ℤ yr) hd) in
      let w = simp ring at (times (xr *ℤ y2) hd) in
      simp ring (omega (arith, ints))

  -- e x1 = x2 b + y2 d, and e y1 + x2 d = y2 b
  pub along_x : e₁ *ℤ x1 ≡ x2 *ℤ b₁ +ℤ y2 *ℤ d
  along_x = let u = simp ring at (times y2 hd) in simp ring (omega (arith, ints))

  pub along_y : e₁ *ℤ y1 +ℤ x2 *ℤ d ≡ y2 *ℤ b₁
  along_y = let u = simp ring at (times x2 hd) in simp ring (omega (arith, ints))

-- ---- a sum of squares, or a product, that is 0

square_zero : (x y : ℤ) → x *ℤ x +ℤ y *ℤ y ≡ pos 0 → (x ≡ pos 0) × (y ≡ pos 0)
square_zero (pos zero) (pos zero) h = (refl, refl)
square_zero (pos zero) (pos (suc n)) h = absurd (omega (arith, ints))
square_zero (pos zero) (negsuc n) h = absurd (omega (arith, ints))
square_zero (pos (suc m)) (pos n) h = absurd (omega (arith, ints))
square_zero (pos (suc m)) (negsuc n) h = absurd (omega (arith, ints))
square_zero (negsuc m) (pos n) h = absurd (omega (arith, ints))
square_zero (negsuc m) (negsuc n) h = absurd (omega (arith, ints))

zero_factor : (x y : ℤ) → x *ℤ y ≡ pos 0 → (x ≡ pos 0) ⊎ (y ≡ pos 0)
zero_factor (pos zero) y h = inl refl
zero_factor x (pos zero) h = inr refl
zero_factor (pos (suc m)) (pos (suc n)) h = absurd (omega (arith, ints))
zero_factor (pos (suc m)) (negsuc n) h = absurd (omega (arith, ints))
zero_factor (negsuc m) (pos (suc n)) h = absurd (omega (arith, ints))
zero_factor (negsuc m) (negsuc n) h = absurd (omega (arith, ints))

-- ---- put together

-- x q + y s, where e x = u f + v g, e y = u b + v d, q = d d and s = −d g: what is left of e (x q + y s) is u (b s + f q)
join : (b e f q s d g u v x y : ℤ) → e *ℤ x ≡ u *ℤ f +ℤ v *ℤ g → e *ℤ y ≡ u *ℤ b +ℤ v *ℤ d → q ≡ d *ℤ d → s +ℤ d *ℤ g ≡ pos 0 → x *ℤ (e *ℤ q) +ℤ y *ℤ (e *ℤ s) ≡ u *ℤ (b *ℤ s +ℤ f *ℤ q)
join b e f q s d g u v x y hx hy hq hs =
    let m = simp ring at (times q hx) in
    let n = simp ring at (times s hy) in
    let o = simp ring at (times (v *ℤ g) hq) in
    let p = simp ring at (times (v *ℤ d) hs) in
    simp ring (omega (arith, ints))

module _ (l : Lines) where
  abbrev d : ℤ
  d = l.x1 *ℤ l.y2 -ℤ l.x2 *ℤ l.y1

  abbrev g : ℤ
  g = l.xr *ℤ l.y2 -ℤ l.x2 *ℤ l.yr

  d_is : d +ℤ l.x2 *ℤ l.y1 ≡ l.x1 *ℤ l.y2
  d_is = -ℤ-+ℤ_cancel (l.x1 *ℤ l.y2) (l.x2 *ℤ l.y1)

  g_is : g +ℤ l.x2 *ℤ l.yr ≡ l.xr *ℤ l.y2
  g_is = -ℤ-+ℤ_cancel (l.xr *ℤ l.y2) (l.x2 *ℤ l.yr)

  swapped : (x y x' y' : ℤ) → x *ℤ x' +ℤ y *ℤ y' ≡ x' *ℤ x +ℤ y' *ℤ y
  swapped x y x' y' = ap (λ (z : ℤ). z +ℤ y *ℤ y') (*ℤ_comm x x') ∙ ap (λ (z : ℤ). x' *ℤ x +ℤ z) (*ℤ_comm y y')

  S_is : S l +ℤ d *ℤ g ≡ pos 0
  S_is = balanced (B l *ℤ F l) (C l *ℤ E l) (d *ℤ g) (numerator_is l.x1 l.y1 l.x2 l.y2 l.xr l.yr d g d_is g_is)
    where
      balanced : (bf ce dg : ℤ) → bf +ℤ dg ≡ ce → bf -ℤ ce +ℤ dg ≡ pos 0
      balanced bf ce dg h = omega (arith, ints)

  -- the same at r = d1
  Q_is : Q l ≡ d *ℤ d
  Q_is = balanced (A l *ℤ E l) (B l *ℤ B l) (d *ℤ d) (ap (λ (z : ℤ). B l *ℤ z +ℤ d *ℤ d) (swapped l.x1 l.y1 l.x2 l.y2) ∙ numerator_is l.x1 l.y1 l.x2 l.y2 l.x1 l.y1 d d d_is d_is)
    where
      balanced : (ae bb dd : ℤ) → bb +ℤ dd ≡ ae → ae -ℤ bb ≡ dd
      balanced ae bb dd h = omega (arith, ints)

  r_along_x : E l *ℤ l.xr ≡ l.x2 *ℤ F l +ℤ l.y2 *ℤ g
  r_along_x = along_x l.xr l.yr l.x2 l.y2 l.xr l.yr g g g_is g_is ∙ ap (λ (z : ℤ). l.x2 *ℤ z +ℤ l.y2 *ℤ g) (swapped l.xr l.yr l.x2 l.y2)

  r_along_y : E l *ℤ l.yr +ℤ l.x2 *ℤ g ≡ l.y2 *ℤ F l
  r_along_y = along_y l.xr l.yr l.x2 l.y2 l.xr l.yr g g g_is g_is ∙ ap (λ (z : ℤ). l.y2 *ℤ z) (swapped l.xr l.yr l.x2 l.y2)

  -- a sum of squares is 0 only where both are
  proper : (Q l ≡ pos 0 → ⊥) → E l *ℤ Q l ≡ pos 0 → ⊥
  proper n z = elim (zero_factor (E l) (Q l) z) [ inr q ↦ n q | inl e ↦ n (Q_is ∙ flat (square_zero l.x2 l.y2 e)) ]
    where
      flat : (l.x2 ≡ pos 0) × (l.y2 ≡ pos 0) → d *ℤ d ≡ pos 0
      flat h = simp (h.0, h.1, *ℤ-zero, zero-*ℤ)

  -- moved to the other side, with the sign on the first factor
  turned : (x y z w : ℤ) → x +ℤ y *ℤ z ≡ w → x ≡ w +ℤ neg_ℤ y *ℤ z
  turned x y z w h = let n = simp ring at (times z (+ℤ_invl y)) in simp ring (omega (arith, ints))

  pub ericson : Ericson l
  ericson =
      record {
        proper = proper;
        across_first = first (A l) (B l) (C l) (E l) (F l) (Q l) (S l) hq hs;
        across_second = second (A l) (B l) (C l) (E l) (F l) (Q l) (S l) hq hs;
        only = λ s t q h k. (same_s (A l) (B l) (C l) (E l) (F l) (Q l) (S l) hq hs s t q h k, same_t (A l) (B l) (C l) (E l) (F l) (Q l) (S l) hq hs s t q h k);
        same_x = join (B l) (E l) (F l) (Q l) (S l) d g l.x2 l.y2 l.xr l.x1 r_along_x (along_x l.x1 l.y1 l.x2 l.y2 l.xr l.yr d g d_is g_is) Q_is S_is;
        same_y = join (B l) (E l) (F l) (Q l) (S l) d g l.y2 (neg_ℤ l.x2) l.yr l.y1 (turned (E l *ℤ l.yr) l.x2 g (l.y2 *ℤ F l) r_along_y) (turned (E l *ℤ l.y1) l.x2 d (l.y2 *ℤ B l) (along_y l.x1 l.y1 l.x2 l.y2 l.xr l.yr d g d_is g_is)) Q_is S_is;
      }
    where
      hq : Q l +ℤ B l *ℤ B l ≡ A l *ℤ E l
      hq = -ℤ-+ℤ_cancel (A l *ℤ E l) (B l *ℤ B l)

      hs : S l +ℤ C l *ℤ E l ≡ B l *ℤ F l
      hs = -ℤ-+ℤ_cancel (B l *ℤ F l) (C l *ℤ E l)
