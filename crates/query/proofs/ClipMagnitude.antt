-- The clip's fractions are at most 1 in size, so its points stay near the two segments.
use Rattle.std.proofs.Common.{◌≡◌, Bool, true, false, cond, ◌||◌, T, Some, sym, refl, ◌∙◌, subst, inl, inr}
use lib.Ieee.{Float, binary64, of_bits, add, mul, round, lt, le, eq, fits}
use lib.Ieee.Fits.{add-fits}
use Rattle.std.specs.Float.{float_with_sign}
use Rattle.std.proofs.lemmas.Bool.{cases_Bool, or_parts, cond-true, cond-false, and_from, or_left, or_right}
use Rattle.math.specs.Floats.{◌⊕◌, ◌⊖◌, ◌⊗◌, ◌⊘◌, bits, zero, one}
use Rattle.math.specs.Magnitude.{bound, within, vector_within}
use Rattle.math.specs.Refusals.{done}
use Rattle.math.specs.Vectors.{subtracted, scaled, dotted}
use Rattle.math.specs.declared.vector.Vector.{Vector}
use Rattle.math.proofs.Fraction.{fraction_within, squeezed}
use Rattle.math.proofs.Magnitude.{no, within_more}
use Rattle.math.proofs.Order.{lt_not_eq, lt_asym}
use Rattle.math.proofs.VectorMagnitude.{vector_more, added_within, subtracted_within, scaled_within, dotted_within}
use Rattle.shape.specs.Nearness.{vertex_limit}
use Rattle.query.specs.Clips.{Segment, Clip, clip_limit, clip_near, clipped, product, forward, ordered, undefined, apart, along_range, at_first, at_second, end_clip, low_end, high_end}
use Rattle.query.specs.declared.clip_segment_segment.Range.{Range}
use Rattle.query.specs.declared.clip_segment_segment.Ranges.{Ranges}

-- ---- the bounds: the ends of edge 1 and of edge 2, both in the frame of the first feature

abbrev pub end1 : Float
end1 = vertex_limit

-- 25 × 2^21
abbrev pub end2 : Float
end2 = bits 0x4189_0000_0000_0000

abbrev tangent_bound : Float
tangent_bound = end1 ⊕ end1

-- 2^60: above every product along edge 1
abbrev along : Float
along = bits 0x43b0_0000_0000_0000

abbrev square_bound : Float
square_bound = tangent_bound ⊗ tangent_bound

abbrev offset_bound : Float
offset_bound = end2 ⊕ end1

abbrev product_bound : Float
product_bound = offset_bound ⊗ tangent_bound

pub end1_is : bound end1 ≡ true
unfolding of_bits add mul round
end1_is = refl

pub end2_is : bound end2 ≡ true
unfolding of_bits add mul round
end2_is = refl

tangent_is : bound tangent_bound ≡ true
unfolding of_bits add mul round
tangent_is = refl

along_is : bound along ≡ true
unfolding of_bits add mul round
along_is = refl

twice_along_is : bound (along ⊕ along) ≡ true
unfolding of_bits add mul round
twice_along_is = refl

square_is : bound square_bound ≡ true
unfolding of_bits add mul round
square_is = refl

two_squares_is : bound (square_bound ⊕ square_bound) ≡ true
unfolding of_bits add mul round
two_squares_is = refl

squares_is : bound (square_bound ⊕ square_bound ⊕ square_bound) ≡ true
unfolding of_bits add mul round
squares_is = refl

offset_is : bound offset_bound ≡ true
unfolding of_bits add mul round
offset_is = refl

product_is : bound product_bound ≡ true
unfolding of_bits add mul round
product_is = refl

two_products_is : bound (product_bound ⊕ product_bound) ≡ true
unfolding of_bits add mul round
two_products_is = refl

products_is : bound (product_bound ⊕ product_bound ⊕ product_bound) ≡ true
unfolding of_bits add mul round
products_is = refl

one_is : bound one ≡ true
unfolding of_bits add mul round
one_is = refl

scaled_is : bound (tangent_bound ⊗ one) ≡ true
unfolding of_bits add mul round
scaled_is = refl

span_is : bound (end2 ⊕ end2) ≡ true
unfolding of_bits add mul round
span_is = refl

scaled_span_is : bound ((end2 ⊕ end2) ⊗ one) ≡ true
unfolding of_bits add mul round
scaled_span_is = refl

first_is : bound (end1 ⊕ tangent_bound ⊗ one) ≡ true
unfolding of_bits add mul round
first_is = refl

second_is : bound (end2 ⊕ (end2 ⊕ end2) ⊗ one) ≡ true
unfolding of_bits add mul round
second_is = refl

pub clip_limit_is : bound clip_limit ≡ true
unfolding of_bits
clip_limit_is = refl

squares_along : within (along) (square_bound ⊕ square_bound ⊕ square_bound) ≡ true
unfolding within float_with_sign of_bits add mul round le
squares_along = refl

products_along : within (along) (product_bound ⊕ product_bound ⊕ product_bound) ≡ true
unfolding within float_with_sign of_bits add mul round le
products_along = refl

end1_near : within (clip_limit) (end1) ≡ true
unfolding within float_with_sign of_bits add mul round le
end1_near = refl

end2_near : within (clip_limit) (end2) ≡ true
unfolding within float_with_sign of_bits add mul round le
end2_near = refl

first_near : within (clip_limit) (end1 ⊕ tangent_bound ⊗ one) ≡ true
unfolding within float_with_sign of_bits add mul round le
first_near = refl

second_near : within (clip_limit) (end2 ⊕ (end2 ⊕ end2) ⊗ one) ≡ true
unfolding within float_with_sign of_bits add mul round le
second_near = refl

zero_along : within (along) (zero) ≡ true
unfolding within float_with_sign of_bits add mul round le
zero_along = refl

zero_fits : T (fits binary64 zero)
unfolding fits of_bits
zero_fits = tt

-- ---- the second segment along the first

pub record Lies (r : Range) : Type 0 where
  pub low : within along r.first.product ≡ true
  pub high : within along r.last.product ≡ true
  pub low_fits : T (fits binary64 r.first.product)
  pub high_fits : T (fits binary64 r.last.product)
  pub first : vector_within end2 r.first.point ≡ true
  pub last : vector_within end2 r.last.point ≡ true

module _ (seg1 : Segment) (h0 : vector_within end1 seg1.0 ≡ true) (h1 : vector_within end1 seg1.1 ≡ true) where
  abbrev tangent : Vector
  tangent = subtracted seg1.1 seg1.0

  tangent_within : vector_within tangent_bound tangent ≡ true
  tangent_within = subtracted_within end1 end1 end1_is end1_is seg1.1 seg1.0 h1 h0

  abbrev sq : Float
  sq = dotted tangent tangent

  sq_along : within along sq ≡ true
  sq_along = within_more (square_bound ⊕ square_bound ⊕ square_bound) along sq squares_is along_is squares_along (dotted_within tangent_bound tangent_bound tangent_is tangent_is square_is two_squares_is tangent tangent tangent_within tangent_within)

  sq_fits : T (fits binary64 sq)
  unfolding dotted
  sq_fits = add-fits binary64 (tangent.x ⊗ tangent.x ⊕ tangent.y ⊗ tangent.y) (tangent.z ⊗ tangent.z)

  product_along : (p : Vector) → vector_within end2 p ≡ true → within along (product seg1 tangent p) ≡ true
  unfolding product
  product_along p h =
      within_more (product_bound ⊕ product_bound ⊕ product_bound) along (dotted (subtracted p seg1.0) tangent) products_is along_is products_along
      (dotted_within offset_bound tangent_bound offset_is tangent_is product_is two_products_is (subtracted p seg1.0) tangent (subtracted_within end2 end1 end2_is end1_is p seg1.0 h h0) tangent_within)

  product_fits : (p : Vector) → T (fits binary64 (product seg1 tangent p))
  unfolding product dotted
  product_fits p = let o = subtracted p seg1.0 in add-fits binary64 (o.x ⊗ tangent.x ⊕ o.y ⊗ tangent.y) (o.z ⊗ tangent.z)

  module _ (seg2 : Segment) (k0 : vector_within end2 seg2.0 ≡ true) (k1 : vector_within end2 seg2.1 ≡ true) where
    lies : Lies (ordered seg1 tangent seg2)
    unfolding ordered
    lies =
        let a = product seg1 tangent seg2.0 in
        let b = product seg1 tangent seg2.1 in
        choose (lt b a)
        (record { low = product_along seg2.1 k1; high = product_along seg2.0 k0; low_fits = product_fits seg2.1; high_fits = product_fits seg2.0; first = k1; last = k0 })
        (record { low = product_along seg2.0 k0; high = product_along seg2.1 k1; low_fits = product_fits seg2.0; high_fits = product_fits seg2.1; first = k0; last = k1 })
      where
        choose : (t : Bool) {r r' : Range} → Lies r → Lies r' → Lies (cond t r r')
        choose true x y = x
        choose false x y = y

  -- ---- the two ends, for any range that lies so, where the clip is defined and the ranges meet
  abbrev beside : Range → Ranges
  beside r = record { tangent1 = tangent; range1 = forward seg1 zero sq; range2 = r }

  module _ (r : Range) (l : Lies r) (defined : undefined (beside r) ≡ false) (meet : apart (beside r) ≡ false) where
    abbrev low : Float
    low = r.first.product

    abbrev high : Float
    high = r.last.product

    not_past : lt sq low ≡ false
    unfolding apart
    not_past = (or_parts _ _ meet).0

    not_before : lt high zero ≡ false
    unfolding apart
    not_before = (or_parts _ _ meet).1

    -- an end of the second segment at an end of the first makes the clip undefined
    clash : eq low high ≡ true → (eq low zero || eq low sq) ≡ true → false ≡ true
    unfolding undefined
    clash e f = sym defined ∙ and_from _ _ e f

    unequal : (a : Float) → within along a ≡ true → lt a low ≡ false → lt high a ≡ false → (eq low a ≡ true → (eq low zero || eq low sq) ≡ true) → eq low high ≡ false
    unequal a A h j f = elim (cases_Bool (eq low high)) [ inr n ↦ n | inl e ↦ no (clash e (f (squeezed along a high low along_is A l.high l.low h j e).0)) ]

    -- a fraction of the second segment
    second_fraction : (a : Float) → within along a ≡ true → lt a low ≡ false → lt high a ≡ false → (eq low a ≡ true → (eq low zero || eq low sq) ≡ true) → within one ((a ⊖ low) ⊘ (high ⊖ low)) ≡ true
    second_fraction a A h j f = fraction_within along a high low along_is twice_along_is A l.high l.low l.high_fits l.low_fits h j (unequal a A h j f)

    -- a fraction of the first
    first_fraction : (a : Float) → within along a ≡ true → lt a zero ≡ false → lt sq a ≡ false → (eq zero sq ≡ true → false ≡ true) → within one ((a ⊖ zero) ⊘ (sq ⊖ zero)) ≡ true
    first_fraction a A h j f =
        fraction_within along a sq zero along_is twice_along_is A sq_along zero_along sq_fits zero_fits h j
        (elim (cases_Bool (eq zero sq)) [ inr n ↦ n | inl e ↦ no (f e) ])

    on_first : (a : Float) → within one ((a ⊖ zero) ⊘ (sq ⊖ zero)) ≡ true → vector_within clip_limit (along_range (forward seg1 zero sq) tangent a) ≡ true
    unfolding along_range
    on_first a h =
        vector_more (end1 ⊕ tangent_bound ⊗ one) clip_limit _ first_is clip_limit_is first_near
        (added_within end1 (tangent_bound ⊗ one) end1_is scaled_is seg1.0 (scaled tangent _) h0 (scaled_within tangent_bound one tangent_is one_is tangent _ tangent_within h))

    on_second : (a : Float) → within one ((a ⊖ low) ⊘ (high ⊖ low)) ≡ true → vector_within clip_limit (along_range r (subtracted r.last.point r.first.point) a) ≡ true
    unfolding along_range
    on_second a h =
        vector_more (end2 ⊕ (end2 ⊕ end2) ⊗ one) clip_limit _ second_is clip_limit_is second_near
        (added_within end2 ((end2 ⊕ end2) ⊗ one) end2_is scaled_span_is r.first.point _ l.first (scaled_within (end2 ⊕ end2) one span_is one_is _ _ (subtracted_within end2 end2 end2_is end2_is r.last.point r.first.point l.last l.first) h))

    near_first : (v : Vector) → vector_within end1 v ≡ true → vector_within clip_limit v ≡ true
    near_first v h = vector_more end1 clip_limit v end1_is clip_limit_is end1_near h

    near_second : (v : Vector) → vector_within end2 v ≡ true → vector_within clip_limit v ≡ true
    near_second v h = vector_more end2 clip_limit v end2_is clip_limit_is end2_near h

    low_near : clip_near (low_end (beside r)) ≡ true
    unfolding low_end end_clip at_first at_second
    low_near = by (lt zero low) refl
      where
        by : (t : Bool) → lt zero low ≡ t → clip_near (end_clip (beside r) (beside r).range1.first r.first t) ≡ true
        by true e =
            let f = first_fraction low l.low (lt_asym zero low e) not_past
            (λ z. sym (lt_not_eq zero low e) ∙ (squeezed along low sq zero along_is l.low sq_along zero_along (lt_asym zero low e) not_past z).0) in
            and_from _ _ (on_first _ f) (near_second r.first.point l.first)
        by false e = and_from _ _ (near_first seg1.0 h0) (on_second _ (second_fraction zero zero_along e not_before (λ z. or_left _ _ z)))

    high_near : clip_near (high_end (beside r)) ≡ true
    unfolding high_end end_clip at_first at_second
    high_near = by (lt high sq) refl
      where
        by : (t : Bool) → lt high sq ≡ t → clip_near (end_clip (beside r) (beside r).range1.last r.last t) ≡ true
        by true e =
            let f = first_fraction high l.high not_before (lt_asym high sq e)
            (λ z. sym (lt_not_eq high sq e) ∙ (squeezed along high sq zero along_is l.high sq_along zero_along not_before (lt_asym high sq e) z).1) in
            and_from _ _ (on_first _ f) (near_second r.last.point l.last)
        by false e = and_from _ _ (near_first seg1.1 h1) (on_second _ (second_fraction sq sq_along not_past e (λ z. or_right _ _ z)))

  -- ---- whatever the clip answers, its points lie near
  module _ (seg2 : Segment) (k0 : vector_within end2 seg2.0 ≡ true) (k1 : vector_within end2 seg2.1 ≡ true) where
    pub clipped_near : (lo hi : Clip) → clipped seg1 seg2 ≡ done (Some (lo, hi)) → (clip_near lo ≡ true) × (clip_near hi ≡ true)
    unfolding clipped
    clipped_near lo hi h =
        let r = ordered seg1 tangent seg2 in
        elim (cases_Bool (undefined (beside r))) [
          | inl u ↦ let e = sym (cond-true (undefined (beside r)) _ _ u) ∙ h in absurd (cc)
          | inr d ↦
              let h' = sym (cond-false (undefined (beside r)) _ _ d) ∙ h in
              elim (cases_Bool (apart (beside r))) [
                | inl a ↦ let e = sym (cond-true (apart (beside r)) _ _ a) ∙ h' in absurd (cc)
                | inr m ↦
                    let e = sym (cond-false (apart (beside r)) _ _ m) ∙ h' in
                    let same : ◌≡◌ {A = Clip × Clip} (low_end (beside r), high_end (beside r)) (lo, hi) = cc in
                    let l = lies seg2 k0 k1 in (
                      subst (λ (p : Clip × Clip). clip_near p.0 ≡ true) same (low_near r l d m),
                      subst (λ (p : Clip × Clip). clip_near p.1 ≡ true) same (high_near r l d m),
                    )
              ]
        ]
