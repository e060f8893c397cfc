-- The clip of two segments. Each end of the second has a product along the first; the range of the first is from 0 to its squared length.
use Rattle.std.specs.Prelude.{ℕ, Bool, cond, ◌&&◌, ◌||◌, Some, None, Option, Float}
use Rattle.std.specs.Float.Ieee as Ieee
use Rattle.math.specs.Floats.{◌⊖◌, ◌⊘◌, bits, zero}
use Rattle.math.specs.Limits.{vector_given}
use Rattle.math.specs.Magnitude.{vector_within}
use Rattle.math.specs.Refusals.{Answer, done, refused}
use Rattle.math.specs.Vectors.{added, subtracted, scaled, dotted}
use Rattle.math.specs.declared.vector.Vector.{Vector}
use Rattle.query.specs.declared.clip_segment_segment.End.{End}
use Rattle.query.specs.declared.clip_segment_segment.Range.{Range}
use Rattle.query.specs.declared.clip_segment_segment.Ranges.{Ranges}

abbrev pub Segment : Type 0
Segment = Vector × Vector

-- a point of each segment, and where it lies: 0 at the first vertex, 1 between, 2 at the second vertex
abbrev pub Clip : Type 0
Clip = Vector × Vector × ℕ × ℕ

-- 75 × 2^21: how far a clip's points may lie from the origin, in each coordinate
abbrev pub clip_limit : Float
clip_limit = bits 0x41a2_c000_0000_0000

abbrev pub clip_near : Clip → Bool
clip_near c = vector_within clip_limit c.0 && vector_within clip_limit c.1

-- how far a point lies along the first segment
unfoldable pub product : Segment → Vector → Vector → Float
product seg1 tangent p = dotted (subtracted p seg1.0) tangent

abbrev pub forward : Segment → Float → Float → Range
forward seg a b = record { first = record { product = a; point = seg.0; feature = 0 }; last = record { product = b; point = seg.1; feature = 2 } }

abbrev pub backward : Range → Range
backward r = record { first = r.last; last = r.first }

-- the end with the lower product first
abbrev pub in_order : Range → Range
in_order r = cond (Ieee.lt r.last.product r.first.product) (backward r) r

unfoldable pub ordered : Segment → Vector → Segment → Range
unfolding product
ordered seg1 tangent seg2 = in_order (forward seg2 (product seg1 tangent seg2.0) (product seg1 tangent seg2.1))

-- The range of the first segment is from 0 to its squared length.
abbrev pub ranges : Segment → Segment → Ranges
ranges seg1 seg2 =
    let tangent = subtracted seg1.1 seg1.0 in
    record { tangent1 = tangent; range1 = forward seg1 zero (dotted tangent tangent); range2 = ordered seg1 tangent seg2 }

-- both ends of the second segment have the same product, and it is 0 or the squared length of the first
unfoldable pub undefined : Ranges → Bool
undefined r =
    Ieee.eq r.range2.first.product r.range2.last.product
    && (Ieee.eq r.range2.first.product r.range1.first.product || Ieee.eq r.range2.first.product r.range1.last.product)

-- the two ranges share nothing
unfoldable pub apart : Ranges → Bool
apart r = Ieee.lt r.range1.last.product r.range2.first.product || Ieee.lt r.range2.last.product r.range1.first.product

-- the point that has a product, on the line from the first end in a direction
unfoldable pub along_range : Range → Vector → Float → Vector
along_range r direction p = added r.first.point (scaled direction ((p ⊖ r.first.product) ⊘ (r.last.product ⊖ r.first.product)))

-- the clip at an end of the first segment
unfoldable pub at_first : Ranges → End → Clip
at_first r e1 = (e1.point, along_range r.range2 (subtracted r.range2.last.point r.range2.first.point) e1.product, e1.feature, 1)

-- the clip at an end of the second segment
unfoldable pub at_second : Ranges → End → Clip
at_second r e2 = (along_range r.range1 r.tangent1 e2.product, e2.point, 1, e2.feature)

-- at the end of the second segment where that lies inside the first, else at the end of the first
unfoldable pub end_clip : Ranges → End → End → Bool → Clip
end_clip r e1 e2 inside = cond inside (at_second r e2) (at_first r e1)

-- the clip where the shared part begins
unfoldable pub low_end : Ranges → Clip
low_end r = end_clip r r.range1.first r.range2.first (Ieee.lt r.range1.first.product r.range2.first.product)

-- the clip where the shared part ends
unfoldable pub high_end : Ranges → Clip
high_end r = end_clip r r.range1.last r.range2.last (Ieee.lt r.range2.last.product r.range1.last.product)

abbrev pub both_ends : Ranges → Answer (Option (Clip × Clip))
both_ends r = cond (undefined r) (refused 13) (cond (apart r) (done None) (done (Some (low_end r, high_end r))))

unfoldable pub clipped : Segment → Segment → Answer (Option (Clip × Clip))
clipped seg1 seg2 = both_ends (ranges seg1 seg2)

-- Turned down with 2 where a coordinate may not be given.
unfoldable pub clipping : Segment → Segment → Answer (Option (Clip × Clip))
clipping seg1 seg2 =
    cond (vector_given seg1.0 && vector_given seg1.1 && vector_given seg2.0 && vector_given seg2.1) (clipped seg1 seg2) (refused 2)
