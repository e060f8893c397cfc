-- The number of each refusal, and what a call that may be turned down answers: a value, or the number alone.
use Rattle.std.specs.Prelude.{ℕ, List, Ok, Err, codes, Result}
use Rattle.math.specs.declared.refusal.Refusal.{Refusal}
use Rattle.math.specs.declared.refusal.Refusal.TheVariants.{TableSize, NumberOutOfRange, SizeNotPositive, RotationNotUnit, AxisNotUnit, TooManyVertices, CodeTooLarge, VertexOutOfRange, SlotNotFilled, TableFull, SpareTooSmall, EdgesNotParallel, ZeroByZero, BufferTooShort}

abbrev pub numbered : Refusal → ℕ
numbered TableSize = 1
numbered NumberOutOfRange = 2
numbered SizeNotPositive = 3
numbered RotationNotUnit = 4
numbered AxisNotUnit = 5
numbered TooManyVertices = 6
numbered CodeTooLarge = 7
numbered VertexOutOfRange = 8
numbered SlotNotFilled = 9
numbered TableFull = 10
numbered SpareTooSmall = 11
numbered EdgesNotParallel = 12
numbered ZeroByZero = 13
numbered BufferTooShort = 14

-- what a person is told
abbrev pub worded : Refusal → List ℕ
worded TableSize = codes "refused 1: a table has fewer than 24 or more than 4096 slots"
worded NumberOutOfRange = codes "refused 2: a number is NaN, infinite or above 2^20 in size"
worded SizeNotPositive = codes "refused 3: a half extent, half height or radius is not above 0"
worded RotationNotUnit = codes "refused 4: the rotation is not of unit length"
worded AxisNotUnit = codes "refused 5: an axis or normal is not of unit length"
worded TooManyVertices = codes "refused 6: a feature has more than four vertices"
worded CodeTooLarge = codes "refused 7: a feature code is 2^30 or more"
worded VertexOutOfRange = codes "refused 8: a vertex would move beyond 2^21 in size"
worded SlotNotFilled = codes "refused 9: the slot is not filled"
worded TableFull = codes "refused 10: fewer than 24 slots are free"
worded SpareTooSmall = codes "refused 11: the spare table has too few slots"
worded EdgesNotParallel = codes "refused 12: the two edges are not parallel"
worded ZeroByZero = codes "refused 13: the clip would divide zero by zero"
worded BufferTooShort = codes "refused 14: the buffer is shorter than 137 bytes"

pub data Answer (A : Type 0) : Type 0 where
  done : A → Answer A
  refused : ℕ → Answer A

-- the value as a view of it has it
abbrev pub told_as : {A B : Type 0} → (A → B) → Result A Refusal → Answer B
told_as view (Ok v) = done (view v)
told_as view (Err e) = refused (numbered e)

abbrev pub told : {A : Type 0} → Result A Refusal → Answer A
told r = told_as (λ v. v) r
