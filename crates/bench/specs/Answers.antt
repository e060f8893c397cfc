-- What a command answers, and how a session's result tells it.
use Rattle.std.specs.Prelude.{ℕ, Ok, Err, Option, Result, Float}
use Rattle.math.specs.Refusals as Refusals
use Rattle.math.specs.Refusals.{done, refused}
use Rattle.shape.specs.declared.feature_id.PackedFeatureId.{PackedFeatureId}
use Rattle.query.specs.Clips as Clips
use Rattle.shape.specs.Features.{Fields}
use Rattle.script.specs.declared.fault.Fault.{Fault}
use Rattle.bench.specs.declared.answer.Reply.{Reply}
use Rattle.bench.specs.declared.answer.Reply.TheVariants as ReplyOf
use Rattle.bench.specs.declared.answer.Failure.{Failure}
use Rattle.bench.specs.declared.answer.Failure.TheVariants as FailureOf

-- A refusal is answered by its number alone.
pub data Answer : Type 0 where
  Nothing : Answer
  Done : Answer
  TurnedDown : ℕ → Answer
  Unreadable : Fault → Answer
  Feature : Fields → Answer
  Packed : PackedFeatureId → Answer
  Clipped : Option (Clips.Clip × Clips.Clip) → Answer
  Meeting : Option (Float × Float) → Answer
  Root : Float → Answer

abbrev pub told_reply : Reply → Answer
told_reply ReplyOf.Nothing = Nothing
told_reply ReplyOf.Done = Done
told_reply (ReplyOf.Feature row) = Feature row
told_reply (ReplyOf.Packed id) = Packed id
told_reply (ReplyOf.Clipped points) = Clipped points
told_reply (ReplyOf.Meeting places) = Meeting places
told_reply (ReplyOf.Root v) = Root v

abbrev pub told_failure : Failure → Answer
told_failure (FailureOf.TurnedDown number) = TurnedDown number
told_failure (FailureOf.Unreadable fault) = Unreadable fault

abbrev pub told_answer : Result Reply Failure → Answer
told_answer (Ok reply) = told_reply reply
told_answer (Err failure) = told_failure failure

-- a value answered in its own way, a refusal by its number
abbrev pub replied : {A : Type 0} → (A → Answer) → Refusals.Answer A → Answer
replied view (done a) = view a
replied view (refused n) = TurnedDown n
