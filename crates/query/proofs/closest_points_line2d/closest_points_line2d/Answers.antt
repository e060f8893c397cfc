-- The tests of the two arrays are those of the four points; the exact law holds whatever the call answers.
use Rattle.std.proofs.Common.{◌≡◌, Bool, cond, ◌&&◌, List, length, arith, rules}
use Rattle.std.proofs.Math.Bool.{and_assoc}
use Rattle.std.specs.Float.{nan}
use Rattle.std.specs.List.{list_all}
use Rattle.math.specs.Limits.{limit}
use Rattle.math.specs.Magnitude.{vector2_within}
use Rattle.math.specs.Refusals.{done, refused}
use Rattle.math.specs.declared.vector2.Vector2.{Vector2}
use Rattle.math.proofs.Arrays.{all_of_two}
use Rattle.query.specs.Meeting.{products, meeting, meeting_answer}
use Rattle.query.proofs.EricsonLaw.{ericson}
use Rattle.query.proofs.closest_points_line2d.closest_points_line2d.Goals as goal

abbrev all_given : List Vector2 → Bool
all_given = list_all (vector2_within limit)

meeting_answer_by_arrays : (edge1 edge2 : List Vector2) → length edge1 ≡ 2 → length edge2 ≡ 2 → meeting_answer edge1 edge2 ≡ cond (all_given edge1 && all_given edge2) (done (meeting (products edge1 edge2))) (refused 2)
unfolding meeting_answer
meeting_answer_by_arrays edge1 edge2 two two' =
    let e1 = all_of_two (vector2_within limit) (record { x = nan; y = nan }) edge1 two in
    let e2 = all_of_two (vector2_within limit) (record { x = nan; y = nan }) edge2 two' in
    rw (e1, e2, ← and_assoc)

pub returns-then-not-is_given-clause-exact : goal.returns-then-not-is_given-clause-exact
returns-then-not-is_given-clause-exact c = ericson

pub returns-then-not-is_given-clause-answer : goal.returns-then-not-is_given-clause-answer
returns-then-not-is_given-clause-answer c = let e = meeting_answer_by_arrays c.args.edge1 c.args.edge2 (omega arith) (omega arith) in rw e (search rules)

pub returns-clause-exact : goal.returns-clause-exact
returns-clause-exact c = ericson

pub returns-clause-answer : goal.returns-clause-answer
returns-clause-answer c = let e = meeting_answer_by_arrays c.args.edge1 c.args.edge2 (omega arith) (omega arith) in rw e (search rules)
