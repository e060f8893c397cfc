-- A feature moved by a pose: the used vertices go where the pose takes them, the unused ones and the ids stay.
use Rattle.std.specs.Prelude.{ℕ, Bool, true, cond, ◌&&◌, [], ◌∷◌, nat_lt}
use Rattle.math.specs.Limits.{pose_given, unit_rotation}
use Rattle.math.specs.Magnitude.{vector_within}
use Rattle.math.specs.Poses.{transformed}
use Rattle.math.specs.Refusals.{Answer, done, refused}
use Rattle.math.specs.declared.pose.Pose.{Pose}
use Rattle.math.specs.declared.vector.Vector.{Vector}
use Rattle.shape.specs.Features.{Fields}
use Rattle.shape.specs.Nearness.{vertex_limit, vertex_at}

-- a vertex is used where its place is below the count
abbrev pub is_used : Fields → ℕ → Bool
is_used f i = nat_lt i f.num_vertices

abbrev pub moved_vertex : Pose → Fields → ℕ → Vector
moved_vertex p f i = cond (is_used f i) (transformed p (vertex_at f.vertices i)) (vertex_at f.vertices i)

unfoldable pub moved : Pose → Fields → Fields
moved p f = record {
  vertices = moved_vertex p f 0 ∷ moved_vertex p f 1 ∷ moved_vertex p f 2 ∷ moved_vertex p f 3 ∷ [];
  vids = f.vids;
  eids = f.eids;
  fid = f.fid;
  num_vertices = f.num_vertices;
}

-- an unused vertex is not looked at
abbrev pub lands_near : Pose → Fields → ℕ → Bool
lands_near p f i = cond (is_used f i) (vector_within vertex_limit (transformed p (vertex_at f.vertices i))) true

unfoldable pub all_land_near : Pose → Fields → Bool
all_land_near p f = lands_near p f 0 && lands_near p f 1 && lands_near p f 2 && lands_near p f 3

-- by one of four ways: a number not given, a rotation off unit length, a used vertex beyond 2^21, or done
abbrev pub by_move : {A : Type 0} → Pose → Fields → A → A → A → A → A
by_move p f not-given not-unit beyond good = cond (pose_given p) (cond (unit_rotation p.rotation) (cond (all_land_near p f) good beyond) not-unit) not-given

abbrev pub moving : Pose → Fields → Answer (Unit {0})
moving p f = by_move p f (refused 2) (refused 4) (refused 8) (done tt)

-- refused, the feature is as before
abbrev pub moved_or_kept : Pose → Fields → Fields
moved_or_kept p f = by_move p f f f f (moved p f)
