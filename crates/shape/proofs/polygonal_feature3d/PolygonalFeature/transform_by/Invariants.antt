-- The used vertices up to here are moved, the others are as they were.
use Rattle.std.proofs.Common.{◌≡◌, ◌++◌, map, take, drop}
use Rattle.math.specs.Poses.{transformed}
use Rattle.shape.proofs.polygonal_feature3d.PolygonalFeature.transform_by.Given as goal

abbrev pub invariant-loop-v : goal.invariant-loop-v
invariant-loop-v l = l.v-items ≡ map (transformed l.pos) (take l.v-index l.initial.v-items) ++ drop l.v-index l.initial.v-items
