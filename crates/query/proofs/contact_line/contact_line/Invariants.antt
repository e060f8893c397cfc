-- After i turns the groups of the first i numbers stand in front, and what lies behind the line is as it was.
use Rattle.std.proofs.Common.{◌≡◌, ◌*◌, take, drop}
use Rattle.std.specs.List.{flat_map}
use Rattle.query.specs.Lines.{group}
use Rattle.query.proofs.contact_line.contact_line.Given as goal

abbrev pub invariant-loop-i : goal.invariant-loop-i
invariant-loop-i g l =
    (take (17 * l.i) l.buffer ≡ flat_map (λ v. group 16 v 32) (take l.i l.bits-items))
    × (drop 137 l.buffer ≡ drop 137 l.initial.buffer)
