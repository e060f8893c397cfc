-- After i turns the first i digits stand in front.
use Rattle.std.proofs.Common.{◌≡◌, length, take}
use Rattle.query.specs.Lines.{hex_front}
use Rattle.query.proofs.contact_line.put_group.Given as goal

abbrev pub invariant-loop-i : goal.invariant-loop-i
invariant-loop-i l = (take l.i l.digit-items ≡ hex_front l.digits l.value l.i) × (length l.digit-items ≡ l.digits)
