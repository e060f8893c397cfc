-- Two vectors and a number.
use Rattle.script.proofs.Parts.{read, took, ◌&◌}
use Rattle.script.proofs.readable.PoseReadable.read.Goals as goal

pub returns : goal.returns
returns c = took (read c.in_ok-translation.ensures & read c.in_ok-b.ensures & read c.in_ok-w.ensures)
