-- One behind the other.
use Rattle.script.proofs.Parts.{read, took, ◌&◌}
use Rattle.script.proofs.readable.Tuple2Readable.read.Goals as goal

pub returns : goal.returns
returns g c = took (read c.in_ok-read.ensures & read c.in_ok-read-2.ensures)
