-- Two behind each other.
use Rattle.script.proofs.Parts.{read, took, ◌&◌, nothing}
use Rattle.script.proofs.readable.Array2Readable.read.Goals as goal

pub returns : goal.returns
returns g c = took (read c.in_ok-read.ensures & read c.in_ok-read-2.ensures & nothing)
