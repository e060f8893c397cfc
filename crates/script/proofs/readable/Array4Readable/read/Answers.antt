-- Four behind each other.
use Rattle.script.proofs.Parts.{read, took, ◌&◌, nothing}
use Rattle.script.proofs.readable.Array4Readable.read.Goals as goal

pub returns : goal.returns
returns g c = took (read c.in_ok-read.ensures & read c.in_ok-read-2.ensures & read c.in_ok-read-3.ensures & read c.in_ok-read-4.ensures & nothing)
