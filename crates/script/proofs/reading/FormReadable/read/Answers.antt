-- By the name, and then part by part.
use Rattle.script.proofs.Parts.{read, took, name}
use Rattle.script.proofs.reading.FormReadable.read.Goals as goal

pub returns-in_ok-read-in-cuboid : goal.returns-in_ok-read-in-cuboid
returns-in_ok-read-in-cuboid c = took (name c.in_ok-expected.ensures c.in-cuboid.is (read c.in_ok-read-in-cuboid.ensures))
