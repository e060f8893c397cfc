-- Which feature, and then what is done with it by name.
use Rattle.script.proofs.Parts.{read, took, named, name, ◌&◌}
use Rattle.script.proofs.reading.read_feature.Goals as goal

pub returns-in_ok-read-in-support-2 : goal.returns-in_ok-read-in-support-2
returns-in_ok-read-in-support-2 c =
    took (named (read c.in_ok-which.ensures & name c.in_ok-expected.ensures c.in-support.is (read c.in_ok-read-in-support.ensures & read c.in_ok-read-in-support-2.ensures)))

pub returns-in_ok-read-in-make : goal.returns-in_ok-read-in-make
returns-in_ok-read-in-make c =
    took (named (read c.in_ok-which.ensures & name c.in_ok-expected.ensures c.in-make.is (read c.in_ok-read-in-make.ensures)))
