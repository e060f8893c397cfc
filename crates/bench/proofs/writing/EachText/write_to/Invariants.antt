-- The texts so far are written.
use Rattle.std.proofs.Common.{true, take}
use Rattle.bench.specs.Texts.{Appended, each_text}
use Rattle.bench.proofs.writing.EachText.write_to.Given as goal

abbrev pub invariant-loop-item : goal.invariant-loop-item
invariant-loop-item g l = Appended l.initial.out (each_text g.T.Text.text (take l.item-index l.self.items.now)) true l.out
