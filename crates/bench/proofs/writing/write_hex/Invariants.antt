-- After i turns the first i digits are written.
use Rattle.std.proofs.Common.{true}
use Rattle.query.specs.Lines.{hex_front}
use Rattle.bench.specs.Texts.{Appended}
use Rattle.bench.proofs.writing.write_hex.Given as goal

abbrev pub invariant-loop-i : goal.invariant-loop-i
invariant-loop-i l = Appended l.initial.out (hex_front l.digits l.value l.i) true l.out
