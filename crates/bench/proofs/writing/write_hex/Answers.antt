-- A digit that is not written is one of the number's.
use Rattle.std.proofs.Common.{arith}
use Rattle.bench.proofs.Joins.{length_hex_front}
use Rattle.query.specs.Lines.{hex}
use Rattle.std.proofs.lemmas.Grind.{common_steps}
use Rattle.bench.proofs.writing.write_hex.Goals as goal

pub returns-in_err-push : goal.returns-in_err-push
unfolding hex
returns-in_err-push c =
    let n = c.args.digits in
    let v = c.args.value in
    let e = length_hex_front n v c.loop-i.i in
    let f = length_hex_front n v n in
    grind (arith, common_steps, e, f)
