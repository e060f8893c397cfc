-- Without `x` in front, what is read as a decimal.
use Rattle.std.proofs.Common.{rules}
use Rattle.script.proofs.Numerals.{decimal_read, float_read}
use Rattle.script.proofs.numbers.read_number.Goals as goal

pub returns-in-None-clause-some : goal.returns-in-None-clause-some
returns-in-None-clause-some c = decimal_read c.args.text.now _ c.in-None.ensures.cases (search (rules, float_read))
