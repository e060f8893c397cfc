-- A numeral that is not read is too large for 64 bits.
use Rattle.std.proofs.Common.{Some, sym, ap, ◌∙◌}
use Rattle.script.proofs.Numerals.{place_read}
use Rattle.script.proofs.numbers.read_place.Goals as goal

pub returns : goal.returns
returns c = ap Some c.unwrap_or.ensures ∙ place_read c.args.text.now c.parse.result (sym c.if-not-is_numeral.ensures) c.parse.ensures.value.0
