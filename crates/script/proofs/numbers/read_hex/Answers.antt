-- Few enough digits are always read.
use Rattle.std.proofs.Common.{sym, ◌∙◌}
use Rattle.script.proofs.Numerals.{hex_read}
use Rattle.script.proofs.numbers.read_hex.Goals as goal

pub returns : goal.returns
returns c =
    c.ok.ensures.value ∙ hex_read c.args.most c.args.text.now c.from_str_radix.result c.requires c.if-text-most.false (sym c.if-not-is_numeral.ensures) c.from_str_radix.ensures.value
