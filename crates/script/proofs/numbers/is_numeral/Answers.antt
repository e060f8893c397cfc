-- Each byte is tested by itself.
use Rattle.std.proofs.Common.{rules, nat_lt}
use borrow.Author.Tests.{tests}
use Rattle.std.proofs.lemmas.Iterator.{YieldsList-from_slice}
use Rattle.std.proofs.lemmas.Iterator.Search.{all_from_yields_List}
use Rattle.std.specs.Char.{digit_value}
use Rattle.script.proofs.numbers.is_numeral.Goals as goal

pub returns-then-not-is_empty : goal.returns-then-not-is_empty
returns-then-not-is_empty c =
    let each = all_from_yields_List (λ b. nat_lt (digit_value b) c.args.radix) _ _ c.all.result c.all.ensures.ran (YieldsList-from_slice c.args.text.now cc) (λ x b q k. search (rules, tests)) in
    search (rules, tests)
