-- The byte that the search finds is the one that decides.
use Rattle.std.proofs.Common.{rules, not, ◌==◌, arith}
use borrow.Author.Tests.{tests}
use Rattle.std.proofs.lemmas.Grind.{common_steps}
use Rattle.std.proofs.lemmas.Iterator.{YieldsList-from_slice}
use Rattle.std.proofs.lemmas.Iterator.Search.{find_from_yields_List}
use Rattle.script.proofs.Cuts.{silent_by_first}
use Rattle.script.proofs.reading.is_silent.Goals as goal

pub returns : goal.returns
returns c =
    let found = find_from_yields_List (λ d. not (d == 32)) _ _ c.find.result c.find.ensures.ran (YieldsList-from_slice c.args.line.now cc) (λ x b q k. search (rules, tests)) in
    grind (arith, common_steps, silent_by_first)
