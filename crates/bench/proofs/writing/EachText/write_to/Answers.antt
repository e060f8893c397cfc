-- A text that is not written whole is one of those that are asked for.
use Rattle.std.proofs.Common.{◌++◌, arith}
use Rattle.std.proofs.lemmas.Grind.{common_steps}
use Rattle.std.proofs.lemmas.List.Folds.{length-flat_map-take}
use Rattle.bench.specs.Texts.{space}
use Rattle.bench.proofs.writing.EachText.write_to.Goals as goal

pub returns-in_err-write_to : goal.returns-in_err-write_to
returns-in_err-write_to g c =
    let fits = length-flat_map-take (λ x. space ++ g.T.Text.text x) c.args.self.now.items.now c.loop-item.item-index c.item-item.result c.loop-item-test.true in
    grind (arith, common_steps, fits)
