-- Each turn writes the next digit behind the front, and the last write the byte after them.
use Rattle.std.proofs.Common.{◌≡◌, ◌-◌, [], ◌∷◌, ◌++◌, length, drop, refl, ap, ◌∙◌, arith}
use Rattle.std.proofs.lemmas.Grind.{common_steps}
use Rattle.std.proofs.lemmas.List.{take_more_set}
use Rattle.query.specs.Lines.{hex_front, hex}
use Rattle.query.proofs.Buffers.{hex_more, last_set}
use Rattle.query.proofs.contact_line.put_group.Goals as goal

pub loop-i-init : goal.loop-i-init
unfolding hex_front
loop-i-init c = (refl, grind (arith, common_steps))

pub loop-i-preserved : goal.loop-i-preserved
loop-i-preserved c =
    let h = hex_more (length c.args.group.now - 1) c.args.value c.loop-i.i in
    let e = take_more_set c.loop-i.digit-items c.loop-i.i c.hex_digit.result (grind (arith, common_steps)) in
    (cc, grind (arith, common_steps))

pub returns : goal.returns
unfolding hex
returns c =
    let n = length c.args.group.now - 1 in
    let digits = c.loop-i.digit-items in
    let i-is : c.loop-i.i ≡ n = grind (arith, common_steps) in
    let all : digits ≡ hex n c.args.value = grind (arith, common_steps) in
    last_set digits (drop n c.args.group.now) n c.args.end c.loop-i.invariant.1 (grind (arith, common_steps)) ∙ ap (λ xs. xs ++ (c.args.end ∷ [])) all
