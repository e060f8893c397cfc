-- Each group stands behind the one before, and what lies behind the 137th byte stays.
use Rattle.std.proofs.Common.{◌≡◌, ℕ, ◌+◌, ◌-◌, ◌*◌, List, length, get_or, take, ap, ◌∙◌, arith}
use Rattle.std.specs.List.{flat_map}
use Rattle.std.proofs.lemmas.Grind.{common_steps}
use Rattle.std.proofs.lemmas.Slice.{drop-put_mid}
use Rattle.query.specs.Contacts.{seen}
use Rattle.query.specs.Lines.{group, words}
use Rattle.query.proofs.Buffers.{take-groups_more, put_mid-ids}
use Rattle.query.proofs.contact_line.contact_line.Goals as goal

pub loop-i-preserved : goal.loop-i-preserved
loop-i-preserved g c =
    let i = c.loop-i.i in
    let k = 17 * i + 17 - 17 * i in
    let buf = c.loop-i.buffer in
    let grp = c.put_group.new.group in
    let ws = c.number_bits.result in
    let long : length grp ≡ 17 = grind (arith, common_steps) in
    let is : grp ≡ group 16 (get_or ws i 0) 32 = grind (arith, common_steps) in (
      take-groups_more (λ v. group 16 v 32) ws buf grp (17 * i) i k (17 * (i + 1)) (grind (arith, common_steps)) c.loop-i.invariant.0 (omega arith) (omega arith) is,
      drop-put_mid (17 * i) k buf grp 137 (omega arith) (omega arith) (omega arith) ∙ c.loop-i.invariant.1,
    )

pub returns-clause-after : goal.returns-clause-after
returns-clause-after g c =
    let k = seen c.args.contact.now in
    let i-is : c.loop-i.i ≡ 7 = omega arith in
    let seven = rw i-is at c.loop-i.invariant.0 in
    let front : take 119 c.loop-i.buffer ≡ flat_map (λ v. group 16 v 32) (words k) = seven ∙ ap (λ (xs : List ℕ). flat_map (λ v. group 16 v 32) (take 7 xs)) c.number_bits.ensures in
    let id1 : c.put_group-2.new.group ≡ group 8 k.fid1.0 32 = grind (arith, common_steps) in
    let id2 : c.put_group-3.new.group ≡ group 8 k.fid2.0 10 = grind (arith, common_steps) in
    let long1 : length c.put_group-2.new.group ≡ 9 = grind (arith, common_steps) in
    let long2 : length c.put_group-3.new.group ≡ 9 = grind (arith, common_steps) in
    put_mid-ids k c.args.buffer.now c.loop-i.buffer c.put_group-2.new.group c.put_group-3.new.group (omega arith) (omega arith) (grind (arith, common_steps)) front c.loop-i.invariant.1 long1 long2 id1 id2
