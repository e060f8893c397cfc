-- By the name, and then part by part.
use Rattle.std.proofs.Common.{◌≡◌, length, arith}
use Rattle.script.specs.Grammar.{point2_items}
use Rattle.script.proofs.Parts.{read, took, name, ◌&◌, nothing, spelt_as, two}
use Rattle.script.proofs.reading.CommandReadable.read.Goals as goal

pub returns-in_ok-read-in-shape-2 : goal.returns-in_ok-read-in-shape-2
returns-in_ok-read-in-shape-2 c = took (name c.in_ok-expected.ensures c.in-shape.is (read c.in_ok-read-in-shape.ensures & read c.in_ok-read-in-shape-2.ensures))

pub returns-in_ok-read-in-id-2 : goal.returns-in_ok-read-in-id-2
returns-in_ok-read-in-id-2 c = took (name c.in_ok-expected.ensures c.in-id.is (read c.in_ok-read-in-id.ensures & read c.in_ok-read-in-id-2.ensures))

pub returns-in_ok-read-in-clip-2 : goal.returns-in_ok-read-in-clip-2
returns-in_ok-read-in-clip-2 c = took (name c.in_ok-expected.ensures c.in-clip.is (read c.in_ok-read-in-clip.ensures & read c.in_ok-read-in-clip-2.ensures & nothing))

pub returns-in_ok-read-in-lines-2 : goal.returns-in_ok-read-in-lines-2
returns-in_ok-read-in-lines-2 c =
    let first : length c.in_ok-read-in-lines.field-0 ≡ 2 = let known = rw c.in_ok-read-in-lines.was at c.read-in-lines.type_inv in omega arith in
    let second : length c.in_ok-read-in-lines-2.field-0 ≡ 2 = let known = rw c.in_ok-read-in-lines-2.was at c.read-in-lines-2.type_inv in omega arith in
    took (name c.in_ok-expected.ensures c.in-lines.is (spelt_as (two point2_items _ _ first) (read c.in_ok-read-in-lines.ensures) & spelt_as (two point2_items _ _ second) (read c.in_ok-read-in-lines-2.ensures) & nothing))
