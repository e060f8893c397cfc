-- The fields in their order, each array place by place.
use Rattle.std.proofs.Common.{◌≡◌, [], ◌∷◌, length, arith}
use Rattle.shape.specs.Features.{unknown}
use Rattle.script.specs.Grammar.{vector_items, id_item}
use Rattle.script.proofs.Parts.{read, took, ◌&◌, spelt_as, four}
use Rattle.script.proofs.readable.FeatureRowReadable.read.Goals as goal

pub returns : goal.returns
returns c =
    let vertices : length c.in_ok-read.field-0 ≡ 4 = let known = rw c.in_ok-read.was at c.read-2.type_inv in omega arith in
    let vids : length c.in_ok-read-2.field-0 ≡ 4 = let known = rw c.in_ok-read-2.was at c.read-3.type_inv in omega arith in
    let eids : length c.in_ok-read-3.field-0 ≡ 4 = let known = rw c.in_ok-read-3.was at c.read-4.type_inv in omega arith in
    took (read c.in_ok-count.ensures & spelt_as (four vector_items _ _ vertices) (read c.in_ok-read.ensures) & spelt_as (four (λ i. id_item i ∷ []) unknown _ vids) (read c.in_ok-read-2.ensures) & spelt_as (four (λ i. id_item i ∷ []) unknown _ eids) (read c.in_ok-read-3.ensures) & read c.in_ok-read-4.ensures)
