use Rattle.std.proofs.Common.{rules, ℕ, ◌<◌, ◌^◌, get_or}
use Rattle.agg_composite.specs.Choices.{divided_choices}
use Rattle.agg_composite.specs.accessor.Lanes.{columns_of, in_requested}
use Rattle.agg_composite.specs.accessor.Least.{least_at, numbers_from}
use Rattle.agg_composite.proofs.AccessorTurns.{turn-chosen, turn-read}
use Rattle.agg_composite.proofs.walk.gather.add_values.Goals as goal

pub loop-turn-preserved : goal.loop-turn-preserved
loop-turn-preserved c =
    let source = c.args.source.now in
    let a = c.args.accessors.now in
    let doc = c.args.doc in
    let order = c.order-order.result in
    let columns = c.as_slice-columns.result.now in
    let turn = c.loop-turn.turn in
    let index = c.index_at-index.result in
    let accessor = c.index-columns-index.result in
    let numbers = c.values_for_doc-numbers.result.now in
    let choices = divided_choices source a accessor index
    (numbers_from (least_at a.min index) numbers) in
    let xs = in_requested order (columns_of columns) in
    let fits : (j : ℕ) → get_or numbers j 0 < 2 ^ 64 = search rules in
    let read = turn-read source a order columns turn index doc c.index-columns-index.result numbers
    c.order-order.ensures c.as_slice-columns.ensures c.loop-turn-test.true
    c.index_at-index.ensures.bound c.index_at-index.ensures.index c.index-columns-index.is fits
    c.values_for_doc-numbers.ensures.stand c.values_for_doc-numbers.ensures.keys in
    turn-chosen source a xs turn doc accessor.column.now c.args.choices.now.items
    c.loop-turn.choices.items c.add_from.new.choices.items choices read.within read.next
    c.loop-turn.invariant c.in_ok-add_from.ensures read.chosen
