use Rattle.std.proofs.Common.{◌∙◌, ◌-◌, ◌^◌}
use Rattle.agg_engine_tree.proofs.lemmas.uncut.FieldNumbers.{cut-numbers-more}
use Rattle.agg_engine_tree.proofs.uncut.node_data.num_numbers.Goals as goal

pub loop-column-preserved : goal.loop-column-preserved
loop-column-preserved c =
    c.saturating_add-count.ensures
    ∙ cut-numbers-more c.args.columns.now c.args.doc c.loop-column.column-index
    c.column-item.result c.loop-column.count c.num_numbers_in.result (2 ^ 64 - 1)
    c.loop-column-test.true c.column-item.is c.loop-column.invariant c.num_numbers_in.ensures
