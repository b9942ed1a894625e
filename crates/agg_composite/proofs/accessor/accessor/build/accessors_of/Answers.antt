use Rattle.std.proofs.Common.{◌∙◌, sym}
use Rattle.agg_composite.proofs.lemmas.accessor.AccessorColumns.{read_more}
use Rattle.agg_composite.proofs.accessor.accessor.build.accessors_of.Goals as goal

pub loop-column-preserved : goal.loop-column-preserved
loop-column-preserved c = record {
  columns = c.in_ok-push_if_read.ensures.columns
      ∙ read_more c.args.source.now c.loop-column.accessors.items c.args.columns.now
      c.loop-column.column-index c.column-item.result c.loop-column-test.true
      (sym c.column-item.is) c.loop-column.invariant.columns;
  each = c.in_ok-push_if_read.ensures.each;
}
