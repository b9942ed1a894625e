use Rattle.std.proofs.Common.{◌≡◌, ◌∙◌}
use Rattle.agg_values.specs.contracts.column.ColumnPaginationOrderOrd.TheImpl.{ghosts}
use Rattle.agg_composite.proofs.lemmas.accessor.ClassRanks.{classes-compare}
use Rattle.agg_composite.proofs.accessor.accessor.CompositeAccessor.cmp_class.Goals as goal

pub returns : goal.returns
returns c key is =
    let compared : c.cmp.result ≡ ghosts.cmp c.column_pagination_order.result c.args.class =
    c.cmp.ensures in
    compared ∙ classes-compare c.args.self.now.column.now.keys c.column_pagination_order.result
    c.args.class (c.column_pagination_order.ensures.class 0) key is
