use Rattle.std.proofs.Common.{sym, ap, ◌∙◌}
use Rattle.agg_values.specs.KeyOrder.{key_order}
use Rattle.agg_segment.specs.storage.Columns.{encoded_key}
use Rattle.agg_segment.specs.declared.storage.keys.ColumnKeys.TheVariants.{Signed}
use Rattle.agg_composite.proofs.accessor.after_key.precompute.precompute_among_starts.Goals as goal

pub returns-in-Null : goal.returns-in-Null
returns-in-Null c = λ number stands.
    c.precompute_null.ensures Signed number
    ∙ ap (key_order c.args.order c.args.missing_order (encoded_key Signed number))
    (sym c.in-Null.is)
