use Rattle.std.proofs.Common.{◌∙◌, sym}
use Rattle.agg_values.specs.declared.order.Order.TheVariants.{Desc}
use Rattle.agg_composite.specs.accessor.Lanes.{columns_of, in_requested}
use Rattle.agg_composite.proofs.lemmas.accessor.AccessorColumns.{columns-reversed}
use Rattle.agg_composite.proofs.accessor.accessor.build.in_requested_order.Goals as goal

pub returns-in-Desc-clause-columns : goal.returns-in-Desc-clause-columns
returns-in-Desc-clause-columns c =
    (λ x. in_requested ((sym c.order.ensures ∙ c.in-Desc.is) x)
    (columns_of (c.from_vec-in-Desc.ensures x)))
    ∙ (λ x. in_requested Desc (columns_of (c.reverse.ensures.items x)))
    ∙ columns-reversed c.in_ok-accessors.accessors.items ∙ c.in_ok-accessors.ensures.columns
