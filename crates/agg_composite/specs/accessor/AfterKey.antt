-- Where an after key stands among the numbers of a column.
use Rattle.std.specs.Prelude.{ℕ, Bool, true, false, ◌==◌, nat_lt, not, if◌then◌else◌}
use Rattle.std.specs.declared.cmp.Ordering.{Ordering}
use Rattle.std.specs.declared.cmp.Ordering.TheVariants.{Less, Equal, Greater}
use Rattle.agg_values.specs.declared.order.Order.{Order}
use Rattle.agg_values.specs.declared.order.Order.TheVariants.{Asc, Desc}
use Rattle.agg_composite.specs.declared.accessor.after_key.PrecomputedAfterKey.{PrecomputedAfterKey}
use Rattle.agg_composite.specs.declared.accessor.after_key.PrecomputedAfterKey.TheVariants.{Exact}
use Rattle.agg_composite.specs.declared.accessor.after_key.PrecomputedAfterKey.TheVariants.{Next}
use Rattle.agg_composite.specs.declared.accessor.after_key.PrecomputedAfterKey.TheVariants.{
  AfterLast,
}

-- whether an after key is at a number
abbrev pub is_at : PrecomputedAfterKey → ℕ → Bool
is_at (Exact after) number = after == number
is_at (Next after) number = false
is_at AfterLast number = false

-- whether it is above a number
abbrev pub is_above : PrecomputedAfterKey → ℕ → Bool
is_above (Exact after) number = nat_lt number after
is_above (Next after) number = nat_lt number after
is_above AfterLast number = true

-- whether it is below a number
abbrev pub is_below : PrecomputedAfterKey → ℕ → Bool
is_below (Exact after) number = nat_lt after number
is_below (Next after) number = not (nat_lt number after)
is_below AfterLast number = false

-- whether a number comes before an after key in an order
abbrev pub comes_before : Order → PrecomputedAfterKey → ℕ → Bool
comes_before Asc after number = is_above after number
comes_before Desc after number = is_below after number

-- how a number stands to an after key in an order
abbrev pub projected_side : Order → PrecomputedAfterKey → ℕ → Ordering
projected_side order after number =
    if is_at after number then Equal
    else (if comes_before order after number then Less else Greater)
