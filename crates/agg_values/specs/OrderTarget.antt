-- Targets of an order, as texts.
use Rattle.std.specs.Prelude.{ℕ, List, codes, if◌then◌else◌}
use Rattle.std.specs.Str.{bytes_eq}
use Rattle.agg_values.specs.declared.order_target.OrderTarget.{OrderTarget}
use Rattle.agg_values.specs.declared.order_target.OrderTarget.TheVariants.{Key, Count}
use Rattle.agg_values.specs.declared.order_target.OrderTarget.TheVariants.{SubAggregation}

-- the text of a target
abbrev pub target_text : OrderTarget → List ℕ
target_text Key = codes "_key"
target_text Count = codes "_count"
target_text (SubAggregation name) = name

-- the target of a text: the key, the count, or the sub-aggregation of this name
abbrev pub target_of : List ℕ → OrderTarget
target_of text =
    if bytes_eq text (codes "_key") then Key
    else (if bytes_eq text (codes "_count") then Count else SubAggregation text)
