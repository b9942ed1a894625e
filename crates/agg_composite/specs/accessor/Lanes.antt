-- The lanes in which the keys of a source stand in a segment.
use Rattle.std.specs.Prelude.{ℕ, List, [], ◌∷◌, get_or, map, reverse}
use Rattle.std.specs.Ordering.{nat_cmp}
use Rattle.std.specs.declared.cmp.Ordering.{Ordering}
use Rattle.agg_values.specs.KeyOrder.{directed}
use Rattle.agg_values.specs.declared.order.Order.{Order}
use Rattle.agg_values.specs.declared.order.Order.TheVariants.{Asc, Desc}
use Rattle.agg_segment.specs.storage.Columns.{StoredColumn}
use Rattle.agg_segment.specs.declared.storage.keys.ColumnKeys.{ColumnKeys}
use Rattle.agg_segment.specs.declared.storage.keys.ColumnKeys.TheVariants.{Bools, Signed}
use Rattle.agg_request_tree.specs.declared.source.CompositeAggregationSource as kind
use kind.{CompositeAggregationSource}
use kind.TheVariants.{DateHistogram, Histogram, Terms}
use Rattle.agg_composite.specs.declared.accessor.accessor.CompositeAccessor.{CompositeAccessor}

-- what ascends, in the requested order
abbrev pub in_requested : {A : Type 0} → Order → List A → List A
in_requested Asc xs = xs
in_requested Desc xs = reverse xs

-- how ranks of classes compare in an order
abbrev pub class_order : Order → ℕ → ℕ → Ordering
class_order order = directed order nat_cmp

-- the columns of accessors
abbrev pub columns_of : List CompositeAccessor → List StoredColumn
columns_of accessors = map (λ a. a.column.now) accessors

-- what the numbers of their columns stand for
abbrev pub column_keys_of : List CompositeAccessor → List ColumnKeys
column_keys_of accessors = map (λ a. a.column.now.keys) accessors

-- what the numbers of the column at an index stand for
abbrev pub column_at : List CompositeAccessor → ℕ → ColumnKeys
column_at accessors i = get_or (column_keys_of accessors) i Bools

-- the one lane of numbers, where there is an accessor
abbrev pub lane_of_numbers : List CompositeAccessor → List ColumnKeys
lane_of_numbers [] = []
lane_of_numbers (a ∷ accessors) = Signed ∷ []

-- what the numbers of each lane stand for, by class in the requested order: a lane for each column;
-- of a histogram one for all, since its keys are numbers alone
abbrev pub lanes : CompositeAggregationSource → List CompositeAccessor → List ColumnKeys
lanes (Terms s) accessors = column_keys_of accessors
lanes (Histogram s) accessors = lane_of_numbers accessors
lanes (DateHistogram s) accessors = column_keys_of accessors

-- the index of the lane of the accessor at an index
abbrev pub lane_of : CompositeAggregationSource → ℕ → ℕ
lane_of (Terms s) index = index
lane_of (Histogram s) index = 0
lane_of (DateHistogram s) index = index

-- what the numbers of the lane at an index stand for
abbrev pub keys_at : CompositeAggregationSource → List CompositeAccessor → ℕ → ColumnKeys
keys_at source accessors i = get_or (lanes source accessors) i Bools
