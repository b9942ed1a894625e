-- The composite of a name.
use Rattle.std.specs.Prelude.{◌≡◌, ℕ, List, Some, option_map}
use Rattle.agg_values.specs.Names.{value_of}
use Rattle.agg_request_tree.specs.declared.aggregation.CompositeAggregation.{CompositeAggregation}
use Rattle.agg_request_tree.specs.declared.aggregation.AggregationVariants.TheVariants.{Composite}
use Rattle.agg_request_tree.specs.Request.{Request, agg_of}

-- the aggregation of a name is this composite
abbrev pub IsCompositeNamed : {B : Type 0} → List ℕ → Request B → CompositeAggregation → Type 0
IsCompositeNamed name request composite =
    option_map (λ a. agg_of a) (value_of name request) ≡ Some (Composite composite)

-- a name is that of a composite of the request
abbrev pub NamesComposite : {B : Type 0} → List ℕ → Request B → Type 0
NamesComposite name request =
    (composite : CompositeAggregation) × IsCompositeNamed name request composite
