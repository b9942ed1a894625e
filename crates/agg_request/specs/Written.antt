-- Requests that may be written as JSON.
use Rattle.std.specs.Prelude.{◌&&◌, Bool, Option, Some, false, not, true}
use Rattle.std.specs.List.{list_all}
use Rattle.std.specs.Map.{keys_of}
use Rattle.agg_values.specs.TypedKey.{CompositeIntermediateKey}
use Rattle.agg_values.specs.declared.typed_key.CompositeIntermediateKey.TheVariants.{Null}
use Rattle.agg_request_tree.specs.Request.{Request}
use Rattle.agg_request_tree.specs.Source.{Sources, min_of}
use Rattle.agg_request_tree.specs.declared.aggregation.AggregationVariants.{AggregationVariants}
use Rattle.agg_request_tree.specs.declared.aggregation.AggregationVariants.TheVariants.{Composite}
use Rattle.agg_request.specs.reading.RequestJson.{kind_word}
use Rattle.agg_request.specs.reading.Kinds.{may_hold}
use Rattle.agg_request_tree.specs.declared.aggregation.Aggregation.{Aggregation}
use Rattle.agg_request_tree.specs.declared.aggregation.Aggregation.TheOpen.{Aggregation-F}
use Rattle.agg_request_tree.specs.declared.aggregation.Aggregation.TheFolds.{fold-Aggregation}

-- whether a key is Null, if there is one
abbrev pub is_null : Option CompositeIntermediateKey → Bool
is_null (Some Null) = true
is_null _ = false

-- whether no source has Null as its least value
abbrev pub have_no_null_min : Sources → Bool
have_no_null_min sources = list_all (λ source. not (is_null (min_of source))) sources

-- whether no source of an aggregation has
abbrev pub has_no_null_min : {B : Type 0} → AggregationVariants B → Bool
has_no_null_min (Composite composite) = have_no_null_min composite.sources
has_no_null_min _ = true

-- whether an aggregation may be written, where each of these says it of one below it
abbrev pub may_be_written_step : {B : Type 0} → Aggregation-F B Bool → Bool
may_be_written_step a =
    has_no_null_min a.agg
    && (may_hold (kind_word a.agg) (keys_of a.sub_aggregation)
    && list_all (λ below. below.1) a.sub_aggregation)

-- whether an aggregation may be written, with all below it
abbrev pub may_be_written : {B : Type 0} → Aggregation B → Bool
may_be_written {B = B} = fold-Aggregation B Bool may_be_written_step

-- whether each aggregation of a request may
abbrev pub all_may_be_written : {B : Type 0} → Request B → Bool
all_may_be_written request = list_all (λ a. may_be_written a.1) request
