-- The roofs of a request in a segment, in bytes: the fixed charge, and its buckets at a height. The
-- roof is the one at `High`, and the low roof the one at `Low`.
--
-- A worked case, of terms sources over three documents, with 1 in `a` and 1, 2 and 3 in `b`. The
-- fixed charge of a composite and one below it is 1024 bytes, and a bucket of either is 96.
--     `b`, size 1, and below it `a`, size 1: the page of `b` has no room for its three tuples
--         Low   1024 + 96            its one bucket, and nothing below
--         High  1024 + 96 + 3 * 96   and a bucket for each place of the list below
--     `a`, size 10, and below it `b`, size 1: the page of `a` has room for its one tuple
--         Low   1024 + 96 + 96       a bucket of each
--         High  the same
use Rattle.std.specs.Prelude.{◌+◌, ◌*◌, ℕ, List, Bool, length, map}
use Rattle.std.specs.Prelude.{if◌then◌else◌, min, nat_le}
use Rattle.std.specs.List.{sum_by}
use Rattle.agg_values.specs.Names.{Named}
use Rattle.agg_values.specs.Tuple.{KeyTuple}
use Rattle.agg_segment.specs.storage.Document.{Fields}
use Rattle.agg_request_tree.specs.Matching.{matching}
use Rattle.agg_request_tree.specs.Occurrences.{bound_of, past_occurrences, same_tuple}
use Rattle.agg_request_tree.specs.Page.{documents_with}
use Rattle.agg_request_tree.specs.Request.{Request}
use Rattle.agg_request_tree.specs.Source.{rules_of}
use Rattle.agg_request_tree.specs.Uncut.{counted}
use Rattle.agg_request_tree.specs.declared.aggregation.Aggregation.{Aggregation}
use Rattle.agg_request_tree.specs.declared.aggregation.Aggregation.TheOpen.{Aggregation-F}
use Rattle.agg_request_tree.specs.declared.aggregation.Aggregation.TheFolds.{fold-Aggregation}
use Rattle.agg_request_tree.specs.declared.aggregation.AggregationVariants as variants
use variants.{AggregationVariants}
use variants.TheVariants.{Filter, Composite}
use Rattle.agg_request_tree.specs.declared.aggregation.CompositeAggregation.{CompositeAggregation}
use Rattle.agg_request_tree.specs.charges.Charges.{bucket_bytes, fixed_charge}
use Rattle.agg_request_tree.specs.charges.Distinct.{distinct}

-- ---- a composite

-- the tuples past a composite's bound that documents have, each once
abbrev pub past_tuples : CompositeAggregation → List Fields → List KeyTuple
past_tuples composite documents =
    let bound = bound_of composite.sources composite.after in
    distinct (same_tuple (rules_of composite.sources))
    (past_occurrences composite.sources bound documents)

-- whether a page of the composite has room for all of them
abbrev pub has_room : CompositeAggregation → List Fields → Bool
has_room composite documents = nat_le (length (past_tuples composite documents)) composite.size

-- the composite's own buckets: one for each of them, as many as there is room for
abbrev pub own_bytes : CompositeAggregation → List Fields → ℕ
own_bytes composite documents =
    bucket_bytes composite * min composite.size (length (past_tuples composite documents))

-- the sum of what is counted over the documents of each of them, each document once for each of its
-- occurrences with the tuple
abbrev pub over_tuples : CompositeAggregation → (List Fields → ℕ) → List Fields → ℕ
over_tuples composite bytes documents =
    sum_by (λ tuple. bytes (documents_with composite.sources documents tuple))
    (past_tuples composite documents)

-- ---- at any depth

-- which buckets of composites are counted
pub data Height : Type 0 where
  -- one for each place of their uncut lists
  Uncut : Height
  -- one for each tuple, as many as there is room for; below one without room, those at `Uncut`
  High : Height
  -- one for each tuple, as many as there is room for; below one without room, none
  Low : Height

-- the bytes of the buckets that are counted at a height over documents
abbrev pub Counts : Type 0
Counts = Height → List Fields → ℕ

-- nothing is counted, as below a metric
abbrev pub nothing : Counts
nothing = λ height documents. 0

-- what several aggregations count together
abbrev pub together : Named Counts → Counts
together each height documents = sum_by (λ c. c.1 height documents) each

-- what a composite counts, where those below it count this together
abbrev pub composite_counts : CompositeAggregation → Counts → Counts
composite_counts composite below Uncut documents =
    bucket_bytes composite * length (counted composite documents)
    + below Uncut (counted composite documents)
composite_counts composite below High documents =
    own_bytes composite documents
    + (if has_room composite documents then over_tuples composite (below High) documents
    else below Uncut (counted composite documents))
composite_counts composite below Low documents =
    own_bytes composite documents
    + (if has_room composite documents then over_tuples composite (below Low) documents else 0)

module _ {B : Type 0} (is_match : B → Fields → Bool) where
  -- what an aggregation counts, where those below it count this together: a filter what they count
  -- over the documents that it matches
  abbrev pub counts_by : AggregationVariants B → Counts → Counts
  counts_by (Filter filter) below =
      λ height documents. below height (matching is_match filter.query documents)
  counts_by (Composite composite) below = composite_counts composite below
  counts_by _ below = nothing

  -- what an aggregation counts, from what each one below it does
  abbrev pub counts_step : Aggregation-F B Counts → Counts
  counts_step a = counts_by a.agg (together a.sub_aggregation)

  -- what an aggregation counts, with all below it
  abbrev pub counts : Aggregation B → Counts
  counts = fold-Aggregation B Counts counts_step

  -- what the aggregations of a request count
  abbrev pub counts_of : Request B → Counts
  counts_of request = together (map (λ a. (a.0, counts a.1)) request)

  -- the roof of a request at a height, in a segment of so many documents, of which these match
  abbrev pub roof_at : Height → Request B → ℕ → List Fields → ℕ
  roof_at height request documents matches =
      fixed_charge request documents + counts_of request height matches

  -- the roof
  abbrev pub roof : Request B → ℕ → List Fields → ℕ
  roof = roof_at High

  -- the low roof
  abbrev pub low_roof : Request B → ℕ → List Fields → ℕ
  low_roof = roof_at Low
