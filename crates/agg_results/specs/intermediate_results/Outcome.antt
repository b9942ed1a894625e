-- What a merge did that goes on where a sum is too large.
use Rattle.std.specs.Prelude.{◌≡◌, ◌≤◌, ◌+◌, ◌^◌, ◌⊎◌, ℕ, Bool, false, List, Some, IsSomeAnd}
use Rattle.std.specs.List.{All}
use Rattle.std.specs.declared.cmp.Ordering.{Ordering}
use Rattle.std.specs.declared.cmp.Ordering.TheVariants.{Less}
use Rattle.agg_values.specs.Names.{value_of}
use Rattle.agg_values.specs.Tuple.{KeyTuple}
use Rattle.agg_results.specs.metric_results.Merges.{Merges}
use Rattle.agg_results.specs.intermediate_results.Intermediate.{Held, below_entry}
use Rattle.agg_results.specs.intermediate_results.Merging.{CountsPass, EitherOrBoth, EntriesMerged}
use Rattle.agg_results.specs.intermediate_results.Merging.{IsMerged, JoinNames, MergedTo}
use Rattle.agg_results.specs.intermediate_results.Merging.{ShapesDiffer, SomeOfBoth}
use Rattle.agg_results.specs.declared.intermediate_results as intermediate
use intermediate.results.IntermediateAggregationResult.{IntermediateAggregationResult}
use intermediate.entry.IntermediateTermBucketEntry.{IntermediateTermBucketEntry}

-- what is below two entries differs in shape
abbrev pub BelowDiffer : IntermediateTermBucketEntry → IntermediateTermBucketEntry → Type 0
BelowDiffer e f = SomeOfBoth ShapesDiffer (below_entry e) (below_entry f)

-- a sum of two entries is too large
abbrev pub EntriesPass : IntermediateTermBucketEntry → IntermediateTermBucketEntry → Type 0
EntriesPass e f =
    (2 ^ 64 ≤ e.doc_count + f.doc_count)
    ⊎ SomeOfBoth CountsPass (below_entry e) (below_entry f)

-- two entries as one, at every depth
abbrev pub IsMergedEntry : IntermediateTermBucketEntry → IntermediateTermBucketEntry
    → IntermediateTermBucketEntry → Type 0
IsMergedEntry e f w = (depth : ℕ) → EntriesMerged (JoinNames (MergedTo depth)) e f w

-- two entries as one, at every depth, unless a sum was too large
abbrev pub DoneUnless : Bool → IntermediateTermBucketEntry → IntermediateTermBucketEntry
    → IntermediateTermBucketEntry → Type 0
DoneUnless passed e f w = passed ≡ false → IsMergedEntry e f w

-- a result of a name is put over those held
pub record IsPut (was now : Bool) (name : List ℕ) (value : IntermediateAggregationResult)
    (held : Held) (w : IntermediateAggregationResult) : Type 0 where
  pub merges : Merges was now (IsSomeAnd (value_of name held) (λ r. ShapesDiffer r value))
      (IsSomeAnd (value_of name held) (λ r. CountsPass r value))
  pub merged : now ≡ false → EitherOrBoth IsMerged (value_of name held) (Some value) (Some w)

-- each entry of a list is below each of another
abbrev pub AreBelow : {T : Type 0} → (KeyTuple → KeyTuple → Ordering) → List (KeyTuple × T)
    → List (KeyTuple × T) → Type 0
AreBelow R lower upper = All (λ f. All (λ e. R e.0 f.0 ≡ Less) lower) upper
