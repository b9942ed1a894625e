-- The entries of a page, held with what is below them.
use Rattle.std.specs.Prelude.{◌≡◌, ℕ, List, Some, map}
use Rattle.std.specs.List.{AllZip}
use Rattle.std.specs.List.Sorted.{IsStrictlySortedBy}
use Rattle.std.specs.Map.{keys_of}
use Rattle.agg_values.specs.KeyOrder.{tuple_order}
use Rattle.agg_request_tree.specs.Source.{Sources, rules_of}
use Rattle.agg_composite.specs.PageEntries.{entry_group}
use Rattle.agg_composite.specs.declared.page_entry.PageEntry.{PageEntry}
use Rattle.agg_results.specs.intermediate_results.Intermediate.{Entries, TupleEntry, below_entry}
use Rattle.agg_results.specs.intermediate_results.Intermediate.{composite_of}
use Rattle.agg_results.specs.declared.intermediate_results as intermediate
use intermediate.composite.IntermediateCompositeBucketResult.{IntermediateCompositeBucketResult}
use Rattle.agg_engine_tree.specs.declared.segment_context.context.PerRequestAggSegCtx.{
  PerRequestAggSegCtx,
}
use Rattle.agg_engine_tree.specs.collector_tree.Tree.{Held}
use Rattle.agg_engine_tree.specs.tree_results.Results.{GroupStands}

-- the tuples of a page's entries ascend
abbrev pub IsAscending : Sources → List PageEntry → Type 0
IsAscending sources page =
    IsStrictlySortedBy (tuple_order (rules_of sources)) (keys_of (map entry_group page))

-- an entry of a page is held with its count, and below it what its documents gave
pub record IsEntryOf (ctx : PerRequestAggSegCtx) (h : Held) (p : PageEntry) (e : TupleEntry)
    : Type 0 where
  pub key : e.0 ≡ p.key
  pub count : e.1.doc_count ≡ p.doc_count
  pub stands : GroupStands ctx h (Some p.bucket_id) (below_entry e.1)

-- a composite's result holds the entries of a page, each with what is below it
pub record HoldsPage (ctx : PerRequestAggSegCtx) (h : Held) (sources : Sources) (size : ℕ)
    (page : List PageEntry) (c : IntermediateCompositeBucketResult) : Type 0 where
  pub entries : Entries
  pub is : c ≡ composite_of (rules_of sources) size entries
  pub are : AllZip (IsEntryOf ctx h) page entries
