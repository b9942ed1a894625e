-- The page of the documents that were taken under a parent.
use Rattle.std.specs.Prelude.{◌≡◌, ℕ, List, [], true, Option, None, Some, All, map}
use Rattle.agg_values.specs.Names.{Named}
use Rattle.agg_values.specs.declared.after_key.AfterKey.{AfterKey}
use Rattle.agg_segment.specs.Segment.{Stored, documents_at}
use Rattle.agg_request_tree.specs.Occurrences.{bound_of}
use Rattle.agg_request_tree.specs.Page.{count_in, documents_with}
use Rattle.agg_composite.specs.declared.accessor.request_data.CompositeAggReqData.{
  CompositeAggReqData,
}
use Rattle.agg_composite.specs.accessor.Encoding.{EncodedTuple}
use Rattle.agg_composite.specs.buckets.Page.{Page}
use Rattle.agg_composite.specs.Composite.{Composite, CompositeFor, page_of}
use Rattle.agg_composite.specs.PageEntries.{entry_group}
use Rattle.agg_composite.specs.declared.page_entry.PageEntry.{PageEntry}
use Rattle.agg_results.specs.StandsFor.{GroupsStandFor}
use Rattle.agg_engine_tree.specs.collector_tree.Caches.{Cache, waiting_in}
use Rattle.agg_engine_tree.specs.collector_tree.Tree.{visits_of}
use Rattle.agg_engine_tree.specs.tree_results.Results.{AreDocsOf, docs_taken}

-- a collector hands documents on, and none waits
abbrev pub HasHandedAll : Composite Cache → Type 0
HasHandedAll collector =
    (collector.hands_on ≡ true) × ((id : ℕ) → waiting_in collector.cache.0 id ≡ [])

-- a page is that of the documents that were taken under a parent, with exact counts; the documents
-- of each entry were given under its id
pub record IsPageTaken (collector : Composite Cache) (req : CompositeAggReqData) (parent : Option ℕ)
    (segment : Stored) (after : Named AfterKey) (taken given : List (ℕ × ℕ))
    (page : List PageEntry) : Type 0 where
  pub groups : GroupsStandFor req.req.now.sources req.size (bound_of req.req.now.sources after)
      (documents_at segment (docs_taken parent taken)) (map entry_group page)
  pub counted : All (λ entry. entry.doc_count ≡ count_in req.req.now.sources
      (documents_at segment (docs_taken parent taken)) entry.key) page
  pub passed : HasHandedAll collector
      → All (λ entry. documents_at segment (docs_taken (Some entry.bucket_id) given)
      ≡ documents_with req.req.now.sources (documents_at segment (docs_taken parent taken))
      entry.key) page
  pub within : HasHandedAll collector → AreDocsOf segment (docs_taken parent taken)
      → All (λ entry. AreDocsOf segment (docs_taken (Some entry.bucket_id) given)) page

-- the encoded page of a parent's documents, and of none without a parent
abbrev pub encoded_under : Composite Cache → Option ℕ → Page EncodedTuple
encoded_under collector (Some parent) = page_of collector parent
encoded_under collector None = []

-- a page is a collector's of a parent, whatever the collector is right for
abbrev pub IsPageUnder : Composite Cache → CompositeAggReqData → Option ℕ → List PageEntry → Type 0
IsPageUnder collector req parent page =
    (segment : Stored) (after : Named AfterKey) (taken given : List (ℕ × ℕ))
    → CompositeFor waiting_in req collector (visits_of req segment after taken) given
    → IsPageTaken collector req parent segment after taken given page
