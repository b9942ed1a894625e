-- When collectors have handed on all that is below their buckets, and when their pages are alike.
use Rattle.std.specs.Prelude.{◌≡◌, ℕ, true, List, [], map}
use Rattle.agg_cache.specs.Waiting.{docs_of, is_id}
use Rattle.agg_composite.specs.declared.accessor.request_data.CompositeAggReqData.{
  CompositeAggReqData,
}
use Rattle.agg_composite.specs.Composite.{Composite, CompositeFor, page_of}
use Rattle.agg_composite.specs.PageEntries.{decoded_buckets, entry_bucket}
use Rattle.agg_composite.specs.Visits.{TypedVisit}
use Rattle.agg_composite.specs.declared.page_entry.PageEntry.{PageEntry}

-- a collector is right for its visits, and handed all their documents on
abbrev pub HasHanded : {C : Type 0} → (C → ℕ → List ℕ) → CompositeAggReqData → Composite C
    → List TypedVisit → List (ℕ × ℕ) → Type 0
HasHanded waiting req collector visited given =
    CompositeFor waiting req collector visited given × (collector.hands_on ≡ true)
    × ((id : ℕ) → waiting collector.cache.0 id ≡ [])

-- a page is a collector's of a parent
abbrev pub IsPageOf : {C : Type 0} → CompositeAggReqData → Composite C → ℕ → List PageEntry
    → Type 0
IsPageOf req collector parent page =
    map entry_bucket page ≡ decoded_buckets req (page_of collector parent)

-- entries have the same key and count, and the same documents were given under their ids
abbrev pub AreAlike : List (ℕ × ℕ) → List (ℕ × ℕ) → PageEntry → PageEntry → Type 0
AreAlike given others entry other =
    (entry.key ≡ other.key) × (entry.doc_count ≡ other.doc_count)
    × (docs_of (is_id entry.bucket_id) given ≡ docs_of (is_id other.bucket_id) others)
