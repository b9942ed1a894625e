-- The page of a parent's documents, and the documents of its entries.
use Rattle.std.proofs.Common.{◌≡◌, ◌<◌, ℕ, zero, suc, refl, List, [], true, None, Some, Option}
use Rattle.std.proofs.Common.{get_or}
use Rattle.std.proofs.Common.{map, take, sym, ap, ◌∙◌, subst}
use Rattle.std.specs.List.{All}
use Rattle.std.specs.Map.{keys_of}
use Rattle.std.proofs.lemmas.List.Elements.{All-from_recursion, All-nil, recursion_from_All}
use Rattle.agg_values.specs.Names.{Named}
use Rattle.agg_values.specs.declared.after_key.AfterKey.{AfterKey}
use Rattle.agg_cache.specs.Waiting.{docs_of, is_id}
use Rattle.agg_segment.specs.Segment.{Stored, documents_at}
use Rattle.agg_request_tree.specs.Groups.{Group, Groups}
use Rattle.agg_request_tree.specs.Occurrences.{bound_of, is_past}
use Rattle.agg_request_tree.specs.Page.{Entry, count_in, documents_with, entry_of}
use Rattle.agg_request_tree.specs.Source.{Sources, rules_of}
use Rattle.agg_request_tree.proofs.Lists.{All-from_map}
use Rattle.agg_request_tree.proofs.PageFromGroups.{Groups-nothing, IsPage-from_groups}
use Rattle.agg_composite.specs.accessor.Accessors.{Fits}
use Rattle.agg_composite.specs.accessor.Decoded.{IsEncoded}
use Rattle.agg_composite.specs.declared.accessor.request_data.CompositeAggReqData.{
  CompositeAggReqData,
}
use Rattle.agg_composite.specs.buckets.Cut.{tuples_under}
use Rattle.agg_composite.specs.Composite.{Composite, CompositeFor, docs_under, page_of}
use Rattle.agg_composite.specs.PageEntries.{entry_group, page_entries}
use Rattle.agg_composite.specs.Visits.{TypedVisit}
use Rattle.agg_composite.specs.declared.page_entry.PageEntry.{PageEntry}
use Rattle.agg_composite.proofs.BucketDocuments.{page-handed}
use Rattle.agg_composite.proofs.BucketPages.{entries-decoded, page-encoded, page-groups}
use Rattle.agg_results.specs.StandsFor.{GroupsStandFor}
use Rattle.agg_results.proofs.StandingGroups.{stands-lowest}
use Rattle.agg_engine_tree.specs.collector_tree.Caches.{Cache, waiting_in}
use Rattle.agg_engine_tree.specs.collector_tree.Tree.{visits_of}
use Rattle.agg_engine_tree.specs.tree_results.Pages.{IsPageUnder, encoded_under}
use Rattle.agg_engine_tree.specs.tree_results.Results.{AreDocsOf, docs_taken}
use Rattle.agg_engine_tree.proofs.lemmas.tree_results.TakenVisits.{docs-all, docs-with}
use Rattle.agg_engine_tree.proofs.lemmas.tree_results.TakenVisits.{tuples-taken}

module _ (req : CompositeAggReqData) (collector : Composite Cache) where
  abbrev sources : Sources
  sources = req.req.now.sources

  -- ---- what a page is told to be

  -- the lowest groups of the tuples under a parent
  abbrev pub HasLowest : ℕ → List PageEntry → Type 0
  HasLowest parent page =
      (visited : List TypedVisit) (given : List (ℕ × ℕ))
      → CompositeFor waiting_in req collector visited given
      → (groups : List Group)
      × Groups (rules_of sources) (tuples_under parent visited) groups
      × (map entry_group page ≡ take req.size groups)

  -- the documents of each entry were given under its id
  abbrev pub IsGiven : ℕ → List PageEntry → Type 0
  IsGiven parent page =
      (visited : List TypedVisit) (given : List (ℕ × ℕ))
      → CompositeFor waiting_in req collector visited given
      → collector.hands_on ≡ true → ((id : ℕ) → waiting_in collector.cache.0 id ≡ [])
      → All (λ entry. docs_of (is_id entry.bucket_id) given
      ≡ docs_under (rules_of sources) parent entry.key visited) page

  -- ---- for a parent and what was taken

  module _ (parent : ℕ) (page : List PageEntry) (lowest : HasLowest parent page)
      (segment : Stored) (after : Named AfterKey) (taken given : List (ℕ × ℕ))
      (for : CompositeFor waiting_in req collector (visits_of req segment after taken) given) where
    groups-page : GroupsStandFor sources req.size (bound_of sources after)
        (documents_at segment (docs_of (is_id parent) taken)) (map entry_group page)
    groups-page =
        let found = lowest (visits_of req segment after taken) given for in
        let documents = documents_at segment (docs_of (is_id parent) taken) in
        subst (GroupsStandFor sources req.size (bound_of sources after) documents) (sym found.2)
        (stands-lowest sources req.size (bound_of sources after) documents found.0
        (subst (λ tuples. Groups (rules_of sources) tuples found.0)
        (tuples-taken req segment after parent taken) found.1))

    counted-page : All (λ entry. entry.doc_count ≡ count_in sources
        (documents_at segment (docs_of (is_id parent) taken)) entry.key) page
    counted-page =
        let found = lowest (visits_of req segment after taken) given for in
        let documents = documents_at segment (docs_of (is_id parent) taken) in
        let are = IsPage-from_groups sources documents req.size (bound_of sources after) found.0
        (subst (λ tuples. Groups (rules_of sources) tuples found.0)
        (tuples-taken req segment after parent taken) found.1) in
        let counted = All-from_map (λ (e : Entry). e.count ≡ count_in sources documents e.tuple)
        (entry_of sources documents) (take req.size found.0) are.counted in
        All-from_map (λ (g : Group). g.1 ≡ count_in sources documents g.0) entry_group page
        (subst (All (λ (g : Group). g.1 ≡ count_in sources documents g.0)) (sym found.2) counted)

    module _ (own : IsGiven parent page) (hands_on : collector.hands_on ≡ true)
        (none : (id : ℕ) → waiting_in collector.cache.0 id ≡ []) where
      -- an entry's documents are those under its id
      abbrev here : All (λ entry. docs_of (is_id entry.bucket_id) given
          ≡ docs_under (rules_of sources) parent entry.key (visits_of req segment after taken)) page
      here = own (visits_of req segment after taken) given for hands_on none

      given-page : All (λ entry. documents_at segment (docs_of (is_id entry.bucket_id) given)
          ≡ documents_with sources (documents_at segment (docs_of (is_id parent) taken)) entry.key)
          page
      given-page = λ k d within.
          let past = All-from_map
          (λ (g : Group). is_past (rules_of sources) (bound_of sources after) g.0 ≡ true)
          entry_group page groups-page.past k d within in
          ap (documents_at segment) (here k d within)
          ∙ docs-with req segment after parent (get_or page k d).key past taken

      within-page : AreDocsOf segment (docs_of (is_id parent) taken)
          → All (λ entry. AreDocsOf segment (docs_of (is_id entry.bucket_id) given)) page
      within-page all = λ k d within.
          subst (AreDocsOf segment) (sym (here k d within))
          (All-from_recursion (λ doc. doc < segment.count)
          (docs_under (rules_of sources) parent (get_or page k d).key
          (visits_of req segment after taken))
          (docs-all req segment after parent (get_or page k d).key (λ doc. doc < segment.count)
          taken (recursion_from_All (λ doc. doc < segment.count) (docs_of (is_id parent) taken)
          all)))

  -- ---- whatever was taken

  page-told : (parent : ℕ) (page : List PageEntry) → HasLowest parent page → IsGiven parent page
      → IsPageUnder collector req (Some parent) page
  page-told parent page lowest own segment after taken given for = record {
    groups = groups-page parent page lowest segment after taken given for;
    counted = counted-page parent page lowest segment after taken given for;
    passed = λ all. given-page parent page lowest segment after taken given for own all.0 all.1;
    within = λ all. within-page parent page lowest segment after taken given for own all.0 all.1;
  }

take-none : (n : ℕ) (gs : List Group) → gs ≡ [] → take n gs ≡ []
take-none zero gs none = refl
take-none (suc n) gs none = rw none refl

groups-none : (sources : Sources) (size : ℕ) (after : Named AfterKey)
    → GroupsStandFor sources size (bound_of sources after) [] []
groups-none sources size after =
    subst (GroupsStandFor sources size (bound_of sources after) []) (take-none size [] refl)
    (stands-lowest sources size (bound_of sources after) [] [] (Groups-nothing (rules_of sources)))

-- without a parent it has no entries
pub page-none : (collector : Composite Cache) (req : CompositeAggReqData)
    → IsPageUnder collector req None []
page-none collector req segment after taken given for = record {
  groups = groups-none req.req.now.sources req.size after;
  counted = All-nil (λ entry. entry.doc_count ≡ count_in req.req.now.sources [] entry.key);
  passed = λ all. All-nil (λ entry. documents_at segment (docs_taken (Some entry.bucket_id) given)
      ≡ documents_with req.req.now.sources [] entry.key);
  within = λ all docs. All-nil (λ (entry : PageEntry).
      AreDocsOf segment (docs_taken (Some entry.bucket_id) given));
}

-- ---- the entries of a parent's buckets

-- they are its page
pub entries-told : (collector : Composite Cache) (req : CompositeAggReqData) (segment : Stored)
    (after : Named AfterKey) → Fits segment after req → (parent : Option ℕ)
    → IsPageUnder collector req parent (page_entries req (encoded_under collector parent))
entries-told collector req segment after fits None = page-none collector req
entries-told collector req segment after fits (Some parent) =
    let buckets = page_of collector parent in
    let page = page_entries req buckets in
    page-told req collector parent page
    (λ visited given f. page-groups waiting_in req collector visited given parent f segment after
    fits page (entries-decoded req buckets))
    (λ visited given f hands_on none. page-handed segment after req fits waiting_in collector
    visited given parent f hands_on none page (entries-decoded req buckets))

-- their tuples stand for tuples
pub entries-encoded : (collector : Composite Cache) (req : CompositeAggReqData)
    (visited : List TypedVisit) (given : List (ℕ × ℕ))
    → CompositeFor waiting_in req collector visited given → (parent : Option ℕ)
    → All (IsEncoded req) (keys_of (encoded_under collector parent))
entries-encoded collector req visited given f None = All-nil (IsEncoded req)
entries-encoded collector req visited given f (Some parent) =
    page-encoded waiting_in req collector visited given parent f
