-- The groups of pages, one after another, of which those with the most documents are kept.
use Rattle.std.proofs.Common.{◌≡◌, ◌++◌, ◌∷◌, ◌∙◌, [], ℕ, List, Bool, true, false, Option, None}
use Rattle.std.proofs.Common.{Some, ap, append-nil, append_assoc, flat_map, refl, subst, sym}
use Rattle.std.specs.Prelude.{MatchBool}
use Rattle.std.specs.List.{last_or}
use Rattle.std.specs.Option.{option_and_then}
use Rattle.std.proofs.lemmas.Grind.{flat_map-append}
use Rattle.agg_values.specs.Names.{Named}
use Rattle.agg_values.specs.declared.after_key.AfterKey.{AfterKey}
use Rattle.agg_segment.specs.storage.Document.{Fields}
use Rattle.agg_segment.specs.declared.query.QueryTree.{QueryTree}
use Rattle.agg_results.specs.declared.final_results.types.AggregationResults.{AggregationResults}
use Rattle.agg_results.specs.declared.final_results.types.CompositeBucketEntry.{
  CompositeBucketEntry,
}
use Rattle.agg_results.specs.declared.final_results.types.FilterBucketResult.{FilterBucketResult}
use Rattle.peslumok_front.specs.declared.grouping.grouping.Grouping.{Grouping}
use Rattle.peslumok_front.specs.front.Answer.{HasMost}
use Rattle.peslumok_front.specs.front.Pages.{ArePages, IsPageOf, is_last, next_after}
use Rattle.peslumok_front.specs.top_groups.Top.{AreTop}
use Rattle.peslumok_front.specs.front.Written.{groups_in, total_in}

last-added : (o : Option AggregationResults) (before : List AggregationResults)
    (page : AggregationResults) → last_or o (before ++ page ∷ []) ≡ Some page
last-added o [] page = refl
last-added o (b ∷ before) page = last-added (Some b) before page

module _ (grouping : Grouping) (query : QueryTree) (documents : List Fields) (room count : ℕ) where
  -- the pages after a key
  abbrev After : Named AfterKey → List AggregationResults → Type 0
  After = ArePages grouping query documents true room

  -- the pages so far lead from the first key to one: with those after that, whatever they are, they
  -- are all pages; of their groups those with the most documents are kept
  pub record Leads (first after : Named AfterKey) (kept : List CompositeBucketEntry) : Type 0 where
    pub before : List AggregationResults
    pub goes : (pages : List AggregationResults) → After after pages → After first (before ++ pages)
    pub are_top : AreTop count (flat_map groups_in before) kept

  -- there is no page yet
  pub leads-start : (first : Named AfterKey) (kept : List CompositeBucketEntry)
      → AreTop count [] kept → Leads first first kept
  leads-start first kept none = record { before = []; goes = λ pages are. are; are_top = none }

  module _ (first after shown : Named AfterKey) (page : AggregationResults)
      (old new added : List CompositeBucketEntry) (leads : Leads first after old)
      (is_page : IsPageOf grouping query documents (record { size = room; after = after }) page)
      (shows : shown ≡ next_after page) (of_page : added ≡ groups_in page)
      (adds : (before : List CompositeBucketEntry) → AreTop count before old
      → AreTop count (before ++ added) new) where
    -- the pages with one more
    with_page : List AggregationResults
    with_page = leads.before ++ page ∷ []

    top-with : AreTop count (flat_map groups_in with_page) new
    unfolding with_page
    top-with =
        subst (λ gs. AreTop count gs new)
        (ap (λ gs. flat_map groups_in leads.before ++ gs)
        (of_page ∙ sym (append-nil (groups_in page)))
        ∙ sym (flat_map-append groups_in leads.before (page ∷ [])))
        (adds (flat_map groups_in leads.before) leads.are_top)

    goes-with : (b : Bool) (pages : List AggregationResults) → is_last true shown ≡ b
        → MatchBool b (pages ≡ []) (After shown pages) → After first (with_page ++ pages)
    unfolding with_page
    goes-with b pages last rest =
        subst (After first) (sym (append_assoc leads.before (page ∷ []) pages))
        (leads.goes (page ∷ pages) (
          is_page,
          subst (λ key. MatchBool (is_last true key) (pages ≡ []) (After key pages)) shows
              (subst (λ l. MatchBool l (pages ≡ []) (After shown pages)) (sym last) rest),
        ))

    -- one page more, after which others come
    pub leads-more : is_last true shown ≡ false → Leads first shown new
    leads-more more = record {
      before = with_page;
      goes = λ pages are. goes-with false pages more are;
      are_top = top-with;
    }

    -- the last page
    pub leads-end : is_last true shown ≡ true → (total : Option FilterBucketResult)
        → total ≡ total_in page
        → HasMost grouping query documents room count first new total
    unfolding with_page
    leads-end end total is = record {
      pages = with_page;
      are_pages = subst (After first) (append-nil with_page) (goes-with true [] end refl);
      are_top = top-with;
      is_total = is ∙ sym (ap (option_and_then total_in) (last-added None leads.before page));
    }
