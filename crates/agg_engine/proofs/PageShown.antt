-- The results of a request show the page of a composite under its name.
use Rattle.std.proofs.Common.{◌≡◌, ◌≢◌, ◌↔◌, ℕ, List, [], ◌∷◌, Bool, true, false, cond}
use Rattle.std.proofs.Common.{Option, None, Some, length, refl, sym, ap, ◌∙◌, subst}
use Rattle.std.specs.Prelude.{option_map}
use Rattle.std.specs.BTreeMap.{is_at}
use Rattle.agg_values.specs.Names.{name_cmp, value_of}
use Rattle.agg_segment.specs.storage.Document.{Fields}
use Rattle.agg_request_tree.specs.Occurrences.{bound_of}
use Rattle.agg_request_tree.specs.Page.{Entry, IsPage}
use Rattle.agg_request_tree.specs.Request.{Request, agg_of, below_of}
use Rattle.agg_request_tree.specs.declared.aggregation.Aggregation.{Aggregation}
use Rattle.agg_request_tree.specs.declared.aggregation.AggregationVariants.{AggregationVariants}
use Rattle.agg_request_tree.specs.declared.aggregation.AggregationVariants.TheVariants.{Composite}
use Rattle.agg_request_tree.specs.declared.aggregation.CompositeAggregation.{CompositeAggregation}
use Rattle.agg_request_tree.proofs.PageUnique.{IsPage-same}
use Rattle.agg_results.specs.declared.final_results.types.AggregationResult.{AggregationResult}
use Rattle.agg_results.specs.declared.final_results.types.AggregationResults.{AggregationResults}
use Rattle.agg_results.specs.intermediate_results.Shown.{Results, shown_after}
use Rattle.agg_results.specs.Results.{AreResults, EachHas, IsResult, IsResultTo, after_tuple}
use Rattle.agg_engine.specs.NamedComposite.{IsCompositeNamed}
use Rattle.agg_engine.specs.Walk.{after_in, after_of_result}
use Rattle.agg_engine.proofs.NamedPlaces.{same_agg}
use Rattle.agg_engine.proofs.PageBound.{after-occurs, after-shown, after_map-some, full-last}
use Rattle.agg_engine.proofs.PageBound.{last-full, shown-tuple}

module _ {B : Type 0} (is_match : B → Fields → Bool) where
  -- the result of a name
  named-result : (Has : Aggregation B → List Fields → AggregationResult → Type 0)
      (documents : List Fields) (name : List ℕ) (request : Request B) (results : Results)
      (a : Aggregation B) → EachHas is_match Has request documents results
      → value_of name request ≡ Some a
      → (s : AggregationResult) × (value_of name results ≡ Some s) × Has a documents s
  named-result Has documents name [] results a each found = cc found
  named-result Has documents name (e ∷ request) [] a each found = absurd each
  named-result Has documents name (e ∷ request) (r ∷ results) a each found =
      subst (λ n. (s : AggregationResult)
      × (cond (is_at (name_cmp name) n) (Some r.1) (value_of name results) ≡ Some s)
      × Has a documents s) (sym each.0.0)
      (by (is_at (name_cmp name) e.0) found
      (named-result Has documents name request results a each.1))
    where
      by : (b : Bool) → cond b (Some e.1) (value_of name request) ≡ Some a
          → (value_of name request ≡ Some a
          → (s : AggregationResult) × (value_of name results ≡ Some s) × Has a documents s)
          → (s : AggregationResult)
          × (cond b (Some r.1) (value_of name results) ≡ Some s) × Has a documents s
      by true is rest =
          let same : e.1 ≡ a = cc is in
          (r.1, refl, subst (λ (x : Aggregation B). Has x documents r.1) same each.0.1)
      by false is rest = rest is

  module _ (name : List ℕ) (request : Request B) (documents : List Fields)
      (results : AggregationResults) (c : CompositeAggregation)
      (are : AreResults is_match request documents results)
      (named : IsCompositeNamed name request c) where
    asked-aggregation : (o : Option (Aggregation B))
        → option_map (λ (x : Aggregation B). agg_of x) o ≡ Some (Composite c)
        → (a : Aggregation B) × (o ≡ Some a) × (agg_of a ≡ Composite c)
    asked-aggregation None is = cc is
    asked-aggregation (Some a) is = (a, refl, same_agg (agg_of a) (Composite c) is)

    -- it is shown with the after key of its last tuple
    pub page_shown : (page : List Entry)
        × IsPage c.sources c.size (bound_of c.sources c.after) documents page
        × (after_in name results ≡ shown_after c.sources (after_tuple c.size page))
    page_shown =
        let a = asked-aggregation (value_of name request) named in
        let own = named-result (IsResultTo is_match 1) documents name request results.0 a.0 (are 1)
        a.1 in
        let shown = subst (λ (agg : AggregationVariants B).
        IsResult is_match (EachHas is_match (IsResultTo is_match 0)) agg (below_of a.0) documents
        own.0) a.2 own.2 in (
          shown.0,
          shown.2,
          ap after_of_result (own.1 ∙ ap Some shown.4)
              ∙ after-shown c.sources shown.1 (after_tuple c.size shown.0),
        )

    -- a full page shows its after key
    pub full_page-shown : (page : List Entry) → c.sources ≢ [] → c.size ≢ 0
        → IsPage c.sources c.size (bound_of c.sources c.after) documents page
        → after_in name results ≢ [] ↔ length page ≡ c.size
    full_page-shown page sources room is_page = (
      λ some.
          let key = shown-tuple c.sources (after_tuple c.size page) (after_in name results) shown
          some in
          last-full c.size page key.0 key.1,
      λ long none.
          let last = full-last c.size page long room in
          after_map-some c.sources documents last.0 sources
          (after-occurs c.sources c.size (bound_of c.sources c.after) documents page last.0 is_page
          last.1)
          (sym (shown ∙ ap (shown_after c.sources) last.1) ∙ none),
    )
      where
        shown : after_in name results ≡ shown_after c.sources (after_tuple c.size page)
        shown =
            page_shown.2
            ∙ ap (λ p. shown_after c.sources (after_tuple c.size p))
            (IsPage-same c.sources c.size (bound_of c.sources c.after) documents page_shown.0 page
            page_shown.1 is_page)
