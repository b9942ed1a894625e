-- The key that a page shows names the first sources.
use Rattle.std.proofs.Common.{◌≡◌, ◌∷◌, ◌∙◌, [], List, Bool, true, false, Option, None, Some, Ok}
use Rattle.std.proofs.Common.{ap, map, refl, subst, sym, ℕ}
use Rattle.std.specs.Prelude.{MatchBool, codes, option_map}
use Rattle.agg_values.specs.Names.{Named, put, value_of}
use Rattle.agg_values.specs.Tuple.{KeyTuple}
use Rattle.agg_values.specs.TypedKey.{CompositeIntermediateKey}
use Rattle.agg_values.specs.declared.after_key.AfterKey.{AfterKey}
use Rattle.agg_segment.specs.storage.Document.{Fields}
use Rattle.agg_segment.specs.Query.{matches}
use Rattle.agg_segment.specs.declared.query.QueryTree.{QueryTree}
use Rattle.agg_request_tree.specs.BySource.{after_map}
use Rattle.agg_request_tree.specs.Request.{Request, agg_of}
use Rattle.agg_request_tree.specs.Source.{Sources}
use Rattle.agg_request_tree.specs.declared.aggregation.Aggregation.{Aggregation}
use Rattle.agg_request_tree.specs.declared.aggregation.CompositeAggregation.{CompositeAggregation}
use Rattle.peslumok_texts.specs.declared.fields.field_type.FieldType.{FieldType}
use Rattle.agg_request_tree.specs.ChangedRequest.{request_at_size, with_size}
use Rattle.agg_results.specs.declared.final_results.types.AggregationResults.{AggregationResults}
use Rattle.agg_results.specs.intermediate_results.Shown.{shown_after}
use Rattle.agg_results.specs.Results.{after_tuple}
use Rattle.agg_engine.specs.NamedComposite.{IsCompositeNamed}
use Rattle.agg_engine.specs.Walk.{matching_documents}
use Rattle.agg_engine.proofs.NamedPlaces.{named-changed}
use Rattle.agg_engine.proofs.PageShown.{page_shown}
use Rattle.peslumok_texts.specs.words.By.{parts}
use Rattle.peslumok_texts.specs.declared.words.by.BySpec.{BySpec}
use Rattle.peslumok_front.specs.grouping.Request.{IsRequestOf}
use Rattle.peslumok_front.specs.grouping.Sources.{source_asked}
use Rattle.peslumok_front.specs.declared.grouping.grouping.Grouping.{Grouping}
use Rattle.peslumok_front.specs.declared.grouping.request.AskedPage.{AskedPage}
use Rattle.peslumok_front.proofs.lemmas.grouping.AskedSources.{called-as_column}
use Rattle.peslumok_front.specs.after_text.After.{NamesFirst, keys_by_name}
use Rattle.peslumok_front.specs.front.Pages.{ArePages, IsPageOf, is_last, last_after, next_after}
use Rattle.peslumok_front.specs.front.Pages.{snapshot_of}

abbrev after_key : CompositeIntermediateKey → AfterKey
after_key key = record { 0 = key }

no-keys : (by : List BySpec) → keys_by_name by [] ≡ []
no-keys [] = refl
no-keys (source ∷ by) = refl

module _ (types : Named FieldType) where
  -- sources are those that are asked for
  abbrev AreAsked : List BySpec → Sources → Type 0
  AreAsked by sources = map Ok sources ≡ map (λ source. source_asked types (parts source)) by

  -- a tuple as an after key has its keys by the names of the columns
  tuple-named : (by : List BySpec) (sources : Sources) (tuple : KeyTuple) → AreAsked by sources
      → after_map sources tuple ≡ keys_by_name by (map after_key tuple)
  tuple-named [] [] tuple asked = refl
  tuple-named [] (source ∷ sources) tuple asked = absurd (cc asked)
  tuple-named (own ∷ by) [] tuple asked = absurd (cc asked)
  tuple-named (own ∷ by) (source ∷ sources) [] asked = refl
  tuple-named (own ∷ by) (source ∷ sources) (key ∷ tuple) asked =
      let first : source_asked types (parts own) ≡ Ok source = cc asked in
      let others : AreAsked by sources = cc asked in
      let name = called-as_column types (parts own) source first in
      let rest = tuple-named by sources tuple others in
      (λ i. put (name i) (after_key key) (rest i))

  shown-named : (by : List BySpec) (sources : Sources) (tuple : Option KeyTuple)
      → AreAsked by sources → NamesFirst by (shown_after sources tuple)
  shown-named by sources None asked = ([], sym (no-keys by))
  shown-named by sources (Some tuple) asked =
      (map after_key tuple, tuple-named by sources tuple asked)

module _ (grouping : Grouping) where
  -- under the name of the groups stands their composite
  pub groups-named : {B : Type 0} (page : AskedPage) (request : Request B)
      (asked : IsRequestOf grouping page request)
      → IsCompositeNamed (codes "groups") request asked.are_groups.composite
  groups-named {B} page request asked =
      ap (λ (r : Request B). option_map (λ (a : Aggregation B). agg_of a)
      (value_of (codes "groups") r)) asked.entries
      ∙ ap Some asked.are_groups.asked

  module _ (query : QueryTree) (documents : List Fields) where
    -- the key that a page shows names the first sources
    pub page-names : (page : AskedPage) (results : AggregationResults)
        → IsPageOf grouping query documents page results
        → NamesFirst grouping.by.items (next_after results)
    page-names page results (ended, walk) =
        let name = codes "groups" in
        let groups = walk.asked.are_groups in
        let composite : CompositeAggregation = record groups.composite { size = page.size } in
        let request = request_at_size name page.size walk.request in
        let named : IsCompositeNamed name request composite =
        named-changed name (with_size page.size) walk.request
        ∙ ap (option_map (with_size page.size)) (groups-named page walk.request walk.asked) in
        let shown = page_shown matches name request
        (matching_documents query (snapshot_of page.size documents)) results composite
        walk.walked.0 named in
        subst (NamesFirst grouping.by.items) (sym shown.2)
        (shown-named grouping.types grouping.by.items groups.composite.sources
        (after_tuple page.size shown.0) groups.is_composite.sources)

    -- what comes after a page that others follow
    later-pages : (b : Bool) (later : AggregationResults) (pages : List AggregationResults)
        (After : Type 0) → MatchBool b (later ∷ pages ≡ []) After → After
    later-pages true later pages After none = absurd (cc none)
    later-pages false later pages After are = are

    module _ (is_all : Bool) (size : ℕ) where
      -- the key that the last of pages shows names the first sources
      pub last-names : (after : Named AfterKey) (pages : List AggregationResults)
          → ArePages grouping query documents is_all size after pages
          → NamesFirst grouping.by.items (last_after pages)
      last-names after [] are = absurd are
      last-names after (page ∷ []) are =
          page-names (record { size = size; after = after }) page are.0
      last-names after (page ∷ later ∷ pages) are =
          last-names (next_after page) (later ∷ pages)
          (later-pages (is_last is_all (next_after page)) later pages
          (ArePages grouping query documents is_all size (next_after page) (later ∷ pages)) are.1)
