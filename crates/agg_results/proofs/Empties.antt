-- The empty results of a request stand for no documents.
use Rattle.std.proofs.Common.{◌≡◌, ℕ, zero, suc, List, [], Some, get_or, refl}
use Rattle.std.proofs.Common.{sym, ap, ◌∙◌, subst}
use Rattle.std.specs.Prelude.{Bool}
use Rattle.std.specs.BTreeMap.{is_at}
use Rattle.std.specs.List.{All, Contains}
use Rattle.std.specs.List.Sorted.{IsStrictlySortedBy}
use Rattle.std.specs.Map.{keys_of}
use Rattle.std.specs.Option.{option_map}
use Rattle.std.proofs.lemmas.List.Elements.{All-contains_itself}
use Rattle.std.proofs.lemmas.Map.Made.{keys_of-map_values, lookup-map_values}
use Rattle.agg_values.specs.Names.{name_cmp, value_of}
use Rattle.agg_segment.specs.storage.Document.{Fields}
use Rattle.agg_request_tree.specs.Names.{NamesAscend, NamesAscendTo}
use Rattle.agg_request_tree.specs.Request.{Request, agg_of, below_of}
use Rattle.agg_request_tree.specs.Source.{rules_of}
use Rattle.agg_request_tree.specs.declared.aggregation.Aggregation.{Aggregation}
use Rattle.agg_request_tree.specs.declared.aggregation.Aggregation.TheFolds.{fold_out-Aggregation}
use Rattle.agg_request_tree.specs.declared.aggregation.AggregationVariants.{AggregationVariants}
use Rattle.agg_request_tree.specs.declared.aggregation.AggregationVariants.TheVariants as asks
use Rattle.agg_results.specs.intermediate_results.Empty.{empty_by, empty_result, empty_results}
use Rattle.agg_results.specs.intermediate_results.Intermediate.{Held, composite_of, parts_of}
use Rattle.agg_results.specs.declared.intermediate_results as declared
use declared.results.IntermediateAggregationResult.{IntermediateAggregationResult}
use Rattle.agg_results.specs.StandsFor.{NamesStand, PartsStand, StandsFor, StandsTo}
use Rattle.agg_results.proofs.lemmas.intermediate_results.ResultParts.{parts-composite}
use Rattle.agg_results.proofs.lemmas.intermediate_results.ResultParts.{parts-filter}
use Rattle.agg_results.proofs.NameLookups.{value-found}
use Rattle.agg_results.proofs.StandingComposites.{stands-empty}

module _ {B : Type 0} where
  -- the empty result of an aggregation, by what it asks
  pub empty-out : (a : Aggregation B)
      → empty_result a ≡ empty_by (agg_of a) (empty_results (below_of a))
  empty-out a =
      fold_out-Aggregation B IntermediateAggregationResult (λ a. empty_by a.agg a.sub_aggregation) a

  -- under each name stands the empty result
  pub empty-found : (request : Request B) (a : List ℕ × Aggregation B)
      → IsStrictlySortedBy name_cmp (keys_of request) → Contains request a
      → value_of a.0 (empty_results request) ≡ Some (empty_result a.1)
  empty-found request a up has =
      lookup-map_values empty_result (is_at (name_cmp a.0)) request
      ∙ ap (option_map empty_result) (value-found request a up has)

module _ {B : Type 0} (is_match : B → Fields → Bool) where
  parts-empty : (Below : Request B → List Fields → Held → Type 0) (agg : AggregationVariants B)
      (below : Request B) → Below below [] (empty_results below)
      → PartsStand is_match Below agg below [] (parts_of (empty_by agg (empty_results below)))
  parts-empty Below (asks.Filter a) below none =
      subst (PartsStand is_match Below (asks.Filter a) below [])
      (sym (parts-filter _ 0 (record { results = empty_results below }) refl))
      (refl, none)
  parts-empty Below (asks.Composite a) below none =
      subst (PartsStand is_match Below (asks.Composite a) below [])
      (sym (parts-composite _ (composite_of (rules_of a.sources) a.size []) refl))
      (stands-empty (Below below) a)
  parts-empty Below (asks.Count a) below none = refl
  parts-empty Below (asks.Max a) below none = refl
  parts-empty Below (asks.Min a) below none = refl
  parts-empty Below (asks.Sum a) below none = refl

  names-empty : (depth : ℕ)
      → ((a : Aggregation B) → NamesAscendTo depth (below_of a)
      → StandsTo is_match depth a [] (Some (empty_result a)))
      → (request : Request B) → NamesAscendTo (suc depth) request
      → NamesStand is_match (StandsTo is_match depth) request [] (empty_results request)
  names-empty depth stand request up = record {
    each = λ k d within.
        let a = get_or request k d in
        subst (StandsTo is_match depth a.1 [])
        (sym (empty-found request a up.0 (All-contains_itself request k d within)))
        (stand a.1 (up.1 k d within));
    known = subst (All (Contains (keys_of request)))
        (sym (keys_of-map_values empty_result request))
        (All-contains_itself (keys_of request));
  }

  -- the empty result of an aggregation stands for no documents
  pub result-empty : (depth : ℕ) (a : Aggregation B) → NamesAscendTo depth (below_of a)
      → StandsTo is_match depth a [] (Some (empty_result a))
  result-empty zero a up = tt
  result-empty (suc depth) a up =
      subst (λ r. StandsTo is_match (suc depth) a [] (Some r)) (sym (empty-out a))
      (parts-empty (NamesStand is_match (StandsTo is_match depth)) (agg_of a) (below_of a)
      (names-empty depth (result-empty depth) (below_of a) up))

  pub StandsFor-empty : (request : Request B) → NamesAscend request
      → StandsFor is_match request [] (empty_results request)
  StandsFor-empty request up depth =
      names-empty depth (result-empty depth) request (up (suc depth))
