-- What stands for documents is final as their results: of a request, at every depth.
use Rattle.std.proofs.Common.{◌≡◌, ℕ, zero, suc, List, [], ◌∷◌, Option, None, Some}
use Rattle.std.proofs.Common.{map, refl, sym, ap, subst, arith, Bool}
use Rattle.std.specs.List.{AllByRecursion}
use Rattle.std.proofs.lemmas.List.Elements.{recursion_from_All}
use Rattle.agg_values.specs.Names.{Named, value_of}
use Rattle.agg_segment.specs.storage.Document.{Fields}
use Rattle.agg_request_tree.specs.Request.{Request, agg_of, below_of}
use Rattle.agg_request_tree.specs.declared.aggregation.Aggregation.{Aggregation}
use Rattle.agg_request_tree.specs.declared.aggregation.Aggregation.TheFolds.{fold_out-Aggregation}
use Rattle.agg_results.specs.intermediate_results.Final.{Finish, final_by_name}
use Rattle.agg_results.specs.intermediate_results.Final.{final_result, final_results, final_step}
use Rattle.agg_results.specs.intermediate_results.Final.{finish_all}
use Rattle.agg_results.specs.intermediate_results.Intermediate.{Held}
use Rattle.agg_results.specs.intermediate_results.Intermediate.{parts_of}
use Rattle.agg_results.specs.declared.intermediate_results as declared
use declared.results.IntermediateAggregationResult.{IntermediateAggregationResult}
use Rattle.agg_results.specs.declared.final_results.types.AggregationResult.{AggregationResult}
use Rattle.agg_results.specs.Results.{AreResults, EachHas}
use Rattle.agg_results.specs.Results.{IsResultTo}
use Rattle.agg_results.specs.StandsFor.{NamesStand, StandsFor, StandsTo}
use Rattle.agg_results.proofs.FinalLayers.{nothing-final, parts-final}

module _ {B : Type 0} (is_match : B → Fields → Bool) where
  -- ---- names

  -- what each aggregation of a request makes of what is held
  abbrev each_finish : Request B → Named Finish
  each_finish request = map (λ a. (a.0, final_result a.1)) request

  each_finish-all : (request : Request B) (held : Held)
      → final_by_name request held ≡ finish_all (each_finish request) held
  each_finish-all [] held = refl
  each_finish-all (a ∷ request) held =
      ap (λ rs. (a.0, final_result a.1 (value_of a.0 held)) ∷ rs) (each_finish-all request held)

  names-final : (Stands : Aggregation B → List Fields → Option IntermediateAggregationResult
      → Type 0) (Has : Aggregation B → List Fields → AggregationResult → Type 0)
      → ((a : Aggregation B) (documents : List Fields) (r : Option IntermediateAggregationResult)
      → Stands a documents r → Has a documents (final_result a r))
      → (request : Request B) (documents : List Fields) (held : Held)
      → AllByRecursion (λ a. Stands a.1 documents (value_of a.0 held)) request
      → EachHas is_match Has request documents (final_by_name request held)
  names-final Stands Has one [] documents held stand = tt
  names-final Stands Has one (a ∷ request) documents held stand = (
    (refl, one a.1 documents (value_of a.0 held) stand.0),
    names-final Stands Has one request documents held stand.1,
  )

  -- ---- every depth

  -- nothing held stands for no documents
  nothing-stands : (depth : ℕ) (request : Request B)
      → NamesStand is_match (StandsTo is_match depth) request [] []
  nothing-stands depth request = record {
    each = λ k d within. absent depth _;
    known = λ k d within. absurd (omega (arith, within));
  }
    where
      absent : (depth : ℕ) (a : Aggregation B) → StandsTo is_match depth a [] None
      absent zero a = tt
      absent (suc depth) a = refl

  final-out : (a : Aggregation B) (r : Option IntermediateAggregationResult)
      → final_result a r
      ≡ final_step (record { agg = agg_of a; sub_aggregation = each_finish (below_of a) }) r
  final-out a r = ap (λ finish. finish r) (fold_out-Aggregation B Finish final_step a)

  -- those below an aggregation
  below-final : (depth : ℕ)
      → ((a : Aggregation B) (documents : List Fields) (r : Option IntermediateAggregationResult)
      → StandsTo is_match depth a documents r
      → IsResultTo is_match depth a documents (final_result a r))
      → (request : Request B) (documents : List Fields) (held : Held)
      → NamesStand is_match (StandsTo is_match depth) request documents held
      → EachHas is_match (IsResultTo is_match depth) request documents
      (finish_all (each_finish request) held)
  below-final depth one request documents held stand =
      subst (EachHas is_match (IsResultTo is_match depth) request documents)
      (each_finish-all request held)
      (names-final (StandsTo is_match depth) (IsResultTo is_match depth) one request documents held
      (recursion_from_All (λ a. StandsTo is_match depth a.1 documents (value_of a.0 held)) request
      stand.each))

  result-final : (depth : ℕ) (a : Aggregation B) (documents : List Fields)
      (r : Option IntermediateAggregationResult) → StandsTo is_match depth a documents r
      → IsResultTo is_match depth a documents (final_result a r)
  result-final zero a documents r stand = tt
  result-final (suc depth) a documents None stand =
      subst (λ ds. IsResultTo is_match (suc depth) a ds (final_result a None)) (sym stand)
      (subst (IsResultTo is_match (suc depth) a []) (sym (final-out a None))
      (nothing-final is_match (NamesStand is_match (StandsTo is_match depth))
      (EachHas is_match (IsResultTo is_match depth)) (below_of a) (each_finish (below_of a))
      (below-final depth (result-final depth) (below_of a))
      (nothing-stands depth (below_of a)) (agg_of a)))
  result-final (suc depth) a documents (Some r) stand =
      subst (IsResultTo is_match (suc depth) a documents) (sym (final-out a (Some r)))
      (parts-final is_match (NamesStand is_match (StandsTo is_match depth))
      (EachHas is_match (IsResultTo is_match depth)) (below_of a) (each_finish (below_of a))
      (below-final depth (result-final depth) (below_of a))
      (agg_of a) documents (parts_of r) stand)

  -- what stands for documents is final as their results
  pub StandsFor-final : (request : Request B) (documents : List Fields) (held : Held)
      → StandsFor is_match request documents held
      → AreResults is_match request documents (final_results request held)
  StandsFor-final request documents held stand depth =
      names-final (StandsTo is_match depth) (IsResultTo is_match depth) (result-final depth)
      request documents held
      (recursion_from_All (λ a. StandsTo is_match depth a.1 documents (value_of a.0 held)) request
      (stand depth).each)
