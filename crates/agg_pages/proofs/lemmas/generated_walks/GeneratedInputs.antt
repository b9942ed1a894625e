-- The walk of a generated input: what it is asked, and over what.
use Rattle.std.proofs.Common.{◌≡◌, ◌*◌, ℕ, zero, suc, List, [], ◌∷◌, codes}
use Rattle.std.proofs.Common.{Bool, true, false, None, Option, Some, length, length-append}
use Rattle.std.proofs.Common.{map, replicate, ap, get_or, refl, subst, sym, arith}
use Rattle.std.specs.Prelude.{All, IsSome, flat_map}
use Rattle.std.specs.List.{AllByRecursion, range_with_len}
use Rattle.std.proofs.lemmas.List.Elements.{All-from_recursion, All-replicate, recursion_from_All}
use Rattle.agg_values.specs.declared.order.Order.{Order}
use Rattle.agg_values.specs.declared.order.Order.TheVariants.{Asc, Desc}
use Rattle.agg_segment.specs.declared.query.QueryTree.{QueryTree}
use Rattle.agg_request_tree.specs.Faults.{HaveOwnNames, IsSound, IsSoundSource}
use Rattle.agg_request_tree.specs.Request.{own_builder, own_composite}
use Rattle.agg_request_tree.specs.Source.{after_of}
use Rattle.agg_request_tree.specs.declared.aggregation.AggregationVariants.TheVariants.{Composite}
use Rattle.agg_request_tree.proofs.Faults.{IsSound-parts, IsSoundSource-parts}
use Rattle.agg_request_tree.proofs.Lists.{AllByRecursion-flat_map}
use Rattle.agg_request_tree.proofs.RequestTrees.{agg-made}
use Rattle.agg_engine.specs.Walk.{MayBeAsked}
use Rattle.agg_pages.specs.generator.Documents.{generated_segment, generated_snapshot}
use Rattle.agg_pages.specs.generator.Request.{generated_composite, generated_request, values_source}
use Rattle.agg_pages.proofs.lemmas.generator.DrawnDocuments.{length-generated_documents}
use Rattle.agg_pages.proofs.lemmas.generated_walks.FewValues.{HasFewValues, generated_few}
use Rattle.agg_pages.proofs.lemmas.generated_walks.GeneratedRequests.{below, listed}
use Rattle.agg_pages.proofs.lemmas.generated_walks.NoRefusals.{IsSmall}

-- ---- snapshots

-- segments of 1,024 documents have as many as that
length-segments : (seed : ℕ) (places : List ℕ)
    → length (flat_map (λ documents. documents) (map (generated_segment seed) places))
    ≡ 1_024 * length places
length-segments seed [] = refl
length-segments seed (place ∷ places) = omega (
  arith,
  length-append (generated_segment seed place)
      (flat_map (λ documents. documents) (map (generated_segment seed) places)),
  length-generated_documents seed (1_024 * place) 1_024,
  length-segments seed places,
)

-- each document of segments has few values
values-segments : (seed : ℕ) (places : List ℕ)
    → AllByRecursion (AllByRecursion HasFewValues) (map (generated_segment seed) places)
values-segments seed [] = tt
values-segments seed (place ∷ places) =
    (generated_few seed (1_024 * place) 1_024, values-segments seed places)

-- a generated snapshot is small
snapshot_small : (seed : ℕ) → IsSmall (generated_snapshot seed)
snapshot_small seed =
    let places = range_with_len 0 4 in
    record {
      values = AllByRecursion-flat_map HasFewValues (λ documents. documents)
          (map (generated_segment seed) places) (values-segments seed places);
      short = omega (arith, length-segments seed places);
      size = refl;
    }

-- all generated snapshots are small
pub snapshots_small : (seed count : ℕ)
    → AllByRecursion IsSmall (replicate count (generated_snapshot seed))
snapshots_small seed count =
    recursion_from_All IsSmall (replicate count (generated_snapshot seed))
    (All-replicate IsSmall count (generated_snapshot seed) (snapshot_small seed))

-- ---- the request

-- a source of values that begins has no fault
values_sound : (field : List ℕ) (order : Order) (has_missing : Bool)
    → IsSoundSource (values_source field order has_missing) None
values_sound field order has_missing =
    IsSoundSource-parts (values_source field order has_missing) None
    (λ null. let is = null.0 in cc) (λ refusal is. is) (λ other. other)

-- the generated composite has no fault
composite_sound : IsSound generated_composite
composite_sound =
    IsSound-parts generated_composite (λ none. cc) (λ many. omega (arith, many)) (λ none. cc) own
    (All-from_recursion (λ s. IsSoundSource s (after_of [] s)) generated_composite.sources
    (values_sound (codes "a") Asc false, (values_sound (codes "b") Desc true, tt)))
  where
    own : HaveOwnNames generated_composite.sources
    own zero zero s before within same = omega (arith, before)
    own zero (suc zero) s before within same =
        omega (arith, ap (λ (name : List ℕ). get_or name 0 0) same)
    own zero (suc (suc j)) s before within same = omega (arith, within)
    own (suc i) zero s before within same = omega (arith, before)
    own (suc i) (suc zero) s before within same = omega (arith, before)
    own (suc i) (suc (suc j)) s before within same = omega (arith, within)

-- its walk may be asked
pub may_ask : {B : Type 0} (query_for : B → Option QueryTree) (seed count : ℕ)
    → MayBeAsked query_for (codes "g") generated_request
    (replicate count (generated_snapshot seed))
may_ask {B = B} query_for seed count = record {
  sound = subst (All IsSound) (sym (listed {B = B} own_composite generated_composite))
      (All-from_recursion IsSound (generated_composite ∷ []) (composite_sound, tt));
  room = All-replicate (λ s. ¬ (s.page_size ≡ 0)) count (generated_snapshot seed) (λ none. cc);
  named = (generated_composite, ap Some (agg-made (Composite generated_composite) (below {B = B})));
  each = subst (All (λ b. IsSome (query_for b)))
      (sym (listed {B = B} own_builder generated_composite))
      (All-from_recursion (λ b. IsSome (query_for b)) [] tt);
}
