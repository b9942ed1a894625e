-- A result put under a name that isn't held.
use Rattle.std.proofs.Common.{◌≡◌, ℕ, List, [], ◌∷◌, Bool, true, false, Some, inl, inr, ◌⊎◌, refl}
use Rattle.std.proofs.Common.{Option, sym, ap, ◌∙◌, subst}
use Rattle.std.specs.Prelude.{IsSome}
use Rattle.std.specs.BTreeMap.{is_at}
use Rattle.std.specs.List.{Contains}
use Rattle.std.specs.Map.{keys_of}
use Rattle.std.proofs.lemmas.Cmp.{nat_list_cmp_total}
use Rattle.std.proofs.lemmas.List.Elements.{All-from_recursion}
use Rattle.std.proofs.lemmas.Map.Lookups.{exact_bytes}
use Rattle.agg_values.specs.Names.{name_cmp, put, value_of}
use Rattle.agg_values.proofs.NameValues.{other-put, same_key, value-put}
use Rattle.agg_segment.specs.Query.{matches}
use Rattle.agg_segment.specs.Segment.{documents_at}
use Rattle.agg_segment.specs.declared.query.QueryTree.{QueryTree}
use Rattle.agg_request_tree.specs.declared.aggregation.Aggregation.{Aggregation}
use Rattle.agg_request_tree.proofs.Lists.{Contains-here}
use Rattle.agg_results.specs.intermediate_results.Intermediate.{Held as Results}
use Rattle.agg_results.specs.declared.intermediate_results.results as results
use results.IntermediateAggregationResult.{IntermediateAggregationResult}
use Rattle.agg_results.specs.StandsFor.{StandsTo}
use Rattle.agg_results.proofs.NameLookups.{name-found, names-found}
use Rattle.agg_engine_tree.specs.segment_context.Context.{IsPlanOf, Meaning}
use Rattle.agg_engine_tree.specs.segment_context.Plan.{Plan, Plans}
use Rattle.agg_engine_tree.specs.declared.segment_context.context.PerRequestAggSegCtx.{
  PerRequestAggSegCtx,
}
use Rattle.agg_engine_tree.specs.collector_tree.Tree.{Held, IsGroupOf, IsOf}
use Rattle.agg_engine_tree.specs.tree_results.Names.{names_of}
use Rattle.agg_engine_tree.specs.tree_results.Results.{Adds, HasOnlyMore, HoldsAll, IsTrail}
use Rattle.agg_engine_tree.specs.tree_results.Results.{docs_taken}
use Rattle.agg_engine_tree.proofs.lemmas.tree_results.NamedNodes.{names-own}

module _ (name : List ℕ) (value : IntermediateAggregationResult) (old : Results) where
  abbrev new : Results
  new = put name value old

  other-by : (b : Bool) (other : List ℕ) → is_at (name_cmp other) name ≡ b
      → ¬ (Contains (name ∷ []) other) → value_of other new ≡ value_of other old
  other-by true other at apart =
      let same = same_key nat_list_cmp_total exact_bytes other name at in
      absurd (apart (subst (Contains (name ∷ [])) (sym same) (Contains-here name [])))
  other-by false other at apart =
      other-put nat_list_cmp_total exact_bytes old name other value at

  found-by : (b : Bool) (other : List ℕ) → is_at (name_cmp other) name ≡ b
      → IsSome (value_of other new) → Contains (keys_of old) other ⊎ Contains (name ∷ []) other
  found-by true other at found =
      let same = same_key nat_list_cmp_total exact_bytes other name at in
      inr (subst (Contains (name ∷ [])) (sym same) (Contains-here name []))
  found-by false other at found =
      inl (name-found old other (subst (λ r. IsSome r)
      (other-put nat_list_cmp_total exact_bytes old name other value at) found))

  module _ (ctx : PerRequestAggSegCtx) (h : Held) (parent : Option ℕ)
      (named : names_of ctx h ≡ name ∷ []) (no_group : (plans : Plans) → ¬ (IsGroupOf plans h))
    where
      -- the result of a node is added, where it stands for the documents
      pub adds-node : ((meaning : Meaning) (taken : List (ℕ × ℕ))
          → IsTrail meaning ctx h parent taken
          → (own : List ℕ) (a : Aggregation QueryTree) (plan : Plan)
          → IsPlanOf meaning ctx own a plan → IsOf plan h
          → (depth : ℕ) → StandsTo matches depth a
          (documents_at meaning.segment (docs_taken parent taken)) (Some value))
          → Adds ctx h parent old new
      adds-node stands = record {
        others = λ other apart. other-by (is_at (name_cmp other) name) other refl
            (λ has. apart (subst (λ names. Contains names other) (sym named) has));
        known = subst (λ names. HasOnlyMore names old new)
            (sym named)
            (names-found (λ n. Contains (keys_of old) n ⊎ Contains (name ∷ []) n) new
            (λ other found. found-by (is_at (name_cmp other) name) other refl found));
        held = subst (λ names. HoldsAll names new) (sym named)
            (All-from_recursion (λ n. IsSome (value_of n new)) (name ∷ []) (
              subst (λ r. IsSome r)
                  (sym (value-put nat_list_cmp_total exact_bytes old name value)) refl,
              tt,
            ));
        one = λ meaning taken trail own a plan asked is depth.
            let same = first (sym (names-own meaning ctx own a plan h asked is) ∙ named) in
            subst (StandsTo matches depth a
            (documents_at meaning.segment (docs_taken parent taken)))
            (sym (ap (λ n. value_of n new) same
            ∙ value-put nat_list_cmp_total exact_bytes old name value))
            (stands meaning taken trail own a plan asked is depth);
        each = λ meaning taken trail request plans asked group. absurd (no_group plans group);
        all = λ none meaning taken trail request plans asked group. absurd (no_group plans group);
      }
        where
          first : {own : List ℕ} → own ∷ [] ≡ name ∷ [] → own ≡ name
          first e = cc
