-- What is final of a request, and what isn't, hangs on no size and no after key of it.
use Rattle.std.proofs.Common.{◌≡◌, zero, suc, inl, inr, List, [], ◌∷◌, ℕ, Bool, true, false, cond}
use Rattle.std.proofs.Common.{Option, None, Some, map, refl, sym, ap, ◌∙◌, subst, ◌⊎◌}
use Rattle.std.specs.BTreeMap.{is_at}
use Rattle.std.specs.List.{Any}
use Rattle.agg_values.specs.Names.{Named, name_cmp, value_of}
use Rattle.agg_request_tree.specs.Request.{Request, agg_of, below_of}
use Rattle.agg_request_tree.specs.declared.aggregation.Aggregation.{Aggregation}
use Rattle.agg_request_tree.specs.declared.aggregation.Aggregation.TheFolds.{fold_out-Aggregation}
use Rattle.agg_request_tree.specs.declared.aggregation.AggregationVariants.{AggregationVariants}
use Rattle.agg_request_tree.specs.declared.aggregation.AggregationVariants.TheVariants.{Composite}
use Rattle.agg_request_tree.specs.declared.aggregation.CompositeAggregation.{CompositeAggregation}
use Rattle.agg_request_tree.specs.Source.{rules_of}
use Rattle.agg_request_tree.proofs.RequestTrees.{agg-made, below-made}
use Rattle.agg_results.specs.declared.final_results.types.AggregationResult.{AggregationResult}
use Rattle.agg_results.specs.intermediate_results.Final.{Finish, final_by, final_by_name}
use Rattle.agg_results.specs.intermediate_results.Final.{final_nothing, final_page, final_result}
use Rattle.agg_results.specs.intermediate_results.Final.{final_results, final_step}
use Rattle.agg_results.specs.intermediate_results.Intermediate.{Held, Parts, composite, filter}
use Rattle.agg_results.specs.intermediate_results.Intermediate.{metric, helds_below, parts_of}
use Rattle.agg_results.specs.intermediate_results.Merging.{SomeOfBoth}
use Rattle.agg_results.specs.intermediate_results.Refusals.{HoldsOther, HoldsOtherWithin}
use Rattle.agg_results.specs.intermediate_results.Refusals.{HoldsUnknown, HoldsUnknownWithin}
use Rattle.agg_results.specs.intermediate_results.Refusals.{IsOther}
use Rattle.agg_results.specs.intermediate_results.Shown.{shown_page}
use Rattle.agg_results.specs.declared.intermediate_results.results.IntermediateAggregationResult
    as held
use held.{IntermediateAggregationResult}
use Rattle.agg_request_tree.specs.ChangedRequest.{changed, request_changed_at}
use Rattle.agg_engine.proofs.lemmas.collectors.ChangedRequests.{AsksLike, IsLike, none-changed}
use Rattle.agg_engine.proofs.lemmas.collectors.ChangedRequests.{some-changed}

-- ---- of one aggregation

module _ (B : Type 0) where
  nothing-like : (agg other : AggregationVariants B) (below : Named Finish) → AsksLike agg other
      → final_nothing other below ≡ final_nothing agg below
  nothing-like agg other below (inl same) =
      ap (λ (a : AggregationVariants B). final_nothing a below) same
  nothing-like agg other below (inr (c, d, is, other_is, same)) =
      ap (λ (a : AggregationVariants B). final_nothing a below) other_is
      ∙ ap (λ sources. shown_page sources [] None) same
      ∙ sym (ap (λ (a : AggregationVariants B). final_nothing a below) is)

  composites-like : (c d : CompositeAggregation) (below : Named Finish) (r : Parts)
      → d.sources ≡ c.sources
      → final_by {B = B} (Composite d) below r ≡ final_by {B = B} (Composite c) below r
  composites-like c d below (composite e) same = ap (λ sources. final_page sources below e) same
  composites-like c d below (filter count whole) same =
      ap (λ sources. shown_page sources [] None) same
  composites-like c d below (metric m) same = ap (λ sources. shown_page sources [] None) same

  by-like : (agg other : AggregationVariants B) (below : Named Finish) (r : Parts)
      → AsksLike agg other → final_by other below r ≡ final_by agg below r
  by-like agg other below r (inl same) =
      ap (λ (a : AggregationVariants B). final_by a below r) same
  by-like agg other below r (inr (c, d, is, other_is, same)) =
      ap (λ (a : AggregationVariants B). final_by a below r) other_is
      ∙ composites-like c d below r same
      ∙ sym (ap (λ (a : AggregationVariants B). final_by a below r) is)

  shape-like : (c d : CompositeAggregation) (r : Parts) → d.sources ≡ c.sources
      → IsOther {B = B} (Composite c) r → IsOther {B = B} (Composite d) r
  shape-like c d (composite e) same is = (is.0, λ orders. is.1 (orders ∙ ap rules_of same))
  shape-like c d (filter count whole) same is = is
  shape-like c d (metric m) same is = is

  other-like : (agg other : AggregationVariants B) (r : Parts) → AsksLike agg other
      → IsOther agg r → IsOther other r
  other-like agg other r (inl same) is =
      subst (λ (a : AggregationVariants B). IsOther a r) (sym same) is
  other-like agg other r (inr (c, d, agg_is, other_is, same)) is =
      subst (λ (a : AggregationVariants B). IsOther a r) (sym other_is)
      (shape-like c d r same (subst (λ (a : AggregationVariants B). IsOther a r) agg_is is))

-- ---- of a request

module _ {B : Type 0} (change : AggregationVariants B → AggregationVariants B) (name : List ℕ)
    (like : (agg : AggregationVariants B) → AsksLike agg (change agg)) where
  result-changed : (a : Aggregation B) (o : Option IntermediateAggregationResult)
      → final_result (changed change a) o ≡ final_result a o
  result-changed a o =
      ap (λ finish. finish o) (fold_out-Aggregation B Finish final_step (changed change a))
      ∙ (λ i. final_step {B = B} (record {
        agg = agg-made (change (agg_of a)) (below_of a) i;
        sub_aggregation = map (λ e. (e.0, final_result e.1))
            (below-made (change (agg_of a)) (below_of a) i);
      }) o)
      ∙ same o
      ∙ ap (λ finish. finish o) (sym (fold_out-Aggregation B Finish final_step a))
    where
      below : Named Finish
      below = map (λ e. (e.0, final_result e.1)) (below_of a)

      same : (o : Option IntermediateAggregationResult)
          → final_step {B = B} (record { agg = change (agg_of a); sub_aggregation = below }) o
          ≡ final_step {B = B} (record { agg = agg_of a; sub_aggregation = below }) o
      same None = nothing-like B (agg_of a) (change (agg_of a)) below (like (agg_of a))
      same (Some r) = by-like B (agg_of a) (change (agg_of a)) below (parts_of r) (like (agg_of a))

  -- an entry, as it is final
  abbrev shown : Held → List ℕ × Aggregation B → List ℕ × AggregationResult
  shown held e = (e.0, final_result e.1 (value_of e.0 held))

  by_name-changed : (request : Request B) (held : Held)
      → final_by_name (request_changed_at change name request) held ≡ final_by_name request held
  by_name-changed [] held = refl
  by_name-changed (a ∷ request) held =
      λ i. by (is_at (name_cmp name) a.0) i ∷ by_name-changed request held i
    where
      by : (is : Bool)
          → shown held (cond is (a.0, changed change a.1) a) ≡ shown held a
      by true = ap (λ r. (a.0, r)) (result-changed a.1 (value_of a.0 held))
      by false = refl

  -- what is final of it
  pub final-changed : (request : Request B) (held : Held)
      → final_results (request_changed_at change name request) held ≡ final_results request held
  final-changed request held = ap (λ rs. record { 0 = rs }) (by_name-changed request held)

  -- what both sides hold, with what is told of it
  both-changed : (Told Now : Aggregation B → IntermediateAggregationResult → Type 0)
      → ((a b : Aggregation B) (r : IntermediateAggregationResult)
      → IsLike change name like a b → Told a r → Now b r)
      → (request : Request B) (held : Held) → SomeOfBoth Told request held
      → SomeOfBoth Now (request_changed_at change name request) held
  both-changed Told Now now request held some =
      let found = some-changed change name like some.0 request some.1 some.3 in
      (some.0, found.0, some.2, found.1, some.4, now some.1 found.0 some.2 found.2 some.5)

  -- a name that isn't asked for
  pub unknown-changed : (request : Request B) (held : Held) → HoldsUnknown request held
      → HoldsUnknown (request_changed_at change name request) held
  unknown-changed request held (zero, unknown) = absurd unknown
  unknown-changed request held (suc depth, inl any) =
      let none = none-changed change name like any.1.0 request any.4 in
      (suc depth, inl (any.0, any.1, any.2, any.3, none))
  unknown-changed request held (suc depth, inr both) = (
    suc depth,
    inr (both-changed
        (λ a r. Any (HoldsUnknownWithin depth (below_of a)) (helds_below (parts_of r)))
        (λ a r. Any (HoldsUnknownWithin depth (below_of a)) (helds_below (parts_of r)))
        (λ a b r is any. subst (λ (below : Request B).
        Any (HoldsUnknownWithin depth below) (helds_below (parts_of r))) (sym is.below) any)
        request held both),
  )

  -- what is told of another shape
  abbrev Shape : ℕ → Aggregation B → IntermediateAggregationResult → Type 0
  Shape depth a r =
      IsOther (agg_of a) (parts_of r)
      ⊎ Any (HoldsOtherWithin depth (below_of a)) (helds_below (parts_of r))

  -- a result of another shape
  pub other-changed : (request : Request B) (held : Held) → HoldsOther request held
      → HoldsOther (request_changed_at change name request) held
  other-changed request held (zero, other) = absurd other
  other-changed request held (suc depth, both) = (
    suc depth,
    both-changed (Shape depth) (Shape depth) by request held both,
  )
    where
      by : (a b : Aggregation B) (r : IntermediateAggregationResult) → IsLike change name like a b
          → Shape depth a r → Shape depth b r
      by a b r is (inl other) = inl (other-like B (agg_of a) (agg_of b) (parts_of r) is.agg other)
      by a b r is (inr any) =
          inr (subst (λ (below : Request B).
          Any (HoldsOtherWithin depth below) (helds_below (parts_of r))) (sym is.below) any)
