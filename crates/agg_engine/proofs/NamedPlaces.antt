-- Where a name stands in a request, whose names ascend.
use Rattle.std.proofs.Common.{◌≡◌, ℕ, List, [], ◌∷◌, ◌++◌, Bool, true, false, cond, Option, None}
use Rattle.std.proofs.Common.{Some, Less, refl, sym, subst, ap, ◌∙◌, arith}
use Rattle.std.specs.Prelude.{option_map}
use Rattle.std.specs.Ordering.{is_eq}
use Rattle.std.specs.BTreeMap.{is_at}
use Rattle.std.specs.List.{All, AllByRecursion}
use Rattle.std.specs.List.Sorted.{IsStrictlySortedBy}
use Rattle.std.specs.Map.{keys_of}
use Rattle.std.proofs.lemmas.Map.Lookups.{exact_bytes}
use Rattle.agg_values.specs.Names.{name_cmp, value_of}
use Rattle.agg_segment.proofs.EncodedColumns.{back_all, front_all}
use Rattle.agg_request_tree.specs.Faults.{IsSound, IsSoundRequest}
use Rattle.agg_request_tree.specs.Request.{Request, agg_of, below_of, composites_in, composites_of}
use Rattle.agg_request_tree.specs.Request.{own_composite}
use Rattle.agg_request_tree.specs.declared.aggregation.Aggregation.{Aggregation}
use Rattle.agg_request_tree.specs.declared.aggregation.AggregationVariants.{AggregationVariants}
use Rattle.agg_request_tree.specs.declared.aggregation.AggregationVariants.TheVariants.{Composite}
use Rattle.agg_request_tree.specs.declared.aggregation.CompositeAggregation.{CompositeAggregation}
use Rattle.agg_request_tree.proofs.PageFromGroups.{equal-from_is_eq}
use Rattle.agg_request_tree.proofs.RequestTrees.{agg-made, composites-out}
use Rattle.agg_request_tree.specs.ChangedRequest.{changed, request_changed_at}
use Rattle.agg_engine.specs.NamedComposite.{IsCompositeNamed}

agg_in : {B : Type 0} → AggregationVariants B → Option (AggregationVariants B)
    → AggregationVariants B
agg_in agg None = agg
agg_in agg (Some other) = other

pub same_agg : {B : Type 0} (agg other : AggregationVariants B)
    → Some agg ≡ Some other → agg ≡ other
unfolding agg_in
same_agg agg other e = ap (agg_in agg) e

module _ {B : Type 0} (name : List ℕ) where
  -- what an aggregation asks that has the name is such
  abbrev pub AtName : (AggregationVariants B → Type 0) → Request B → Type 0
  AtName P = AllByRecursion (λ e. is_at (name_cmp name) e.0 ≡ true → P (agg_of e.1))

  -- names above it aren't it
  none-above : (P : AggregationVariants B → Type 0) (request : Request B)
      → AllByRecursion (λ k. name_cmp name k ≡ Less) (keys_of request) → AtName P request
  none-above P [] above = tt
  none-above P (e ∷ request) above = (
    λ is.
        let differs : is_at (name_cmp name) e.0 ≡ false = ap is_eq above.0 in
        absurd (cc (is, differs)),
    none-above P request above.1,
  )

  module _ (c : CompositeAggregation) where
    -- it is that of the composite of the name only
    pub only-named : (request : Request B) → IsStrictlySortedBy name_cmp (keys_of request)
        → IsCompositeNamed name request c → AtName (λ agg. agg ≡ Composite c) request
    unfolding IsStrictlySortedBy
    only-named [] up named = tt
    only-named (e ∷ request) up named =
        by (is_at (name_cmp name) e.0) refl named (only-named request up.1)
      where
        by : (b : Bool) → is_at (name_cmp name) e.0 ≡ b
            → option_map (λ (a : Aggregation B). agg_of a)
            (cond b (Some e.1) (value_of name request)) ≡ Some (Composite c)
            → (IsCompositeNamed name request c → AtName (λ agg. agg ≡ Composite c) request)
            → AtName (λ agg. agg ≡ Composite c) (e ∷ request)
        by true is found rest =
            let same = exact_bytes name e.0 (equal-from_is_eq (name_cmp name e.0) is) in (
              λ at. same_agg (agg_of e.1) (Composite c) found,
              none-above (λ agg. agg ≡ Composite c) request
                  (subst (λ n. AllByRecursion (λ k. name_cmp n k ≡ Less) (keys_of request))
                  (sym same) up.0),
            )
        by false is found rest = (λ at. absurd (cc (is, at)), rest found)

    -- which is sound where the request is
    pub sound-named : (request : Request B) → IsCompositeNamed name request c
        → IsSoundRequest request → IsSound c
    sound-named [] named sound = cc named
    sound-named (e ∷ request) named sound =
        by (is_at (name_cmp name) e.0) named (λ found. sound-named request found
        (back_all IsSound (composites_in e.1) (composites_of request) sound))
      where
        by : (b : Bool) → option_map (λ (a : Aggregation B). agg_of a)
            (cond b (Some e.1) (value_of name request)) ≡ Some (Composite c)
            → (IsCompositeNamed name request c → IsSound c) → IsSound c
        by true found rest =
            let own = front_all IsSound (composites_in e.1) (composites_of request) sound in
            let is = same_agg (agg_of e.1) (Composite c) found in
            let all : All IsSound (c ∷ composites_of (below_of e.1)) =
            subst (All IsSound)
            (composites-out e.1 ∙ (λ i. own_composite (is i) ++ composites_of (below_of e.1))) own
            in all 0 c (omega arith)
        by false found rest = rest found

  -- what is found of the name, where what has it is changed
  pub named-changed : (change : AggregationVariants B → AggregationVariants B)
      (request : Request B)
      → option_map (λ (a : Aggregation B). agg_of a)
      (value_of name (request_changed_at change name request))
      ≡ option_map change (option_map (λ (a : Aggregation B). agg_of a) (value_of name request))
  named-changed change [] = refl
  named-changed change (e ∷ request) =
      by (is_at (name_cmp name) e.0) refl (named-changed change request)
    where
      by : (b : Bool) → is_at (name_cmp name) e.0 ≡ b
          → option_map (λ (a : Aggregation B). agg_of a)
          (value_of name (request_changed_at change name request))
          ≡ option_map change (option_map (λ (a : Aggregation B). agg_of a)
          (value_of name request))
          → option_map (λ (a : Aggregation B). agg_of a)
          (value_of name (cond b (e.0, changed change e.1) e
          ∷ request_changed_at change name request))
          ≡ option_map change (option_map (λ (a : Aggregation B). agg_of a)
          (cond b (Some e.1) (value_of name request)))
      by true is rest =
          ap (λ (t : Bool). option_map (λ (a : Aggregation B). agg_of a)
          (cond t (Some (changed change e.1))
          (value_of name (request_changed_at change name request)))) is
          ∙ ap Some (agg-made (change (agg_of e.1)) (below_of e.1))
      by false is rest =
          ap (λ (t : Bool). option_map (λ (a : Aggregation B). agg_of a)
          (cond t (Some e.1) (value_of name (request_changed_at change name request)))) is
          ∙ rest
