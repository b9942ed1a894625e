-- A request in which the size or the after key of the composite of a name is changed.
use Rattle.std.proofs.Common.{◌≡◌, inl, inr, List, [], ◌∷◌, ℕ, Bool, true, false, cond, ◌⊎◌}
use Rattle.std.proofs.Common.{Option, None, Some, refl, sym, subst}
use Rattle.std.specs.BTreeMap.{is_at}
use Rattle.agg_values.specs.Names.{Named, name_cmp, value_of}
use Rattle.agg_values.specs.declared.after_key.AfterKey.{AfterKey}
use Rattle.agg_request_tree.specs.Request.{Request, agg_of, below_of}
use Rattle.agg_request_tree.specs.declared.aggregation.Aggregation.{Aggregation}
use Rattle.agg_request_tree.specs.declared.aggregation.AggregationVariants as variants
use variants.{AggregationVariants}
use variants.TheVariants.{Filter, Composite, Count, Max, Min, Sum}
use Rattle.agg_request_tree.specs.declared.aggregation.CompositeAggregation.{CompositeAggregation}
use Rattle.agg_request_tree.proofs.RequestTrees.{agg-made, below-made}
use Rattle.agg_request_tree.specs.ChangedRequest.{changed, request_changed_at, with_after}
use Rattle.agg_request_tree.specs.ChangedRequest.{with_size}

-- ---- what an aggregation asks

-- both ask the same, or are composites of the same sources
abbrev pub AsksLike : {B : Type 0} → AggregationVariants B → AggregationVariants B → Type 0
AsksLike agg other =
    (other ≡ agg)
    ⊎ ((c : CompositeAggregation) × (d : CompositeAggregation)
    × (agg ≡ Composite c) × (other ≡ Composite d) × (d.sources ≡ c.sources))

pub size-like : {B : Type 0} (size : ℕ) (agg : AggregationVariants B)
    → AsksLike agg (with_size size agg)
size-like size (Composite c) = inr (c, record c { size = size }, refl, refl, refl)
size-like size (Filter a) = inl refl
size-like size (Count a) = inl refl
size-like size (Max a) = inl refl
size-like size (Min a) = inl refl
size-like size (Sum a) = inl refl

pub after-like : {B : Type 0} (after : Named AfterKey) (agg : AggregationVariants B)
    → AsksLike agg (with_after after agg)
after-like after (Composite c) = inr (c, record c { after = after }, refl, refl, refl)
after-like after (Filter a) = inl refl
after-like after (Count a) = inl refl
after-like after (Max a) = inl refl
after-like after (Min a) = inl refl
after-like after (Sum a) = inl refl

-- ---- what is found of a name

module _ {B : Type 0} (change : AggregationVariants B → AggregationVariants B) (name : List ℕ)
    (like : (agg : AggregationVariants B) → AsksLike agg (change agg)) where
  -- an aggregation, and what became of it
  pub record IsLike (a b : Aggregation B) : Type 0 where
    pub agg : AsksLike (agg_of a) (agg_of b)
    pub below : below_of b ≡ below_of a

  -- an entry as the change leaves it
  abbrev entry_changed : List ℕ × Aggregation B → List ℕ × Aggregation B
  entry_changed a = cond (is_at (name_cmp name) a.0) (a.0, changed change a.1) a

  entry-like : (a : List ℕ × Aggregation B)
      → ((entry_changed a).0 ≡ a.0) × IsLike a.1 (entry_changed a).1
  entry-like a = by (is_at (name_cmp name) a.0)
    where
      Entry : Type 0
      Entry = List ℕ × Aggregation B

      by : (is : Bool) → let e : Entry = cond is (a.0, changed change a.1) a in
          (e.0 ≡ a.0) × IsLike a.1 e.1
      by true = (
        refl,
        record {
          agg = subst (AsksLike (agg_of a.1)) (sym (agg-made (change (agg_of a.1)) (below_of a.1)))
              (like (agg_of a.1));
          below = below-made (change (agg_of a.1)) (below_of a.1);
        },
      )
      by false = (refl, record { agg = inl refl; below = refl })

  -- what is found of a name, and what of the request as it is changed
  abbrev Finds : Option (Aggregation B) → Option (Aggregation B) → Type 0
  Finds None after = after ≡ None
  Finds (Some a) after = (b : Aggregation B) × (after ≡ Some b) × IsLike a b

  found-entry : (given : List ℕ) (a e : List ℕ × Aggregation B) (request after : Request B)
      → e.0 ≡ a.0 → IsLike a.1 e.1 → Finds (value_of given request) (value_of given after)
      → Finds (value_of given (a ∷ request)) (value_of given (e ∷ after))
  found-entry given a e request after same one rest =
      subst (λ n. Finds (value_of given (a ∷ request))
      (cond (is_at (name_cmp given) n) (Some e.1) (value_of given after))) (sym same)
      (by (is_at (name_cmp given) a.0))
    where
      by : (b : Bool) → Finds (cond b (Some a.1) (value_of given request))
          (cond b (Some e.1) (value_of given after))
      by true = (e.1, refl, one)
      by false = rest

  pub found-changed : (given : List ℕ) (request : Request B)
      → Finds (value_of given request) (value_of given (request_changed_at change name request))
  found-changed given [] = refl
  found-changed given (a ∷ request) =
      let e = entry-like a in
      found-entry given a (entry_changed a) request (request_changed_at change name request) e.0 e.1
      (found-changed given request)

  -- a name that isn't found
  pub none-changed : (given : List ℕ) (request : Request B) → value_of given request ≡ None
      → value_of given (request_changed_at change name request) ≡ None
  none-changed given request none =
      subst (λ o. Finds o (value_of given (request_changed_at change name request))) none
      (found-changed given request)

  -- one that is found
  pub some-changed : (given : List ℕ) (request : Request B) (a : Aggregation B)
      → value_of given request ≡ Some a
      → (b : Aggregation B) × (value_of given (request_changed_at change name request) ≡ Some b)
      × IsLike a b
  some-changed given request a is =
      subst (λ o. Finds o (value_of given (request_changed_at change name request))) is
      (found-changed given request)
