-- What a request counts hangs on no size and no after key of it.
use Rattle.std.proofs.Common.{◌≡◌, ◌+◌, ℕ, inl, inr, List, [], ◌∷◌, Bool, true, false, cond}
use Rattle.std.proofs.Common.{Option, None, Some, length, refl, sym, ap, ◌∙◌}
use Rattle.std.specs.Prelude.{option_map}
use Rattle.std.specs.BTreeMap.{is_at}
use Rattle.std.proofs.lemmas.List.Sums.{sum_by-cons}
use Rattle.agg_values.specs.Names.{Named, name_cmp, value_of}
use Rattle.agg_values.specs.declared.after_key.AfterKey.{AfterKey}
use Rattle.agg_segment.specs.storage.Document.{Fields}
use Rattle.agg_request_tree.specs.Occurrences.{occurrences}
use Rattle.agg_request_tree.specs.Request.{Request, agg_of, below_of}
use Rattle.agg_request_tree.specs.Uncut.{once_each, uncut}
use Rattle.agg_request_tree.specs.declared.aggregation.Aggregation.{Aggregation}
use Rattle.agg_request_tree.specs.declared.aggregation.AggregationVariants as variants
use variants.{AggregationVariants}
use variants.TheVariants.{Filter, Composite, Count, Max, Min, Sum}
use Rattle.agg_request_tree.proofs.RequestTrees.{agg-made, below-made}
use Rattle.agg_request_tree.specs.ChangedRequest.{changed, request_after, request_at_size}
use Rattle.agg_request_tree.specs.ChangedRequest.{request_changed_at, with_after, with_size}
use Rattle.agg_engine.specs.snapshot_results.Steps.{counted_in, counted_of, own_counted, past_named}
use Rattle.agg_engine.specs.snapshot_results.Steps.{past_own}
use Rattle.agg_engine.proofs.lemmas.snapshot_results.JoinedCounts.{counted_in-out}
use Rattle.agg_engine.proofs.lemmas.collectors.ChangedRequests.{AsksLike, after-like, size-like}
use Rattle.agg_engine.proofs.NamedPlaces.{named-changed}

module _ {B : Type 0} (is_match : B → Fields → Bool) where
  own-like : (agg other : AggregationVariants B) (documents : List Fields) → AsksLike agg other
      → own_counted other documents ≡ own_counted agg documents
  own-like agg other documents (inl same) =
      ap (λ (a : AggregationVariants B). own_counted a documents) same
  own-like agg other documents (inr (c, d, is, other_is, same)) =
      ap (λ (a : AggregationVariants B). own_counted a documents) other_is
      ∙ ap (λ sources. length (once_each (occurrences sources) documents)) same
      ∙ sym (ap (λ (a : AggregationVariants B). own_counted a documents) is)

  uncut-like : (agg other : AggregationVariants B) (documents : List Fields) → AsksLike agg other
      → uncut is_match other documents ≡ uncut is_match agg documents
  uncut-like agg other documents (inl same) =
      ap (λ (a : AggregationVariants B). uncut is_match a documents) same
  uncut-like agg other documents (inr (c, d, is, other_is, same)) =
      ap (λ (a : AggregationVariants B). uncut is_match a documents) other_is
      ∙ ap (λ sources. once_each (occurrences sources) documents) same
      ∙ sym (ap (λ (a : AggregationVariants B). uncut is_match a documents) is)

  module _ (change : AggregationVariants B → AggregationVariants B) (name : List ℕ)
      (like : (agg : AggregationVariants B) → AsksLike agg (change agg))
      (documents : List Fields) where
    one-changed : (a : Aggregation B)
        → counted_in is_match (changed change a) documents ≡ counted_in is_match a documents
    one-changed a =
        counted_in-out is_match (changed change a) documents
        ∙ (λ i. own_counted (agg-made (change (agg_of a)) (below_of a) i) documents
        + counted_of is_match (below-made (change (agg_of a)) (below_of a) i)
        (uncut is_match (agg-made (change (agg_of a)) (below_of a) i) documents))
        ∙ (λ i. own-like (agg_of a) (change (agg_of a)) documents (like (agg_of a)) i
        + counted_of is_match (below_of a)
        (uncut-like (agg_of a) (change (agg_of a)) documents (like (agg_of a)) i))
        ∙ sym (counted_in-out is_match a documents)

    -- as many documents are counted
    pub counted-changed : (request : Request B)
        → counted_of is_match (request_changed_at change name request) documents
        ≡ counted_of is_match request documents
    counted-changed [] = refl
    counted-changed (e ∷ request) =
        let x : List ℕ × Aggregation B =
        cond (is_at (name_cmp name) e.0) (e.0, changed change e.1) e in
        sum_by-cons (λ (a : List ℕ × Aggregation B). counted_in is_match a.1 documents) x
        (request_changed_at change name request)
        ∙ (λ i. by (is_at (name_cmp name) e.0) i + counted-changed request i)
        ∙ sym (sum_by-cons (λ (a : List ℕ × Aggregation B). counted_in is_match a.1 documents) e
        request)
      where
        by : (b : Bool)
            → let x : List ℕ × Aggregation B = cond b (e.0, changed change e.1) e in
            counted_in is_match x.1 documents ≡ counted_in is_match e.1 documents
        by true = one-changed e.1
        by false = refl

  -- a request counts as many documents with a size and an after key
  pub counted-here : (name : List ℕ) (size : ℕ) (after : Named AfterKey) (request : Request B)
      (documents : List Fields)
      → counted_of is_match (request_at_size name size (request_after name after request))
      documents
      ≡ counted_of is_match request documents
  counted-here name size after request documents =
      counted-changed (with_size size) name (size-like size) documents
      (request_after name after request)
      ∙ counted-changed (with_after after) name (after-like after) documents request

past-size : {B : Type 0} (size : ℕ) (o : Option (AggregationVariants B)) (documents : List Fields)
    → past_own (option_map (with_size size) o) documents ≡ past_own o documents
past-size size None documents = refl
past-size size (Some (Composite c)) documents = refl
past-size size (Some (Filter a)) documents = refl
past-size size (Some (Count a)) documents = refl
past-size size (Some (Max a)) documents = refl
past-size size (Some (Min a)) documents = refl
past-size size (Some (Sum a)) documents = refl

-- as many occurrences are past the bound, whatever the size
pub past-sized : {B : Type 0} (name : List ℕ) (size : ℕ) (request : Request B)
    (documents : List Fields)
    → past_named name (request_at_size name size request) documents
    ≡ past_named name request documents
past-sized {B = B} name size request documents =
    ap (λ (o : Option (AggregationVariants B)). past_own o documents)
    (named-changed name (with_size size) request)
    ∙ past-size size (option_map (λ (a : Aggregation B). agg_of a) (value_of name request))
    documents
