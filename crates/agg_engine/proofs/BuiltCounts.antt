-- What a request counts with the trees that its builders made in their place.
use Rattle.std.proofs.Common.{◌≡◌, ◌+◌, ℕ, List, [], ◌∷◌, Bool, true, false, cond, Option, None}
use Rattle.std.proofs.Common.{Some, refl, sym, ap, ◌∙◌}
use Rattle.std.specs.Prelude.{option_map}
use Rattle.std.specs.BTreeMap.{is_at}
use Rattle.std.proofs.lemmas.List.Sums.{sum_by-cons}
use Rattle.agg_values.specs.Names.{name_cmp, value_of}
use Rattle.agg_segment.specs.storage.Document.{Fields}
use Rattle.agg_segment.specs.Query.{matches}
use Rattle.agg_segment.specs.declared.query.QueryTree.{QueryTree}
use Rattle.agg_request_tree.specs.Request.{Request, agg_of, below_of, composites_of, listed_of}
use Rattle.agg_request_tree.specs.Request.{own_composite, with_builders, with_builders_in}
use Rattle.agg_request_tree.specs.Request.{with_own_builder}
use Rattle.agg_request_tree.specs.Uncut.{uncut}
use Rattle.agg_request_tree.specs.declared.aggregation.Aggregation.{Aggregation}
use Rattle.agg_request_tree.specs.declared.aggregation.AggregationVariants as variants
use variants.{AggregationVariants}
use variants.TheVariants.{Filter, Composite, Count, Max, Min, Sum}
use Rattle.agg_engine_tree.proofs.lemmas.segment_context.Built.{agg-built, below-built}
use Rattle.agg_engine_tree.proofs.lemmas.segment_context.Built.{listed-built}
use Rattle.agg_engine_tree.proofs.lemmas.segment_context.Levels.{OfEach, by_levels}
use Rattle.agg_engine.specs.snapshot_results.Steps.{counted_in, counted_of, own_counted, past_named}
use Rattle.agg_engine.specs.snapshot_results.Steps.{past_own}
use Rattle.agg_engine.proofs.lemmas.snapshot_results.JoinedCounts.{counted_in-out}
use Rattle.agg_engine.proofs.lemmas.collectors.BuiltLists.{uncut-built}

module _ {B C : Type 0} (made : B → C) where
  -- ---- composites

  own-built : (agg : AggregationVariants B)
      → own_composite (with_own_builder made agg) ≡ own_composite agg
  own-built (Composite c) = refl
  own-built (Filter a) = refl
  own-built (Count a) = refl
  own-built (Max a) = refl
  own-built (Min a) = refl
  own-built (Sum a) = refl

  -- the composites are the same
  pub composites-built : (request : Request B)
      → composites_of (with_builders made request) ≡ composites_of request
  composites-built request =
      listed-built made own_composite request
      ∙ (λ i. listed_of (λ agg. own-built agg i) request)

  -- ---- what is past a bound

  found-built : (given : List ℕ) (request : Request B)
      → option_map (λ (a : Aggregation C). agg_of a) (value_of given (with_builders made request))
      ≡ option_map (with_own_builder made)
      (option_map (λ (a : Aggregation B). agg_of a) (value_of given request))
  found-built given [] = refl
  found-built given (e ∷ request) =
      by (is_at (name_cmp given) e.0) (found-built given request)
    where
      by : (b : Bool)
          → option_map (λ (a : Aggregation C). agg_of a)
          (value_of given (with_builders made request))
          ≡ option_map (with_own_builder made)
          (option_map (λ (a : Aggregation B). agg_of a) (value_of given request))
          → option_map (λ (a : Aggregation C). agg_of a)
          (cond b (Some (with_builders_in made e.1)) (value_of given (with_builders made request)))
          ≡ option_map (with_own_builder made)
          (option_map (λ (a : Aggregation B). agg_of a)
          (cond b (Some e.1) (value_of given request)))
      by true rest = ap Some (agg-built made e.1)
      by false rest = rest

  past_own-built : (o : Option (AggregationVariants B)) (documents : List Fields)
      → past_own (option_map (with_own_builder made) o) documents ≡ past_own o documents
  past_own-built None documents = refl
  past_own-built (Some (Composite c)) documents = refl
  past_own-built (Some (Filter a)) documents = refl
  past_own-built (Some (Count a)) documents = refl
  past_own-built (Some (Max a)) documents = refl
  past_own-built (Some (Min a)) documents = refl
  past_own-built (Some (Sum a)) documents = refl

  -- as many occurrences are past the bound
  pub past-built : (name : List ℕ) (request : Request B) (documents : List Fields)
      → past_named name (with_builders made request) documents
      ≡ past_named name request documents
  past-built name request documents =
      ap (λ (o : Option (AggregationVariants C)). past_own o documents) (found-built name request)
      ∙ past_own-built (option_map (λ (a : Aggregation B). agg_of a) (value_of name request))
      documents

  counted_own-built : (agg : AggregationVariants B) (documents : List Fields)
      → own_counted (with_own_builder made agg) documents ≡ own_counted agg documents
  counted_own-built (Composite c) documents = refl
  counted_own-built (Filter a) documents = refl
  counted_own-built (Count a) documents = refl
  counted_own-built (Max a) documents = refl
  counted_own-built (Min a) documents = refl
  counted_own-built (Sum a) documents = refl

-- ---- what is counted

module _ {B : Type 0} (is_match : B → Fields → Bool) (of : B → QueryTree)
    (built : (b : B) (d : Fields) → is_match b d ≡ matches (of b) d) where
  -- how many documents an aggregation counts
  abbrev IsCounted : Aggregation B → Type 0
  IsCounted a =
      (documents : List Fields)
      → counted_in matches (with_builders_in of a) documents ≡ counted_in is_match a documents

  -- those of an entry and of those after it
  counted-more : (e : List ℕ × Aggregation B) (request : Request B) (documents : List Fields)
      → counted_in matches (with_builders_in of e.1) documents
      ≡ counted_in is_match e.1 documents
      → counted_of matches (with_builders of request) documents
      ≡ counted_of is_match request documents
      → counted_of matches (with_builders of (e ∷ request)) documents
      ≡ counted_of is_match (e ∷ request) documents
  counted-more e request documents own rest =
      sum_by-cons (λ (a : List ℕ × Aggregation QueryTree). counted_in matches a.1 documents)
      (e.0, with_builders_in of e.1) (with_builders of request)
      ∙ (λ i. own i + rest i)
      ∙ sym (sum_by-cons (λ (a : List ℕ × Aggregation B). counted_in is_match a.1 documents) e
      request)

  each_counts : (request : Request B) → OfEach IsCounted request → (documents : List Fields)
      → counted_of matches (with_builders of request) documents
      ≡ counted_of is_match request documents
  each_counts [] counted documents = refl
  each_counts (e ∷ request) counted documents =
      counted-more e request documents (counted.0 documents)
      (each_counts request counted.1 documents)

  counted_in-built : (a : Aggregation B) → IsCounted a
  counted_in-built = by_levels IsCounted (λ a below documents.
      counted_in-out matches (with_builders_in of a) documents
      ∙ (λ i. own_counted (agg-built of a i) documents
      + counted_of matches (below-built of a i) (uncut matches (agg-built of a i) documents))
      ∙ (λ i. counted_own-built of (agg_of a) documents i
      + counted_of matches (with_builders of (below_of a))
      (uncut-built is_match of built (agg_of a) documents i))
      ∙ ap (λ n. own_counted (agg_of a) documents + n)
      (each_counts (below_of a) below (uncut is_match (agg_of a) documents))
      ∙ sym (counted_in-out is_match a documents))

  -- as many documents are counted
  pub counted-built : (request : Request B) (documents : List Fields)
      → counted_of matches (with_builders of request) documents
      ≡ counted_of is_match request documents
  counted-built [] documents = refl
  counted-built (e ∷ request) documents =
      counted-more e request documents (counted_in-built e.1 documents)
      (counted-built request documents)
