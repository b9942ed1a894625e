-- The lists of a request's nodes, one level open, and over lists of documents end to end.
use Rattle.std.proofs.Common.{◌≡◌, ◌∙◌, ap, ℕ, List, ◌∷◌, ◌++◌, Bool, map}
use Rattle.std.specs.List.{filter_map}
use Rattle.std.proofs.lemmas.List.Concat.{flat_map-append}
use Rattle.std.proofs.lemmas.List.Elements.{filter-append}
use Rattle.std.proofs.lemmas.List.Folds.{flat_map-map}
use Rattle.agg_segment.specs.storage.Document.{Fields}
use Rattle.agg_request_tree.specs.Matching.{filter_matches}
use Rattle.agg_request_tree.specs.Metrics.{number_of}
use Rattle.agg_request_tree.specs.Occurrences.{occurrences}
use Rattle.agg_request_tree.specs.Request.{agg_of, below_of}
use Rattle.agg_request_tree.specs.Uncut.{once_each, uncut, uncut_lists, uncut_lists_of, uncut_step}
use Rattle.agg_request_tree.specs.declared.aggregation.Aggregation.{Aggregation}
use Rattle.agg_request_tree.specs.declared.aggregation.Aggregation.TheFolds.{fold_out-Aggregation}
use Rattle.agg_request_tree.specs.declared.aggregation.AggregationVariants as variants
use variants.{AggregationVariants}
use variants.TheVariants.{Filter, Composite, Count, Max, Min, Sum}

-- documents end to end, each once for each element
pub once_each-append : {X : Type 0} (elements : Fields → List X) (documents others : List Fields)
    → once_each elements (documents ++ others)
    ≡ once_each elements documents ++ once_each elements others
once_each-append elements = flat_map-append (λ d. map (λ x. d) (elements d))

module _ {B : Type 0} (is_match : B → Fields → Bool) where
  -- the lists of an aggregation are its own, and over it those of the request below
  pub uncut_lists-out : (a : Aggregation B) (documents : List Fields)
      → uncut_lists is_match a documents
      ≡ uncut is_match (agg_of a) documents
      ∷ uncut_lists_of is_match (below_of a) (uncut is_match (agg_of a) documents)
  uncut_lists-out a documents =
      ap (λ lists. lists documents)
      (fold_out-Aggregation B (List Fields → List (List Fields)) (uncut_step is_match) a)
      ∙ ap (λ below. uncut is_match (agg_of a) documents ∷ below)
      (flat_map-map
      (λ (e : List ℕ × (List Fields → List (List Fields))).
      e.1 (uncut is_match (agg_of a) documents))
      (λ (e : List ℕ × Aggregation B). (e.0, uncut_lists is_match e.1)) (below_of a))

  -- an aggregation lists documents end to end
  pub uncut-append : (aggregation : AggregationVariants B) (documents others : List Fields)
      → uncut is_match aggregation (documents ++ others)
      ≡ uncut is_match aggregation documents ++ uncut is_match aggregation others
  uncut-append (Filter filter) = filter-append (filter_matches is_match filter.query)
  uncut-append (Composite composite) = once_each-append (occurrences composite.sources)
  uncut-append (Count metric) = once_each-append (λ d. d metric.field)
  uncut-append (Max metric) = once_each-append (λ d. filter_map number_of (d metric.field))
  uncut-append (Min metric) = once_each-append (λ d. filter_map number_of (d metric.field))
  uncut-append (Sum metric) = once_each-append (λ d. filter_map number_of (d metric.field))
