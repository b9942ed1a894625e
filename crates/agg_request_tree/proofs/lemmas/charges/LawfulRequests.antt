-- What the aggregations of a request count keeps to the laws.
use Rattle.std.proofs.Common.{ℕ, Bool, List, [], ◌∷◌, cond, map, sym, ◌∙◌, subst}
use Rattle.std.specs.List.{AllByRecursion}
use Rattle.agg_values.specs.Names.{Named}
use Rattle.agg_segment.specs.storage.Document.{Fields}
use Rattle.agg_request_tree.specs.Matching.{filter_matches, matching}
use Rattle.agg_request_tree.specs.Request.{Request}
use Rattle.agg_request_tree.specs.declared.aggregation.Aggregation.{Aggregation}
use Rattle.agg_request_tree.specs.declared.aggregation.Aggregation.TheFolds as folds
use folds.{fold-roll-Aggregation, ind-Aggregation, map-Aggregation}
use Rattle.agg_request_tree.specs.declared.aggregation.AggregationVariants as variants
use variants.{AggregationVariants}
use variants.TheVariants.{Filter, Composite, Count, Max, Min, Sum}
use Rattle.agg_request_tree.specs.charges.Roof.{Counts, counts, counts_by, counts_of, counts_step}
use Rattle.agg_request_tree.specs.charges.Roof.{together}
use Rattle.agg_request_tree.proofs.lemmas.charges.CompositeCounts.{Lawful-composite}
use Rattle.agg_request_tree.proofs.lemmas.charges.Lawful.{Lawful, Lawful-nothing, Lawful-together}
use Rattle.agg_request_tree.proofs.lemmas.charges.Sums.{sum_by-filter}
use Rattle.agg_request_tree.proofs.lemmas.charges.WithinLists.{Within-filter}

module _ {B : Type 0} (is_match : B → Fields → Bool) where
  -- what each kind counts
  Lawful-by : (agg : AggregationVariants B) (below : Counts) → Lawful below
      → Lawful (counts_by is_match agg below)
  Lawful-by (Filter filter) below lawful =
      let matches : Fields → Bool = filter_matches is_match filter.query in
      let those : List Fields → List Fields = matching is_match filter.query in
      record {
        weight = λ document. cond (matches document) (lawful.weight document) 0;
        weighs = λ documents.
            lawful.weighs (those documents) ∙ sum_by-filter lawful.weight matches documents;
        most = λ documents. lawful.most (those documents);
        rises = λ documents others inside.
            lawful.rises (those documents) (those others)
            (Within-filter documents others inside matches);
        lower = λ documents. lawful.lower (those documents);
        low_same = λ documents others inside back.
            lawful.low_same (those documents) (those others)
            (Within-filter documents others inside matches)
            (Within-filter others documents back matches);
      }
  Lawful-by (Composite composite) below lawful = Lawful-composite composite below lawful
  Lawful-by (Count metric) below lawful = Lawful-nothing
  Lawful-by (Max metric) below lawful = Lawful-nothing
  Lawful-by (Min metric) below lawful = Lawful-nothing
  Lawful-by (Sum metric) below lawful = Lawful-nothing

  -- what each aggregation of a request counts
  abbrev each_counts : Request B → Named Counts
  each_counts request = map (λ a. (a.0, counts is_match a.1)) request

  -- an aggregation that is proved to keep to the laws
  abbrev Proved : Type 0
  Proved = (a : Aggregation B) × Lawful (counts is_match a)

  -- such aggregations as a request
  abbrev asked : Named Proved → Request B
  asked proved = map (λ b. (b.0, b.1.0)) proved

  proved-lawful : (proved : Named Proved)
      → AllByRecursion (λ (c : List ℕ × Counts). Lawful c.1) (each_counts (asked proved))
  proved-lawful [] = tt
  proved-lawful (b ∷ proved) = (b.1.1, proved-lawful proved)

  pub Lawful-counts : (a : Aggregation B) → Lawful (counts is_match a)
  Lawful-counts = ind-Aggregation B (λ a. Lawful (counts is_match a)) (λ x y is.
      subst Lawful (sym (fold-roll-Aggregation B Counts (counts_step is_match) x))
      (subst (λ z. Lawful (counts_step is_match
      (map-Aggregation B (Aggregation B) Counts (counts is_match) z))) is
      (Lawful-by y.agg (together (each_counts (asked y.sub_aggregation)))
      (Lawful-together (each_counts (asked y.sub_aggregation))
      (proved-lawful y.sub_aggregation)))))

  all-lawful : (request : Request B)
      → AllByRecursion (λ (c : List ℕ × Counts). Lawful c.1) (each_counts request)
  all-lawful [] = tt
  all-lawful (a ∷ request) = (Lawful-counts a.1, all-lawful request)

  -- what a request counts keeps to the laws
  pub Lawful-request : (request : Request B) → Lawful (counts_of is_match request)
  Lawful-request request = Lawful-together (each_counts request) (all-lawful request)
