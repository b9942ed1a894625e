-- What the aggregations of a request count keeps to what they are settled over.
use Rattle.std.proofs.Common.{Bool, List, [], ◌∷◌, map, sym, subst}
use Rattle.agg_values.specs.Names.{Named}
use Rattle.agg_segment.specs.storage.Document.{Fields}
use Rattle.agg_request_tree.specs.Matching.{filter_matches, matching}
use Rattle.agg_request_tree.specs.Request.{Request}
use Rattle.agg_request_tree.specs.declared.aggregation.Aggregation.{Aggregation}
use Rattle.agg_request_tree.specs.declared.aggregation.Aggregation.TheFolds as folds
use folds.{fold-roll-Aggregation, ind-Aggregation, map-Aggregation}
use Rattle.agg_request_tree.specs.declared.aggregation.AggregationVariants as variants
use variants.{AggregationVariants}
use variants.TheVariants.{Filter, Composite, Count, Max, Min, Sum}
use Rattle.agg_request_tree.specs.charges.Roof.{Counts, counts, counts_by, counts_of, counts_step}
use Rattle.agg_request_tree.specs.charges.Settled.{Settling, settling, settling_by, settling_of}
use Rattle.agg_request_tree.specs.charges.Settled.{settling_step}
use Rattle.agg_request_tree.proofs.lemmas.charges.CompositeSettling.{Settles-composite}
use Rattle.agg_request_tree.proofs.lemmas.charges.Lawful.{Lawful}
use Rattle.agg_request_tree.proofs.lemmas.charges.LawfulRequests.{Lawful-request}
use Rattle.agg_request_tree.proofs.lemmas.charges.Settles.{Settles, Settles-cons, Settles-nothing}
use Rattle.agg_request_tree.proofs.lemmas.charges.WithinLists.{Within-filter}

module _ {B : Type 0} (is_match : B → Fields → Bool) where
  -- of each kind
  Settles-by : (agg : AggregationVariants B) (below : Counts) (inner : Settling) → Lawful below
      → Settles below inner
      → Settles (counts_by is_match agg below) (settling_by is_match agg inner)
  Settles-by (Filter filter) below inner lawful keeps =
      let matches : Fields → Bool = filter_matches is_match filter.query in
      let those : List Fields → List Fields = matching is_match filter.query in
      record {
        bare = λ none documents. keeps.bare none (those documents);
        settled = λ documents pass. keeps.settled (those documents) pass;
        settles = λ documents others inside pass.
            keeps.settles (those documents) (those others)
            (Within-filter documents others inside matches) pass;
      }
  Settles-by (Composite composite) below inner lawful keeps =
      Settles-composite composite below inner lawful keeps
  Settles-by (Count metric) below inner lawful keeps = Settles-nothing
  Settles-by (Max metric) below inner lawful keeps = Settles-nothing
  Settles-by (Min metric) below inner lawful keeps = Settles-nothing
  Settles-by (Sum metric) below inner lawful keeps = Settles-nothing

  -- an aggregation keeps to it
  abbrev Keeps : Aggregation B → Type 0
  Keeps a = Settles (counts is_match a) (settling is_match a)

  -- an aggregation that is proved to
  abbrev Proved : Type 0
  Proved = (a : Aggregation B) × Keeps a

  -- such aggregations as a request
  abbrev asked : Named Proved → Request B
  asked proved = map (λ b. (b.0, b.1.0)) proved

  asked-keep : (proved : Named Proved)
      → Settles (counts_of is_match (asked proved)) (settling_of is_match (asked proved))
  asked-keep [] = Settles-nothing
  asked-keep (b ∷ proved) =
      Settles-cons (b.0, counts is_match b.1.0) (b.0, settling is_match b.1.0)
      (map (λ a. (a.0, counts is_match a.1)) (asked proved))
      (map (λ a. (a.0, settling is_match a.1)) (asked proved)) b.1.1 (asked-keep proved)

  pub Settles-counts : (a : Aggregation B) → Keeps a
  Settles-counts = ind-Aggregation B Keeps (λ x y is.
      subst (λ (p : Counts × Settling). Settles p.0 p.1)
      (λ i. (
        sym (fold-roll-Aggregation B Counts (counts_step is_match) x) i,
        sym (fold-roll-Aggregation B Settling (settling_step is_match) x) i,
      ))
      (subst (λ z.
      Settles
      (counts_step is_match (map-Aggregation B (Aggregation B) Counts (counts is_match) z))
      (settling_step is_match (map-Aggregation B (Aggregation B) Settling (settling is_match) z)))
      is
      (Settles-by y.agg (counts_of is_match (asked y.sub_aggregation))
      (settling_of is_match (asked y.sub_aggregation))
      (Lawful-request is_match (asked y.sub_aggregation)) (asked-keep y.sub_aggregation))))

  -- what a request counts keeps to what it is settled over
  pub Settles-request : (request : Request B)
      → Settles (counts_of is_match request) (settling_of is_match request)
  Settles-request [] = Settles-nothing
  Settles-request (a ∷ request) =
      Settles-cons (a.0, counts is_match a.1) (a.0, settling is_match a.1)
      (map (λ b. (b.0, counts is_match b.1)) request)
      (map (λ b. (b.0, settling is_match b.1)) request) (Settles-counts a.1)
      (Settles-request request)
