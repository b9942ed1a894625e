-- A generated request that goes on from any after key.
use Rattle.std.proofs.Common.{◌≡◌, List, [], ◌∷◌, ◌++◌, Bool, codes, ap, ◌∙◌}
use Rattle.std.proofs.lemmas.List.{append-nil}
use Rattle.agg_values.specs.Names.{Named}
use Rattle.agg_values.specs.declared.after_key.AfterKey.{AfterKey}
use Rattle.agg_segment.specs.storage.Document.{Fields}
use Rattle.agg_request_tree.specs.Request.{Request, aggregation_of, listed_in}
use Rattle.agg_request_tree.specs.Request.{listed_of}
use Rattle.agg_request_tree.specs.Uncut.{counted, once_each, uncut, uncut_lists, uncut_lists_of}
use Rattle.agg_request_tree.specs.declared.aggregation.Aggregation.{Aggregation}
use Rattle.agg_request_tree.specs.declared.aggregation.AggregationVariants as variants
use variants.{AggregationVariants}
use variants.TheVariants.{Composite, Count}
use Rattle.agg_request_tree.specs.declared.aggregation.CompositeAggregation.{CompositeAggregation}
use Rattle.agg_request_tree.proofs.RequestTrees.{agg-made, below-made}
use Rattle.agg_request_tree.proofs.UncutLists.{uncut_lists-out}
use Rattle.agg_request_tree.proofs.lemmas.charges.CountsOut.{listed-made}
use Rattle.agg_request_tree.specs.ChangedRequest.{request_changed_at}
use Rattle.agg_pages.specs.generator.Request.{count_of_dates, generated_composite}

-- the generated composite that goes on from an after key
abbrev pub composite_after : Named AfterKey → CompositeAggregation
composite_after after = record generated_composite { after = after }

module _ {B : Type 0} where
  -- what is below a composite
  abbrev pub below : Request B
  below = (codes "n", count_of_dates) ∷ []

  -- the count of dates, as what it asks
  abbrev pub dates : AggregationVariants B
  dates = Count (record { field = codes "d" })

  -- the aggregation of a composite, and its request
  abbrev pub aggregated : CompositeAggregation → Aggregation B
  aggregated composite = aggregation_of (Composite composite) below

  abbrev pub request_of : CompositeAggregation → Request B
  request_of composite = (codes "g", aggregated composite) ∷ []

  -- what is listed at any depth: what the composite lists, and then what the count does
  pub listed : {X : Type 0} (own : AggregationVariants B → List X) (c : CompositeAggregation)
      → listed_of own (request_of c) ≡ own (Composite c) ++ own dates
  listed own c =
      append-nil (listed_in own (aggregated c))
      ∙ listed-made own (Composite c) below
      ∙ ap (λ rest. own (Composite c) ++ rest)
      (append-nil (listed_in own count_of_dates)
      ∙ listed-made own dates []
      ∙ append-nil (own dates))

  -- another composite in place of one
  pub changed-request : (change : AggregationVariants B → AggregationVariants B)
      (c other : CompositeAggregation) → change (Composite c) ≡ Composite other
      → request_changed_at change (codes "g") (request_of c) ≡ request_of other
  changed-request change c other is =
      (λ i. (
        codes "g",
        aggregation_of (change (agg-made (Composite c) below i)) (below-made (Composite c) below i),
      ) ∷ [])
      ∙ (λ i. (codes "g", aggregation_of (is i) below) ∷ [])

  module _ (is_match : B → Fields → Bool) where
    -- the uncut lists of the composite and of the count below it
    pub uncut_lists-request : (c : CompositeAggregation) (documents : List Fields)
        → uncut_lists_of is_match (request_of c) documents
        ≡ counted c documents ∷ once_each (λ d. d (codes "d")) (counted c documents) ∷ []
    uncut_lists-request c documents =
        append-nil (uncut_lists is_match (aggregated c) documents)
        ∙ uncut_lists-out is_match (aggregated c) documents
        ∙ (λ i.
        uncut is_match (agg-made (Composite c) below i) documents
        ∷ uncut_lists_of is_match (below-made (Composite c) below i)
        (uncut is_match (agg-made (Composite c) below i) documents))
        ∙ ap (λ lists. counted c documents ∷ lists) (uncut_lists-dates (counted c documents))
      where
        uncut_lists-dates : (documents : List Fields)
            → uncut_lists_of is_match below documents
            ≡ once_each (λ d. d (codes "d")) documents ∷ []
        uncut_lists-dates documents =
            append-nil (uncut_lists is_match count_of_dates documents)
            ∙ uncut_lists-out is_match count_of_dates documents
            ∙ (λ i.
            uncut is_match (agg-made dates [] i) documents
            ∷ uncut_lists_of is_match (below-made dates [] i)
            (uncut is_match (agg-made dates [] i) documents))
