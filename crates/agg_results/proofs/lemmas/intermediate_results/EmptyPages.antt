-- Pages without entries, source by source.
use Rattle.std.proofs.Common.{◌≡◌, ◌+◌, ◌<◌, ◌≤◌, ◌++◌, ℕ, [], ◌∷◌, get_or, length, take, ap, sym}
use Rattle.std.proofs.Common.{◌∙◌}
use Rattle.std.proofs.lemmas.List.{take_all}
use Rattle.agg_values.specs.KeyOrder.{SourceRules}
use Rattle.agg_values.specs.declared.order.MissingOrder.{MissingOrder}
use Rattle.agg_values.specs.declared.order.Order.{Order}
use Rattle.agg_request_tree.specs.Source.{Sources, missing_order_of, order_of, rules_of}
use Rattle.agg_request_tree.specs.declared.source.CompositeAggregationSource as kind
use kind.{CompositeAggregationSource}
use Rattle.agg_request_tree.proofs.SourceOrders.{rules_of-more}
use Rattle.agg_results.specs.intermediate_results.Intermediate.{Entries, composite_of, entries_of}
use Rattle.agg_results.specs.intermediate_results.Intermediate.{orders_of, target_size_of}
use Rattle.agg_results.specs.declared.intermediate_results as intermediate
use intermediate.composite.IntermediateCompositeBucketResult as composite
use composite.{IntermediateCompositeBucketResult}
use Rattle.agg_results.specs.declared.intermediate_results.results.IntermediateAggregationResult
    as result
use result.TheViews.{out-roll-IntermediateCompositeBucketResult}

-- ---- the parts of a composite's result

module _ (orders : SourceRules) (size : ℕ) (entries : Entries) where
  orders-part : orders_of (composite_of orders size entries) ≡ orders
  orders-part = ap (λ parts. parts.entries.0) (out-roll-IntermediateCompositeBucketResult (record {
    entries = (orders, entries);
    target_size = size;
  }))

  size-part : target_size_of (composite_of orders size entries) ≡ size
  size-part = ap (λ parts. parts.target_size) (out-roll-IntermediateCompositeBucketResult (record {
    entries = (orders, entries);
    target_size = size;
  }))

  entries-part : entries_of (composite_of orders size entries) ≡ entries
  entries-part = ap (λ parts. parts.entries.1) (out-roll-IntermediateCompositeBucketResult (record {
    entries = (orders, entries);
    target_size = size;
  }))

-- ---- a page of some sources

-- a page without entries, over these sources
abbrev pub empty_page : Sources → ℕ → IntermediateCompositeBucketResult
empty_page sources size = composite_of (rules_of sources) size []

-- a page without entries has none
pub empty_page-empty : (sources : Sources) (size : ℕ) (page : IntermediateCompositeBucketResult)
    → page ≡ empty_page sources size → entries_of page ≡ []
empty_page-empty sources size page e =
    ap entries_of e ∙ entries-part (rules_of sources) size []

-- with the order of one more source
pub empty_page-more : (sources : Sources) (i size : ℕ) (source : CompositeAggregationSource)
    (direction : Order) (missing : MissingOrder) (page more : IntermediateCompositeBucketResult)
    → i < length sources → source ≡ get_or sources i source → direction ≡ order_of source
    → missing ≡ missing_order_of source → page ≡ empty_page (take i sources) size
    → more ≡ composite_of (orders_of page ++ (direction, missing) ∷ []) (target_size_of page) []
    → more ≡ empty_page (take (i + 1) sources) size
empty_page-more sources i size source direction missing page more below at its its_missing so_far
    is =
    let rules = rules_of (take i sources) in
    let orders = ap orders_of so_far ∙ orders-part rules size [] in
    let own_size = ap target_size_of so_far ∙ size-part rules size [] in
    is
    ∙ (λ k. composite_of (orders k ++ (its k, its_missing k) ∷ []) (own_size k) [])
    ∙ ap (λ rules. composite_of rules size []) (sym (rules_of-more sources i source below at))

-- all sources
pub empty_page-all : (sources all : Sources) (i size : ℕ) (page : IntermediateCompositeBucketResult)
    → sources ≡ all → length sources ≤ i → page ≡ empty_page (take i sources) size
    → page ≡ empty_page all size
empty_page-all sources all i size page same over so_far =
    so_far ∙ ap (λ s. empty_page s size) (take_all i sources over ∙ same)
