-- What a request asks that is one composite with nothing below it.
use Rattle.std.proofs.Common.{◌≡◌, ◌<◌, ◌^◌, ℕ, List, [], ◌∷◌, Some, length, refl, sym, ap}
use Rattle.std.proofs.Common.{◌∙◌, subst, arith}
use Rattle.std.specs.Prelude.{slice_get}
use Rattle.std.specs.List.{All, Any}
use Rattle.std.proofs.Math.Nat.{lt_of_not-le}
use Rattle.agg_values.specs.Names.{Named}
use Rattle.agg_values.specs.declared.after_key.AfterKey.{AfterKey}
use Rattle.agg_segment.specs.storage.Document.{Fields}
use Rattle.agg_segment.specs.Query.{matches}
use Rattle.agg_segment.specs.declared.query.QueryTree.{QueryTree}
use Rattle.agg_request_tree.specs.Ranges.{AreInRange, HasOwnStartOutOfRange, HasStartOutOfRange}
use Rattle.agg_request_tree.specs.Request.{Request, agg_of, below_of, composites_in}
use Rattle.agg_request_tree.specs.Uncut.{CountsTooMany, counted, uncut}
use Rattle.agg_request_tree.specs.declared.aggregation.Aggregation.{Aggregation}
use Rattle.agg_request_tree.specs.declared.aggregation.AggregationVariants.{AggregationVariants}
use Rattle.agg_request_tree.specs.declared.aggregation.AggregationVariants.TheVariants as asks
use Rattle.agg_request_tree.specs.declared.aggregation.CompositeAggregation.{CompositeAggregation}
use Rattle.agg_request_tree.proofs.RequestTrees.{composites-plain}
use Rattle.agg_composite.specs.declared.accessor.request_data.CompositeAggReqData.{
  CompositeAggReqData,
}
use Rattle.agg_engine_tree.specs.segment_context.Context.{ArePlansOf, Meaning}
use Rattle.agg_engine_tree.specs.segment_context.Plan.{Plan, Plans}
use Rattle.agg_engine_tree.specs.declared.segment_context.context.PerRequestAggSegCtx.{
  PerRequestAggSegCtx,
}
use Rattle.agg_engine_tree.specs.declared.segment_context.node.AggKind.TheVariants as kind
use Rattle.agg_engine_tree.specs.collector_tree.Counting.{counted_of, own_counted}
use Rattle.agg_engine_tree.proofs.lemmas.collector_tree.ManyLists.{IsLong, many-first, many-own}
use Rattle.agg_engine_tree.proofs.lemmas.collector_tree.MostVisits.{asked-composite, counted_in-out}
use Rattle.agg_engine_tree.proofs.lemmas.collector_tree.MostVisits.{counted_of-more}
use Rattle.agg_engine_tree.specs.tree_results.Leaves.{IsLeafOf}
use Rattle.agg_engine_tree.proofs.lemmas.collector_tree.StableRanges.{ranges-stable}
use Rattle.agg_engine.proofs.lemmas.snapshot_results.TreeRanges.{any-left}

-- ---- of which data it is

-- a request is one composite with nothing below it, of which this is the data
pub record IsOneLeaf (req : CompositeAggReqData) (after : Named AfterKey)
    (request : Request QueryTree) : Type 0 where
  pub a : Aggregation QueryTree
  pub asked : CompositeAggregation
  pub leaf : IsLeafOf req after a asked
  pub is : request ≡ (req.name, a) ∷ []

module _ (meaning : Meaning) (ctx : PerRequestAggSegCtx) where
  -- no aggregations are those of no nodes
  none-asked : (request : Request QueryTree) → ArePlansOf meaning ctx request Plans.none
      → request ≡ []
  none-asked [] of = refl
  none-asked (a ∷ request) of = absurd of

  -- it is so where its only node is a composite with nothing below it
  pub one-leaf : (request : Request QueryTree) (index : ℕ) (req : CompositeAggReqData)
      → ArePlansOf meaning ctx request
      (Plans.more (Plan.node kind.Composite index Plans.none) Plans.none)
      → slice_get ctx.composite_req_data index ≡ Some req
      → IsOneLeaf req (meaning.after_at index) request
  one-leaf [] index req of at = absurd of
  one-leaf (e ∷ request) index req of at =
      let x = asked-composite meaning ctx e.0 (agg_of e.1) index of.0.0 in
      let same : req ≡ x.2.0 = cc (at, x.2.1) in
      let name : e.0 ≡ req.name = sym (ap (λ (r : CompositeAggReqData). r.name) same ∙ x.2.2) in
      record {
        a = e.1;
        asked = x.0;
        leaf = record {
          agg = x.1;
          below = none-asked (below_of e.1) of.0.1;
          sources = ap (λ (r : CompositeAggReqData). r.req.now.sources) same ∙ x.2.3;
          size = ap (λ (r : CompositeAggReqData). r.size) same ∙ x.2.4;
          start = x.2.5;
        };
        is = λ i. (name i, e.1) ∷ none-asked request of.1 i;
      }

-- ---- what it counts

module _ (name : List ℕ) (a : Aggregation QueryTree) (asked : CompositeAggregation)
    (agg : agg_of a ≡ asks.Composite asked) (below : below_of a ≡ []) (documents : List Fields)
  where
    abbrev IsOut : CompositeAggregation → Type 0
    IsOut c = HasOwnStartOutOfRange c documents

    -- where none of its starts is out of range, all are in range
    pub leaf-in_range : ¬ (HasStartOutOfRange ((name, a) ∷ []) documents)
        → All (AreInRange asked.sources) documents
    leaf-in_range none =
        ranges-stable asked.sources documents
        (λ out. none (any-left IsOut (composites_in a) []
        (subst (Any IsOut) (sym (composites-plain a asked agg below))
        (0, asked, omega arith, refl, out))))

    -- it counts its own documents
    counted-leaf : counted_of matches ((name, a) ∷ []) documents ≡ length (counted asked documents)
    counted-leaf =
        omega (
          arith,
          counted_of-more name a [] documents,
          counted_in-out a documents,
          ap (λ (q : AggregationVariants QueryTree). own_counted q documents) agg,
          ap (λ (r : Request QueryTree).
              counted_of matches r (uncut matches (agg_of a) documents)) below,
        )

    -- where these aren't too many, they are fewer than 2^32
    pub leaf-few : ¬ (CountsTooMany matches ((name, a) ∷ []) documents)
        → counted_of matches ((name, a) ∷ []) documents < 2 ^ 32
    leaf-few few =
        let own : length (counted asked documents) < 2 ^ 32 =
        lt_of_not-le (λ long. few (many-first name a [] documents (many-own a documents
        (subst (λ (q : AggregationVariants QueryTree). IsLong (uncut matches q documents))
        (sym agg) long)))) in
        omega (arith, own, counted-leaf)
