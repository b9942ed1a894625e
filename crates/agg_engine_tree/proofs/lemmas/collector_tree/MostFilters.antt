-- A filter with what is below it takes at most three steps for each document that is counted.
use Rattle.std.proofs.Common.{◌≡◌, ◌≤◌, ◌+◌, ◌*◌, ◌++◌, ℕ, List, Some, inl, inr}
use Rattle.std.proofs.Common.{sym, ap, ◌∙◌, subst, arith}
use Rattle.std.specs.Prelude.{slice_get}
use Rattle.agg_cache.specs.Waiting.{pairs_of}
use Rattle.agg_cache.specs.declared.cache.Batch.{Batch}
use Rattle.agg_segment.specs.Marks.{AreMarks}
use Rattle.agg_segment.specs.Query.{matches}
use Rattle.agg_segment.specs.Segment.{Stored, documents_at}
use Rattle.agg_segment.specs.declared.query.QueryTree.{QueryTree}
use Rattle.agg_request_tree.specs.Request.{agg_of, below_of}
use Rattle.agg_request_tree.specs.Uncut.{uncut}
use Rattle.agg_request_tree.specs.declared.aggregation.Aggregation.{Aggregation}
use Rattle.agg_composite.specs.buckets.Visits.{docs_in}
use Rattle.agg_filter.specs.Filter.{Filter, FilterGives}
use Rattle.agg_filter.specs.Matching.{is_matching}
use Rattle.agg_filter.specs.declared.request_data.FilterAggReqData.{FilterAggReqData}
use Rattle.agg_engine_tree.specs.segment_context.Context.{IsMeant, IsPlanOf, Meaning, tree_in}
use Rattle.agg_engine_tree.specs.segment_context.Plan.{Plan}
use Rattle.agg_engine_tree.specs.declared.segment_context.context.PerRequestAggSegCtx.{
  PerRequestAggSegCtx,
}
use Rattle.agg_engine_tree.specs.declared.segment_context.node.AggKind.TheVariants as kind
use Rattle.agg_engine_tree.specs.collector_tree.Bound.{TakesMost}
use Rattle.agg_engine_tree.specs.collector_tree.Counting.{counted_in, counted_of}
use Rattle.agg_engine_tree.specs.collector_tree.Took.{FilterTook}
use Rattle.agg_engine_tree.specs.collector_tree.Caches.{Cache, waiting_in}
use Rattle.agg_engine_tree.specs.collector_tree.Tree.{Held, IsFor, IsHandedTo, IsOf}
use Rattle.agg_engine_tree.proofs.lemmas.collector_tree.HandedDocuments.{filter-lighter}
use Rattle.agg_engine_tree.proofs.lemmas.collector_tree.MostSteps.{nothing-counted}
use Rattle.agg_engine_tree.proofs.lemmas.collector_tree.MostVisits.{asked-filter, counted_in-out}
use Rattle.agg_engine_tree.proofs.lemmas.collector_tree.MostVisits.{of-less}
use Rattle.agg_engine_tree.proofs.lemmas.collector_tree.UncutParts.{Lighter}

module _ (ctx : PerRequestAggSegCtx) (pairs : List (ℕ × ℕ)) (index : ℕ)
    (req : FilterAggReqData) (at : slice_get ctx.filter_req_data index ≡ Some req)
    (old now : Filter Cache) (steps : ℕ)
    (took : (tree : QueryTree) (segment : Stored) → AreMarks (matches tree) segment req.evaluator
    → FilterTook (is_matching tree segment) pairs old now)
    (down : List Batch) (b : Filter Cache) (gives : FilterGives waiting_in down now b)
    (rest : b ≡ record now { cache = b.cache }) (h : Held) (handed : IsHandedTo old.hands_on h)
    (then : ℕ) (t : TakesMost ctx (pairs_of down) h steps then) where
  -- the bound for the filter's own node
  filter-node : (meaning : Meaning) → IsMeant meaning ctx → (taken : List (ℕ × ℕ)) (visits : ℕ)
      → IsFor meaning ctx (Held.filter index old h) taken visits
      → (name : List ℕ) (a : Aggregation QueryTree) (plan : Plan)
      → IsPlanOf meaning ctx name a plan → IsOf plan (Held.filter index old h)
      → then + 3 * visits
      ≤ steps
      + 3 * counted_in matches a (documents_at meaning.segment (docs_in (taken ++ pairs)))
  filter-node meaning is taken visits (given, own_for, below_for) name a
      (Plan.node kind.Filter i below) of same =
      let documents = documents_at meaning.segment (docs_in (taken ++ pairs)) in
      let whole = uncut matches (agg_of a) documents in
      let gave = documents_at meaning.segment (docs_in (given ++ pairs_of down)) in
      let x = asked-filter meaning ctx name (agg_of a) i of.0 in
      let query : meaning.query_at index ≡ tree_in x.0.query =
      ap meaning.query_at (sym same.0) ∙ x.2.3 in
      let most = t.group meaning is given visits below_for (below_of a) below of.1 same.1 in
      let own = took (meaning.query_at index) meaning.segment (is.filters index req at) in
      let fewer : counted_of matches (below_of a) gave ≤ counted_of matches (below_of a) whole =
      elim handed [
        | inr none ↦ nothing-counted meaning ctx below (below_of a) of.1 h none same.1 gave whole
        | inl on ↦ of-less meaning ctx below (below_of a) of.1 gave whole
            (subst (λ q. Lighter gave (uncut matches q documents)) (sym x.1)
            (filter-lighter (meaning.query_at index) meaning.segment x.0.query query b
            (taken ++ pairs) (given ++ pairs_of down)
            (ap (λ (y : Filter Cache). y.hands_on) rest ∙ own.hands_on ∙ on)
            (gives.gives (is_matching (meaning.query_at index) meaning.segment) (taken ++ pairs)
            given (own.takes taken given own_for))))
      ] in
      omega (arith, most, fewer, counted_in-out a documents)
  filter-node meaning is taken visits f name a (Plan.node kind.Composite i below) of same =
      absurd same
  filter-node meaning is taken visits f name a (Plan.node (kind.StatsKind computed) i below) of
      same = absurd same

  -- a filter, and then what is below it with what the filter gave
  pub filter-lower-most : TakesMost ctx pairs (Held.filter index old h) steps then
  filter-lower-most = record {
    node = filter-node;
    group = λ meaning is taken visits f request plans of x. absurd x;
  }
