-- New collectors, one level of a tree at a time.
use Rattle.std.proofs.Common.{◌≡◌, ◌<◌, ℕ, List, [], ◌∷◌, ◌++◌, Bool, true, false, Some, inl, inr}
use Rattle.std.proofs.Common.{get_or, length, map, zero, suc, refl, sym, ap, ◌∙◌, subst, arith}
use Rattle.std.specs.Prelude.{◌==◌, not, slice_get}
use Rattle.std.proofs.lemmas.Bool.Decides.{nat_tests}
use Rattle.agg_segment.specs.Segment.{Stored}
use Rattle.agg_composite.specs.declared.accessor.request_data.CompositeAggReqData.{
  CompositeAggReqData,
}
use Rattle.agg_composite.specs.Composite.{Composite}
use Rattle.agg_filter.specs.Filter.{Filter}
use Rattle.agg_filter.specs.Matching.{is_matching}
use Rattle.agg_filter.specs.declared.request_data.FilterAggReqData.{FilterAggReqData}
use Rattle.agg_metric.specs.Collector.{Metric, MetricFor}
use Rattle.agg_metric.specs.declared.request_data.MetricAggReqData.{MetricAggReqData}
use Rattle.agg_engine_tree.specs.segment_context.Context.{Meaning}
use Rattle.agg_engine_tree.specs.segment_context.Plan.{Plan, plan_of, plan_step, plans_of}
use Rattle.agg_engine_tree.specs.declared.segment_context.context.PerRequestAggSegCtx.{
  PerRequestAggSegCtx,
}
use Rattle.agg_engine_tree.specs.declared.segment_context.node.AggKind.{AggKind}
use Rattle.agg_engine_tree.specs.declared.segment_context.node.AggRefNode.{AggRefNode}
use Rattle.agg_engine_tree.specs.declared.segment_context.node.AggRefNode.TheFolds.{
  fold_out-AggRefNode,
}
use Rattle.agg_engine_tree.specs.declared.segment_context.node.AggRefNode.TheViews.{out-AggRefNode}
use Rattle.agg_engine_tree.specs.collector_tree.NewFilter.{IsNewFilter}
use Rattle.agg_engine_tree.specs.collector_tree.New.{HasData, HaveData, IsNew, IsNewComposite}
use Rattle.agg_engine_tree.specs.collector_tree.Caches.{Cache}
use Rattle.agg_engine_tree.specs.collector_tree.Tree.{AllFit, AllFor, AreFlushed, AreOf, Fits, Held}
use Rattle.agg_engine_tree.specs.collector_tree.Tree.{IsFlushed, IsFor, IsGroupOf, IsHandedTo, IsOf}
use Rattle.agg_engine_tree.specs.collector_tree.Tree.{helds_of, nothing}
use Rattle.agg_engine_tree.proofs.lemmas.collector_tree.Levels.{is-nothing}

-- ---- nodes

-- a node as plain data
pub plan-is : (node : AggRefNode) (k : AggKind) → (out-AggRefNode node).kind ≡ k
    → plan_of node ≡ Plan.node k (out-AggRefNode node).idx_in_req_data
    (plans_of (map plan_of (out-AggRefNode node).children))
plan-is node k is =
    fold_out-AggRefNode Plan plan_step node
    ∙ ap (λ j. Plan.node j (out-AggRefNode node).idx_in_req_data
    (plans_of (map plan_of (out-AggRefNode node).children))) is

-- what is below a leaf is nothing
leaf-nothing : (nodes : List AggRefNode) (is_leaf : Bool) (h : Held)
    → is_leaf ≡ (length nodes == 0) → IsGroupOf (plans_of (map plan_of nodes)) h
    → is_leaf ≡ true → h ≡ nothing
leaf-nothing [] is_leaf h is of leaf = is-nothing h of
leaf-nothing (n ∷ nodes) is_leaf h is of leaf =
    let some : (length (n ∷ nodes) == 0) ≡ false = grind (arith, nat_tests) in
    absurd (cc (is, leaf, some))

-- a collector hands documents on, or has nothing below it
pub handed-new : (nodes : List AggRefNode) (is_leaf on : Bool) (h : Held)
    → is_leaf ≡ (length nodes == 0) → IsGroupOf (plans_of (map plan_of nodes)) h
    → on ≡ not is_leaf → IsHandedTo on h
handed-new nodes true on h is of turned = inr (leaf-nothing nodes true h is of refl)
handed-new nodes false on h is of turned = inl turned

-- the data of each node
pub data-each : (ctx : PerRequestAggSegCtx) (nodes : List AggRefNode)
    → HaveData ctx (plans_of (map plan_of nodes)) → (k : ℕ) (d : AggRefNode) → k < length nodes
    → HasData ctx (plan_of (get_or nodes k d))
data-each ctx [] have k d l = absurd (omega arith)
data-each ctx (n ∷ nodes) have zero d l = have.0
data-each ctx (n ∷ nodes) have (suc k) d l = data-each ctx nodes have.1 k d (omega arith)

module _ (ctx : PerRequestAggSegCtx) (segment : Stored) where
  -- ---- one collector

  pub new-composite : (index : ℕ) (req : CompositeAggReqData) (is_leaf : Bool) (num_sources : ℕ)
      (collector : Composite Cache) (h : Held)
      → slice_get ctx.composite_req_data index ≡ Some req
      → num_sources ≡ length req.req.now.sources → IsNewComposite is_leaf num_sources collector
      → IsHandedTo collector.hands_on h → IsNew ctx segment h
      → IsNew ctx segment (Held.composite index collector h)
  new-composite index req is_leaf num_sources collector h at many own handed below = record {
    fits = ((req, at, omega (arith, many, own.room)), handed, below.fits);
    right = λ meaning same is.
        ([], 0, 0, λ other at_other. (own.empty other, refl), below.right meaning same is, refl);
    flushed = (own.waiting, below.flushed);
  }

  pub new-filter : (index : ℕ) (req : FilterAggReqData) (is_leaf : Bool)
      (collector : Filter Cache) (h : Held) → slice_get ctx.filter_req_data index ≡ Some req
      → IsNewFilter is_leaf collector → IsHandedTo collector.hands_on h → IsNew ctx segment h
      → IsNew ctx segment (Held.filter index collector h)
  new-filter index req is_leaf collector h at own handed below = record {
    fits = ((req, at), handed, below.fits);
    right = λ meaning same is. (
      [],
      own.empty (is_matching (meaning.query_at index) meaning.segment),
      below.right meaning same is,
    );
    flushed = (own.waiting, below.flushed);
  }

  pub new-metric : (index : ℕ) (req : MetricAggReqData) (collector : Metric)
      → slice_get ctx.stats_metric_req_data index ≡ Some req → MetricFor segment req collector []
      → IsNew ctx segment (Held.metric index collector)
  new-metric index req collector at own = record {
    fits = (req, at);
    right = λ meaning same is. (
      λ other at_other.
          let one : req ≡ other = cc (at, at_other) in
          subst (λ s. MetricFor s other collector []) (sym same)
          (subst (λ r. MetricFor segment r collector []) one own),
      refl,
    );
    flushed = tt;
  }

  -- ---- several

  are-more : (ps : List Plan) (hs : List Held) (p : Plan) (h : Held)
      → AreOf (plans_of ps) (helds_of hs) → IsOf p h
      → AreOf (plans_of (ps ++ p ∷ [])) (helds_of (hs ++ h ∷ []))
  are-more [] [] p h of one = (one, tt)
  are-more [] (k ∷ hs) p h of one = absurd of
  are-more (q ∷ ps) [] p h of one = absurd of
  are-more (q ∷ ps) (k ∷ hs) p h of one = (of.0, are-more ps hs p h of.1 one)

  fits-more : (hs : List Held) (h : Held) → AllFit ctx (helds_of hs) → Fits ctx h
      → AllFit ctx (helds_of (hs ++ h ∷ []))
  fits-more [] h all one = (one, tt)
  fits-more (k ∷ hs) h all one = (all.0, fits-more hs h all.1 one)

  flushed-more : (hs : List Held) (h : Held) → AreFlushed (helds_of hs) → IsFlushed h
      → AreFlushed (helds_of (hs ++ h ∷ []))
  flushed-more [] h all one = (one, tt)
  flushed-more (k ∷ hs) h all one = (all.0, flushed-more hs h all.1 one)

  for-more : (meaning : Meaning) (hs : List Held) (h : Held) (visits : ℕ)
      → AllFor meaning ctx (helds_of hs) [] visits → IsFor meaning ctx h [] 0
      → AllFor meaning ctx (helds_of (hs ++ h ∷ [])) [] visits
  for-more meaning [] h visits all one = (0, 0, one, refl, all)
  for-more meaning (k ∷ hs) h visits (own, others, first, rest, sum) one =
      (own, others, first, for-more meaning hs h others rest one, sum)

  pub new-more : (hs : List Held) (h : Held) → IsNew ctx segment (Held.group (helds_of hs))
      → IsNew ctx segment h → IsNew ctx segment (Held.group (helds_of (hs ++ h ∷ [])))
  new-more hs h all one = record {
    fits = fits-more hs h all.fits one.fits;
    right = λ meaning same is.
        for-more meaning hs h 0 (all.right meaning same is) (one.right meaning same is);
    flushed = flushed-more hs h all.flushed one.flushed;
  }

  pub group-more : (ps : List Plan) (hs : List Held) (p : Plan) (h : Held)
      → IsGroupOf (plans_of ps) (Held.group (helds_of hs)) → IsOf p h
      → IsGroupOf (plans_of (ps ++ p ∷ [])) (Held.group (helds_of (hs ++ h ∷ [])))
  group-more = are-more
