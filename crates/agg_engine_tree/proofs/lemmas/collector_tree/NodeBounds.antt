-- How many steps a composite's node of the code takes at most.
use Rattle.std.proofs.Common.{◌≡◌, ◌≤◌, ℕ, List, Result, Some, ap, ◌∙◌, subst}
use Rattle.std.specs.Prelude.{slice_get}
use Rattle.std.specs.declared.boxed.Box.{Box}
use Rattle.std.specs.declared.alloc.Global.{Global}
use Rattle.agg_values.specs.Names.{Named}
use Rattle.agg_values.specs.declared.after_key.AfterKey.{AfterKey}
use Rattle.agg_cache.specs.declared.error.CollectError.{CollectError}
use Rattle.agg_segment.specs.Segment.{Stored}
use Rattle.agg_composite.specs.accessor.Accessors as accessor
use Rattle.agg_composite.specs.declared.accessor.request_data.CompositeAggReqData.{
  CompositeAggReqData,
}
use Rattle.agg_composite.specs.Composite as c
use Rattle.agg_engine_tree.specs.segment_context.Context.{IsMeant, Meaning}
use Rattle.agg_engine_tree.specs.declared.segment_context.context.PerRequestAggSegCtx.{
  PerRequestAggSegCtx,
}
use Rattle.agg_engine_tree.specs.declared.collector_tree.tree.SegmentCollectorTree as declared
use declared.{SegmentCollectorTree as Tree}
use declared.{Composite}
use Rattle.agg_engine_tree.specs.collector_tree.Bound.{TakesMost}
use Rattle.agg_engine_tree.specs.collector_tree.Took.{CompositeAnswers}
use Rattle.agg_engine_tree.specs.collector_tree.Caches.{Cache}
use Rattle.agg_engine_tree.specs.collector_tree.Tree.{Fits, held_of}
use Rattle.agg_engine_tree.proofs.lemmas.collector_tree.Levels.{held-composite}
use Rattle.agg_engine_tree.proofs.lemmas.collector_tree.MostSteps.{composite-own-most}

module _ (ctx : PerRequestAggSegCtx) (pairs : List (ℕ × ℕ)) (node : Tree) (field : ℕ)
    (req : CompositeAggReqData) (at : slice_get ctx.composite_req_data field ≡ Some req)
    (fits : Fits ctx (held_of node)) (meant : (meaning : Meaning) × IsMeant meaning ctx)
    (collector : c.Composite Cache) (child : Box Tree Global)
    (e : node ≡ Composite field collector child) (old now : c.Composite Cache) (steps mid : ℕ)
    (result : Result (Unit {0}) CollectError)
    (answers : (segment : Stored) (after : Named AfterKey) → accessor.Fits segment after req
    → CompositeAnswers req segment after pairs old now steps mid result) where
  -- whatever it answers, its steps are at most three for each document that is counted, and never
  -- fewer than before
  pub node-bounds-composite : TakesMost ctx pairs (held_of node) steps mid × (steps ≤ mid)
  node-bounds-composite = (
    rw (e, held-composite field collector child)
        (composite-own-most ctx pairs field req at collector steps mid
        (λ segment after f. (answers segment after f).most) (held_of child.value)
        (subst (Fits ctx) (ap held_of e ∙ held-composite field collector child) fits)),
    (answers meant.0.segment (meant.0.after_at field) (meant.1.composites field req at).fits).later,
  )
