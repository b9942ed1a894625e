-- Trees of collectors that take documents and add their results.
use Rattle.std.proofs.Common.{◌≡◌, ◌++◌, ℕ, List, [], Bool, Ok, Err, map, refl}
use Rattle.std.specs.Prelude.{IfOk, Result}
use Rattle.agg_segment.specs.Segment.{Stored}
use Rattle.agg_engine_tree.specs.segment_context.Context.{IsMeant, Meaning}
use Rattle.agg_engine_tree.specs.segment_context.Plan.{plan_of, plans_of}
use Rattle.agg_engine_tree.specs.declared.segment_context.context.PerRequestAggSegCtx.{
  PerRequestAggSegCtx,
}
use Rattle.agg_engine_tree.specs.collector_tree.Tree.{Fits, Held, IsFlushed, IsFor, IsGroupOf}
use Rattle.agg_engine_tree.specs.collector_tree.Tree.{Takes, held_of}
use Rattle.agg_engine_tree.specs.declared.collector_tree.tree.SegmentCollectorTree.{
  SegmentCollectorTree,
}
use Rattle.agg_engine_tree.specs.tree_results.Results.{MayAdd}
use Rattle.agg_engine_tree.proofs.lemmas.tree_results.ApartNames.{apart-group}
use Rattle.agg_engine.proofs.lemmas.snapshot_results.RightTrees.{right-more}
use Rattle.agg_engine_tests.specs.collectors.Trees.{IsContextIn, IsTreeFor}

module _ (ctx : PerRequestAggSegCtx) where
  -- a new tree took nothing
  pub tree-new : {E : Type 0} (segment : Stored) (made : Result SegmentCollectorTree E)
      → IsContextIn segment ctx
      → IfOk made (λ t. IsGroupOf (plans_of (map plan_of ctx.agg_tree)) (held_of t))
      → IfOk made (λ t. Fits ctx (held_of t))
      → IfOk made (λ t. (meaning : Meaning) → meaning.segment ≡ segment → IsMeant meaning ctx
      → IsFor meaning ctx (held_of t) [] 0)
      → IfOk made (λ t. IsTreeFor ctx (held_of t))
  tree-new segment (Err e) of nodes fits right = tt
  tree-new segment (Ok tree) of nodes fits right = record {
    request = of.request;
    meaning = of.meaning;
    names = of.names;
    taken = [];
    visits = 0;
    right = record {
      context = of.context;
      nodes = nodes;
      fits = fits;
      right = right of.meaning of.same of.context.meant;
    };
  }

  -- the context has a meaning, and is that of the tree
  pub tree-fits : (h : Held) → IsTreeFor ctx h
      → ((meaning : Meaning) × IsMeant meaning ctx) × Fits ctx h
  tree-fits h is = ((is.meaning, is.right.context.meant), is.right.fits)

  -- a tree stays one for all that it takes
  pub tree-more : (pairs : List (ℕ × ℕ)) (all : Bool) (old new : Held) (steps steps_now : ℕ)
      → Takes ctx pairs all old new steps steps_now → IsTreeFor ctx old → IsTreeFor ctx new
  tree-more pairs all old new steps steps_now took is =
      let now = right-more ctx is.request is.meaning pairs all old new steps steps_now took
      is.taken is.visits is.right in
      record {
        request = is.request;
        meaning = is.meaning;
        names = is.names;
        taken = is.taken ++ pairs;
        visits = now.0;
        right = now.1;
      }

  -- a tree in which nothing waits may add its results to none
  pub tree-adds : (h : Held) → IsTreeFor ctx h → IsFlushed h → MayAdd ctx h []
  tree-adds h is flushed = record {
    meaning = is.meaning;
    taken = is.taken;
    visits = is.visits;
    meant = is.right.context.meant;
    right = is.right.right;
    fits = is.right.fits;
    flushed = flushed;
    apart = apart-group is.meaning ctx h is.request (plans_of (map plan_of ctx.agg_tree))
        is.right.context.tree is.right.nodes is.names;
    absent = λ k d within. refl;
  }
