use Rattle.std.proofs.Common.{◌≡◌, [], ◌∷◌, subst, sym}
use Rattle.agg_segment.specs.Segment.{Stored}
use Rattle.agg_segment.specs.declared.query.QueryTree.{QueryTree}
use Rattle.agg_request_tree.specs.Request.{Request}
use Rattle.agg_engine.specs.snapshot_results.Contexts.{MayBeCollected}
use Rattle.agg_engine.specs.declared.snapshot_results.context.SegmentContext.{SegmentContext}
use Rattle.agg_engine.proofs.snapshot_results.segment.made_results.Goals as goal

-- the context of a composite that stands alone may be collected, since it is the segment's
ready-alone : (given context : SegmentContext) → given ≡ context → (request : Request QueryTree)
    (query : QueryTree) (segment : Stored)
    → MayBeCollected request query (segment ∷ []) (context ∷ [])
    → MayBeCollected request query (segment ∷ []) (given ∷ [])
ready-alone given context same request query segment =
    subst (λ (s : SegmentContext). MayBeCollected request query (segment ∷ []) (s ∷ [])) (sym same)

pub returns-in-Some-clause-results : goal.returns-in-Some-clause-results
returns-in-Some-clause-results g c = λ request query segment ready.
    c.listed_results.ensures.results request query segment
    (ready-alone c.in-Some.lone.context.now c.args.context.now c.in-Some.ensures.context request
    query segment ready)

pub returns-in-Some-clause-room : goal.returns-in-Some-clause-room
returns-in-Some-clause-room g c = λ request query segment ready.
    c.listed_results.ensures.room request query segment
    (ready-alone c.in-Some.lone.context.now c.args.context.now c.in-Some.ensures.context request
    query segment ready)
