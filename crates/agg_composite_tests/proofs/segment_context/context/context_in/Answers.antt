use Rattle.std.proofs.Common.{subst, sym}
use Rattle.agg_request_tree.specs.Faults.{IsSoundRequest}
use Rattle.agg_engine_tree.specs.segment_context.Pages.{paged}
use Rattle.agg_composite_tests.proofs.segment_context.context.context_in.Goals as goal

pub segment_context-requires-clause-sound : goal.segment_context-requires-clause-sound
segment_context-requires-clause-sound g c =
    subst (λ page. IsSoundRequest (paged page c.args.request.now))
    (sym c.in_ok-params.ensures.page) c.in_ok-check_request.ensures.ok
