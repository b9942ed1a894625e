use Rattle.std.proofs.Common.{subst, sym}
use Rattle.agg_request_tree.specs.Faults.{IsSoundRequest}
use Rattle.agg_engine_tree.specs.segment_context.Pages.{paged}
use Rattle.agg_engine_tests.proofs.snapshot_results.results.shown_of.Goals as goal

pub shown-requires : goal.shown-requires
shown-requires g c =
    record {
      asked = record {
        trees = c.in_ok-params.ensures.of;
        sound = subst (λ page. IsSoundRequest (paged page c.args.request.now))
            (sym c.in_ok-params.ensures.page) c.in_ok-check_request.ensures.ok;
        names = c.in_ok-check_request.ensures.names;
      };
    }
