use Rattle.agg_request_tree.specs.Request.{with_builders}
use Rattle.agg_engine_tree.specs.segment_context.Pages.{paged}
use Rattle.agg_engine.proofs.lemmas.snapshot_results.AskedNames.{names-asked}
use Rattle.agg_engine_tests.proofs.collectors.tree.data_with.Goals as goal

pub returns : goal.returns
returns g c =
    let made = c.requires.0 in
    let page = c.args.context.now.page in
    let is = c.in_ok-segment_context.ensures.ok made c.requires.1 in
    record {
      request = paged page (with_builders made c.args.request.now);
      meaning = is.0;
      same = is.1;
      context = is.2;
      names = names-asked page made c.args.request.now c.in_ok-check_paged.ensures.names;
    }
