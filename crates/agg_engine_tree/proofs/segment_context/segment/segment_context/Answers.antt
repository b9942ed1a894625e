use Rattle.std.proofs.Common.{true}
use Rattle.agg_engine_tree.proofs.lemmas.segment_context.Contexts.{context-of, request-ready}
use Rattle.agg_engine_tree.proofs.segment_context.segment.segment_context.Goals as goal

pub request_nodes-requires : goal.request_nodes-requires
request_nodes-requires g c =
    request-ready
    (record {
      alloc = c.args.alloc;
      reader = c.args.reader;
      trees = c.trees.result;
      page = c.page.result;
      is_top_level = true;
    }) c.args.request.now
    (record {
      filter_req_data = c.new.result;
      stats_metric_req_data = c.new-2.result;
      composite_req_data = c.new-3.result;
      agg_tree = c.new-4.result;
    }) c.args.params.now.trees c.args.params.now.page
    (record { filters = c.new.ensures; composites = c.new-3.ensures }) c.trees.ensures
    c.page.ensures c.requires.trees c.requires.sound

pub returns-clause-ok : goal.returns-clause-ok
returns-clause-ok g c =
    context-of
    (record {
      alloc = c.args.alloc;
      reader = c.args.reader;
      trees = c.trees.result;
      page = c.page.result;
      is_top_level = true;
    }) c.args.request.now
    (record {
      filter_req_data = c.new.result;
      stats_metric_req_data = c.new-2.result;
      composite_req_data = c.new-3.result;
      agg_tree = c.new-4.result;
    }) c.args.params.now.trees c.args.params.now.page
    (record { filters = c.new.ensures; composites = c.new-3.ensures }) c.trees.ensures
    c.page.ensures c.in_ok-per_request.field-0 c.request_nodes.new.ctx
    c.in_ok-per_request.ensures.ok
