use Rattle.std.proofs.Common.{None, arith, false, refl}
use Rattle.agg_request_tree.proofs.RequestTrees.{height-out}
use Rattle.agg_engine_tree.specs.declared.segment_context.segment.origin.Origin.{Origin}
use Rattle.agg_engine_tree.proofs.lemmas.segment_context.NodeLists.{AreAddedUpTo-height}
use Rattle.agg_engine_tree.proofs.lemmas.segment_context.NodeLists.{AreAddedUpTo-more}
use Rattle.agg_engine_tree.proofs.lemmas.segment_context.NodeLists.{AreAddedUpTo-ready}
use Rattle.agg_engine_tree.proofs.lemmas.segment_context.Nodes.{node-added, ready-below, ready-own}
use Rattle.agg_engine_tree.proofs.lemmas.segment_context.Tops.{node-knows, nodes-know}
use Rattle.agg_engine_tree.proofs.segment_context.segment.+nodes.Goals as goal

pub aggregation_node-add_data-requires : goal.aggregation_node-add_data-requires
aggregation_node-add_data-requires g t c =
    ready-own c.args.from.now c.args.ctx.now c.args.name.now c.args.aggregation.now c.requires

pub aggregation_node-request_nodes-requires : goal.aggregation_node-request_nodes-requires
aggregation_node-request_nodes-requires g t c κs within = (
  omega (arith, c.decreases, height-out c.args.aggregation.now),
  (
    within,
    ready-below c.args.from.now c.args.ctx.now c.args.name.now c.args.aggregation.now c.requires _
        (c.in_ok-kind.kind, c.in_ok-kind.idx_in_req_data) c.add_data.new.ctx refl refl
        c.in_ok-kind.ensures.ok,
  ),
)

pub aggregation_node-returns-clause-ok : goal.aggregation_node-returns-clause-ok
aggregation_node-returns-clause-ok g t c = λ made.
    let from = c.args.from.now in
    let below : Origin = record from { page = None; is_top_level = false } in
    node-added made from below c.args.name.now c.args.aggregation.now c.in_ok-kind.kind
    c.in_ok-kind.idx_in_req_data c.in_ok-children.children c.args.ctx.now c.add_data.new.ctx
    c.request_nodes.new.ctx refl refl refl c.in_ok-kind.ensures.ok c.in_ok-children.ensures.ok

pub aggregation_node-returns-clause-top : goal.aggregation_node-returns-clause-top
aggregation_node-returns-clause-top g t c =
    let from = c.args.from.now in
    let ready = ready-below c.args.from.now c.args.ctx.now c.args.name.now
    c.args.aggregation.now c.requires (record from { page = None; is_top_level = false })
    (c.in_ok-kind.kind, c.in_ok-kind.idx_in_req_data) c.add_data.new.ctx refl refl
    c.in_ok-kind.ensures.ok in
    node-knows c.add_data.new.ctx.filter_req_data c.request_nodes.new.ctx.filter_req_data
    (c.in_ok-children.ensures.ok ready.made ready.trees).kept.filters from.is_top_level
    c.in_ok-kind.kind c.in_ok-kind.idx_in_req_data c.in_ok-children.children
    c.in_ok-kind.ensures.top c.in_ok-children.ensures.top

pub request_nodes-aggregation_node-requires : goal.request_nodes-aggregation_node-requires
request_nodes-aggregation_node-requires g t c κs within = (
  omega (
    arith,
    c.decreases,
    AreAddedUpTo-height c.args.from.now c.args.request.now
        c.loop-name.name-iterator c.next.new.self c.in-Some.name.now c.in-Some.aggregation.now
        c.loop-name.nodes c.args.ctx.now c.loop-name.ctx c.loop-name.invariant.added
        c.in-Some.ensures.steps,
  ),
  (
    within,
    AreAddedUpTo-ready c.args.from.now c.args.request.now c.loop-name.name-iterator
        c.next.new.self c.in-Some.name.now c.in-Some.aggregation.now c.loop-name.nodes
        c.args.ctx.now c.loop-name.ctx c.loop-name.invariant.added c.in-Some.ensures.steps
        c.requires,
  ),
)

pub request_nodes-loop-name-preserved : goal.request_nodes-loop-name-preserved
request_nodes-loop-name-preserved g t c =
    let from = c.args.from.now in
    let ready = AreAddedUpTo-ready from c.args.request.now c.loop-name.name-iterator
    c.next.new.self c.in-Some.name.now c.in-Some.aggregation.now c.loop-name.nodes
    c.args.ctx.now c.loop-name.ctx c.loop-name.invariant.added c.in-Some.ensures.steps
    c.requires in
    record {
      added = AreAddedUpTo-more from c.args.request.now c.loop-name.name-iterator
          c.next.new.self c.in-Some.name.now c.in-Some.aggregation.now c.loop-name.nodes
          c.args.ctx.now c.loop-name.ctx c.loop-name.invariant.added c.in-Some.ensures.steps
          c.in_ok-aggregation_node.field-0 c.push.new.self c.aggregation_node.new.ctx
          c.in_ok-aggregation_node.ensures.ok c.in_ok-push.ensures.ok;
      top = nodes-know c.loop-name.ctx.filter_req_data c.aggregation_node.new.ctx.filter_req_data
          (c.in_ok-aggregation_node.ensures.ok ready.made ready.trees).kept.filters
          from.is_top_level
          c.loop-name.nodes c.in_ok-aggregation_node.field-0 c.push.new.self
          c.in_ok-push.ensures.ok c.loop-name.invariant.top c.in_ok-aggregation_node.ensures.top;
    }
