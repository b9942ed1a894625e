use Rattle.std.proofs.Common.{◌+◌, ◌≤◌, List, true, false, length, take, drop, sym, subst}
use Rattle.std.proofs.Common.{rules, arith}
use Rattle.std.proofs.lemmas.List.{take_all}
use Rattle.agg_segment.specs.Segment.{documents_at}
use Rattle.agg_segment.specs.declared.query.QueryTree.{QueryTree}
use Rattle.agg_request_tree.specs.Request.{Request, agg_of, below_of, composites_in, composites_of}
use Rattle.agg_request_tree.specs.Request.{own_composite}
use Rattle.agg_request_tree.specs.declared.aggregation.CompositeAggregation.{CompositeAggregation}
use Rattle.agg_request_tree.proofs.RequestTrees.{composites-out}
use Rattle.agg_engine_tree.specs.declared.segment_context.node.AggRefNode.{the_lemmas}
use Rattle.agg_engine_tree.specs.uncut.Ranges.{TellsRange}
use Rattle.agg_engine_tree.proofs.lemmas.uncut.Plans.{plan-asked, plan-at, plan-below, plans-long}
use Rattle.agg_engine_tree.proofs.lemmas.uncut.StartRanges.{composites-more, composites-split}
use Rattle.agg_engine_tree.proofs.lemmas.uncut.StartRanges.{tells-before, tells-behind, tells-none}
use Rattle.agg_engine_tree.proofs.uncut.ranges.+ranges.Goals as goal

-- ---- a list of nodes

pub are_nodes_in_range-loop-node-init : goal.are_nodes_in_range-loop-node-init
are_nodes_in_range-loop-node-init t c meaning request meant planned =
    tells-none (documents_at meaning.segment c.args.docs.now)

pub are_nodes_in_range-is_node_in_range-requires :
    goal.are_nodes_in_range-is_node_in_range-requires
are_nodes_in_range-is_node_in_range-requires t c =
    let at = plan-at c.requires.0 c.args.ctx.now c.requires.1 c.args.nodes.now
    c.loop-node.node-index c.node-item.result c.loop-node-test.true c.node-item.is c.requires.3 in
    (search (rules, the_lemmas), (c.requires.0, at.0.0, at.0.1, c.requires.2, at.2))

pub are_nodes_in_range-returns-then-not-is_node_in_range :
    goal.are_nodes_in_range-returns-then-not-is_node_in_range
are_nodes_in_range-returns-then-not-is_node_in_range t c meaning request meant planned =
    let i = c.loop-node.node-index in
    let documents = documents_at meaning.segment c.args.docs.now in
    let at = plan-at meaning c.args.ctx.now request c.args.nodes.now i c.node-item.result
    c.loop-node-test.true c.node-item.is planned in
    let own : TellsRange false (composites_in at.0.1) documents =
    c.if-not-is_node_in_range.ensures meaning at.0.0 at.0.1 meant at.2 in
    let first : TellsRange false (composites_of (take (i + 1) request)) documents =
    subst (λ (cs : List CompositeAggregation). TellsRange false cs documents)
    (sym (composites-more request i at.0 at.1))
    (tells-behind documents false (composites_of (take i request)) (composites_in at.0.1)
    (c.loop-node.invariant meaning request meant planned) own) in
    subst (λ (cs : List CompositeAggregation). TellsRange false cs documents)
    (sym (composites-split request (i + 1)))
    (tells-before documents (composites_of (take (i + 1) request))
    (composites_of (drop (i + 1) request)) first)

pub are_nodes_in_range-loop-node-preserved : goal.are_nodes_in_range-loop-node-preserved
are_nodes_in_range-loop-node-preserved t c meaning request meant planned =
    let i = c.loop-node.node-index in
    let documents = documents_at meaning.segment c.args.docs.now in
    let at = plan-at meaning c.args.ctx.now request c.args.nodes.now i c.node-item.result
    c.loop-node-test.true c.node-item.is planned in
    let own : TellsRange true (composites_in at.0.1) documents =
    c.if-not-is_node_in_range.ensures meaning at.0.0 at.0.1 meant at.2 in
    subst (λ (cs : List CompositeAggregation). TellsRange true cs documents)
    (sym (composites-more request i at.0 at.1))
    (tells-behind documents true (composites_of (take i request)) (composites_in at.0.1)
    (c.loop-node.invariant meaning request meant planned) own)

pub are_nodes_in_range-returns : goal.are_nodes_in_range-returns
are_nodes_in_range-returns t c meaning request meant planned =
    let i = c.loop-node.node-index in
    let long = plans-long meaning c.args.ctx.now request c.args.nodes.now planned in
    let all : length request ≤ i = omega (arith, long, c.loop-node-test.false) in
    subst (λ (r : Request QueryTree).
    TellsRange true (composites_of r) (documents_at meaning.segment c.args.docs.now))
    (take_all i request all) (c.loop-node.invariant meaning request meant planned)

-- ---- a node

pub is_node_in_range-is_own_in_range-requires : goal.is_node_in_range-is_own_in_range-requires
is_node_in_range-is_own_in_range-requires t c =
    let asked = plan-asked c.requires.0 c.args.ctx.now c.requires.1 c.requires.2 c.args.node.now
    c.requires.4 in
    (c.requires.0, c.requires.1, agg_of c.requires.2, c.requires.3, asked)

pub is_node_in_range-are_nodes_in_range-requires :
    goal.is_node_in_range-are_nodes_in_range-requires
is_node_in_range-are_nodes_in_range-requires t c =
    let below = plan-below c.requires.0 c.args.ctx.now c.requires.1 c.requires.2 c.args.node.now
    c.as_slice.result.now c.as_slice.ensures c.requires.4 in
    (search (rules, the_lemmas), (c.requires.0, below_of c.requires.2, c.requires.3, below))

pub is_node_in_range-returns-then-is_own_in_range :
    goal.is_node_in_range-returns-then-is_own_in_range
is_node_in_range-returns-then-is_own_in_range t c meaning name a meant planned =
    let documents = documents_at meaning.segment c.args.docs.now in
    let asked = plan-asked meaning c.args.ctx.now name a c.args.node.now planned in
    let children = plan-below meaning c.args.ctx.now name a c.args.node.now c.as_slice.result.now
    c.as_slice.ensures planned in
    let own : TellsRange true (own_composite (agg_of a)) documents =
    c.if-is_own_in_range.ensures meaning name (agg_of a) meant asked in
    subst (λ (cs : List CompositeAggregation). TellsRange c.are_nodes_in_range.result cs documents)
    (sym (composites-out a))
    (tells-behind documents c.are_nodes_in_range.result (own_composite (agg_of a))
    (composites_of (below_of a)) own
    (c.are_nodes_in_range.ensures meaning (below_of a) meant children))

pub is_node_in_range-returns-else-is_own_in_range :
    goal.is_node_in_range-returns-else-is_own_in_range
is_node_in_range-returns-else-is_own_in_range t c meaning name a meant planned =
    let documents = documents_at meaning.segment c.args.docs.now in
    let asked = plan-asked meaning c.args.ctx.now name a c.args.node.now planned in
    let own : TellsRange false (own_composite (agg_of a)) documents =
    c.if-is_own_in_range.ensures meaning name (agg_of a) meant asked in
    subst (λ b. TellsRange b (composites_in a) documents) (sym c.if-is_own_in_range.false)
    (subst (λ (cs : List CompositeAggregation). TellsRange false cs documents)
    (sym (composites-out a))
    (tells-before documents (own_composite (agg_of a)) (composites_of (below_of a)) own))
