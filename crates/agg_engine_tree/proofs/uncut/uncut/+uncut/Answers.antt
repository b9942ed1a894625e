use Rattle.std.proofs.Common.{◌≡◌, ◌+◌, ◌≤◌, length, take, fold, sym, ap, ◌∙◌, subst}
use Rattle.std.proofs.Common.{rules, arith}
use Rattle.std.specs.Io.Iter.{u64_saturate}
use Rattle.std.proofs.lemmas.List.{length-map, nil_from_length, take_all}
use Rattle.std.proofs.lemmas.Result.{on_ok_weaker}
use Rattle.agg_segment.specs.Query.{matches}
use Rattle.agg_segment.specs.Segment.{document_at, documents_at}
use Rattle.agg_segment.specs.declared.query.QueryTree.{QueryTree}
use Rattle.agg_request_tree.specs.Request.{Request, agg_of, below_of}
use Rattle.agg_request_tree.specs.Uncut.{uncut_lists_of}
use Rattle.agg_engine_tree.specs.declared.segment_context.node.AggRefNode.{the_lemmas}
use Rattle.agg_engine_tree.specs.uncut.Block.{AddsFor}
use Rattle.agg_engine_tree.specs.uncut.Weights.{weights_of}
use Rattle.agg_engine_tree.proofs.lemmas.uncut.AddedLengths.{adds-inner, adds-leaf, adds-more}
use Rattle.agg_engine_tree.proofs.lemmas.uncut.AddedLengths.{adds-none}
use Rattle.agg_engine_tree.proofs.lemmas.uncut.Plans.{plan-asked, plan-at, plan-below, plan-leaf}
use Rattle.agg_engine_tree.proofs.lemmas.uncut.Plans.{plans-long, request-more}
use Rattle.agg_engine_tree.proofs.uncut.uncut.+uncut.Goals as goal

pub add_node-new-own_data-requires : goal.add_node-new-own_data-requires
add_node-new-own_data-requires t c =
    let asked = plan-asked c.requires.0 c.args.block.now.ctx.now c.requires.1 c.requires.2
    c.args.node.now c.requires.4 in (
      c.requires.0,
      c.requires.1,
      agg_of c.requires.2,
      c.requires.3.segment,
      c.requires.3.meant,
      asked,
    )

pub add_node-returns-then-is_empty : goal.add_node-returns-then-is_empty
add_node-returns-then-is_empty t c meaning name a given planned =
    let block = c.args.block.now in
    let docs = block.docs.now in
    let asked = plan-asked meaning block.ctx.now name a c.args.node.now planned in
    let own_data = c.new-own_data.ensures meaning name (agg_of a) given.segment given.meant asked in
    let empty : length c.as_slice-below.result.now ≡ 0 = search rules in
    let none = sym c.as_slice-below.ensures ∙ nil_from_length c.as_slice-below.result.now empty in
    adds-leaf (documents_at block.segment.now docs) (weights_of c.args.weights.now (length docs)) a
    c.num_listed.result c.args.counts.now.items c.push.new.self.items
    (plan-leaf meaning block.ctx.now name a c.args.node.now none planned)
    (λ exact long cut. c.num_listed.ensures block.segment.now (agg_of a) exact (record {
      node_data = own_data;
      within = given.within;
      as_many = long ∙ length-map docs (document_at block.segment.now);
      weights_cut = cut;
    }))
    c.in_ok-push.ensures.items

pub add_node-add_nodes-requires : goal.add_node-add_nodes-requires
add_node-add_nodes-requires t c =
    let below = plan-below c.requires.0 c.args.block.now.ctx.now c.requires.1 c.requires.2
    c.args.node.now c.as_slice-below.result.now c.as_slice-below.ensures c.requires.4 in
    (search (rules, the_lemmas), (c.requires.0, below_of c.requires.2, c.requires.3, below))

pub add_node-returns : goal.add_node-returns
add_node-returns t c meaning name a given planned =
    let block = c.args.block.now in
    let docs = block.docs.now in
    let asked = plan-asked meaning block.ctx.now name a c.args.node.now planned in
    let own_data = c.new-own_data.ensures meaning name (agg_of a) given.segment given.meant asked in
    let children = plan-below meaning block.ctx.now name a c.args.node.now
    c.as_slice-below.result.now c.as_slice-below.ensures planned in
    on_ok_weaker c.add_nodes.result
    (λ below.
    adds-inner (documents_at block.segment.now docs) (weights_of c.args.weights.now (length docs)) a
    c.deref-2.result.now c.total.result c.args.counts.now.items c.push-2.new.self.items
    c.add_nodes.new.counts.items
    (λ exact long cut. c.deref-2.ensures.value
    ∙ c.in_ok-own.ensures block.segment.now (agg_of a) exact (record {
      node_data = own_data;
      within = given.within;
      as_many = long ∙ length-map docs (document_at block.segment.now);
      weights_cut = cut;
    }))
    (c.total.ensures ∙ ap (λ ns. fold (λ s n. u64_saturate (s + n)) 0 ns)
    (c.deref.ensures.value ∙ sym c.deref-2.ensures.value))
    c.in_ok-push-2.ensures.items below)
    (c.add_nodes.ensures meaning (below_of a) given children)

pub add_nodes-loop-node-init : goal.add_nodes-loop-node-init
add_nodes-loop-node-init t c meaning request given planned =
    let docs = c.args.block.now.docs.now in
    adds-none (documents_at c.args.block.now.segment.now docs)
    (weights_of c.args.weights.now (length docs)) c.args.counts.now.items

pub add_nodes-add_node-requires : goal.add_nodes-add_node-requires
add_nodes-add_node-requires t c =
    let at = plan-at c.requires.0 c.args.block.now.ctx.now c.requires.1 c.args.nodes.now
    c.loop-node.node-index c.node-item.result c.loop-node-test.true c.node-item.is c.requires.3 in
    (search (rules, the_lemmas), (c.requires.0, at.0.0, at.0.1, c.requires.2, at.2))

pub add_nodes-loop-node-preserved : goal.add_nodes-loop-node-preserved
add_nodes-loop-node-preserved t c meaning request given planned =
    let block = c.args.block.now in
    let docs = block.docs.now in
    let i = c.loop-node.node-index in
    let at = plan-at meaning block.ctx.now request c.args.nodes.now i c.node-item.result
    c.loop-node-test.true c.node-item.is planned in
    adds-more (documents_at block.segment.now docs) (weights_of c.args.weights.now (length docs))
    (take i request) (take (i + 1) request) at.0 c.args.counts.now.items c.loop-node.counts.items
    c.add_node.new.counts.items (c.loop-node.invariant meaning request given planned)
    (c.in_ok-add_node.ensures meaning at.0.0 at.0.1 given at.2) (request-more request i at.0 at.1)

pub add_nodes-returns : goal.add_nodes-returns
add_nodes-returns t c meaning request given planned =
    let block = c.args.block.now in
    let i = c.loop-node.node-index in
    let long = plans-long meaning block.ctx.now request c.args.nodes.now planned in
    let all : length request ≤ i = omega (arith, long, c.loop-node-test.false) in
    subst (λ (r : Request QueryTree). AddsFor (uncut_lists_of matches r) block c.args.weights.now
    c.args.counts.now.items c.loop-node.counts.items)
    (take_all i request all) (c.loop-node.invariant meaning request given planned)
