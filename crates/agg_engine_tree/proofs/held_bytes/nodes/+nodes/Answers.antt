use Rattle.std.proofs.Common.{◌≡◌, ◌+◌, [], ◌∷◌, None, length, ap, ◌∙◌, subst, arith, rules}
use Rattle.std.proofs.lemmas.List.{take_all}
use Rattle.agg_segment.specs.Segment.{documents_of}
use Rattle.agg_request_tree.specs.Request.{agg_of, below_of}
use Rattle.agg_request_tree.specs.charges.Charges.{fixed_charge}
use Rattle.agg_engine_tree.specs.declared.segment_context.node.AggRefNode.{the_lemmas}
use Rattle.agg_engine_tree.specs.held_bytes.Checked.{IsChecked}
use Rattle.agg_engine_tree.proofs.lemmas.held_bytes.Checked.{is-checked, none-checked}
use Rattle.agg_engine_tree.proofs.lemmas.held_bytes.FixedCharges.{as-many, charge-node, charge-part}
use Rattle.agg_engine_tree.proofs.lemmas.held_bytes.FixedCharges.{next-read, node-asked}
use Rattle.agg_engine_tree.proofs.lemmas.held_bytes.FixedCharges.{nodes-below}
use Rattle.agg_engine_tree.proofs.held_bytes.nodes.+nodes.Goals as goal

-- ---- a node

pub charge_of_node-charge_of_nodes-requires : goal.charge_of_node-charge_of_nodes-requires
charge_of_node-charge_of_nodes-requires t c =
    let r = c.requires in (
      search (rules, the_lemmas),
      (
        r.0,
        below_of r.1.1,
        nodes-below r.0 c.args.ctx.now r.1 c.args.node.now c.as_slice.result.now r.2
            c.as_slice.ensures,
      ),
    )

pub charge_of_node-own_charge-requires : goal.charge_of_node-own_charge-requires
charge_of_node-own_charge-requires t c =
    let r = c.requires in
    (r.0, agg_of r.1.1, node-asked r.0 c.args.ctx.now r.1 c.args.node.now r.2)

pub charge_of_node-returns-in_err-below : goal.charge_of_node-returns-in_err-below
charge_of_node-returns-in_err-below t c meaning a of =
    let d = length (documents_of meaning.segment) in
    let below = nodes-below meaning c.args.ctx.now a c.args.node.now c.as_slice.result.now of
    c.as_slice.ensures in
    none-checked (fixed_charge (a ∷ []) d) c.from_residual.result c.from_residual.ensures
    (omega (arith, c.in_err-below.ensures meaning (below_of a.1) below, charge-node d a))

pub charge_of_node-returns : goal.charge_of_node-returns
charge_of_node-returns t c meaning a of =
    let d = length (documents_of meaning.segment) in
    let ctx = c.args.ctx.now in
    let below = nodes-below meaning ctx a c.args.node.now c.as_slice.result.now of
    c.as_slice.ensures in
    let sum : c.in_ok-below.below + c.own_charge.result ≡ fixed_charge (a ∷ []) d = omega (
      arith,
      c.in_ok-below.ensures meaning (below_of a.1) below,
      c.own_charge.ensures meaning (agg_of a.1) (node-asked meaning ctx a c.args.node.now of),
      charge-node d a,
    ) in
    subst (λ n. IsChecked n c.checked_add.result) sum
    (is-checked (c.in_ok-below.below + c.own_charge.result) c.checked_add.result
    c.checked_add.ensures)

-- ---- several

pub charge_of_nodes-charge_of_node-requires : goal.charge_of_nodes-charge_of_node-requires
charge_of_nodes-charge_of_node-requires t c =
    let r = c.requires in
    let next = next-read r.0 c.args.ctx.now 0 r.1 c.args.nodes.now c.loop-node.node-index
    c.node-item.result r.2 c.loop-node-test.true c.node-item.is in
    (search (rules, the_lemmas), (r.0, next.a, next.of))

pub charge_of_nodes-returns-in_err-charge_of_node :
    goal.charge_of_nodes-returns-in_err-charge_of_node
charge_of_nodes-returns-in_err-charge_of_node t c meaning request of =
    let d = length (documents_of meaning.segment) in
    let i = c.loop-node.node-index in
    let next = next-read meaning c.args.ctx.now d request c.args.nodes.now i c.node-item.result of
    c.loop-node-test.true c.node-item.is in
    none-checked (fixed_charge request d) c.from_residual.result c.from_residual.ensures (omega (
      arith,
      c.in_err-charge_of_node.ensures meaning next.a next.of,
      next.more,
      charge-part d request (i + 1),
    ))

pub charge_of_nodes-returns-in_err-bytes : goal.charge_of_nodes-returns-in_err-bytes
charge_of_nodes-returns-in_err-bytes t c meaning request of =
    let d = length (documents_of meaning.segment) in
    let i = c.loop-node.node-index in
    let next = next-read meaning c.args.ctx.now d request c.args.nodes.now i c.node-item.result of
    c.loop-node-test.true c.node-item.is in
    none-checked (fixed_charge request d) c.from_residual-in_err-bytes.result
    c.from_residual-in_err-bytes.ensures (omega (
      arith,
      is-checked (c.loop-node.bytes + c.in_ok-charge_of_node.field-0) None c.in_err-bytes.ensures,
      c.in_ok-charge_of_node.ensures meaning next.a next.of,
      c.loop-node.invariant meaning request of,
      next.more,
      charge-part d request (i + 1),
    ))

pub charge_of_nodes-loop-node-preserved : goal.charge_of_nodes-loop-node-preserved
charge_of_nodes-loop-node-preserved t c meaning request of =
    let d = length (documents_of meaning.segment) in
    let next = next-read meaning c.args.ctx.now d request c.args.nodes.now c.loop-node.node-index
    c.node-item.result of c.loop-node-test.true c.node-item.is in
    omega (
      arith,
      c.in_ok-charge_of_node.ensures meaning next.a next.of,
      c.in_ok-bytes.ensures.1,
      c.loop-node.invariant meaning request of,
      next.more,
    )

pub charge_of_nodes-returns : goal.charge_of_nodes-returns
charge_of_nodes-returns t c meaning request of =
    let all = as-many meaning c.args.ctx.now request c.args.nodes.now of in
    c.loop-node.invariant meaning request of
    ∙ ap (λ aggs. fixed_charge aggs (length (documents_of meaning.segment)))
    (take_all c.loop-node.node-index request (omega (arith, all, c.loop-node-test.false)))
