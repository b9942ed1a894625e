use Rattle.std.proofs.Common.{subst, sym}
use Rattle.agg_engine_tree.specs.held_bytes.Nodes.{AreNodesOf}
use Rattle.agg_engine_tree.proofs.held_bytes.nodes.fixed_bytes.Goals as goal

pub charge_of_nodes-requires : goal.charge_of_nodes-requires
charge_of_nodes-requires c =
    let r = c.requires in (
      r.0,
      r.1,
      subst (λ nodes. AreNodesOf r.0 c.args.ctx.now r.1 nodes) (sym c.as_slice.ensures)
          (record { meant = r.2.meant; asked = r.2.tree }),
    )

pub returns : goal.returns
returns c meaning request of =
    c.charge_of_nodes.ensures meaning request
    (subst (λ nodes. AreNodesOf meaning c.args.ctx.now request nodes) (sym c.as_slice.ensures)
    (record { meant = of.meant; asked = of.tree }))
