use Rattle.std.proofs.Common.{◌∙◌, subst}
use Rattle.agg_engine_tree.specs.declared.segment_context.node.AggKind.{AggKind}
use Rattle.agg_engine_tree.specs.held_bytes.Nodes.{IsNodeFor}
use Rattle.agg_engine_tree.proofs.lemmas.held_bytes.NodeCharges.{composite-charge, filter-charge}
use Rattle.agg_engine_tree.proofs.held_bytes.nodes.own_charge.Goals as goal

pub returns-in-Composite : goal.returns-in-Composite
returns-in-Composite c meaning asked of =
    c.get_memory_consumption.ensures
    ∙ composite-charge meaning c.args.ctx.now c.args.index asked
    (subst (λ (k : AggKind). IsNodeFor meaning c.args.ctx.now asked k c.args.index)
    c.in-Composite.is of) c.as_slice.result.now c.index-as_slice-index.result c.as_slice.ensures
    c.index-as_slice-index.is

pub returns-in-Filter : goal.returns-in-Filter
returns-in-Filter c meaning asked of =
    c.get_memory_consumption-in-Filter.ensures
    ∙ filter-charge meaning c.args.ctx.now c.args.index asked
    (subst (λ (k : AggKind). IsNodeFor meaning c.args.ctx.now asked k c.args.index)
    c.in-Filter.is of) c.as_slice-in-Filter.result.now c.index-as_slice-index-in-Filter.result
    c.as_slice-in-Filter.ensures c.index-as_slice-index-in-Filter.is
