use Rattle.agg_segment.specs.Segment.{documents_at}
use Rattle.agg_engine_tree.proofs.lemmas.uncut.Plans.{plans-same}
use Rattle.agg_engine_tree.proofs.lemmas.uncut.StartRanges.{tells-request}
use Rattle.agg_engine_tree.proofs.uncut.ranges.are_starts_in_range.Goals as goal

pub are_nodes_in_range-requires : goal.are_nodes_in_range-requires
are_nodes_in_range-requires c =
    let context = c.requires in (
      context.0,
      context.1,
      context.2.meant,
      plans-same context.0 c.args.ctx.now context.1 c.args.ctx.now.agg_tree c.as_slice.result.now
          c.as_slice.ensures context.2.tree,
    )

pub returns : goal.returns
returns c meaning request context =
    let tree = plans-same meaning c.args.ctx.now request c.args.ctx.now.agg_tree
    c.as_slice.result.now c.as_slice.ensures context.tree in
    tells-request (documents_at meaning.segment c.args.docs.now) c.are_nodes_in_range.result request
    (c.are_nodes_in_range.ensures meaning request context.meant tree)
