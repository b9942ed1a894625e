use Rattle.std.proofs.Common.{length, replicate, sym, ap, ◌∙◌, ◌++◌}
use Rattle.std.proofs.lemmas.List.{length-map, length-replicate}
use Rattle.agg_segment.specs.Query.{matches}
use Rattle.agg_segment.specs.Segment.{document_at, documents_at}
use Rattle.agg_request_tree.specs.Uncut.{uncut_lists_of}
use Rattle.agg_engine_tree.specs.uncut.Uncut.{lengths_of, repeated}
use Rattle.agg_engine_tree.proofs.lemmas.uncut.Plans.{plans-same}
use Rattle.agg_engine_tree.proofs.lemmas.uncut.WeighedLists.{cut-ones, repeated-once}
use Rattle.agg_engine_tree.proofs.uncut.uncut.uncut_lengths.Goals as goal

pub add_nodes-requires : goal.add_nodes-requires
add_nodes-requires c =
    let context = c.requires.context in (
      context.0,
      context.1,
      record { segment = context.2; meant = context.3.meant; within = c.requires.docs },
      plans-same context.0 c.args.ctx.now context.1 c.args.ctx.now.agg_tree c.as_slice.result.now
          c.as_slice.ensures context.3.tree,
    )

pub returns : goal.returns
returns c meaning request is context =
    let docs = c.args.docs.now in
    let documents = documents_at c.args.segment.now docs in
    let ones = replicate (length docs) 1 in
    let as_many = length-map docs (document_at c.args.segment.now) in
    let tree = plans-same meaning c.args.ctx.now request c.args.ctx.now.agg_tree
    c.as_slice.result.now c.as_slice.ensures context.tree in
    let added = c.in_ok-add_nodes.ensures meaning request
    (record { segment = is; meant = context.meant; within = c.requires.docs }) tree in
    let once =
    ap (λ n. repeated (replicate n 1) documents) (sym as_many) ∙ repeated-once documents in
    added.adds ones (length-replicate (length docs) 1 ∙ sym as_many) (cut-ones (length docs))
    ∙ (λ j. c.new-counts.ensures.items j ++ lengths_of (uncut_lists_of matches request (once j)))
