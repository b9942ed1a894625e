use Rattle.agg_engine_tree.specs.segment_context.Additions.{page_of}
use Rattle.agg_engine_tree.proofs.lemmas.segment_context.Pages.{sound-sources}
use Rattle.agg_engine_tree.proofs.segment_context.segment.own.add_composite.Goals as goal

pub accessors_for-requires : goal.accessors_for-requires
accessors_for-requires c = record {
  sound = sound-sources (page_of c.args.from.now) c.args.name.now c.args.composite.now
      c.as_slice-sources.result.now c.page_for-size.result.1.now c.as_slice-sources.ensures
      c.page_for-size.ensures.after c.requires;
}
