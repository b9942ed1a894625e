use Rattle.agg_engine_tests.proofs.lemmas.collectors.TakingTrees.{tree-new}
use Rattle.agg_engine_tests.proofs.collectors.tree.tree_in.Goals as goal

pub returns : goal.returns
returns c =
    tree-new c.args.agg_data.now.per_request c.args.reader.now c.tree_for.result c.requires
    c.tree_for.ensures.nodes c.tree_for.ensures.fits c.tree_for.ensures.right

pub tree_for-requires : goal.tree_for-requires
tree_for-requires c = (c.requires.meaning, c.requires.request, c.requires.context)
