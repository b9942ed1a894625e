use Rattle.agg_engine_tree.specs.collector_tree.Call.{pairs_in, parents_in}
use Rattle.agg_engine_tree.specs.collector_tree.Tree.{held_of}
use Rattle.agg_engine.proofs.lemmas.snapshot_results.TakenTrees.{may-in_range, most-of, only-memory}
use Rattle.agg_engine.proofs.snapshot_results.taking.take.Goals as goal

pub hand-requires-clause-range : goal.hand-requires-clause-range
hand-requires-clause-range g c checked =
    may-in_range c.args.ctx.now (pairs_in c.args.call) (parents_in c.args.call)
    (held_of c.args.tree.now) c.requires.may

pub out_of_memory-requires : goal.out_of_memory-requires
out_of_memory-requires g c =
    only-memory c.args.ctx.now (pairs_in c.args.call) (parents_in c.args.call)
    (held_of c.args.tree.now) c.requires.may c.requires.low c.in-Err.error
    c.in-Err.ensures.refused

pub returns-in-Ok-clause-most : goal.returns-in-Ok-clause-most
returns-in-Ok-clause-most g c =
    most-of c.args.ctx.now (pairs_in c.args.call) (parents_in c.args.call)
    (held_of c.args.tree.now) c.args.steps.now c.hand.new.steps c.in-Ok.ensures.most

pub returns-in-Err-clause-most : goal.returns-in-Err-clause-most
returns-in-Err-clause-most g c =
    most-of c.args.ctx.now (pairs_in c.args.call) (parents_in c.args.call)
    (held_of c.args.tree.now) c.args.steps.now c.hand.new.steps c.in-Err.ensures.most
