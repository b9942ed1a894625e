use Rattle.std.proofs.lemmas.Result.{on_ok_weaker}
use Rattle.agg_engine_tree.specs.collector_tree.Tree.{held_of}
use Rattle.agg_engine_tests.proofs.lemmas.collectors.TakingTrees.{tree-fits, tree-more}
use Rattle.agg_engine_tests.proofs.collectors.tree.take_all.Goals as goal

pub collect-requires-clause-fits : goal.collect-requires-clause-fits
collect-requires-clause-fits g c =
    let ctx = c.args.agg_data.now.per_request in
    tree-fits ctx (held_of c.prepare_max_bucket.new.self)
    (tree-more ctx _ _ (held_of c.args.tree.now) (held_of c.prepare_max_bucket.new.self) _ _
    (c.in_ok-prepare_max_bucket.ensures.ok 0) c.requires)

pub collect_multiple-requires-clause-fits : goal.collect_multiple-requires-clause-fits
collect_multiple-requires-clause-fits g c =
    let ctx = c.args.agg_data.now.per_request in
    let prepared = tree-more ctx _ _ (held_of c.args.tree.now)
    (held_of c.prepare_max_bucket.new.self) _ _ (c.in_ok-prepare_max_bucket.ensures.ok 0)
    c.requires in
    tree-fits ctx (held_of c.collect.new.self)
    (tree-more ctx _ _ (held_of c.prepare_max_bucket.new.self) (held_of c.collect.new.self) _ _
    c.in_ok-collect.ensures.ok prepared)

pub flush-requires-clause-fits : goal.flush-requires-clause-fits
flush-requires-clause-fits g c =
    let ctx = c.args.agg_data.now.per_request in
    let prepared = tree-more ctx _ _ (held_of c.args.tree.now)
    (held_of c.prepare_max_bucket.new.self) _ _ (c.in_ok-prepare_max_bucket.ensures.ok 0)
    c.requires in
    let one = tree-more ctx _ _ (held_of c.prepare_max_bucket.new.self)
    (held_of c.collect.new.self) _ _ c.in_ok-collect.ensures.ok prepared in
    tree-fits ctx (held_of c.collect_multiple.new.self)
    (tree-more ctx _ _ (held_of c.collect.new.self) (held_of c.collect_multiple.new.self) _ _
    c.in_ok-collect_multiple.ensures.ok one)

pub returns-clause-tree : goal.returns-clause-tree
returns-clause-tree g c =
    let ctx = c.args.agg_data.now.per_request in
    let prepared = tree-more ctx _ _ (held_of c.args.tree.now)
    (held_of c.prepare_max_bucket.new.self) _ _ (c.in_ok-prepare_max_bucket.ensures.ok 0)
    c.requires in
    let one = tree-more ctx _ _ (held_of c.prepare_max_bucket.new.self)
    (held_of c.collect.new.self) _ _ c.in_ok-collect.ensures.ok prepared in
    let both = tree-more ctx _ _ (held_of c.collect.new.self)
    (held_of c.collect_multiple.new.self) _ _ c.in_ok-collect_multiple.ensures.ok one in
    on_ok_weaker c.flush.result
    (λ took. tree-more ctx _ _ (held_of c.collect_multiple.new.self) (held_of c.flush.new.self)
    _ _ took both) c.flush.ensures.ok
