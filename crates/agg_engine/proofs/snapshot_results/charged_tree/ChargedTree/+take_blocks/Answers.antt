use Rattle.std.proofs.Common.{◌/◌, ◌++◌, false, length, subst, rules}
use Rattle.std.proofs.lemmas.Result.{IfErr-weaker, on_ok_weaker}
use Rattle.agg_cache.specs.Waiting.{under}
use Rattle.agg_engine_tree.specs.collector_tree.Tree.{held_of}
use Rattle.agg_engine_tree.proofs.lemmas.collector_tree.TakenParts.{takes-both}
use Rattle.agg_engine.specs.snapshot_results.ChargedTrees.{IsChargeCause}
use Rattle.agg_engine.specs.snapshot_results.Trees.{MayTake}
use Rattle.agg_engine.proofs.lemmas.snapshot_results.ChargedTrees.{cause-first, cause-second}
use Rattle.agg_engine.proofs.lemmas.snapshot_results.ChargedTrees.{charges-both, charges-within}
use Rattle.agg_engine.proofs.lemmas.snapshot_results.Refusals.{caused-by}
use Rattle.agg_engine.proofs.lemmas.snapshot_results.TakenParts.{may-first, may-second, most-both}
use Rattle.agg_engine.proofs.lemmas.snapshot_results.TakenParts.{most-first, under-cut}
use Rattle.agg_engine.proofs.snapshot_results.charged_tree.ChargedTree.+take_blocks.Goals as goal

pub take_blocks-requires : goal.take_blocks-requires
take_blocks-requires g t c κs within =
    let docs = c.args.docs.now in
    let first = c.split_at.result.0.now in
    let second = c.split_at.result.1.now in
    let cut = under-cut docs first second (length docs / 2) c.split_at.ensures.front
    c.split_at.ensures.back in
    let old = held_of c.args.self.now.tree in
    let many = c.if-docs-le-BLOCK.false in
    let front = c.split_at.ensures.front_len in
    let may : MayTake c.args.ctx.now old (under 0 first) =
    may-first c.args.ctx.now (under 0 first) (under 0 second) old
    (subst (MayTake c.args.ctx.now old) cut c.requires.may) in
    search rules

pub returns-in_err-take_blocks-clause-most : goal.returns-in_err-take_blocks-clause-most
returns-in_err-take_blocks-clause-most g t c =
    let docs = c.args.docs.now in
    let first = c.split_at.result.0.now in
    let second = c.split_at.result.1.now in
    let cut = under-cut docs first second (length docs / 2) c.split_at.ensures.front
    c.split_at.ensures.back in
    let old = held_of c.args.self.now.tree in
    rw (cut)
    (most-first c.args.ctx.now (under 0 first) (under 0 second) old c.args.steps.now
    c.take_blocks.new.steps c.in_err-take_blocks.ensures.most)

pub returns-in_err-take_blocks-clause-cause : goal.returns-in_err-take_blocks-clause-cause
returns-in_err-take_blocks-clause-cause g t c =
    let docs = c.args.docs.now in
    let first = c.split_at.result.0.now in
    let second = c.split_at.result.1.now in
    let cut = under-cut docs first second (length docs / 2) c.split_at.ensures.front
    c.split_at.ensures.back in
    let old = c.args.self.now in
    let limits = c.args.limits.now in
    let error = c.in_err-take_blocks.field-0.0 in
    rw (cut)
    (caused-by (IsChargeCause c.args.ctx.now (under 0 first ++ under 0 second) old limits)
    c.from_residual.result error c.from_residual.ensures.1
    (cause-first c.args.ctx.now (under 0 first) (under 0 second) old limits error
    c.in_err-take_blocks.ensures.cause))

pub take_blocks-requires-2 : goal.take_blocks-requires-2
take_blocks-requires-2 g t c κs within =
    let docs = c.args.docs.now in
    let first = c.split_at.result.0.now in
    let second = c.split_at.result.1.now in
    let cut = under-cut docs first second (length docs / 2) c.split_at.ensures.front
    c.split_at.ensures.back in
    let old = held_of c.args.self.now.tree in
    let many = c.if-docs-le-BLOCK.false in
    let back = c.split_at.ensures.back_len in
    let may : MayTake c.args.ctx.now (held_of c.take_blocks.new.self.tree) (under 0 second) =
    may-second c.args.ctx.now (under 0 first) (under 0 second) old
    (held_of c.take_blocks.new.self.tree) c.args.steps.now c.take_blocks.new.steps
    c.in_ok-take_blocks.ensures.takes
    (subst (MayTake c.args.ctx.now old) cut c.requires.may) in
    let charged = charges-within c.args.self.now c.take_blocks.new.self c.args.limits.now
    c.take_blocks.new.limits c.in_ok-take_blocks.ensures.charges c.requires.charged in
    search rules

pub returns-clause-takes : goal.returns-clause-takes
returns-clause-takes g t c =
    let docs = c.args.docs.now in
    let first = c.split_at.result.0.now in
    let second = c.split_at.result.1.now in
    let cut = under-cut docs first second (length docs / 2) c.split_at.ensures.front
    c.split_at.ensures.back in
    rw (cut) (on_ok_weaker c.take_blocks-2.result
    (takes-both c.args.ctx.now (under 0 first) (under 0 second) (held_of c.args.self.now.tree)
    (held_of c.take_blocks.new.self.tree) c.args.steps.now c.take_blocks.new.steps
    c.in_ok-take_blocks.ensures.takes false (held_of c.take_blocks-2.new.self.tree)
    c.take_blocks-2.new.steps) c.take_blocks-2.ensures.takes)

pub returns-clause-most : goal.returns-clause-most
returns-clause-most g t c =
    let docs = c.args.docs.now in
    let first = c.split_at.result.0.now in
    let second = c.split_at.result.1.now in
    let cut = under-cut docs first second (length docs / 2) c.split_at.ensures.front
    c.split_at.ensures.back in
    rw (cut)
    (most-both c.args.ctx.now (under 0 first) (under 0 second) (held_of c.args.self.now.tree)
    (held_of c.take_blocks.new.self.tree) c.args.steps.now c.take_blocks.new.steps
    c.in_ok-take_blocks.ensures.takes c.take_blocks-2.new.steps c.take_blocks-2.ensures.most)

pub returns-clause-charges : goal.returns-clause-charges
returns-clause-charges g t c =
    charges-both c.args.self.now c.take_blocks.new.self c.args.limits.now c.take_blocks.new.limits
    c.in_ok-take_blocks.ensures.charges c.take_blocks-2.new.self c.take_blocks-2.new.limits
    c.take_blocks-2.ensures.charges

pub returns-clause-cause : goal.returns-clause-cause
returns-clause-cause g t c =
    let docs = c.args.docs.now in
    let first = c.split_at.result.0.now in
    let second = c.split_at.result.1.now in
    let cut = under-cut docs first second (length docs / 2) c.split_at.ensures.front
    c.split_at.ensures.back in
    let old = c.args.self.now in
    let mid = c.take_blocks.new.self in
    let limits = c.args.limits.now in
    rw (cut)
    (IfErr-weaker c.take_blocks-2.result
    (IsChargeCause c.args.ctx.now (under 0 second) mid c.take_blocks.new.limits)
    (IsChargeCause c.args.ctx.now (under 0 first ++ under 0 second) old limits)
    (cause-second c.args.ctx.now (under 0 first) (under 0 second) old limits mid
    c.take_blocks.new.limits c.args.steps.now c.take_blocks.new.steps
    c.in_ok-take_blocks.ensures.takes c.in_ok-take_blocks.ensures.charges)
    c.take_blocks-2.ensures.cause)
