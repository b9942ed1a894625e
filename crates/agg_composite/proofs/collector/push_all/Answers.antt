use Rattle.std.proofs.Common.{◌∙◌, ◌++◌, append-nil, ap, sym}
use Rattle.std.proofs.lemmas.List.{take_all}
use Rattle.agg_cache.specs.Waiting.{docs_of, is_id}
use Rattle.agg_composite.proofs.PushedDocuments.{pushed-more}
use Rattle.agg_composite.proofs.collector.push_all.Goals as goal

pub loop-id-init : goal.loop-id-init
loop-id-init g c id = sym (append-nil _)

pub loop-id-preserved : goal.loop-id-preserved
loop-id-preserved g c id =
    pushed-more id (g.C.SubAggCache.waiting c.args.cache.now.0)
    (g.C.SubAggCache.waiting c.loop-id.cache.0) (g.C.SubAggCache.waiting c.push.new.self.0)
    c.args.pushes.now c.loop-id.id-index (0, 0) c.loop-id-test.true (c.loop-id.invariant id)
    (c.in_ok-push.ensures.ok id)

pub returns : goal.returns
returns g c id =
    c.loop-id.invariant id
    ∙ ap (λ ps. g.C.SubAggCache.waiting c.args.cache.now.0 id ++ docs_of (is_id id) ps)
    (take_all c.loop-id.id-index c.args.pushes.now c.loop-id-test.false)
