use Rattle.std.proofs.Common.{[], ◌∷◌, ◌++◌, ◌∙◌, ap, get_or}
use Rattle.std.proofs.lemmas.Result.{on_ok_weaker}
use Rattle.agg_cache.proofs.BatchesById.{docs-set, numbered-set}
use Rattle.agg_cache.proofs.low_card.LowCardSubAggCacheSubAggCache.push.Goals as goal

pub invariant_of-self-2 : goal.invariant_of-self-2
invariant_of-self-2 c =
    numbered-set c.grow_to.new.batches.items c.args.bucket_id _ c.index_mut.result.now
    c.grow_to.ensures.numbered (ap (λ batch. batch.bucket_id) c.index_mut.ensures.value)

pub returns-clause-ok : goal.returns-clause-ok
returns-clause-ok c = on_ok_weaker c.push.result (λ more. docs-set c.grow_to.new.batches.items
    c.args.bucket_id c.args.doc_id _ c.index_mut.result.now c.in_ok-grow_to.ensures.room
    (more ∙ ap (λ batch. batch.docs ++ c.args.doc_id ∷ []) c.index_mut.ensures.value) _
    (λ id. c.grow_to.ensures.same id ∙ ap (λ lists. get_or lists id []) c.self.view_is))
    c.push.ensures.ok
