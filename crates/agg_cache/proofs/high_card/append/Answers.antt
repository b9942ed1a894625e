use Rattle.std.proofs.Common.{◌∙◌, ◌++◌, ◌∷◌, [], ap, rules, sym}
use Rattle.std.proofs.lemmas.Result.{on_ok_weaker}
use Rattle.agg_cache.proofs.BatchesById.{pairs-last}
use Rattle.agg_cache.proofs.high_card.append.Goals as goal

pub returns-clause-pairs : goal.returns-clause-pairs
returns-clause-pairs c = on_ok_weaker c.push.result
    (λ more. pairs-last c.args.batches.now.items _ _ c.in-Some.last.now c.args.bucket_id
    c.args.doc_id (search rules) c.if-last-bucket_id.true
    (ap (λ batch. batch.bucket_id) (sym c.in-Some.ensures.value) ∙ c.if-last-bucket_id.true)
    (more ∙ ap (λ batch. batch.docs ++ c.args.doc_id ∷ []) c.in-Some.ensures.value))
    c.push.ensures.ok
