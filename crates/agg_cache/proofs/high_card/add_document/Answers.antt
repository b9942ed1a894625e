use Rattle.std.proofs.Common.{◌∙◌, ◌<◌, ◌%◌, ◌++◌, ◌∷◌, [], ap, arith, sym}
use Rattle.std.proofs.Math.ListN.{set}
use Rattle.std.proofs.Math.Nat.{mod-lt}
use Rattle.agg_cache.specs.Partitions.{items_of}
use Rattle.agg_cache.proofs.Partitions.{items-at, items-set, kept-same, on_err_given}
use Rattle.agg_cache.proofs.high_card.add_document.Goals as goal

pub returns-in_err-push-clause-err : goal.returns-in_err-push-clause-err
returns-in_err-push-clause-err c =
    let few : c.args.bucket_id % 16 < 16 = mod-lt c.args.bucket_id (omega arith) in
    on_err_given c.from_residual.result
    (kept-same c.args.partitions.now.items (c.args.bucket_id % 16) c.index_mut.result.now
    c.push.new.self (omega (arith, few, c.requires)) c.index_mut.ensures.value
    c.in_err-push.ensures.items)

pub returns-clause-ok : goal.returns-clause-ok
returns-clause-ok c =
    let kept = c.args.partitions.now.items in
    let at = c.args.bucket_id % 16 in
    let few : at < 16 = mod-lt c.args.bucket_id (omega arith) in
    items-set kept at c.push.new.self
    ∙ ap (set (items_of kept) at) (c.in_ok-push.ensures.items
    ∙ ap (λ pairs. pairs ++ (c.args.bucket_id, c.args.doc_id) ∷ [])
    (ap (λ part. part.items) c.index_mut.ensures.value
    ∙ sym (items-at kept at c.index_mut.result.now (omega (arith, few, c.requires)))))
