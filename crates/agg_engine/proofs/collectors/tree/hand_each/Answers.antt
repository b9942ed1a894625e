use Rattle.std.proofs.Common.{◌+◌, ◌<◌, ◌∷◌, [], false, length, take, drop, zip, subst, arith}
use Rattle.std.specs.Prelude.{IfErr}
use Rattle.std.proofs.lemmas.List.{length_push, take_all}
use Rattle.std.proofs.lemmas.Slice.Zip.{length-zip, zip_end, zip_turn}
use Rattle.agg_cache.specs.Waiting.{under}
use Rattle.agg_engine_tree.specs.collector_tree.Refusals.{IsRefused}
use Rattle.agg_engine_tree.specs.collector_tree.Tree.{Takes, held_of}
use Rattle.agg_engine_tree.proofs.lemmas.collector_tree.LaterParts.{later-refused}
use Rattle.agg_engine_tree.proofs.lemmas.collector_tree.PassedErrors.{error-passed}
use Rattle.agg_engine_tree.proofs.lemmas.collector_tree.TakenParts.{takes-both, takes-none}
use Rattle.agg_engine.proofs.lemmas.collectors.ZippedPairs.{first-of, next-zipped, split-zipped}
use Rattle.agg_engine.proofs.collectors.tree.hand_each.Goals as goal

pub loop-bucket_id-init : goal.loop-bucket_id-init
loop-bucket_id-init g c = record {
  took = takes-none c.args.ctx.now (held_of c.args.tree.now) c.args.steps.now;
  later = omega arith;
}

pub loop-bucket_id-preserved : goal.loop-bucket_id-preserved
loop-bucket_id-preserved g c =
    let ids = c.args.bucket_ids.now in
    let docs = c.args.docs.now in
    let l = c.loop-bucket_id in
    let i = length l.yielded in
    let id = c.in-Some.bucket_id.now in
    let doc = c.in-Some.doc.now in
    let here = zip_turn ids docs l.yielded c.into_iter-bucket_id-iterator.result
    l.bucket_id-iterator c.next.new.self c.next.result (cc) (cc) l.yielded_by
    (c.in-Some.bucket_id, c.in-Some.doc) c.in-Some.is c.next.ensures.steps in
    record {
      took = rw (
        length_push l.yielded (c.in-Some.bucket_id, c.in-Some.doc),
        next-zipped ids docs c.requires.lengths i id doc here.0 (here.2 id) (here.3 doc),
      ) (takes-both c.args.ctx.now (take i (zip ids docs)) (under id (doc ∷ []))
          (held_of c.args.tree.now) (held_of l.tree) c.args.steps.now l.steps l.invariant.took
          false (held_of c.hand.new.node) c.hand.new.steps c.in_ok-hand.ensures.ok);
      later = omega (arith, l.invariant.later, c.hand.ensures.later);
    }

pub returns-in_err-hand-clause-refused : goal.returns-in_err-hand-clause-refused
returns-in_err-hand-clause-refused g c =
    let ctx = c.args.ctx.now in
    let ids = c.args.bucket_ids.now in
    let docs = c.args.docs.now in
    let l = c.loop-bucket_id in
    let i = length l.yielded in
    let id = c.in-Some.bucket_id.now in
    let doc = c.in-Some.doc.now in
    let error = c.in_err-hand.field-0.0 in
    let here = zip_turn ids docs l.yielded c.into_iter-bucket_id-iterator.result
    l.bucket_id-iterator c.next.new.self c.next.result (cc) (cc) l.yielded_by
    (c.in-Some.bucket_id, c.in-Some.doc) c.in-Some.is c.next.ensures.steps in
    error-passed (λ r. IfErr r (IsRefused ctx (zip ids docs) ids (held_of c.args.tree.now)))
    c.from_residual.result error c.from_residual.ensures.1
    (subst (λ pairs. IsRefused ctx pairs ids (held_of c.args.tree.now) error)
    (split-zipped ids docs c.requires.lengths i id doc here.0 (here.2 id) (here.3 doc))
    (later-refused ctx (take i (zip ids docs)) (under id (doc ∷ [])) (drop (i + 1) (zip ids docs))
    (held_of c.args.tree.now) (held_of l.tree) c.args.steps.now l.steps l.invariant.took (id ∷ [])
    ids
    (first-of ids docs c.requires.lengths i id doc here.0 (here.2 id) (here.3 doc)
    (λ parent. parent < 4294967295))
    error c.in_err-hand.ensures.refused))

pub returns-clause-ok : goal.returns-clause-ok
returns-clause-ok g c =
    let ids = c.args.bucket_ids.now in
    let docs = c.args.docs.now in
    let l = c.loop-bucket_id in
    let end = zip_end ids docs l.yielded c.into_iter-bucket_id-iterator.result
    l.bucket_id-iterator c.next.new.self c.next.result (cc) (cc) l.yielded_by c.in-None.is
    c.next.ensures.steps in
    subst (λ pairs. Takes c.args.ctx.now pairs false (held_of c.args.tree.now)
    (held_of l.tree) c.args.steps.now l.steps)
    (take_all (length l.yielded) (zip ids docs) (omega (arith, end, length-zip ids docs)))
    l.invariant.took
