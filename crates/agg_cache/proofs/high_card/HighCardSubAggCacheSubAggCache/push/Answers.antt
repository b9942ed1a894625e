use Rattle.std.proofs.Common.{◌∙◌, ◌<◌, ◌%◌, [], ap, arith, get_or, subst, sym}
use Rattle.std.proofs.Math.Nat.{mod-lt}
use Rattle.std.proofs.lemmas.List.{length-map}
use Rattle.std.proofs.lemmas.Result.{on_err_weaker, on_ok_weaker}
use Rattle.agg_cache.specs.Partitions.{ArePartitioned, items_of, lists_of, with_document}
use Rattle.agg_cache.specs.Waiting.{one_more}
use Rattle.agg_cache.proofs.Partitions.{documents-more, either_way, list-at, on_err_given}
use Rattle.agg_cache.proofs.Partitions.{partitioned-more, same-documents, same-lists}
use Rattle.agg_cache.proofs.Partitions.{same-partitioned}
use Rattle.agg_cache.proofs.high_card.HighCardSubAggCacheSubAggCache.push.Goals as goal

pub returns-in_err-make_partitions-clause-err : goal.returns-in_err-make_partitions-clause-err
returns-in_err-make_partitions-clause-err c =
    let old = items_of c.self.inside.partitions.items in
    let made = items_of c.make_partitions.new.partitions.items in
    on_err_given c.from_residual.result
    (λ id. same-lists old made (same-documents old made c.make_partitions.ensures.same) id
    ∙ ap (λ lists. get_or lists id []) c.self.view_is)

pub invariant_of-self-2 : goal.invariant_of-self-2
invariant_of-self-2 c =
    let old = items_of c.self.inside.partitions.items in
    let made = items_of c.make_partitions.new.partitions.items in
    let bucket = c.args.bucket_id in
    let few : bucket % 16 < 16 = mod-lt bucket (omega arith) in
    let are = same-partitioned old made c.make_partitions.ensures.same c.self.invariant in
    either_way c.add_document.result
    (on_ok_weaker c.add_document.result
    (λ more. subst ArePartitioned (sym more) (partitioned-more made bucket c.args.doc_id
    (omega (
      arith,
      few,
      c.in_ok-make_partitions.ensures.room,
      length-map c.make_partitions.new.partitions.items (λ p. p.items),
    )) are))
    c.add_document.ensures.ok)
    (on_err_weaker c.add_document.result (λ same. subst ArePartitioned (sym same) are)
    c.add_document.ensures.err)

pub returns-clause-ok : goal.returns-clause-ok
returns-clause-ok c =
    let old = items_of c.self.inside.partitions.items in
    let made = items_of c.make_partitions.new.partitions.items in
    let bucket = c.args.bucket_id in
    let few : bucket % 16 < 16 = mod-lt bucket (omega arith) in
    on_ok_weaker c.add_document.result
    (λ more id. ap (λ partitions. get_or (lists_of partitions) id []) more
    ∙ list-at (with_document made bucket c.args.doc_id) id
    ∙ documents-more made bucket c.args.doc_id
    (omega (
      arith,
      few,
      c.in_ok-make_partitions.ensures.room,
      length-map c.make_partitions.new.partitions.items (λ p. p.items),
    )) id
    ∙ ap (λ docs. one_more bucket c.args.doc_id (λ i. docs) id)
    (same-documents old made c.make_partitions.ensures.same id ∙ sym (list-at old id)
    ∙ ap (λ lists. get_or lists id []) c.self.view_is))
    c.add_document.ensures.ok

pub returns-clause-err : goal.returns-clause-err
returns-clause-err c =
    let old = items_of c.self.inside.partitions.items in
    let made = items_of c.make_partitions.new.partitions.items in
    on_err_weaker c.add_document.result
    (λ same id. ap (λ partitions. get_or (lists_of partitions) id []) same
    ∙ same-lists old made (same-documents old made c.make_partitions.ensures.same) id
    ∙ ap (λ lists. get_or lists id []) c.self.view_is)
    c.add_document.ensures.err
