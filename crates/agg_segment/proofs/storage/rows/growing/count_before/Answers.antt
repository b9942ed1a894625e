use Rattle.std.proofs.Common.{◌-◌, ◌≤◌, get_or, arith}
use Rattle.agg_segment.specs.storage.Growing.{many_docs}
use Rattle.agg_segment.proofs.lemmas.storage.GrowingNumbers.{docs_length}
use Rattle.agg_segment.proofs.storage.rows.growing.count_before.Goals as goal

pub returns-else-doc_at-doc-clause-before : goal.returns-else-doc_at-doc-clause-before
returns-else-doc_at-doc-clause-before c k l =
    let m = c.args.many.now in
    let len = docs_length 0 m.numbers.items m.docs.items c.requires.0 in
    let up : get_or (many_docs m) k 0 ≤ get_or (many_docs m) (c.loop-count.count - 1) 0 =
    c.requires.1 k (c.loop-count.count - 1) 0 (omega (arith, l))
    (omega (arith, l, len, c.loop-count.invariant.within)) in
    omega (arith, up, c.doc_at.ensures, c.if-doc_at-doc.false)
