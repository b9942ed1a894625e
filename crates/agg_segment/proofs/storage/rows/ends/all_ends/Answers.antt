use Rattle.agg_segment.proofs.lemmas.storage.DenseEnds.{next_doc, docs_at_end, ends_at_end}
use Rattle.agg_segment.proofs.storage.rows.ends.all_ends.Goals as goal

pub loop-doc-preserved : goal.loop-doc-preserved
loop-doc-preserved c =
    let l = c.loop-doc in
    let e = c.past_doc-at.ensures in
    rw (c.in_ok-push.ensures.items, c.in_ok-end.ensures)
    (next_doc c.args.docs.now c.requires.ascending l.doc l.at c.past_doc-at.result l.ends.items
    l.invariant e.further e.within e.same e.other)

pub returns-clause-docs : goal.returns-clause-docs
returns-clause-docs c =
    docs_at_end c.args.docs.now c.loop-doc.doc c.args.count c.loop-doc.at c.loop-doc.ends.items
    c.loop-doc.invariant c.loop-doc-test.false c.requires.all

pub returns-clause-ends : goal.returns-clause-ends
returns-clause-ends c =
    ends_at_end c.args.docs.now c.loop-doc.doc c.args.count c.loop-doc.at c.loop-doc.ends.items
    c.loop-doc.invariant c.loop-doc-test.false c.requires.all
