use Rattle.std.proofs.Common.{◌≡◌, ◌∙◌, ap, sym, true, false, rules, append-nil}
use Rattle.agg_segment.specs.Query.{matches}
use Rattle.agg_segment.specs.Segment.{documents_at}
use Rattle.agg_segment.specs.Marks.{mark_at, marked_docs}
use Rattle.agg_segment.proofs.Marks.{marked_documents, marked_more}
use Rattle.agg_segment.proofs.query.matches.Matches.docs.Goals as goal
use Rattle.agg_segment.proofs.query.matches.Matches.docs.Goals.{then-mark+in_ok-push, else-mark}

pub loop-doc-preserved : goal.loop-doc-preserved
loop-doc-preserved c =
    let marks = c.args.self.now in let docs = c.loop-doc.docs.items in let doc = c.loop-doc.doc in
    elim c.if-mark.branch [
      | then-mark+in_ok-push w ↦
          let marked : mark_at marks doc ≡ true =
          search (rules, c.self.view_is, c.deref-mark-items.ensures.value, w.if-mark.true) in
          ap (λ v. v.items) w.docs-is ∙ w.in_ok-push.ensures.items ∙ marked_more marks docs doc true
          c.loop-doc.invariant marked
      | else-mark w ↦
          let unmarked : mark_at marks doc ≡ false =
          search (rules, c.self.view_is, c.deref-mark-items.ensures.value, w.if-mark.false) in
          ap (λ v. v.items) w.docs-is ∙ sym (append-nil docs) ∙ marked_more marks docs doc false
          c.loop-doc.invariant unmarked
    ]

pub returns-clause-documents : goal.returns-clause-documents
returns-clause-documents c tree segment is =
    let all : c.loop-doc.docs.items ≡ marked_docs c.args.self.now = search rules in
    ap (documents_at segment) all ∙ marked_documents (matches tree) segment c.args.self.now is
