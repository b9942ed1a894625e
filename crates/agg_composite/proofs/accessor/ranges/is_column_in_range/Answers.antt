use Rattle.std.proofs.Common.{◌≡◌, get_or, true, refl}
use Rattle.std.proofs.lemmas.List.{get_or_default}
use Rattle.agg_request_tree.proofs.Checks.{All-next, All-whole}
use Rattle.agg_composite.specs.accessor.Ranges.{IsDocumentWithin}
use Rattle.agg_composite.proofs.accessor.ranges.is_column_in_range.Goals as goal

pub loop-doc-preserved : goal.loop-doc-preserved
loop-doc-preserved c min least =
    let column = c.args.column.now in
    let docs = c.args.docs.now in
    let i = c.loop-doc.doc-index in
    let doc = get_or docs i 0 in
    All-next (IsDocumentWithin min column.divisor column.column.now) docs i doc
    c.loop-doc-test.true (get_or_default docs i 0 doc c.loop-doc-test.true)
    (c.loop-doc.invariant min least)
    ((c.is_document_in_range.ensures min least).0 c.if-not-is_document_in_range.false)

pub returns-then-not-is_document_in_range : goal.returns-then-not-is_document_in_range
returns-then-not-is_document_in_range c min least = (
  λ is. absurd (cc is),
  λ all.
      let here = all c.loop-doc.doc-index 0 c.loop-doc-test.true in
      let yes : c.is_document_in_range.result ≡ true =
      (c.is_document_in_range.ensures min least).1 here in
      absurd (cc (yes, c.if-not-is_document_in_range.true)),
)

pub returns : goal.returns
returns c min least = (
  λ is.
      let column = c.args.column.now in
      All-whole (IsDocumentWithin min column.divisor column.column.now) c.args.docs.now
      c.loop-doc.doc-index c.loop-doc-test.false (c.loop-doc.invariant min least),
  λ all. refl,
)
