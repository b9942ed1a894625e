use Rattle.std.proofs.Common.{arith, below_more, sym}
use Rattle.peslumok_records.proofs.lemmas.record_index.Seen.{has_keys-at, has_keys-none, is-none}
use Rattle.peslumok_records.proofs.lemmas.record_index.Seen.{is-some, no-keys, some-keys}
use Rattle.peslumok_records.proofs.record_index.index.has_keys.Goals as goal

pub loop-doc-preserved : goal.loop-doc-preserved
loop-doc-preserved c =
    below_more _ _ c.loop-doc.invariant
    (no-keys c.args.column.now _ c.values_for_doc.result.now c.loop-doc.doc
    c.values_for_doc.ensures.keys
    (is-none c.values_for_doc.result.now c.is_empty.result c.is_empty.ensures
    c.if-not-is_empty.false))

pub returns-then-not-is_empty : goal.returns-then-not-is_empty
returns-then-not-is_empty c =
    sym (has_keys-at c.args.column.now c.args.count c.loop-doc.doc c.loop-doc-test.true
    (some-keys c.args.column.now _ c.values_for_doc.result.now c.loop-doc.doc
    c.values_for_doc.ensures.keys
    (is-some c.values_for_doc.result.now c.is_empty.result c.is_empty.ensures
    c.if-not-is_empty.true)))

pub returns : goal.returns
returns c =
    sym (has_keys-none c.args.column.now c.args.count
    (λ doc within. c.loop-doc.invariant doc (omega (arith, within))))
