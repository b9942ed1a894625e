use Rattle.std.proofs.Common.{◌≡◌, ◌∙◌, List, false, subst, sym, true}
use Rattle.std.specs.List.{list_any, range_with_len}
use Rattle.std.proofs.lemmas.List.{take_all}
use Rattle.std.proofs.lemmas.List.Folds.{list_any_at}
use Rattle.agg_segment.specs.storage.Columns.{StoredColumn}
use Rattle.peslumok_records.specs.record_index.Index.{has_keys}
use Rattle.peslumok_records.proofs.lemmas.record_index.Seen.{segment-seen}
use Rattle.peslumok_records.proofs.record_index.index.has_values.Goals as goal

pub returns-then-has_keys : goal.returns-then-has_keys
returns-then-has_keys c =
    let columns = c.columns-column-items.result.now in
    let test = λ (column : StoredColumn).
    has_keys column (range_with_len 0 c.num_docs-count.result) in
    sym (list_any_at test columns c.loop-column.column-index c.column-item.result
    c.loop-column-test.true
    (subst (λ (column : StoredColumn). test column ≡ true) c.column-item.is
    (sym c.has_keys.ensures ∙ c.if-has_keys.true)))
    ∙ segment-seen c.args.segment.now c.args.field.now columns c.num_docs-count.result
    c.columns-column-items.ensures.keys c.num_docs-count.ensures.count

pub returns : goal.returns
returns c =
    let columns = c.columns-column-items.result.now in
    let test = λ (column : StoredColumn).
    has_keys column (range_with_len 0 c.num_docs-count.result) in
    sym (subst (λ (all : List StoredColumn). list_any test all ≡ false)
    (take_all c.loop-column.column-index columns c.loop-column-test.false) c.loop-column.invariant)
    ∙ segment-seen c.args.segment.now c.args.field.now columns c.num_docs-count.result
    c.columns-column-items.ensures.keys c.num_docs-count.ensures.count
