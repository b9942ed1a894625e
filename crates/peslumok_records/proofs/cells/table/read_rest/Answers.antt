use Rattle.std.proofs.Common.{◌≡◌, ◌++◌, ◌∷◌, subst, true}
use Rattle.csv.specs.Records.{Row, fields_of}
use Rattle.agg_values.specs.Nothing.{NoneIs}
use Rattle.peslumok_records.specs.held.Causes.{is_fault}
use Rattle.peslumok_records.specs.held.Documents.{IsRead}
use Rattle.peslumok_records.specs.held.Held.{Holds}
use Rattle.peslumok_records.specs.declared.held.error.RecordError.{RecordError}
use Rattle.peslumok_records.specs.cells.Cells.{row_document}
use Rattle.peslumok_records.proofs.lemmas.cells.RefusedRows.{NoneUnder, error_passed, none_with_row}
use Rattle.peslumok_records.proofs.lemmas.cells.TableRows.{goes_on-more, goes_on-none}
use Rattle.peslumok_records.proofs.cells.table.read_rest.Goals as goal

pub returns-then-not-branch-clause-ok : goal.returns-then-not-branch-clause-ok
returns-then-not-branch-clause-ok c = λ delimiter text before has.
    let (more, here, held) = c.rows.invariant delimiter text before has in (
      more,
      c.in_ok-next_row.ensures.end c.if-not-branch.true delimiter text (before ++ more) here,
      held,
    )

pub rows-init : goal.rows-init
rows-init c = goes_on-none c.args.asked.now c.args.places.now c.args.rows.now c.args.into.now

pub rows-preserved : goal.rows-preserved
rows-preserved c =
    let asked = c.args.asked.now in
    let places = c.args.places.now in
    goes_on-more asked places c.args.rows.now c.rows.rows c.next_row.new.rows
    (fields_of c.next_row.new.rows.row) c.args.into.now c.rows.into c.add_row.new.records
    c.rows.invariant (c.in_ok-next_row.ensures.more c.if-not-branch.false)
    (subst (λ (r : Row). Holds (row_document asked places (fields_of r)) c.rows.into
    c.add_row.new.records) c.row.ensures c.in_ok-add_row.ensures.ok)

pub returns-in_err-next_row-clause-none : goal.returns-in_err-next_row-clause-none
returns-in_err-next_row-clause-none c =
    let asked = c.args.asked.now in
    error_passed (λ (error : RecordError). is_fault error.cause ≡ true
    → NoneUnder asked c.args.places.now c.args.rows.now) c.from_residual.result
    c.in_err-next_row.field-0.0 c.from_residual.ensures.1
    (λ fault delimiter text header before has placed.
    let (more, here, held) = c.rows.invariant delimiter text (header ∷ before) has in
    c.in_err-next_row.ensures.none fault delimiter text ((header ∷ before) ++ more) here asked)

pub returns-in_err-add_row-clause-none : goal.returns-in_err-add_row-clause-none
returns-in_err-add_row-clause-none c =
    let asked = c.args.asked.now in
    let places = c.args.places.now in
    let at = c.next_row.new.rows in
    error_passed (λ (error : RecordError). is_fault error.cause ≡ true
    → NoneUnder asked places c.args.rows.now) c.from_residual-in_err-add_row.result
    c.in_err-add_row.field-0.0 c.from_residual-in_err-add_row.ensures.1
    (λ fault delimiter text header before has placed.
    let (more, here, held) = c.rows.invariant delimiter text (header ∷ before) has in
    none_with_row delimiter text header (before ++ more) (fields_of at.row) at
    (c.in_ok-next_row.ensures.more c.if-not-branch.false delimiter text
    ((header ∷ before) ++ more) here) asked places placed
    (subst (λ (r : Row). NoneIs (IsRead (row_document asked places (fields_of r)))) c.row.ensures
    (c.in_err-add_row.ensures.none fault)))
