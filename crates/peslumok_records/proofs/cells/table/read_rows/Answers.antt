use Rattle.std.proofs.Common.{◌≡◌, List, ℕ, [], ◌∷◌, Option, append-nil, inl, inr, map, refl, subst}
use Rattle.std.proofs.Common.{sym, true}
use Rattle.std.proofs.lemmas.Result.{IfErr-weaker, on_ok_weaker}
use Rattle.csv.specs.Records.{Row, fields_of}
use Rattle.agg_values.specs.Nothing.{NoneIs}
use Rattle.peslumok_records.specs.held.Causes.{is_fault}
use Rattle.peslumok_records.specs.held.Documents.{AreRead}
use Rattle.peslumok_records.specs.held.Held.{Adds, held_documents}
use Rattle.peslumok_records.specs.declared.held.asked.AskedField.{AskedField}
use Rattle.peslumok_records.specs.declared.held.error.RecordError.{RecordError}
use Rattle.peslumok_records.proofs.lemmas.held.HeldDocuments.{adds_later}
use Rattle.peslumok_records.specs.cells.Cells.{row_document}
use Rattle.peslumok_records.specs.cells.Rows.{HasRead}
use Rattle.peslumok_records.specs.cells.Table.{ArePlaces, AreTableDocuments}
use Rattle.peslumok_records.specs.declared.cells.rows.CellRows.{CellRows}
use Rattle.peslumok_records.proofs.lemmas.cells.RefusedRows.{NoneUnder, error_passed, none_placed}
use Rattle.peslumok_records.proofs.cells.table.read_rows.Goals as goal

placed_under : (seen row : Row) (fields asked : List AskedField) (places : List (Option ℕ))
    → seen ≡ row → fields ≡ asked → ArePlaces (fields_of seen) fields places
    → ArePlaces (fields_of row) asked places
placed_under seen row fields asked places is same placed =
    subst (λ (r : Row). ArePlaces (fields_of r) asked places) is
    (subst (λ (fs : List AskedField). ArePlaces (fields_of seen) fs places) same placed)

pub returns-then-not-branch-clause-ok : goal.returns-then-not-branch-clause-ok
returns-then-not-branch-clause-ok c = λ delimiter text has. (
  [],
  inr (c.in_ok-next_row.ensures.end c.if-not-branch.true delimiter text [] has, refl),
  sym (append-nil (held_documents c.args.into.now)),
)

pub returns-clause-ok : goal.returns-clause-ok
returns-clause-ok c =
    let asked = c.args.asked.now in
    let row = c.next_row.new.rows.row in
    let header = fields_of row in
    let places = c.in_ok-places.places.items in
    let placed : ArePlaces header asked places =
    placed_under c.row-2.result.now row c.as_slice-2.result.now asked places c.row-2.ensures
    c.as_slice-2.ensures c.in_ok-places.ensures.ok in
    on_ok_weaker c.read_rest.result (λ rest delimiter text has.
    let here = c.in_ok-next_row.ensures.more c.if-not-branch.false delimiter text [] has in
    let (more, all, held) = rest delimiter text (header ∷ []) here in
    let (documents, read, added) = adds_later c.args.into.now c.see_header.new.records
    c.read_rest.new.into c.see_header.ensures
    (subst (λ (ps : List (Option ℕ)). Adds (AreRead (map (row_document asked ps) more))
    c.see_header.new.records c.read_rest.new.into) c.as_slice-3.ensures.value held) in (
      documents,
      inl (record {
        header = header;
        rows = more;
        all = all;
        places = places;
        placed = placed;
        read = read;
      }),
      added,
    )) c.read_rest.ensures.ok

-- no documents are those of a text of which no row has been read
abbrev NoneYet : List AskedField → CellRows → Type 0
NoneYet asked at =
    (delimiter : ℕ) (text : List ℕ) → HasRead delimiter text [] at
    → NoneIs (AreTableDocuments delimiter text asked)

pub returns-in_err-next_row-clause-none : goal.returns-in_err-next_row-clause-none
returns-in_err-next_row-clause-none c =
    error_passed (λ (error : RecordError). is_fault error.cause ≡ true
    → NoneYet c.args.asked.now c.args.rows.now) c.from_residual.result
    c.in_err-next_row.field-0.0 c.from_residual.ensures.1
    (λ fault delimiter text has.
    c.in_err-next_row.ensures.none fault delimiter text [] has c.args.asked.now)

pub returns-in_err-places-clause-none : goal.returns-in_err-places-clause-none
returns-in_err-places-clause-none c =
    let asked = c.args.asked.now in
    let at = c.next_row.new.rows in
    let none : is_fault c.in_err-places.field-0.0.cause ≡ true
    → NoneIs (ArePlaces (fields_of at.row) asked) =
    λ fault. subst (λ (r : Row). NoneIs (ArePlaces (fields_of r) asked)) c.row-2.ensures
    (subst (λ (fields : List AskedField). NoneIs (ArePlaces (fields_of c.row-2.result.now) fields))
    c.as_slice-2.ensures (c.in_err-places.ensures.none fault)) in
    error_passed (λ (error : RecordError). is_fault error.cause ≡ true
    → NoneYet asked c.args.rows.now) c.from_residual-in_err-places.result
    c.in_err-places.field-0.0 c.from_residual-in_err-places.ensures.1
    (λ fault delimiter text has.
    none_placed delimiter text (fields_of at.row) [] at
    (c.in_ok-next_row.ensures.more c.if-not-branch.false delimiter text [] has) asked (none fault))

pub returns-clause-none : goal.returns-clause-none
returns-clause-none c =
    let asked = c.args.asked.now in
    let row = c.next_row.new.rows.row in
    let header = fields_of row in
    IfErr-weaker c.read_rest.result
    (λ (error : RecordError). is_fault error.cause ≡ true
    → NoneUnder asked c.as_slice-3.result.now c.next_row.new.rows)
    (λ (error : RecordError). is_fault error.cause ≡ true → NoneYet asked c.args.rows.now)
    (λ error none fault delimiter text has.
    none fault delimiter text header []
    (c.in_ok-next_row.ensures.more c.if-not-branch.false delimiter text [] has)
    (subst (λ (ps : List (Option ℕ)). ArePlaces header asked ps) (sym c.as_slice-3.ensures.value)
    (placed_under c.row-2.result.now row c.as_slice-2.result.now asked
    c.in_ok-places.places.items c.row-2.ensures c.as_slice-2.ensures c.in_ok-places.ensures.ok)))
    c.read_rest.ensures.none
