use Rattle.std.proofs.Common.{◌++◌, ◌∷◌, [], ◌∙◌, Bor, List, ℕ, Option, Some, ap, false, true}
use Rattle.std.proofs.Common.{inl, refl, subst, sym}
use Rattle.std.proofs.lemmas.List.Elements.{All-push}
use Rattle.csv.specs.Reading.{AreRecords, ExplainsRead, ReadRecord, Reached, strip_bom}
use Rattle.csv.specs.Records.{AllText, Row, fields_of}
use Rattle.csv.specs.declared.parser.State.TheVariants as st
use Rattle.csv.proofs.ReadFacts.{rows-end, rows-more}
use Rattle.peslumok_records.specs.cells.Csv.{AreEven, AreTexts, IsClosed, cells_config}
use Rattle.peslumok_records.specs.cells.Quotes.{MayBeOpenAfter}
use Rattle.peslumok_records.specs.cells.Rows.{width_of}
use Rattle.peslumok_records.proofs.lemmas.cells.OpenQuotes.{open_after}
use Rattle.peslumok_records.proofs.lemmas.cells.RefusedRows.{even_more, no_table, none_refused}
use Rattle.peslumok_records.proofs.lemmas.cells.RefusedRows.{same_last}
use Rattle.peslumok_records.proofs.cells.rows.CellRows.read.Goals as goal

-- the bytes that are left of a text in memory
abbrev left : Bor (List ℕ) → Option (List ℕ)
left s = Some s.now

pub returns-in-Ok-true-clause-more : goal.returns-in-Ok-true-clause-more
returns-in-Ok-true-clause-more c = λ _ delimiter text rows has.
    let says = c.in-Ok-true.ensures in
    let old = c.args.self.now.reader in
    let new = c.read_record.new.self in
    let cells = fields_of c.read_record.new.row in
    let took : ReadRecord left old new true cells =
    subst (λ found. ReadRecord left old new found cells) c.in-Ok-true.field-0-test
    (says.reads has.untrimmed has.ready) in
    let (rest, source, reached) = rows-more left old new cells (cells_config delimiter)
    st.StartRecord (strip_bom text) has.left rows has.config has.source has.reached took in
    let widths = took.5 refl has.rigid in
    let (even, width) = even_more rows cells old.expected new.expected has.width widths.0 widths.1
    has.even in
    let with_row = λ (row : Row). rows ++ fields_of row ∷ [] in
    let here = sym c.swap.ensures.x_after in
    record {
      parted = has.parted;
      whole = has.whole;
      untrimmed = took.3 ∙ has.untrimmed;
      ready = inl (says.ready has.untrimmed);
      config = took.2 ∙ has.config;
      left = rest;
      source = source;
      reached = subst (λ row. Reached (cells_config delimiter) st.StartRecord (strip_bom text)
          (with_row row) new.state rest) here reached;
      rigid = says.flexible ∙ has.rigid;
      width = width ∙ ap (λ row. width_of (with_row row)) here;
      even = subst (λ row. AreEven (with_row row)) here even;
      texts = subst (λ row. AreTexts (with_row row)) here
          (All-push AllText rows cells has.texts (says.text has.untrimmed));
      latest = λ before row is. same_last rows before (fields_of c.swap.new.x) row is;
    }

pub returns-else-is_cut_off-clause-end : goal.returns-else-is_cut_off-clause-end
returns-else-is_cut_off-clause-end c = λ _ delimiter text rows has.
    let old = c.args.self.now.reader in
    let new = c.read_record.new.self in
    let cells = fields_of c.read_record.new.row in
    let over : ReadRecord left old new false cells =
    subst (λ found. ReadRecord left old new found cells) c.in-Ok-false.field-0-test
    (c.in-Ok-false.ensures.reads has.untrimmed has.ready) in
    let records : AreRecords (cells_config delimiter) st.StartRecord (strip_bom text) rows = (
      old.state,
      has.left,
      has.reached,
      rows-end left old new cells (cells_config delimiter) has.left has.config has.source over,
    ) in
    let known : MayBeOpenAfter (strip_bom text) (fields_of c.args.self.now.row)
    → IsClosed delimiter text =
    subst (λ d. MayBeOpenAfter (strip_bom text) (fields_of c.args.self.now.row) → IsClosed d text)
    has.parted (subst (λ t. MayBeOpenAfter (strip_bom t) (fields_of c.args.self.now.row)
    → IsClosed c.args.self.now.delimiter t) has.whole
    (c.is_cut_off.ensures.closed c.if-is_cut_off.false)) in
    record {
      records = records;
      closed = λ unclosed.
          let (before, row, is, may) =
          open_after delimiter (strip_bom text) rows records unclosed in
          known (subst (MayBeOpenAfter (strip_bom text)) (has.latest before row is) may) unclosed;
      even = has.even;
      texts = has.texts;
    }

pub returns-then-is_cut_off-clause-none : goal.returns-then-is_cut_off-clause-none
returns-then-is_cut_off-clause-none c = λ _ delimiter text rows has asked.
    no_table delimiter text asked (λ all are.
    c.is_cut_off.ensures.unclosed c.if-is_cut_off.true
    (subst (λ d. IsClosed d c.args.self.now.text.now) (sym has.parted)
    (subst (IsClosed delimiter) (sym has.whole) are.closed)))

pub returns-in-Err-clause-none : goal.returns-in-Err-clause-none
returns-in-Err-clause-none c = λ fault delimiter text rows has.
    let old = c.args.self.now.reader in
    let new = c.read_record.new.self in
    let why = c.into_kind.result in
    let explains : ExplainsRead left old new true why =
    subst (ExplainsRead left old new true) (sym c.into_kind.ensures)
    (c.in-Err.ensures.why has.untrimmed has.ready) in
    none_refused delimiter text rows c.args.self.now has new why
    (sym c.from_kind.ensures.row ∙ fault) explains
