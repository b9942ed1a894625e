use Rattle.std.proofs.Common.{◌≡◌, ◌<◌, ◌∙◌, length, subst, arith}
use Rattle.std.specs.Prelude.{None, option_map}
use Rattle.csv.specs.Records.{fields_of}
use Rattle.peslumok_records.specs.held.Values.{Gains, named_values}
use Rattle.peslumok_records.specs.cells.Cells.{values_at}
use Rattle.peslumok_records.proofs.lemmas.cells.RowValues.{gains_cell, no_cell}
use Rattle.peslumok_records.proofs.cells.cells.push_row.Goals as goal

pub loop-index-preserved : goal.loop-index-preserved
loop-index-preserved c =
    let l = c.loop-index in
    let field = c.index-asked-index.result in
    let within : l.index < length c.args.asked.now = omega (arith, c.loop-index-test.true) in
    record {
      documents = c.push_cell.ensures.documents ∙ l.invariant.documents;
      gained = gains_cell c.args.asked.now c.args.places.now (fields_of c.args.row.now) l.index
          field c.args.builder.now l.builder c.push_cell.new.builder within
          c.index-asked-index.is l.invariant.gained
          (subst (λ cell. Gains (option_map (named_values field.name) (values_at field.of cell))
          l.builder c.push_cell.new.builder) c.cell_of-cell.ensures c.in_default.ensures.ok);
    }

pub returns-in-Err-clause-none : goal.returns-in-Err-clause-none
returns-in-Err-clause-none c = λ fault.
    let at = c.loop-index.index in
    let field = c.index-asked-index.result in
    let within : at < length c.args.asked.now = omega (arith, c.loop-index-test.true) in
    no_cell 0 c.args.asked.now c.args.places.now (fields_of c.args.row.now) at field at within
    c.index-asked-index.is (omega arith)
    (subst (λ cell. values_at field.of cell ≡ None) c.cell_of-cell.ensures
    (c.in-Err.ensures.none (c.of_field.ensures.fault fault)))
