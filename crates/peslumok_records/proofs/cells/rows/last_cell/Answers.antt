use Rattle.std.proofs.Common.{◌≡◌, ◌+◌, length, rules}
use Rattle.csv.specs.Records.{fields_of}
use Rattle.peslumok_records.proofs.lemmas.cells.HeaderPlaces.{last_of_row, no_cell_left}
use Rattle.peslumok_records.proofs.cells.rows.last_cell.Goals as goal

pub returns-clause-some : goal.returns-clause-some
returns-clause-some c =
    let row = fields_of c.args.row.now in
    let at = c.in_ok-checked_sub.field-0 in
    let long : length row ≡ at + 1 = search rules in
    last_of_row row at c.get.result long c.get.ensures.value

pub returns-clause-none : goal.returns-clause-none
returns-clause-none c = λ none.
    let row = fields_of c.args.row.now in
    let at = c.in_ok-checked_sub.field-0 in
    let long : length row ≡ at + 1 = search rules in
    no_cell_left row at c.get.result long c.get.ensures.value none
