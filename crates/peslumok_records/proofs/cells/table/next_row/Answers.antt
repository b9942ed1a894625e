use Rattle.peslumok_records.proofs.cells.table.next_row.Goals as goal

pub returns-in-Err-clause-none : goal.returns-in-Err-clause-none
returns-in-Err-clause-none c = λ fault delimiter text before has fields.
    c.in-Err.ensures.none (c.error_of_row.ensures.fault fault) delimiter text before has fields
