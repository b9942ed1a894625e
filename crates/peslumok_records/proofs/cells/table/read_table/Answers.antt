use Rattle.std.proofs.Common.{ap, ◌∙◌, sym}
use Rattle.peslumok_records.specs.held.Causes.{is_fault}
use Rattle.peslumok_records.proofs.cells.table.read_table.Goals as goal

pub returns-clause-none : goal.returns-clause-none
returns-clause-none c = λ fault.
    c.in-Err.ensures.none (ap is_fault (sym c.on_line-2.ensures) ∙ fault) c.args.delimiter
    c.args.bytes.now c.new-rows.ensures
