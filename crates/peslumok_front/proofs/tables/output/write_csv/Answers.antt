use Rattle.peslumok_front.specs.tables.Output.{csv_records}
use Rattle.peslumok_front.proofs.lemmas.tables.RecordsBack.{records-read-back}
use Rattle.peslumok_front.proofs.tables.output.write_csv.Goals as goal

pub returns-in_err-write_csv_header-clause-reads_back :
    goal.returns-in_err-write_csv_header-clause-reads_back
returns-in_err-write_csv_header-clause-reads_back c =
    records-read-back (csv_records c.args.has_header c.args.columns.now c.args.rows.now)

pub returns-clause-reads_back : goal.returns-clause-reads_back
returns-clause-reads_back c =
    records-read-back (csv_records c.args.has_header c.args.columns.now c.args.rows.now)
