use Rattle.std.proofs.Common.{◌∙◌}
use Rattle.peslumok_front.proofs.lemmas.tables.CsvCells.{blank-many, blank-none, blank-one}
use Rattle.peslumok_front.proofs.tables.csv_lines.is_blank.Goals as goal

pub returns-in-empty : goal.returns-in-empty
returns-in-empty c = blank-none c.args.cells.now c.in-empty.len_below

pub returns-in-len1 : goal.returns-in-len1
returns-in-len1 c =
    c.is_empty.ensures
    ∙ blank-one c.args.cells.now _ c.in-len1.len_at_least c.in-len1.len_below

pub returns-in_default : goal.returns-in_default
returns-in_default c = blank-many c.args.cells.now c.in_default.len_at_least
