use Rattle.std.proofs.Common.{ap, ◌∙◌}
use Rattle.peslumok_records.proofs.lemmas.cells.Marks.{stripped}
use Rattle.peslumok_records.proofs.record_index.format.without_mark.Goals as goal

pub returns : goal.returns
returns c =
    ap (λ rest. rest.now) c.unwrap_or.ensures
    ∙ stripped c.args.bytes c.strip_prefix.result c.strip_prefix.ensures.cases
