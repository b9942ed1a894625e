use Rattle.std.proofs.Common.{◌∙◌, codes}
use Rattle.clap.specs.Words.{found_of}
use Rattle.clap.proofs.WalkLemmas.{one_text-rows}
use Rattle.peslumok_command_line.proofs.Rows.{read_number}
use Rattle.peslumok_command_line.proofs.values.size.Goals as goal

pub returns : goal.returns
returns c text is_text is_numeral fits =
    let rows = one_text-rows (found_of c.args.matches.now) (codes "size") in
    c.unwrap_or.ensures
    ∙ read_number text _ _ (c.get_one.ensures.value text (rows ∙ is_text)) is_numeral fits
