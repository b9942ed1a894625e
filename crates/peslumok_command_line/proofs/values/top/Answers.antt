use Rattle.std.proofs.Common.{◌∙◌, codes}
use Rattle.clap.specs.Words.{found_of, rows_of}
use Rattle.clap.proofs.WalkLemmas.{one_text-rows}
use Rattle.peslumok_command_line.proofs.Rows.{read_some}
use Rattle.peslumok_command_line.proofs.values.top.Goals as goal

pub returns : goal.returns
returns c =
    let found = found_of c.args.matches.now in
    let rows = one_text-rows found (codes "top") in
    record {
      is_absent = λ h. c.get_one.ensures.none (rows ∙ h);
      value = read_some (codes "top") (rows_of found) c.get_one.result
          (λ text is_text. c.get_one.ensures.value text (rows ∙ is_text));
    }
