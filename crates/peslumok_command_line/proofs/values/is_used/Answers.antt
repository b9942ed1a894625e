use Rattle.std.proofs.Common.{◌∙◌}
use Rattle.clap.specs.Words.{found_of}
use Rattle.clap.proofs.WalkLemmas.{one_text-rows}
use Rattle.peslumok_command_line.proofs.values.is_used.Goals as goal

pub returns : goal.returns
returns c =
    let rows = one_text-rows (found_of c.args.matches.now) c.args.id.now in
    record {
      is_set = λ h. c.get_flag.ensures.value (rows ∙ h);
      is_unset = λ h. c.get_flag.ensures.other (rows ∙ h);
      is_absent = λ h. c.get_flag.ensures.none (rows ∙ h);
    }
