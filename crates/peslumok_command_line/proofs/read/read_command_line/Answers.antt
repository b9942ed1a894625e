use Rattle.std.proofs.Common.{◌≡◌, ◌∙◌, List, Option, Some, map, string_bytes, subst, sym}
use Rattle.std.proofs.lemmas.Result.{IfErr-weaker, IfOk-weaker}
use Rattle.clap.specs.Words.{Row, Text, found_of, rows_of, subcommand_of, subcommand_rows_of}
use Rattle.peslumok_command_line.specs.Asked.{IsAsked}
use Rattle.peslumok_command_line.specs.CommandLine.{peslumok}
use Rattle.peslumok_command_line.specs.Mistakes.{TellsOf}
use Rattle.peslumok_command_line.proofs.NamedCommand.{first-option_map, found_command}
use Rattle.peslumok_command_line.proofs.read.read_command_line.Goals as goal

-- the command that was found is the one that the words name
is_named : (c : goal.Joined-matches-2)
    → Some (c.in-Some.name.now, rows_of (found_of c.in-Some.found.now))
    ≡ subcommand_of (peslumok c.in-Ok.ensures.0) (map string_bytes c.args.words.now)
is_named c =
    sym (found_command (subcommand_rows_of c.in-Ok.matches) c.in-Some.name.now
    (rows_of (found_of c.in-Some.found.now))
    (first-option_map _ _ ∙ sym c.in-Some.ensures.name) (sym c.in-Some.ensures.rows))
    ∙ c.in-Ok.ensures.1

pub returns-clause-asked : goal.returns-clause-asked
returns-clause-asked c =
    IfOk-weaker c.chosen.result _ _
    (λ chosen asked. (
      c.in-Ok.ensures.0,
      subst (λ (o : Option (Text × List Row)). IsAsked o chosen) (is_named c) asked,
    ))
    c.chosen.ensures.asked

pub returns-clause-told : goal.returns-clause-told
returns-clause-told c =
    IfErr-weaker c.chosen.result _ _
    (λ error told names. (
      c.in-Ok.ensures.0,
      subst (λ (o : Option (Text × List Row)). TellsOf o error) (is_named c) (told names),
    ))
    c.chosen.ensures.told
