use Rattle.std.proofs.Common.{ap, refl, true, map, string_bytes, ◌≡◌, ◌∙◌}
use Rattle.std.proofs.lemmas.Result.{IfOk-weaker}
use Rattle.clap.specs.Words.{App, is_simple, subcommand_of}
use Rattle.clap.proofs.OnLiterals.{clap_on_literals}
use Rattle.peslumok_command_line.specs.CommandLine.{Formats, peslumok}
use Rattle.peslumok_command_line.proofs.command.matches_of.Goals as goal

simple : (formats : Formats) → is_simple (peslumok formats) ≡ true
unfolding clap_on_literals
simple formats = refl

pub returns : goal.returns
returns c =
    let formats = c.in_ok-command.ensures.0 in
    let command_is = c.in_ok-command.ensures.1 in
    let parse = c.try_get_matches_from in
    IfOk-weaker parse.result _ _ (λ m h. (
      formats,
      (h (ap is_simple command_is ∙ simple formats)).1
          ∙ ap (λ (a : App). subcommand_of a (map string_bytes c.args.words.now)) command_is,
    ))
    parse.ensures.matches
