use Rattle.std.proofs.Common.{◌∙◌, ap, List, Bor, map, subst}
use Rattle.std.specs.List.{AllZip}
use Rattle.std.specs.Prelude.{IfOk}
use Rattle.std.proofs.lemmas.Result.{IfErr-weaker}
use Rattle.clap.specs.Words.{Text, found_of, rows_of}
use Rattle.peslumok_command_line.specs.Asked.{texts_of}
use Rattle.peslumok_command_line.proofs.readings.read_all.Goals as goal

pub returns-clause-read : goal.returns-clause-read
returns-clause-read g c =
    subst (λ (ts : List Text). IfOk c.read_each.result
    (λ read. AllZip g.T.OptionValue.stands_for ts read.items))
    (ap (map (λ (text : Bor Text). text.now)) c.as_slice.ensures.value ∙ c.in_ok-texts.ensures)
    c.read_each.ensures.read

pub returns-clause-told : goal.returns-clause-told
returns-clause-told g c =
    let rows = rows_of (found_of c.args.matches.now) in
    IfErr-weaker c.read_each.result _ _
    (λ error told. told rows
    (ap (map (λ (text : Bor Text). text.now)) c.as_slice.ensures.value ∙ c.in_ok-texts.ensures
    ∙ ap (λ (name : Text). texts_of name rows) c.requires))
    c.read_each.ensures.told
