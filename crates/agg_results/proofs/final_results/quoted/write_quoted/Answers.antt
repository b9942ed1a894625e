use Rattle.std.proofs.Common.{◌≡◌, true, rules}
use Rattle.std.specs.List.{list_all}
use Rattle.agg_results.specs.final_results.PlainText.{is_plain}
use Rattle.agg_results.proofs.lemmas.final_results.Escapes.{escape-plain}
use Rattle.agg_results.proofs.final_results.quoted.write_quoted.Goals as goal

pub returns : goal.returns
returns c =
    let plain : list_all is_plain c.args.s.now ≡ true = search rules in
    rw (escape-plain c.args.s.now plain) c.write_between_quotes.ensures
