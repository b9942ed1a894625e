use Rattle.std.proofs.Common.{ap, ◌∙◌, arith}
use Rattle.std.proofs.lemmas.Str.Pattern.{strip_suffix_char}
use Rattle.agg_pages.proofs.lemmas.input_text.LinesLemmas.{stripped}
use Rattle.agg_pages.proofs.input_text.lines.without_return.Goals as goal

pub returns : goal.returns
returns c =
    let cut = strip_suffix_char 13 c.args.line.now c.strip_suffix.result
    c.strip_suffix.ensures.cases (omega arith) in
    ap (λ x. x.now) c.unwrap_or.ensures ∙ stripped c.args.line c.strip_suffix.result cut
