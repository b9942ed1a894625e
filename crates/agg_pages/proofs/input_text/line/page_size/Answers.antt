use Rattle.std.proofs.Common.{◌≡◌, ◌≢◌, true, sym, ◌∙◌, get_or, arith}
use Rattle.std.specs.Str.{all_ascii_digits}
use Rattle.std.proofs.lemmas.Bool.{false≢true}
use Rattle.std.proofs.lemmas.Str.Parse.{parse_plain, numerals_by_value, tells_all_ascii_digits}
use Rattle.std.proofs.lemmas.Str.Pattern.{starts_char}
use Rattle.agg_pages.proofs.lemmas.input_text.LinesLemmas.{page_size_is}
use Rattle.agg_pages.proofs.input_text.line.page_size.Goals as goal

pub returns : goal.returns
returns c =
    let digits = c.args.digits.now in
    let begins = starts_char 43 digits c.starts_with.result c.starts_with.ensures.cases
    (omega arith) (omega arith) in
    let plain : get_or digits 0 0 ≢ 43 = λ e. false≢true (sym c.if-starts_with.false
    ∙ begins.1 e) in
    c.ok.ensures.value
    ∙ page_size_is digits c.parse.result (parse_plain
    (numerals_by_value (λ ds. all_ascii_digits ds ≡ true) tells_all_ascii_digits) 32 digits _
    c.parse.ensures.value.0 plain)
