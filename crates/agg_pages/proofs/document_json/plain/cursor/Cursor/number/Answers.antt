use Rattle.std.proofs.Common.{ap, ◌∙◌, rules}
use Rattle.json.specs.Lex.{between, lex}
use Rattle.agg_pages.specs.document_json.Plain.{EndsValue, text_of}
use Rattle.agg_pages.proofs.lemmas.document_json.PlainLexemes.{lex-whole}
use Rattle.agg_pages.proofs.document_json.plain.cursor.Cursor.number.Goals as goal

pub returns-clause-value : goal.returns-clause-value
returns-clause-value c =
    let ends : EndsValue c.whole_number.new.self = search rules in
    ap (lex between) c.in_ok-whole.ensures.value
    ∙ lex-whole (text_of c.in_ok-whole.whole) c.whole_number.new.self
    c.in_ok-whole.ensures.number ends
