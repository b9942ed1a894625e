use Rattle.std.proofs.Common.{◌≡◌, true, sym, ◌∙◌, rules}
use Rattle.json.specs.Lex.{may_begin}
use Rattle.agg_pages.specs.document_json.Plain.{place_of, text_of}
use Rattle.agg_pages.proofs.lemmas.document_json.PlainTokens.{number_at}
use Rattle.agg_pages.proofs.document_json.plain.reader.PlainReader.number.Goals as goal

pub returns-clause-value : goal.returns-clause-value
returns-clause-value c =
    let a = c.self.inside in
    let may : may_begin (place_of a.place) ≡ true = search rules in
    sym c.self.view_is
    ∙ number_at (place_of a.place) a.cursor c.number.new.self (text_of c.in_ok-number.number) may
    c.in_ok-number.ensures.value
