use Rattle.std.proofs.Common.{◌≡◌, ◌∷◌, true, sym, ap, ◌∙◌, rules}
use Rattle.json.specs.Json.{after_end_array}
use Rattle.json.specs.Lex.{may_close}
use Rattle.agg_pages.specs.document_json.Plain.{place_of}
use Rattle.agg_pages.proofs.lemmas.document_json.PlainTokens.{end_array_at}
use Rattle.agg_pages.proofs.document_json.plain.reader.PlainReaderTokenReader.take_array_end.Goals
    as goal

pub returns : goal.returns
returns c =
    let a = c.self.inside in
    let may : may_close (place_of a.place) ≡ true = search rules in
    let passed : a.cursor ≡ 93 ∷ c.take.new.self = c.if-not-take.ensures in
    ap after_end_array
    (sym c.self.view_is ∙ end_array_at (place_of a.place) a.cursor c.take.new.self may passed)
