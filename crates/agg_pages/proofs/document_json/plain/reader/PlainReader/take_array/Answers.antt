use Rattle.std.proofs.Common.{◌≡◌, ◌∷◌, true, sym, ◌∙◌, rules}
use Rattle.json.specs.Lex.{may_begin}
use Rattle.agg_pages.specs.document_json.Plain.{place_of}
use Rattle.agg_pages.proofs.lemmas.document_json.PlainTokens.{begin_array_at}
use Rattle.agg_pages.proofs.document_json.plain.reader.PlainReader.take_array.Goals as goal

pub returns : goal.returns
returns c = λ _.
    let a = c.self.inside in
    let may : may_begin (place_of a.place) ≡ true = search rules in
    let passed : a.cursor ≡ 91 ∷ c.take.new.self = c.if-not-take.ensures in
    sym c.self.view_is ∙ begin_array_at (place_of a.place) a.cursor c.take.new.self may passed
