use Rattle.std.proofs.Common.{◌≡◌, ◌∷◌, ◌∙◌, rules}
use Rattle.json.specs.Lex.{after_value}
use Rattle.agg_pages.specs.document_json.Plain.{place_of}
use Rattle.agg_pages.proofs.lemmas.document_json.PlainTokens.{comma_at}
use Rattle.agg_pages.proofs.document_json.plain.reader.PlainReader.pass_comma.Goals as goal

pub returns : goal.returns
returns c =
    let a = c.self.inside in
    let at : place_of a.place ≡ after_value = search rules in
    let passed : a.cursor ≡ 44 ∷ c.take.new.self = c.if-not-take.ensures in
    comma_at (place_of a.place) a.cursor c.skip_spaces.new.self at c.take.new.self passed
    c.skip_spaces.ensures
    ∙ c.self.view_is
