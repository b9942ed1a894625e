use Rattle.std.proofs.Common.{◌≡◌, ◌∷◌, true, sym, ◌∙◌, rules}
use Rattle.json.specs.Lex.{may_close}
use Rattle.agg_pages.specs.document_json.Plain.{place_of}
use Rattle.agg_pages.proofs.lemmas.document_json.PlainTokens.{end_object_at}
use Rattle.agg_pages.proofs.document_json.plain.reader.PlainReader.take_object_end.Goals as goal

pub returns : goal.returns
returns c =
    let a = c.self.inside in
    let may : may_close (place_of a.place) ≡ true = search rules in
    let passed : a.cursor ≡ 125 ∷ c.take.new.self = c.if-not-take.ensures in
    sym c.self.view_is ∙ end_object_at (place_of a.place) a.cursor c.take.new.self may passed
