use Rattle.std.proofs.Common.{◌≡◌, true, sym, ◌∙◌, rules}
use Rattle.json.specs.Lex.{may_begin}
use Rattle.agg_pages.specs.document_json.Plain.{place_of}
use Rattle.agg_pages.proofs.lemmas.document_json.PlainTokens.{key_at}
use Rattle.agg_pages.proofs.document_json.plain.reader.PlainReader.name.Goals as goal

pub returns : goal.returns
returns c =
    let a = c.self.inside in
    let may : may_begin (place_of a.place) ≡ true = search rules in
    sym c.self.view_is
    ∙ key_at (place_of a.place) a.cursor c.name.new.self c.in_ok-name.name.now may
    c.in_ok-name.ensures
