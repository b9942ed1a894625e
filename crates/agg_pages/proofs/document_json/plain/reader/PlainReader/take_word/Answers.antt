use Rattle.std.proofs.Common.{◌≡◌, true, sym, ◌∙◌, rules}
use Rattle.json.specs.Lex.{may_begin}
use Rattle.agg_pages.specs.document_json.Plain.{EndsValue, place_of}
use Rattle.agg_pages.proofs.lemmas.document_json.PlainTokens.{word_at}
use Rattle.agg_pages.proofs.document_json.plain.reader.PlainReader.take_word.Goals as goal

pub returns : goal.returns
returns c = λ taken value is.
    let a = c.self.inside in
    let may : may_begin (place_of a.place) ≡ true = search rules in
    let ends : EndsValue c.take_word.new.self = c.if-not-take_word.ensures.ended (search rules) in
    sym c.self.view_is
    ∙ word_at (place_of a.place) a.cursor c.take_word.new.self value c.args.word.now may is ends
    (c.if-not-take_word.ensures.word (search rules))
