use Rattle.std.proofs.Common.{◌≡◌, true, sym, ◌∙◌, rules}
use Rattle.json.specs.Lex.{may_close}
use Rattle.agg_pages.specs.document_json.Plain.{place_of}
use Rattle.agg_pages.proofs.lemmas.document_json.PlainTokens.{end_at}
use Rattle.agg_pages.proofs.document_json.plain.reader.PlainReaderTokenReader.has_ended.Goals
    as goal

pub returns : goal.returns
returns c = λ over.
    let a = c.self.inside in
    let may : may_close (place_of a.place) ≡ true = search rules in
    sym c.self.view_is ∙ end_at (place_of a.place) a.cursor may (c.is_at_end.ensures over)
