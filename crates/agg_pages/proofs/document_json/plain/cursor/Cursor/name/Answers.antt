use Rattle.std.proofs.Common.{◌≡◌, ◌∷◌, sym, ap, ◌∙◌}
use Rattle.json.specs.Lex.{between, colon, lex, token}
use Rattle.json.specs.Token.{string}
use Rattle.agg_pages.proofs.lemmas.document_json.PlainLexemes.{lex-colon}
use Rattle.agg_pages.proofs.document_json.plain.cursor.Cursor.name.Goals as goal

pub returns : goal.returns
returns c =
    let passed : c.quoted.new.self ≡ 58 ∷ c.take.new.self = c.if-not-take.ensures in
    c.in_ok-name.ensures
    ∙ ap (λ l. token (string c.in_ok-name.name.now) ∷ l)
    (ap (lex between) passed ∙ lex-colon c.take.new.self
    ∙ ap (λ l. colon ∷ l) (sym c.skip_spaces.ensures))
