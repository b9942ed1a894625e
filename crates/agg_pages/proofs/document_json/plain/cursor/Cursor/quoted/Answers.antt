use Rattle.std.proofs.Common.{◌≡◌, ◌∷◌, ap, ◌∙◌}
use Rattle.json.specs.Lex.{between, lex}
use Rattle.agg_pages.proofs.lemmas.document_json.PlainLexemes.{lex-plain}
use Rattle.agg_pages.proofs.document_json.plain.cursor.Cursor.quoted.Goals as goal

pub returns : goal.returns
returns c =
    let passed : c.args.self.now ≡ 34 ∷ c.take.new.self = c.if-not-take.ensures in
    ap (lex between) (passed ∙ ap (λ t. 34 ∷ t) c.in_ok-text.ensures.1)
    ∙ lex-plain c.in_ok-text.text.now c.before_quote.new.self c.in_ok-text.ensures.0
