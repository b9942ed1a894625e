use Rattle.std.proofs.Common.{codes, refl, sym, ◌∙◌}
use Rattle.json.specs.Token.{boolean, null}
use Rattle.std.proofs.Common.{true, false}
use Rattle.agg_pages.specs.declared.document_json.token_reader.LineToken.TheVariants as line
use Rattle.agg_pages.proofs.lemmas.document_json.PlainWords.{if_word}
use Rattle.agg_pages.proofs.document_json.plain.reader.PlainReaderTokenReader.next_token.Goals
    as goal

pub returns-in-116 : goal.returns-in-116
returns-in-116 c = rw c.then_some-in-116.ensures (if_word c.take_word.result (line.Bool true)
    (boolean true) (codes "true") c.args.self.now c.take_word.new.self refl refl
    (λ taken v is. sym c.pass_comma.ensures ∙ c.take_word.ensures taken v is))

pub returns-in-102 : goal.returns-in-102
returns-in-102 c = rw c.then_some-in-102.ensures (if_word c.take_word-in-102.result
    (line.Bool false) (boolean false) (codes "false") c.args.self.now
    c.take_word-in-102.new.self refl refl
    (λ taken v is. sym c.pass_comma.ensures ∙ c.take_word-in-102.ensures taken v is))

pub returns-in-110 : goal.returns-in-110
returns-in-110 c = rw c.then_some-in-110.ensures (if_word c.take_word-in-110.result line.Null
    null (codes "null") c.args.self.now c.take_word-in-110.new.self refl refl
    (λ taken v is. sym c.pass_comma.ensures ∙ c.take_word-in-110.ensures taken v is))
