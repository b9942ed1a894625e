use Rattle.std.proofs.Common.{◌≡◌, [], ◌∷◌, sym, ap, ◌∙◌, subst, rules}
use Rattle.json.specs.Token.{begin_object}
use Rattle.agg_pages.specs.document_json.Tokens.{TakesMembers}
use Rattle.agg_pages.proofs.lemmas.document_json.TokenMembers.{whole_line}
use Rattle.agg_pages.proofs.document_json.tokens.open_tokens.Goals as goal

pub returns-clause-taken : goal.returns-clause-taken
returns-clause-taken g c = λ apart line is.
    let tokens = g.R.TokenReader.tokens in
    let inner = tokens c.next_token.new.self in
    let begun = rw c.in-Some-BeginObject.field-0-is at c.in-Some-BeginObject.ensures in
    let first : tokens c.args.reader.now ≡ begin_object ∷ inner =
    begun.2 ∙ ap (λ token. token ∷ inner) begun.1 in
    let over : tokens c.read_members.new.reader ≡ [] = c.if-not-has_ended.ensures (search rules) in
    let fields = c.read_members.new.fields.items in
    let taken = subst (λ left. TakesMembers inner left fields c.read_members.new.builder) over
    (c.in_ok-read_members.ensures.taken (search rules)) in
    whole_line line inner fields c.read_members.new.builder (sym is ∙ first) taken
    (c.are_distinct.ensures apart)
