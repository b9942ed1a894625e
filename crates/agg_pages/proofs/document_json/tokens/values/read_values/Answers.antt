use Rattle.std.proofs.Common.{◌∷◌, ap, ◌∙◌}
use Rattle.agg_pages.proofs.lemmas.document_json.TokenFields.{if_array}
use Rattle.agg_pages.proofs.document_json.tokens.values.read_values.Goals as goal

pub returns-in-Some-BeginArray-clause-taken : goal.returns-in-Some-BeginArray-clause-taken
returns-in-Some-BeginArray-clause-taken g c =
    let tokens = g.R.TokenReader.tokens in
    let inner = tokens c.next_token.new.self in
    let begun = rw c.in-Some-BeginArray.field-0-is at c.in-Some-BeginArray.ensures in
    if_array c.args.field (tokens c.args.reader.now) inner (tokens c.read_items.new.reader)
    c.args.builder.now c.read_items.new.builder c.read_items.result
    (begun.2 ∙ ap (λ token. token ∷ inner) begun.1) c.read_items.ensures.taken
