use Rattle.std.proofs.Common.{◌≡◌, ◌∷◌, Some, ap, ◌∙◌}
use Rattle.json.specs.Json.{read_key}
use Rattle.agg_segment.specs.storage.Document.{key_of}
use Rattle.agg_pages.proofs.lemmas.document_json.TokenValues.{object_value}
use Rattle.agg_pages.proofs.document_json.tokens.value.read_object.Goals as goal

pub returns : goal.returns
returns g c =
    let tokens = g.R.TokenReader.tokens in
    let name = c.in-Ok-Some.name.now in
    let next = c.in-Some.ensures in
    let first : read_key (tokens c.args.reader.now)
    ≡ Some (Some name, next.0 ∷ tokens c.next_token.new.self) =
    rw c.in-Ok-Some.field-0-is at c.in-Ok-Some.ensures
    ∙ ap (λ ts. Some (Some name, ts)) next.2 in
    let only = rw c.in-Some-2.is at c.in_ok-value.ensures in
    object_value (tokens c.args.reader.now) (tokens c.next_token.new.self)
    (tokens c.next_name-2.new.self) name next.0 (key_of c.in-Some-2.value) first
    (only next.0 next.1) (rw c.in-Ok-None.field-0-is at c.in-Ok-None.ensures)
