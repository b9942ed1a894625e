use Rattle.std.proofs.Common.{◌≡◌, ◌∙◌, ap, map}
use Rattle.std.proofs.lemmas.List.{take_all}
use Rattle.serde_json.specs.Data.{string}
use Rattle.serde_json.specs.View.{view}
use Rattle.agg_pages.proofs.lemmas.header_text.HeaderMembers.{texts-written}
use Rattle.agg_pages.proofs.header_text.write_schema.Goals as goal

pub returns : goal.returns
returns c =
    let fields = c.fields-field-items.result.now in
    let each : map view c.loop-field.names.items ≡ map string c.args.schema.now =
    c.loop-field.invariant
    ∙ ap (map string) (take_all c.loop-field.field-index fields c.loop-field-test.false
    ∙ c.fields-field-items.ensures) in
    texts-written (view c.from.result) c.loop-field.names.items c.args.schema.now c.from.ensures
    each
