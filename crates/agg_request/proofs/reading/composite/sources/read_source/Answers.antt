use Rattle.std.proofs.Common.{◌≡◌, Some, rules}
use Rattle.serde_json.specs.View.{view}
use Rattle.agg_request.specs.json_values.Json.{only_member}
use Rattle.agg_request.proofs.lemmas.reading.CompositeSources.{read_named}
use Rattle.agg_request.proofs.reading.composite.sources.read_source.Goals as goal

pub returns : goal.returns
returns c =
    let found : only_member (view c.args.value.now)
    ≡ Some (c.in-Some.name.now, view c.in-Some.named.now) = search rules in
    let next : only_member (view c.in-Some.named.now)
    ≡ Some (c.in-Some-only_member.kind.now, view c.in-Some-only_member.body.now) = search rules in
    read_named (view c.args.value.now) c.in-Some.name.now c.in-Some-only_member.kind.now
    (view c.in-Some.named.now) (view c.in-Some-only_member.body.now) c.read_kind.result found next
    c.read_kind.ensures
