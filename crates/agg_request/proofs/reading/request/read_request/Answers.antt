use Rattle.std.proofs.Common.{◌≡◌, Some, rules}
use Rattle.serde_json.specs.Find.{as_object}
use Rattle.serde_json.specs.View.{view, members_view}
use Rattle.agg_request.proofs.lemmas.reading.RequestReadings.{no_request, outside, read_ok, unknown}
use Rattle.agg_request.proofs.lemmas.reading.RequestReadings.{unsupported}
use Rattle.agg_request.proofs.reading.request.read_request.Goals as goal

pub returns : goal.returns
returns g c =
    let pool = c.args.builders.items in
    let name_of = g.B.HasName.name_of in
    let value = view c.args.value.now in
    let members = members_view c.in-Some.members.now.entries in
    let found : as_object (view c.args.value.now)
    ≡ Some (members_view c.in-Some.members.now.entries) = search rules in
    let result = c.read_members.result in
    let told = c.read_members.ensures.read in
    record {
      ok = read_ok pool name_of value members found result told;
      unsupported = unsupported pool name_of value members found result told;
      grammar = outside pool name_of value members found result told;
      unknown = unknown pool name_of value members found result told;
      none = no_request pool name_of value members found result told;
    }
