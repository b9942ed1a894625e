use Rattle.std.proofs.Common.{◌∙◌, ap, is_some, option_map}
use Rattle.serde_json.specs.View.{view}
use Rattle.serde_json.proofs.Views.{view_of_ref, view-lookup}
use Rattle.agg_request.proofs.lemmas.json_values.JsonLemmas.{is_some_map}
use Rattle.agg_request.proofs.json_values.json_value.has_member.Goals as goal

pub returns : goal.returns
returns c =
    c.is_some.ensures ∙ is_some_map (λ x. view x.now) c.get.result
    ∙ ap is_some (view_of_ref c.get.result ∙ ap (option_map view) c.get.ensures.value
    ∙ view-lookup c.args.name.now c.args.members.now.entries)
