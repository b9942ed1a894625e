use Rattle.std.proofs.Common.{◌≡◌, Some, codes, option_and_then, rules}
use Rattle.serde_json.specs.Find.{as_array, get}
use Rattle.serde_json.specs.View.{items_view, view}
use Rattle.agg_request.proofs.lemmas.reading.CompositeSources.{read_array}
use Rattle.agg_request.proofs.reading.composite.sources.read_sources.Goals as goal

pub returns : goal.returns
returns c =
    let found : option_and_then as_array (get (codes "sources") (view c.args.body.now))
    ≡ Some (items_view c.in-Some.items.now) = search rules in
    read_array (view c.args.body.now) (items_view c.in-Some.items.now) c.read_items.result found
    c.read_items.ensures
