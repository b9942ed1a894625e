use Rattle.std.proofs.Common.{false, sym, subst}
use Rattle.serde_json.specs.View.{items_view, view}
use Rattle.agg_request.specs.reading.CompositeJson.{IsSourceJson}
use Rattle.agg_request.specs.reading.Unsupported.{HasUnsupportedKind}
use Rattle.agg_request.specs.json_values.Json.{EachIs}
use Rattle.agg_request.specs.json_values.Unsupported.{HasUnsupportedItem}
use Rattle.agg_request.proofs.lemmas.json_values.Items.{each_at, each_more, some_at}
use Rattle.agg_request.proofs.lemmas.json_values.Readings.{refused_by}
use Rattle.agg_request.proofs.reading.composite.sources.read_items.Goals as goal

pub returns-in_err-read_source : goal.returns-in_err-read_source
returns-in_err-read_source c =
    let items = c.args.items.now in
    let i = c.loop-item.item-index in
    let value = c.item-item.result in
    refused_by (λ lenient. IsSourceJson lenient (view value)) (HasUnsupportedKind (view value))
    (λ lenient. EachIs (IsSourceJson lenient) (items_view items))
    (HasUnsupportedItem HasUnsupportedKind (items_view items))
    c.in_err-read_source.field-0.0 c.from_residual.result
    c.from_residual.ensures.1 c.in_err-read_source.ensures
    (λ has. some_at HasUnsupportedKind items i value c.loop-item-test.true
    (subst (λ v. HasUnsupportedKind (view v)) c.item-item.is has))
    (λ lenient sources h.
    let one = each_at (IsSourceJson lenient) items i value sources c.loop-item-test.true h in
    (one.0, subst (λ v. IsSourceJson lenient (view v) one.0) (sym c.item-item.is) one.1))

pub loop-item-preserved : goal.loop-item-preserved
loop-item-preserved c =
    each_more (IsSourceJson false) c.args.items.now c.loop-item.item-index c.item-item.result
    c.loop-item.sources c.in_ok-read_source.field-0 c.push.new.self c.loop-item-test.true
    c.item-item.is c.loop-item.invariant c.in_ok-read_source.ensures c.in_ok-push.ensures.ok
