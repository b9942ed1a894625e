use Rattle.std.proofs.Common.{inl, inr, codes}
use Rattle.serde_json.specs.View.{view}
use Rattle.agg_request.specs.reading.CompositeJson.{AreSources}
use Rattle.agg_request.specs.reading.CompositeJson.{IsCompositeJson, IsSizeOf}
use Rattle.agg_request.specs.reading.Unsupported.{HasUnsupportedComposite, HasUnsupportedSource}
use Rattle.agg_request.specs.json_values.Unsupported.{HasFloatAt}
use Rattle.agg_request.proofs.lemmas.json_values.Readings.{refused_by}
use Rattle.agg_request.proofs.reading.composite.read_composite.Goals as goal

pub returns-in_err-sources : goal.returns-in_err-sources
returns-in_err-sources c =
    let body = view c.args.body.now in
    refused_by (λ lenient. AreSources lenient body) (HasUnsupportedSource body)
    (λ lenient. IsCompositeJson lenient body) (HasUnsupportedComposite body)
    c.in_err-sources.field-0.0 c.from_residual.result
    c.from_residual.ensures.1 c.in_err-sources.ensures (λ h. inr (inl h))
    (λ lenient composite h. (composite.sources, h.sources))

pub returns-in_err-size : goal.returns-in_err-size
returns-in_err-size c =
    let body = view c.args.body.now in
    refused_by (λ lenient. IsSizeOf lenient body) (HasFloatAt (codes "size") body)
    (λ lenient. IsCompositeJson lenient body) (HasUnsupportedComposite body)
    c.in_err-size.field-0.0 c.from_residual-in_err-size.result
    c.from_residual-in_err-size.ensures.1 c.in_err-size.ensures (λ h. inl h)
    (λ lenient composite h. (composite.size, h.size))
