use Rattle.std.proofs.Common.{IsSome, codes, rules}
use Rattle.serde_json.specs.View.{view}
use Rattle.agg_request.specs.json_values.Json.{IsField, present}
use Rattle.agg_request.specs.reading.RequestJson.{IsMetric}
use Rattle.agg_request.proofs.lemmas.json_values.Readings.{refused_by}
use Rattle.agg_request.proofs.reading.request.kind.read_metric.Goals as goal

pub returns-in_err-field : goal.returns-in_err-field
returns-in_err-field c =
    let body = view c.args.body.now in
    refused_by (λ lenient. IsField body) ⊥ (λ lenient. IsMetric lenient body)
    (IsSome (present (codes "missing") body)) c.in_err-field.field-0.0 c.from_residual.result
    c.from_residual.ensures.1 c.in_err-field.ensures (λ h. absurd h)
    (λ lenient field h. (field, h.0))

pub returns-then-is_some : goal.returns-then-is_some
returns-then-is_some c = search rules

pub returns : goal.returns
returns c = search rules
