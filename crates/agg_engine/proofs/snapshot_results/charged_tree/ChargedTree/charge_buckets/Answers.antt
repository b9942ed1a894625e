use Rattle.std.proofs.Common.{◌*◌, subst}
use Rattle.agg_request_tree.specs.charges.Charges.{bucket_bytes}
use Rattle.agg_engine_tree.specs.held_bytes.Checked.{IsChecked}
use Rattle.agg_engine_tree.proofs.lemmas.held_bytes.Checked.{is-checked}
use Rattle.agg_engine.specs.snapshot_results.ChargedTrees.{IsFixedCause}
use Rattle.agg_engine.proofs.lemmas.snapshot_results.Refusals.{caused-by}
use Rattle.agg_engine.proofs.snapshot_results.charged_tree.ChargedTree.charge_buckets.Goals as goal

pub returns-in_err-charge-clause-cause : goal.returns-in_err-charge-clause-cause
returns-in_err-charge-clause-cause c =
    let bytes = bucket_bytes c.args.req.now.req.now * c.args.buckets in
    caused-by (IsFixedCause bytes c.args.limits.now) c.from_residual.result
    c.in_err-charge.field-0.0 c.from_residual.ensures.1
    (c.in_err-charge.ensures.cause bytes
    (subst (λ n. IsChecked (n * c.args.buckets) c.checked_mul-bytes.result) c.bucket_bytes.ensures
    (is-checked (c.bucket_bytes.result * c.args.buckets) c.checked_mul-bytes.result
    c.checked_mul-bytes.ensures)))
