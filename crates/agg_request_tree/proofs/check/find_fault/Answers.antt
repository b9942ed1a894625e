use Rattle.std.proofs.Common.{◌∙◌, ap, arith, length}
use Rattle.std.specs.Prelude.{◌==◌}
use Rattle.std.proofs.lemmas.Bool.{false≢true}
use Rattle.agg_values.specs.declared.request_error.RequestError.TheVariants.{Invalid}
use Rattle.agg_request_tree.specs.Source.{Sources}
use Rattle.agg_request_tree.proofs.Faults.{HasFault-source, IsSound-parts, when-none, when-some}
use Rattle.agg_request_tree.proofs.check.find_fault.Goals as goal

pub returns-clause-some : goal.returns-clause-some
returns-clause-some c =
    when-some c.find_after_fault.result
    (λ fault. HasFault-source
    (record { sources = c.args.sources.now; size = c.args.size; after = c.args.after.now })
    (Invalid fault)) c.find_after_fault.ensures.some

pub returns-clause-none : goal.returns-clause-none
returns-clause-none c =
    when-none c.find_after_fault.result
    (λ each has. IsSound-parts
    (record { sources = c.args.sources.now; size = c.args.size; after = c.args.after.now })
    (λ empty. false≢true (c.if-is_empty.ensures
    ∙ ap (λ (sources : Sources). length sources == 0) empty))
    (λ many. omega (arith, c.if-sources-gt-MAX_SOURCES.false, many)) c.if-size-eq0.false
    c.if-has_duplicate.ensures (λ k s within. each k s within (has k s within)))
    c.find_after_fault.ensures.none
