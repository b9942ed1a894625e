use Rattle.std.proofs.Common.{◌≡◌, length, subst, arith}
use Rattle.agg_request_tree.specs.charges.Charges.{fixed_charge}
use Rattle.agg_segment.specs.Segment.{Stored, documents_of}
use Rattle.agg_engine_tree.specs.collector_tree.Tree.{held_of}
use Rattle.agg_engine_tree.specs.held_bytes.Checked.{IsChecked}
use Rattle.agg_engine.specs.snapshot_results.ChargedTrees.{IsFixedCause}
use Rattle.agg_engine.proofs.lemmas.snapshot_results.ChargedTrees.{held-new}
use Rattle.agg_engine.proofs.lemmas.snapshot_results.Refusals.{caused-by}
use Rattle.agg_engine.proofs.snapshot_results.charged_tree.ChargedTree.new.Goals as goal

pub returns-in_err-fixed-clause-cause : goal.returns-in_err-fixed-clause-cause
returns-in_err-fixed-clause-cause c = λ meaning request same context.
    let fixed = fixed_charge request (length (documents_of c.args.segment.now)) in
    caused-by (IsFixedCause fixed c.args.limits.now) c.from_residual-in_err-fixed.result
    c.in_err-fixed.field-0.0 c.from_residual-in_err-fixed.ensures.1
    (c.in_err-fixed.ensures.cause fixed
    (subst (λ (s : Stored).
    IsChecked (fixed_charge request (length (documents_of s))) c.fixed_bytes.result) same
    (c.fixed_bytes.ensures meaning request context)))

pub returns-clause-fixed : goal.returns-clause-fixed
returns-clause-fixed c = λ meaning request same context.
    subst (λ (s : Stored).
    c.in_ok-fixed.fixed ≡ fixed_charge request (length (documents_of s))) same
    (subst (IsChecked (fixed_charge request (length (documents_of meaning.segment))))
    c.in_ok-fixed.ensures.amount (c.fixed_bytes.ensures meaning request context))

pub returns-clause-exact : goal.returns-clause-exact
returns-clause-exact c = omega (
  arith,
  c.in_ok-fixed.ensures.guard,
  c.guard-guard.ensures,
  held-new c.args.ctx.now c.requires.1 c.requires.0 (held_of c.in_ok-tree.tree)
      c.args.segment.now c.requires.2 c.requires.3
      (record {
        nodes = c.in_ok-tree.ensures.nodes;
        fits = c.in_ok-tree.ensures.fits;
        right = c.in_ok-tree.ensures.right;
      }),
)
