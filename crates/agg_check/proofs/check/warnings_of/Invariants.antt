use Rattle.std.proofs.Common.{◌≡◌, false}
use Rattle.agg_check.specs.findings.Findings.{has_mistake}
use Rattle.agg_check.proofs.check.warnings_of.Given as goal

-- no mistake is kept
abbrev pub invariant-loop-finding : goal.invariant-loop-finding
invariant-loop-finding l = has_mistake l.warnings.items ≡ false
