-- Mistakes among findings.
use Rattle.std.specs.Prelude.{List, Bool, true, false}
use Rattle.std.specs.List.{list_any}
use Rattle.agg_check.specs.declared.findings.finding.Finding.{Finding}
use Rattle.agg_check.specs.declared.findings.finding.Severity.{Severity}
use Rattle.agg_check.specs.declared.findings.finding.Severity.TheVariants.{Mistake, Warning}

-- whether this severity is that of a mistake
abbrev pub is_of_mistakes : Severity → Bool
is_of_mistakes Mistake = true
is_of_mistakes Warning = false

-- whether a finding is a mistake
abbrev pub is_mistake : Finding → Bool
is_mistake finding = is_of_mistakes finding.severity

-- whether there is a mistake among findings
abbrev pub has_mistake : List Finding → Bool
has_mistake found = list_any is_mistake found
