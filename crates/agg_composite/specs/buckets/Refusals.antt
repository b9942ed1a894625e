-- Why a collector refuses documents, where visits of their tuples end early.
use Rattle.agg_cache.specs.declared.error.CollectError.{CollectError}
use Rattle.agg_cache.specs.declared.error.CollectError.TheVariants as refusal
use Rattle.agg_composite.specs.declared.buckets.visit_error.VisitError.{VisitError}
use Rattle.agg_composite.specs.declared.buckets.visit_error.VisitError.TheVariants as early

-- why a collector refuses documents, by why the visits of their tuples ended early
abbrev pub refused : VisitError → CollectError
refused early.TooMany = refusal.TooMany
refused early.OutOfMemory = refusal.OutOfMemory
