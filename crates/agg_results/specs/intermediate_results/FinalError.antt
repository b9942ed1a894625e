-- The errors of final results, from those of merging.
use Rattle.agg_results.specs.declared.metric_results.error.MergeError.{MergeError}
use Rattle.agg_results.specs.declared.metric_results.error.MergeError.TheVariants as merge
use Rattle.agg_results.specs.declared.intermediate_results.error.FinalError.{FinalError}
use Rattle.agg_results.specs.declared.intermediate_results.error.FinalError.TheVariants as last

-- the error of final results for one of merging
abbrev pub error_from_merge : MergeError → FinalError
error_from_merge merge.Mismatch = last.Mismatch
error_from_merge merge.TooMany = last.TooMany
error_from_merge merge.OutOfMemory = last.OutOfMemory
