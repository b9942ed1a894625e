-- The text of an answer.
use Rattle.std.specs.Prelude.{◌+◌, ℕ, List, [], ◌∷◌, ◌++◌, Bool, if◌then◌else◌, codes, decimal}
use Rattle.std.specs.Prelude.{length, sum_by}
use Rattle.agg_results.specs.declared.final_results.types.AggregationResults.{AggregationResults}
use Rattle.agg_engine.specs.declared.walk.Walk.{Walk}
use Rattle.agg_engine.specs.declared.walk.error.WalkError.{WalkError}
use Rattle.agg_results.specs.final_results.BucketCount.{results_buckets}
use Rattle.agg_results.specs.final_results.ResultsText.{results_text}
use Rattle.agg_engine.specs.WalkError.{error_name}

-- the line of a page, pages counted from 1
abbrev pub page_line : ℕ → AggregationResults → List ℕ
page_line number results =
    codes "{\"page\":" ++ decimal number
    ++ codes ",\"results\":" ++ results_text results
    ++ codes "}\n"

-- a line for each page from a number on
abbrev pub page_lines : ℕ → List AggregationResults → List ℕ
page_lines number [] = []
page_lines number (page ∷ pages) = page_line number page ++ page_lines (number + 1) pages

-- whether the walk has ended
abbrev pub ended_line : Bool → List ℕ
ended_line ended = if ended then codes "{\"ended\":true}\n" else codes "{\"ended\":false}\n"

-- a walk: its pages, and then whether it has ended
abbrev pub walk_text : Walk → List ℕ
walk_text walk = page_lines 1 walk.pages ++ ended_line walk.ended

-- a refusal, by the name of its error
abbrev pub refusal_text : WalkError → List ℕ
refusal_text error = codes "error: " ++ error_name error ++ 10 ∷ []

-- how many buckets all pages of a walk have
abbrev pub buckets_of_walk : Walk → ℕ
buckets_of_walk walk = sum_by results_buckets walk.pages

-- whether the walk has ended, as JSON
abbrev pub ended_text : Bool → List ℕ
ended_text ended = if ended then codes "true" else codes "false"

-- a summary of a walk: how many buckets and pages it has, and whether it has ended
abbrev pub summary_text : Walk → List ℕ
summary_text walk =
    codes "{\"buckets\":" ++ decimal (buckets_of_walk walk)
    ++ codes ",\"ended\":" ++ ended_text walk.ended
    ++ codes ",\"pages\":" ++ decimal (length walk.pages)
    ++ codes "}\n"
