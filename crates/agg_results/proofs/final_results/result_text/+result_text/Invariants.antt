use Rattle.std.proofs.Common.{◌≡◌, ◌++◌, drop, map, string_bytes, true}
use Rattle.std.specs.List.Sorted.{IsStrictlySortedBy}
use Rattle.std.specs.Map.{keys_of}
use Rattle.agg_values.specs.Names.{name_cmp}
use Rattle.agg_results.specs.final_results.Appending.{more_items, more_members}
use Rattle.agg_results.specs.final_results.OwnMembers.{own_members}
use Rattle.agg_results.specs.final_results.ResultsText.{put_all}
use Rattle.agg_results.specs.final_results.PartTexts.{bucket_text, result_text}
use Rattle.agg_results.specs.final_results.ResultsText.{results_members}
use Rattle.agg_results.proofs.final_results.result_text.+result_text.Given as goal

-- the text so far with the buckets that are left is the whole
abbrev pub invariant-write_buckets-loop-bucket : goal.invariant-write_buckets-loop-bucket
invariant-write_buckets-loop-bucket l =
    string_bytes l.text ++ more_items l.first (map bucket_text (drop l.bucket-index l.buckets))
    ≡ string_bytes l.initial.text ++ more_items true (map bucket_text l.buckets)

-- the text so far with the results and own members that are left is the whole
abbrev pub invariant-write_results-loop-name : goal.invariant-write_results-loop-name
invariant-write_results-loop-name l =
    (string_bytes l.text
    ++ more_members l.first
    (put_all (map (λ r. (r.0, result_text r.1)) l.name-iterator) (own_members l.own))
    ≡ string_bytes l.initial.text
    ++ more_members true (put_all (results_members l.fn.results) (own_members l.fn.own)))
    × IsStrictlySortedBy name_cmp (keys_of l.name-iterator)
