use Rattle.std.proofs.Common.{◌≡◌, ◌++◌, map, string_bytes, true}
use Rattle.agg_results.specs.final_results.Appending.{more_items}
use Rattle.agg_results.specs.final_results.PartTexts.{bucket_text}
use Rattle.agg_results.proofs.final_results.ending_text.write_ending_buckets.Given as goal

-- the text so far with the buckets that are left is the whole
abbrev pub invariant-loop-bucket : goal.invariant-loop-bucket
invariant-loop-bucket l =
    string_bytes l.text ++ more_items l.first (map bucket_text l.bucket-iterator)
    ≡ string_bytes l.initial.text ++ more_items true (map bucket_text l.fn.buckets.items)
