use Rattle.std.proofs.Common.{◌++◌, ◌∙◌, ap, append_assoc, arith, map, string_bytes}
use Rattle.agg_results.specs.final_results.ResultsText.{comma_unless}
use Rattle.agg_results.specs.final_results.PartTexts.{bucket_text}
use Rattle.agg_results.proofs.lemmas.final_results.AppendedItems.{all-appended, byte-appended}
use Rattle.agg_results.proofs.lemmas.final_results.AppendedItems.{item-appended}
use Rattle.agg_results.proofs.final_results.ending_text.write_ending_buckets.Goals as goal

pub loop-bucket-preserved : goal.loop-bucket-preserved
loop-bucket-preserved c =
    item-appended _ _ _ (bucket_text c.in-Some.bucket) _ _ _ _
    (ap (map bucket_text) c.in-Some.ensures.steps)
    (c.in_ok-write_bucket.ensures
    ∙ ap (λ t. t ++ bucket_text c.in-Some.bucket) c.in_ok-write_comma.ensures.comma
    ∙ append_assoc (string_bytes c.loop-bucket.text) (comma_unless c.loop-bucket.first)
    (bucket_text c.in-Some.bucket))
    c.write_comma.ensures.next c.loop-bucket.invariant

pub returns : goal.returns
returns c =
    all-appended _ _ _ _ (map bucket_text c.args.buckets.items) _ _ 91 93
    (byte-appended _ _ _ 91 c.in_ok-push.ensures.bytes (c.in_ok-push.ensures.ascii (omega arith)))
    c.loop-bucket.invariant
    (ap (map bucket_text) c.in-None.ensures.steps.0)
    (byte-appended _ _ _ 93 c.in_ok-push-2.ensures.bytes
    (c.in_ok-push-2.ensures.ascii (omega arith)))
