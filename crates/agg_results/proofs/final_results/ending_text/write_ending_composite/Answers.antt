use Rattle.std.proofs.Common.{arith, map}
use Rattle.agg_results.specs.final_results.PartTexts.{bucket_text}
use Rattle.agg_results.proofs.lemmas.final_results.AppendedComposites.{composite-appended}
use Rattle.agg_results.proofs.lemmas.final_results.AppendedItems.{byte-appended}
use Rattle.agg_results.proofs.final_results.ending_text.write_ending_composite.Goals as goal

pub returns : goal.returns
returns c =
    composite-appended _ _ _ _ _ _ (map bucket_text c.args.buckets.items) c.args.after_key.now
    (byte-appended _ _ _ 123 c.in_ok-push.ensures.bytes (c.in_ok-push.ensures.ascii (omega arith)))
    c.in_ok-write_after_key.ensures c.in_ok-push_str.ensures.bytes
    c.in_ok-write_ending_buckets.ensures
    (byte-appended _ _ _ 125 c.in_ok-push-2.ensures.bytes
    (c.in_ok-push-2.ensures.ascii (omega arith)))
