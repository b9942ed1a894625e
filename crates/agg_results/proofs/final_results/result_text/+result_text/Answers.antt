use Rattle.std.proofs.Common.{append_assoc, ◌+◌, arith, ap, sym, subst, map, drop, ◌∙◌, ◌++◌}
use Rattle.std.proofs.Common.{option_map, string_bytes, true}
use Rattle.std.proofs.lemmas.List.{drop_all}
use Rattle.std.specs.Prelude.{decimal}
use Rattle.std.specs.List.Sorted.{IsStrictlySortedBy}
use Rattle.std.specs.Map.{keys_of}
use Rattle.agg_values.specs.Names.{name_cmp}
use Rattle.agg_results.specs.final_results.Appending.{more_members}
use Rattle.agg_results.specs.final_results.OwnMembers.{own_members}
use Rattle.agg_results.specs.final_results.ResultsText.{comma_unless, object_text}
use Rattle.agg_results.specs.final_results.ResultsText.{put_all, results_members}
use Rattle.agg_results.specs.final_results.PartTexts.{bucket_text, result_text}
use Rattle.agg_results.specs.final_results.ResultsText.{shown_key_text}
use Rattle.agg_results.proofs.lemmas.final_results.AppendedItems.{all-appended, byte-appended}
use Rattle.agg_results.proofs.lemmas.final_results.AppendedItems.{item-appended, left-at}
use Rattle.agg_results.proofs.lemmas.final_results.AppendedComposites.{composite-appended}
use Rattle.agg_results.proofs.lemmas.final_results.ResultFolds.{results_members-each}
use Rattle.agg_results.proofs.lemmas.final_results.AppendedResults.{own-ascend, result-appended}
use Rattle.agg_results.proofs.lemmas.final_results.AppendedResults.{results-done}
use Rattle.agg_results.proofs.final_results.result_text.+result_text.Goals as goal

pub write_composite-returns : goal.write_composite-returns
write_composite-returns t c =
    composite-appended _ _ _ _ _ _ (map bucket_text c.args.buckets.now) c.args.after_key.now
    (byte-appended _ _ _ 123 c.in_ok-push.ensures.bytes (c.in_ok-push.ensures.ascii (omega arith)))
    c.in_ok-write_after_key.ensures c.in_ok-push_str.ensures.bytes c.in_ok-write_buckets.ensures
    (byte-appended _ _ _ 125 c.in_ok-push-2.ensures.bytes
    (c.in_ok-push-2.ensures.ascii (omega arith)))

pub write_buckets-loop-bucket-preserved : goal.write_buckets-loop-bucket-preserved
write_buckets-loop-bucket-preserved t c =
    let left = left-at c.args.buckets.now c.loop-bucket.bucket-index c.bucket-item.result
    (omega arith) c.bucket-item.is in
    item-appended _ _ _ (bucket_text c.bucket-item.result) _
    (map bucket_text (drop (c.loop-bucket.bucket-index + 1) c.args.buckets.now)) _ _
    (ap (map bucket_text) left)
    (c.in_ok-write_bucket.ensures
    ∙ ap (λ t. t ++ bucket_text c.bucket-item.result) c.in_ok-write_comma.ensures.comma
    ∙ append_assoc (string_bytes c.loop-bucket.text) (comma_unless c.loop-bucket.first)
    (bucket_text c.bucket-item.result))
    c.write_comma.ensures.next c.loop-bucket.invariant

pub write_buckets-returns : goal.write_buckets-returns
write_buckets-returns t c =
    all-appended _ _ _ _ (map bucket_text c.args.buckets.now) _ _ 91 93
    (byte-appended _ _ _ 91 c.in_ok-push.ensures.bytes (c.in_ok-push.ensures.ascii (omega arith)))
    c.loop-bucket.invariant
    (ap (map bucket_text) (drop_all c.loop-bucket.bucket-index c.args.buckets.now (omega arith)))
    (byte-appended _ _ _ 93 c.in_ok-push-2.ensures.bytes
    (c.in_ok-push-2.ensures.ascii (omega arith)))

pub write_results-loop-name-init : goal.write_results-loop-name-init
write_results-loop-name-init t c =
    let entries = c.into_iter-name-iterator.ensures.into_iter_gives
    ∙ c.iter-name-items.ensures.entries in
    let members = ap (map (λ r. (r.0, result_text r.1))) entries
    ∙ sym (results_members-each c.args.results.now) in (
      ap (λ all. string_bytes c.push.new.self
          ++ more_members true (put_all all (own_members c.args.own))) members,
      subst (λ all. IsStrictlySortedBy name_cmp (keys_of all)) (sym entries)
          c.iter-name-items.ensures.ascending,
    )

pub write_results-loop-name-preserved : goal.write_results-loop-name-preserved
write_results-loop-name-preserved t c =
    let own = c.loop-name.own in
    let ascend = own-ascend decimal (object_text shown_key_text)
    (option_map (λ n. n.now) own.doc_count) (option_map (λ key. key.now) own.key) in
    result-appended result_text (own_members own) (own_members c.write_below.new.self)
    c.loop-name.name-iterator c.next.new.self c.in-Some.name.now c.in-Some.result.now
    _ _ _ _ _ _ _ _ _ _ _
    c.in-Some.ensures.steps ascend c.loop-name.invariant.1
    c.as_str.ensures c.in_ok-write_below.ensures.text c.in_ok-write_below.ensures.left
    c.in_ok-write_comma.ensures.comma c.write_comma.ensures.next
    c.as_str-in-loop-name.ensures c.in_ok-write_name.ensures
    c.in_ok-write_result.ensures c.loop-name.invariant.0

pub write_results-returns-clause-text : goal.write_results-returns-clause-text
write_results-returns-clause-text t c =
    results-done result_text (own_members c.loop-name.own)
    (put_all (results_members c.args.results.now) (own_members c.args.own))
    c.loop-name.name-iterator _ _ _ _ _ _ _ c.in-None.ensures.steps.0
    (byte-appended _ _ _ 123 c.in_ok-push.ensures.bytes (c.in_ok-push.ensures.ascii (omega arith)))
    c.in_ok-write_rest.ensures
    (byte-appended _ _ _ 125 c.in_ok-push-2.ensures.bytes
    (c.in_ok-push-2.ensures.ascii (omega arith))) c.loop-name.invariant.0
