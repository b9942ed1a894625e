use Rattle.std.proofs.Common.{◌≡◌, ◌++◌, ℕ, filter, take}
use Rattle.agg_cache.specs.Waiting.{docs_of, is_id, under}
use Rattle.agg_segment.specs.Marks.{mark_at}
use Rattle.agg_filter.proofs.collector.push_matching.Given as goal

abbrev pub invariant-loop-doc : goal.invariant-loop-doc
invariant-loop-doc g l =
    (id : ℕ) → g.C.SubAggCache.waiting l.cache.0 id
    ≡ g.C.SubAggCache.waiting l.fn.cache.0 id ++ docs_of (is_id id)
    (under l.bucket_id (filter (mark_at l.evaluator) (take l.doc-index l.docs)))
