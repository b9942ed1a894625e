use Rattle.std.proofs.Common.{◌≡◌, ◌++◌, take}
use Rattle.agg_cache.specs.Waiting.{AreFilled, pairs_of}
use Rattle.agg_cache.proofs.high_card.append_all.Given as goal

abbrev pub invariant-loop-bucket_id : goal.invariant-loop-bucket_id
invariant-loop-bucket_id l = record {
  pairs : pairs_of l.batches.items
      ≡ pairs_of l.initial.batches.items ++ take l.bucket_id-index l.pairs;
  filled : AreFilled l.batches.items;
}
