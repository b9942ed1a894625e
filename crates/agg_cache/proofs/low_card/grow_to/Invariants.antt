use Rattle.std.proofs.Common.{◌≡◌, ◌+◌, ◌-◌, ℕ}
use Rattle.std.specs.Vec.{vec_len}
use Rattle.agg_cache.specs.Waiting.{AreNumbered, docs_at}
use Rattle.agg_cache.proofs.low_card.grow_to.Given as goal

abbrev pub invariant-loop-batches : goal.invariant-loop-batches
invariant-loop-batches l = record {
  numbered : AreNumbered l.batches.items;
  same : (id : ℕ) → docs_at l.batches.items id ≡ docs_at l.initial.batches.items id;
}

abbrev pub decreases-loop-batches : goal.decreases-loop-batches
decreases-loop-batches l = l.bucket_id + 1 - vec_len l.batches
