use Rattle.std.proofs.Common.{◌∙◌, ap, arith}
use Rattle.agg_cache.specs.Waiting.{docs_at}
use Rattle.agg_cache.proofs.BatchesById.{docs-more, numbered-more}
use Rattle.agg_cache.proofs.low_card.grow_to.Goals as goal

pub loop-batches-preserved : goal.loop-batches-preserved
loop-batches-preserved c = record {
  numbered = rw c.in_ok-push.ensures.items
      (numbered-more c.loop-batches.batches.items _ c.loop-batches.invariant.numbered
      (omega arith));
  same = λ id. ap (λ batches. docs_at batches id) c.in_ok-push.ensures.items
      ∙ docs-more c.loop-batches.batches.items _ id c.new.ensures
      ∙ c.loop-batches.invariant.same id;
}
