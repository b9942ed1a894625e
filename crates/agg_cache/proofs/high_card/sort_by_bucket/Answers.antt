use Rattle.std.proofs.Common.{rules}
use Rattle.std.proofs.lemmas.Fn.{always_returns_same}
use Rattle.agg_cache.proofs.Partitions.{documents-sorted}
use Rattle.agg_cache.proofs.high_card.sort_by_bucket.Goals as goal

pub returns-clause-same : goal.returns-clause-same
returns-clause-same c =
    documents-sorted c.args.partition.now.items c.sort_by_key.new.self.items
    (c.sort_by_key.ensures.stable (λ e. e.0)
    (always_returns_same _ _ _ (λ a r f k. search rules)))
