use Rattle.std.proofs.Common.{◌≡◌, filter, ap, ◌∙◌}
use Rattle.agg_cache.specs.Waiting.{has_docs}
use Rattle.agg_cache.proofs.BatchesById.{filled-ascending, filled-batches}
use Rattle.agg_cache.proofs.low_card.LowCardSubAggCacheSubAggCache.take_batches.Goals as goal

-- the batches that have documents are given
given : (c : goal.After-from_vec) → c.from_vec.result ≡ filter has_docs c.self.inside.batches.items
given c = c.from_vec.ensures ∙ c.without_empty.ensures
    ∙ ap (λ batches. filter has_docs batches.items) c.replace-batches.ensures.value

pub returns-clause-ok : goal.returns-clause-ok
returns-clause-ok c = filled-batches c.self.inside.batches.items c.from_vec.result
    c.args.self.now c.self.invariant c.self.view_is (given c)

pub returns-clause-ascending : goal.returns-clause-ascending
returns-clause-ascending c = filled-ascending c.self.inside.batches.items c.from_vec.result
    c.self.invariant (given c)
