use Rattle.std.proofs.Common.{rules}
use Rattle.std.proofs.lemmas.List.Elements.{filter_from_retain}
use Rattle.agg_cache.specs.Waiting.{has_docs}
use Rattle.agg_cache.proofs.low_card.without_empty.Goals as goal

pub returns : goal.returns
returns c =
    filter_from_retain _ has_docs (λ p x b q called. search rules) _ _ _ c.retain.ensures.filtered
