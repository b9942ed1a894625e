use Rattle.std.proofs.Common.{◌∙◌, ◌<◌, ◌≤◌, [], ap, arith, get_or, length, rules}
use Rattle.std.proofs.Math.ListN.{set}
use Rattle.std.proofs.lemmas.List.{length-map, length-set}
use Rattle.agg_cache.specs.Partitions.{items_of}
use Rattle.agg_cache.proofs.Partitions.{items-set, none-past, none-set}
use Rattle.agg_cache.proofs.high_card.clear_partitions.Goals as goal

pub loop-i-preserved : goal.loop-i-preserved
loop-i-preserved c =
    let kept = c.loop-i.partitions.items in
    let at = c.loop-i.i in
    let within : at < length kept = search rules in
    record {
      none = λ place before.
          ap (λ partitions. get_or partitions place []) (items-set kept at c.clear.new.self)
          ∙ ap (λ part. get_or (set (items_of kept) at part) place []) c.clear.ensures.items
          ∙ none-set (items_of kept) at (omega (arith, within, length-map kept (λ p. p.items)))
          c.loop-i.invariant.none place before;
      as_many = length-set kept at c.clear.new.self ∙ c.loop-i.invariant.as_many;
    }

pub returns : goal.returns
returns c =
    let kept = c.loop-i.partitions.items in
    let end : length kept ≤ c.loop-i.i = search rules in
    none-past (items_of kept) c.loop-i.i (omega (arith, end, length-map kept (λ p. p.items)))
    c.loop-i.invariant.none
