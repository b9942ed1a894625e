use Rattle.std.proofs.Common.{◌≡◌, ◌∙◌, length, sym, ap}
use Rattle.agg_composite.specs.accessor.Least.{numbers_from}
use Rattle.agg_composite.specs.declared.accessor.after_key.PrecomputedAfterKey.{PrecomputedAfterKey}
use Rattle.agg_composite.specs.declared.accessor.after_key.PrecomputedAfterKey.TheVariants.{Next}
use Rattle.agg_composite.proofs.lemmas.accessor.LeastValues.{numbers-from_start}
use Rattle.agg_composite.proofs.accessor.occurrences.num_numbers.Goals as goal

pub returns-in-Next-eq0 : goal.returns-in-Next-eq0
returns-in-Next-eq0 c =
    let numbers = c.args.numbers.now in
    let start : c.args.least ≡ Next 0 = cc in
    sym (ap (λ (place : PrecomputedAfterKey). length (numbers_from place numbers)) start
    ∙ ap length (numbers-from_start numbers))
