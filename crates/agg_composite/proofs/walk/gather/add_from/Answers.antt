use Rattle.std.proofs.Common.{◌≡◌, ◌∙◌, ◌++◌, sym, ap}
use Rattle.std.proofs.lemmas.Result.{on_ok_weaker}
use Rattle.agg_composite.specs.Choices.{divided_choices}
use Rattle.agg_composite.specs.accessor.Least.{least_at, numbers_from}
use Rattle.agg_composite.specs.declared.accessor.after_key.PrecomputedAfterKey.{PrecomputedAfterKey}
use Rattle.agg_composite.specs.declared.accessor.after_key.PrecomputedAfterKey.TheVariants.{Next}
use Rattle.agg_composite.proofs.lemmas.accessor.LeastValues.{numbers-from_start}
use Rattle.agg_composite.proofs.walk.gather.add_from.Goals as goal

pub returns-in-Next-eq0 : goal.returns-in-Next-eq0
returns-in-Next-eq0 c =
    let source = c.args.read.now.source.now in
    let a = c.args.read.now.accessors.now in
    let accessor = c.args.read.now.accessor.now in
    let index = c.args.read.now.index in
    let numbers = c.args.numbers.now in
    let start : least_at a.min index ≡ Next 0 = cc in
    on_ok_weaker c.add_column.result
    (λ added. added
    ∙ ap (λ ns. c.args.choices.now.items ++ divided_choices source a accessor index ns)
    (sym (ap (λ (place : PrecomputedAfterKey). numbers_from place numbers) start
    ∙ numbers-from_start numbers)))
    c.add_column.ensures
