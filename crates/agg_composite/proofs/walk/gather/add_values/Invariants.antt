use Rattle.std.proofs.Common.{take}
use Rattle.agg_request_tree.specs.Source.{keys_in}
use Rattle.agg_composite.specs.Choices.{AddsChoices}
use Rattle.agg_composite.specs.accessor.Accessors.{keys_from}
use Rattle.agg_composite.specs.accessor.Lanes.{columns_of, in_requested}
use Rattle.agg_composite.proofs.walk.gather.add_values.Given as goal

abbrev pub invariant-loop-turn : goal.invariant-loop-turn
invariant-loop-turn l =
    AddsChoices l.source l.accessors l.doc
    (keys_in l.source
    (keys_from l.source (take l.turn (in_requested l.order (columns_of l.columns))) l.doc))
    l.fn.choices.items l.choices.items
