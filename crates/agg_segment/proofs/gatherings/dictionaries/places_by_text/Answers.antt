use Rattle.std.proofs.Common.{◌<◌, length}
use Rattle.std.proofs.lemmas.List.Sorted.{All-permutation, Contains-permutation}
use Rattle.std.proofs.lemmas.Result.{IfOk-weaker}
use Rattle.agg_segment.proofs.ListedPlaces.{places_within}
use Rattle.agg_segment.proofs.gatherings.dictionaries.places_by_text.Goals as goal

pub returns-clause-all : goal.returns-clause-all
returns-clause-all c = IfOk-weaker c.sort_by_text.result _ _
    (λ sorted moved k d l. Contains-permutation c.in_ok-places.places.items sorted.items _ moved
    (c.in_ok-places.ensures.all k d l))
    c.sort_by_text.ensures.permutation

pub returns-clause-within : goal.returns-clause-within
returns-clause-within c = IfOk-weaker c.sort_by_text.result _ _
    (λ sorted moved. All-permutation (λ p. p < length c.args.texts.now)
    c.in_ok-places.places.items sorted.items moved
    (places_within c.args.numbers.now (length c.args.texts.now) c.in_ok-places.places.items
    c.requires c.in_ok-places.ensures.only))
    c.sort_by_text.ensures.permutation
