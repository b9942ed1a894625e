use Rattle.std.proofs.Common.{◌≡◌, ◌∙◌, arith}
use Rattle.std.proofs.lemmas.List.{take_all}
use Rattle.std.proofs.lemmas.List.Filters.{dedup_is}
use Rattle.agg_segment.proofs.ListedPlaces.{places_all, places_only}
use Rattle.agg_segment.proofs.gatherings.dictionaries.places_of.Goals as goal

pub returns-clause-all : goal.returns-clause-all
returns-clause-all c =
    let numbers = c.args.numbers.now in
    let are : c.loop-number.places.items ≡ numbers = c.loop-number.invariant
    ∙ take_all c.loop-number.number-index numbers (omega (arith, c.loop-number-test.false)) in
    rw (dedup_is _ _ _ c.dedup.ensures.filtered) (places_all numbers c.loop-number.places.items _
    are c.sort_unstable.ensures.permutation)

pub returns-clause-only : goal.returns-clause-only
returns-clause-only c =
    let numbers = c.args.numbers.now in
    let are : c.loop-number.places.items ≡ numbers = c.loop-number.invariant
    ∙ take_all c.loop-number.number-index numbers (omega (arith, c.loop-number-test.false)) in
    rw (dedup_is _ _ _ c.dedup.ensures.filtered) (places_only numbers c.loop-number.places.items _
    are c.sort_unstable.ensures.permutation)
