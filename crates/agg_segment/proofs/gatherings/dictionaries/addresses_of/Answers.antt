use Rattle.std.proofs.Common.{ℕ, map, ap, ◌∙◌, arith}
use Rattle.std.proofs.lemmas.List.{take_all}
use Rattle.agg_segment.specs.storage.Dictionary.{address_at}
use Rattle.agg_segment.proofs.ListedPlaces.{addresses_all}
use Rattle.agg_segment.proofs.gatherings.dictionaries.addresses_of.Goals as goal

pub returns : goal.returns
returns c =
    let numbers = c.args.numbers.now in
    let addresses = c.args.addresses.now in
    addresses_all numbers addresses c.loop-number.found.items
    (c.loop-number.invariant ∙ ap (map (λ (n : ℕ). (address_at addresses n).0))
    (take_all c.loop-number.number-index numbers (omega (arith, c.loop-number-test.false))))
