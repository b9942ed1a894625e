use Rattle.std.proofs.Common.{◌≡◌, take, map}
use Rattle.agg_segment.specs.storage.Dictionary.{address_at}
use Rattle.agg_segment.proofs.gatherings.dictionaries.addresses_of.Given as goal

abbrev pub invariant-loop-number : goal.invariant-loop-number
invariant-loop-number l = l.found.items
    ≡ map (λ n. (address_at l.addresses n).0) (take l.number-index l.numbers)
