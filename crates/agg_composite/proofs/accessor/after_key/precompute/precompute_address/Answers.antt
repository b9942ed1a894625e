use Rattle.agg_composite.proofs.lemmas.accessor.Places.{address_place}
use Rattle.agg_composite.proofs.accessor.after_key.precompute.precompute_address.Goals as goal

pub returns : goal.returns
returns c =
    rw c.from.ensures (address_place c.args.column.now.keys c.args.address
    c.address_or_next.result c.requires c.address_or_next.ensures.ascending
    c.address_or_next.ensures.hit)
