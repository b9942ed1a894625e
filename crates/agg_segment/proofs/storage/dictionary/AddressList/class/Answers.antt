use Rattle.agg_segment.proofs.lemmas.storage.Places.{addresses_ascend}
use Rattle.agg_segment.proofs.storage.dictionary.AddressList.class.Goals as goal

pub returns-clause-order : goal.returns-clause-order
returns-clause-order c = rw (← c.self.view_is)
    (addresses_ascend c.self.inside.addresses.value.items c.self.invariant)
