use Rattle.std.specs.Cmp.{unsigned_ties}
use Rattle.std.proofs.lemmas.Cmp.{nat_cmp_total}
use Rattle.std.proofs.lemmas.List.Filters.{dedup_is}
use Rattle.std.proofs.lemmas.List.Kept.{IsStrictlySortedBy-dedup}
use Rattle.agg_segment.proofs.lemmas.storage.Places.{keeps_numbers, address_listed}
use Rattle.agg_segment.proofs.storage.dictionary.AddressList.of.Goals as goal

pub invariant_of-result : goal.invariant_of-result
invariant_of-result c = rw (c.in_ok-addresses.ensures.ok, dedup_is _ _ _ c.dedup.ensures.filtered)
    (IsStrictlySortedBy-dedup
    nat_cmp_total unsigned_ties _ c.sort_unstable.ensures.sorted)

pub returns : goal.returns
returns c k d l = address_listed _ _ (rw (
  c.in_ok-addresses.ensures.ok,
  dedup_is _ _ _
      c.dedup.ensures.filtered,
)
    (keeps_numbers c.args.addresses.items _ c.sort_unstable.ensures.permutation k d l))
