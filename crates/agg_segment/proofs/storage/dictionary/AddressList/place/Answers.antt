use Rattle.std.proofs.Common.{ap, ◌∙◌}
use Rattle.std.specs.Ordering.{nat_cmp}
use Rattle.std.proofs.lemmas.Cmp.{nat_cmp_total}
use Rattle.std.proofs.lemmas.Map.Lookups.{exact_unsigned}
use Rattle.agg_segment.proofs.lemmas.storage.Places.{boxed_slice, found, not_missing, address_read}
use Rattle.agg_segment.proofs.lemmas.storage.Places.{number_listed}
use Rattle.agg_segment.proofs.storage.dictionary.AddressList.place.Goals as goal

pub returns-in-Ok-clause-address : goal.returns-in-Ok-clause-address
returns-in-Ok-clause-address c =
    rw (← c.self.view_is, ← (boxed_slice c.deref-2.ensures.value c.deref.ensures))
    (address_read c.deref-2.result.now c.in-Ok.at (record { 0 = 0 }) c.in-Ok.ensures.bound
    ∙ ap (λ n. record { 0 = n }) (found nat_cmp nat_cmp_total exact_unsigned c.deref-2.result.now
    (rw (boxed_slice c.deref-2.ensures.value c.deref.ensures) c.self.invariant) c.args.address.0
    c.in-Ok.at
    c.in-Ok.ensures.position 0))

pub returns-in-Err-clause-within : goal.returns-in-Err-clause-within
returns-in-Err-clause-within c =
    absurd
    (not_missing nat_cmp nat_cmp_total exact_unsigned c.deref-2.result.now (rw (boxed_slice
    c.deref-2.ensures.value c.deref.ensures)
    c.self.invariant) c.args.address.0 c.in-Err.at c.in-Err.ensures.position
    (number_listed c.deref-2.result.now c.args.address (rw (
      (boxed_slice c.deref-2.ensures.value
          c.deref.ensures),
      c.self.view_is,
    )
    c.requires)))

pub returns-in-Err-clause-address : goal.returns-in-Err-clause-address
returns-in-Err-clause-address c =
    absurd
    (not_missing nat_cmp nat_cmp_total exact_unsigned c.deref-2.result.now (rw (boxed_slice
    c.deref-2.ensures.value c.deref.ensures)
    c.self.invariant) c.args.address.0 c.in-Err.at c.in-Err.ensures.position
    (number_listed c.deref-2.result.now c.args.address (rw (
      (boxed_slice c.deref-2.ensures.value
          c.deref.ensures),
      c.self.view_is,
    )
    c.requires)))
