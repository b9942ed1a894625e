use Rattle.std.proofs.Common.{Vec, Global, ℕ, ◌≡◌, ◌<◌, length, ap, arith}
use Rattle.std.specs.Ordering.{nat_cmp}
use Rattle.std.proofs.lemmas.Cmp.{nat_cmp_total}
use Rattle.std.proofs.lemmas.Map.Lookups.{exact_unsigned}
use Rattle.agg_segment.specs.declared.storage.hit.OrdHit.TheVariants.{Exact, Next, AfterLast}
use Rattle.agg_segment.proofs.lemmas.storage.Places.{boxed_slice, hit_exact, hit_next, hit_past}
use Rattle.agg_segment.proofs.lemmas.storage.Places.{address_hit}
use Rattle.agg_segment.proofs.lemmas.storage.AscendingAddresses.{addresses_ascend}
use Rattle.agg_segment.proofs.storage.dictionary.AddressList.hit.Goals as goal

pub returns-in-Ok-clause-hit : goal.returns-in-Ok-clause-hit
returns-in-Ok-clause-hit c =
    rw (← c.self.view_is, ← (boxed_slice c.deref-2.ensures.value c.deref.ensures))
    (address_hit c.deref-2.result.now c.args.address (Exact c.in-Ok.at)
    (hit_exact nat_cmp nat_cmp_total exact_unsigned c.deref-2.result.now (rw (boxed_slice
    c.deref-2.ensures.value c.deref.ensures)
    c.self.invariant) c.args.address.0 c.in-Ok.at c.in-Ok.ensures.bound
    c.in-Ok.ensures.position))

pub returns-then-at-len-clause-hit : goal.returns-then-at-len-clause-hit
returns-then-at-len-clause-hit c =
    let past : c.in-Err.at ≡ length c.deref-2.result.now =
    omega (
      arith,
      c.if-at-len.true,
      c.len.ensures,
      ap length (boxed_slice c.deref-2.ensures.value
          c.deref.ensures),
      ap (λ (v : Vec ℕ Global). length v.items) c.deref-in-Err.ensures,
    ) in
    rw (← c.self.view_is, ← (boxed_slice c.deref-2.ensures.value c.deref.ensures))
    (address_hit c.deref-2.result.now c.args.address AfterLast
    (hit_past nat_cmp nat_cmp_total exact_unsigned c.deref-2.result.now (rw (boxed_slice
    c.deref-2.ensures.value c.deref.ensures)
    c.self.invariant) c.args.address.0 c.in-Err.at c.in-Err.ensures.position past))

pub returns-else-at-len-clause-hit : goal.returns-else-at-len-clause-hit
returns-else-at-len-clause-hit c =
    let within : c.in-Err.at < length c.deref-2.result.now =
    omega (
      arith,
      c.if-at-len.false,
      c.len.ensures,
      c.in-Err.ensures.bound,
      ap length (boxed_slice c.deref-2.ensures.value c.deref.ensures),
      ap (λ (v : Vec ℕ Global). length v.items) c.deref-in-Err.ensures,
    ) in
    rw (← c.self.view_is, ← (boxed_slice c.deref-2.ensures.value c.deref.ensures))
    (address_hit c.deref-2.result.now c.args.address (Next c.in-Err.at)
    (hit_next nat_cmp nat_cmp_total exact_unsigned c.deref-2.result.now (rw (boxed_slice
    c.deref-2.ensures.value c.deref.ensures)
    c.self.invariant) c.args.address.0 c.in-Err.at c.in-Err.ensures.position within))

pub returns-in-Ok-clause-ascending : goal.returns-in-Ok-clause-ascending
returns-in-Ok-clause-ascending c = rw (← c.self.view_is)
    (addresses_ascend c.self.inside.addresses.value.items c.self.invariant)

pub returns-then-at-len-clause-ascending : goal.returns-then-at-len-clause-ascending
returns-then-at-len-clause-ascending c = rw (← c.self.view_is)
    (addresses_ascend c.self.inside.addresses.value.items c.self.invariant)

pub returns-else-at-len-clause-ascending : goal.returns-else-at-len-clause-ascending
returns-else-at-len-clause-ascending c = rw (← c.self.view_is)
    (addresses_ascend c.self.inside.addresses.value.items c.self.invariant)
