use Rattle.std.proofs.Common.{Vec, Global, ℕ, List, ◌≡◌, ◌<◌, length, ap, arith}
use Rattle.std.proofs.lemmas.Cmp.{nat_list_cmp_total}
use Rattle.std.proofs.lemmas.Map.Lookups.{exact_bytes}
use Rattle.agg_values.specs.Names.{name_cmp}
use Rattle.agg_segment.proofs.lemmas.storage.Places.{boxed_slice, hit_exact, hit_next, hit_past}
use Rattle.agg_segment.proofs.storage.dictionary.Dictionary.hit.Goals as goal

pub returns-in-Ok-clause-hit : goal.returns-in-Ok-clause-hit
returns-in-Ok-clause-hit c =
    rw (← c.self.view_is, ← (boxed_slice c.deref-2.ensures.value c.deref.ensures))
    (hit_exact name_cmp nat_list_cmp_total exact_bytes c.deref-2.result.now (rw (boxed_slice
    c.deref-2.ensures.value c.deref.ensures)
    c.self.invariant) c.args.text.now c.in-Ok.at c.in-Ok.ensures.bound c.in-Ok.ensures.position)

pub returns-then-at-len-clause-hit : goal.returns-then-at-len-clause-hit
returns-then-at-len-clause-hit c =
    let past : c.in-Err.at ≡ length c.deref-2.result.now =
    omega (
      arith,
      c.if-at-len.true,
      c.len.ensures,
      ap length (boxed_slice c.deref-2.ensures.value
          c.deref.ensures),
      ap (λ (v : Vec (List ℕ) Global). length v.items) c.deref-in-Err.ensures,
    ) in
    rw (← c.self.view_is, ← (boxed_slice c.deref-2.ensures.value c.deref.ensures))
    (hit_past name_cmp nat_list_cmp_total exact_bytes c.deref-2.result.now (rw (boxed_slice
    c.deref-2.ensures.value c.deref.ensures)
    c.self.invariant) c.args.text.now c.in-Err.at c.in-Err.ensures.position past)

pub returns-else-at-len-clause-hit : goal.returns-else-at-len-clause-hit
returns-else-at-len-clause-hit c =
    let within : c.in-Err.at < length c.deref-2.result.now =
    omega (
      arith,
      c.if-at-len.false,
      c.len.ensures,
      c.in-Err.ensures.bound,
      ap length (boxed_slice c.deref-2.ensures.value c.deref.ensures),
      ap (λ (v : Vec (List ℕ) Global). length v.items) c.deref-in-Err.ensures,
    ) in
    rw (← c.self.view_is, ← (boxed_slice c.deref-2.ensures.value c.deref.ensures))
    (hit_next name_cmp nat_list_cmp_total exact_bytes c.deref-2.result.now (rw (boxed_slice
    c.deref-2.ensures.value c.deref.ensures)
    c.self.invariant) c.args.text.now c.in-Err.at c.in-Err.ensures.position within)
