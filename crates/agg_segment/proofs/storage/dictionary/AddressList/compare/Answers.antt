use Rattle.std.proofs.Common.{◌<◌, ◌∙◌, ℕ, get_or, sym, length, ap, arith}
use Rattle.std.specs.Ordering.{nat_cmp}
use Rattle.std.proofs.lemmas.Cmp.{nat_cmp_total}
use Rattle.std.proofs.lemmas.List.{length-map}
use Rattle.std.proofs.lemmas.Map.Lookups.{exact_unsigned}
use Rattle.agg_values.specs.declared.address.Address.{Address}
use Rattle.agg_segment.specs.storage.Dictionary.{address_cmp}
use Rattle.agg_segment.specs.storage.Dictionary.{address_at}
use Rattle.agg_segment.proofs.lemmas.storage.Places.{places_ascend, address_read, addresses}
use Rattle.agg_segment.proofs.storage.dictionary.AddressList.compare.Goals as goal

pub returns-clause-addresses : goal.returns-clause-addresses
returns-clause-addresses c =
    let ns = c.self.inside.addresses.value.items in
    let zeroth : Address = record { 0 = 0 } in
    let len = length-map ns (λ (n : ℕ). let x : Address = record { 0 = n } in x) in
    let view = ap length c.self.view_is in
    let left : c.args.left < length ns = omega (arith, len, view, c.requires.left) in
    let right : c.args.right < length ns = omega (arith, len, view, c.requires.right) in
    rw (← c.self.view_is)
    (c.cmp.ensures ∙ sym (places_ascend nat_cmp nat_cmp_total exact_unsigned ns c.self.invariant
    c.args.left c.args.right 0 left right)
    ∙ ap (λ (a : Address). address_cmp a (record { 0 = get_or ns c.args.right 0 }))
    (sym (address_read ns c.args.left zeroth left))
    ∙ ap (address_cmp (address_at (addresses ns) c.args.left))
    (sym (address_read ns c.args.right zeroth right)))
