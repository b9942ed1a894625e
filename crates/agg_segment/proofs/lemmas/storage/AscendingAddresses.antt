-- Addresses ascend as their numbers do.
use Rattle.std.proofs.Common.{◌≡◌, ℕ, List, [], ◌∷◌, map, Less}
use Rattle.std.specs.List.{AllByRecursion}
use Rattle.std.specs.List.Sorted.{IsStrictlySortedBy}
use Rattle.std.specs.Ordering.{nat_cmp}
use Rattle.agg_values.specs.declared.address.Address.{Address}
use Rattle.agg_segment.specs.storage.Dictionary.{address_cmp}

all_addresses : (n : ℕ) (ns : List ℕ) → AllByRecursion (λ m. nat_cmp n m ≡ Less) ns
    → AllByRecursion (λ (a : Address). address_cmp (record { 0 = n }) a ≡ Less)
    (map (λ m. record { 0 = m }) ns)
all_addresses n [] all = tt
all_addresses n (m ∷ ns) (less, all) = (less, all_addresses n ns all)

pub addresses_ascend : (ns : List ℕ) → IsStrictlySortedBy nat_cmp ns
    → IsStrictlySortedBy address_cmp (map (λ n. record { 0 = n }) ns)
unfolding IsStrictlySortedBy
addresses_ascend [] sorted = tt
addresses_ascend (n ∷ ns) (first, rest) = (all_addresses n ns first, addresses_ascend ns rest)
