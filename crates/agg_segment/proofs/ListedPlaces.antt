-- Places and what they lead to, listed.
use Rattle.std.proofs.Common.{◌≡◌, ◌<◌, ℕ, List, get_or, map, sym, subst, arith}
use Rattle.std.specs.List.{All, Contains, dedup}
use Rattle.std.specs.List.Sorted.{IsPermutation}
use Rattle.std.specs.Prelude.{nat_eq}
use Rattle.std.proofs.lemmas.List.{get_or-map, length-map}
use Rattle.std.proofs.lemmas.List.Elements.{All-contains, All-contains_itself}
use Rattle.std.proofs.lemmas.List.Filters.{All-dedup}
use Rattle.std.proofs.lemmas.List.Kept.{Contains-dedup_nat}
use Rattle.std.proofs.lemmas.List.Sorted.{All-permutation, Contains-permutation}
use Rattle.agg_values.specs.declared.address.Address.{Address}
use Rattle.agg_segment.specs.storage.Dictionary.{address_at}

-- each place is kept by a sort and the loss of repeats
pub places_all : (numbers places moved : List ℕ) → places ≡ numbers → IsPermutation places moved
    → All (Contains (dedup nat_eq moved)) numbers
places_all numbers places moved are permuted k d l =
    Contains-dedup_nat moved (get_or numbers k d)
    (Contains-permutation places moved (get_or numbers k d) permuted
    (subst (λ ps. Contains ps (get_or numbers k d)) (sym are) (All-contains_itself numbers k d l)))

pub places_only : (all places moved : List ℕ) → places ≡ all → IsPermutation places moved
    → All (Contains all) (dedup nat_eq moved)
places_only all places moved are permuted = All-dedup nat_eq (Contains all) moved
    (All-permutation (Contains all) places moved permuted (subst (λ ps. All (Contains all) ps)
    (sym are) (All-contains_itself all)))

pub places_within : (numbers : List ℕ) (n : ℕ) (places : List ℕ) → All (λ p. p < n) numbers
    → All (Contains numbers) places → All (λ p. p < n) places
places_within numbers n places within only k d l =
    All-contains (λ p. p < n) numbers (get_or places k d) within (only k d l)

pub addresses_all : (numbers : List ℕ) (addresses : List Address) (found : List ℕ)
    → found ≡ map (λ n. (address_at addresses n).0) numbers
    → All (λ n. Contains found (address_at addresses n).0) numbers
addresses_all numbers addresses found are k d l =
    let f : ℕ → ℕ = λ n. (address_at addresses n).0 in
    let len = length-map numbers f in (
      k,
      rw are (omega (arith, len, l)),
      rw are (get_or-map f numbers k d (f
          (get_or numbers k d)) l),
    )

-- what is true of all items of a list is true of those that it contains
pub listed_all : {X Y : Type 0} (P : Y → Type 0) (f : X → Y) (items : List X) (found : List Y)
    → All (λ x. Contains found (f x)) items → All P found → All (λ x. P (f x)) items
listed_all P f items found listed all k d l = All-contains P found (f (get_or items k d)) all
    (listed k d l)
