-- The roofs of requests.
use Rattle.std.proofs.Common.{◌≡◌, ◌≤◌, ◌+◌, ℕ, Bool, List, ◌++◌, ap, arith}
use Rattle.std.specs.List.Sorted.{IsPermutation}
use Rattle.std.proofs.lemmas.List.Sorted.{IsPermutation-sym}
use Rattle.agg_segment.specs.storage.Document.{Fields}
use Rattle.agg_request_tree.specs.Request.{Request}
use Rattle.agg_request_tree.specs.charges.Charges.{fixed_charge}
use Rattle.agg_request_tree.specs.charges.Roof.{low_roof, roof}
use Rattle.agg_request_tree.specs.charges.Settled.{IsSettled}
use Rattle.agg_request_tree.specs.charges.Within.{Within}
use Rattle.agg_request_tree.proofs.lemmas.charges.LawfulRequests.{Lawful-request}
use Rattle.agg_request_tree.proofs.lemmas.charges.SettledRequests.{Settles-request}
use Rattle.agg_request_tree.proofs.lemmas.charges.WithinLists.{Within-more, Within-permutation}

module _ {B : Type 0} (is_match : B → Fields → Bool) (request : Request B) (documents : ℕ) where
  -- a low roof is at least the fixed charge
  pub low-fixed : (matches : List Fields)
      → fixed_charge request documents ≤ low_roof is_match request documents matches
  low-fixed matches = omega arith

  -- a low roof is at most the roof
  pub low-at_most : (matches : List Fields)
      → low_roof is_match request documents matches ≤ roof is_match request documents matches
  low-at_most matches = omega (arith, (Lawful-request is_match request).lower matches)

  -- a low roof is the roof where the request is settled
  pub low-settled : (matches : List Fields) → IsSettled is_match request matches
      → low_roof is_match request documents matches ≡ roof is_match request documents matches
  low-settled matches settled =
      ap (λ n. fixed_charge request documents + n)
      ((Settles-request is_match request).settled matches settled)

  -- a roof doesn't fall from a list to one that it is within
  pub roof-within : (matches others : List Fields) → Within matches others
      → roof is_match request documents matches ≤ roof is_match request documents others
  roof-within matches others inside =
      omega (arith, (Lawful-request is_match request).rises matches others inside)

  -- a roof doesn't fall where documents are added
  pub roof-more : (matches others : List Fields)
      → roof is_match request documents matches
      ≤ roof is_match request documents (matches ++ others)
  roof-more matches others =
      roof-within matches (matches ++ others) (Within-more matches others)

  -- it is the same for any order of them
  pub roof-any_order : (matches others : List Fields) → IsPermutation matches others
      → roof is_match request documents matches ≡ roof is_match request documents others
  roof-any_order matches others moved = omega (
    arith,
    roof-within matches others (Within-permutation matches others moved),
    roof-within others matches
        (Within-permutation others matches (IsPermutation-sym matches others moved)),
  )

  -- the low roof is the same for any order of the documents
  pub low-any_order : (matches others : List Fields) → IsPermutation matches others
      → low_roof is_match request documents matches
      ≡ low_roof is_match request documents others
  low-any_order matches others moved =
      ap (λ n. fixed_charge request documents + n)
      ((Lawful-request is_match request).low_same matches others
      (Within-permutation matches others moved)
      (Within-permutation others matches (IsPermutation-sym matches others moved)))

module _ {B : Type 0} (is_match : B → Fields → Bool) (request : Request B) where
  -- what is settled over a list is over each list within it
  pub settled-within : (matches others : List Fields) → Within matches others
      → IsSettled is_match request others → IsSettled is_match request matches
  settled-within = (Settles-request is_match request).settles
