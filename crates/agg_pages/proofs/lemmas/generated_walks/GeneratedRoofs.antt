-- The roof of a generated request.
use Rattle.std.proofs.Common.{◌≡◌, ◌≤◌, ℕ, List, [], ◌∷◌, Bool, true, false, codes}
use Rattle.std.proofs.Common.{ap, refl, ◌∙◌, arith}
use Rattle.std.specs.Prelude.{if◌then◌else◌, sum}
use Rattle.agg_values.specs.Names.{Named}
use Rattle.agg_values.specs.declared.after_key.AfterKey.{AfterKey}
use Rattle.agg_segment.specs.storage.Document.{Fields}
use Rattle.agg_request_tree.specs.charges.Charges.{fixed_charge, node_charge}
use Rattle.agg_request_tree.specs.charges.Roof.{Counts, composite_counts, counts_of, has_room}
use Rattle.agg_request_tree.specs.charges.Roof.{nothing, past_tuples, roof, together}
use Rattle.agg_request_tree.specs.charges.Roof.Height.{High}
use Rattle.agg_request_tree.proofs.lemmas.charges.CountsOut.{counts-made}
use Rattle.agg_request_tree.proofs.lemmas.charges.Sums.{sum_by-none}
use Rattle.agg_pages.specs.generated_walks.Walks.{most_bytes}
use Rattle.agg_pages.proofs.lemmas.generated_walks.GeneratedRequests.{below, composite_after, dates}
use Rattle.agg_pages.proofs.lemmas.generated_walks.GeneratedRequests.{listed, request_of}

-- what is counted below the composite: nothing
abbrev nothing_below : Counts
nothing_below = together ((codes "n", nothing) ∷ [])

-- a composite counts 100 buckets at most
bytes-most : (after : Named AfterKey) (documents : List Fields)
    → composite_counts (composite_after after) nothing_below High documents ≤ 12_800
bytes-most after documents =
    let composite = composite_after after in
    omega (
      arith,
      by_room (has_room composite documents) (sum_by-none (past_tuples composite documents)),
    )
  where
    by_room : {m : ℕ} (t : Bool) → m ≡ 0 → (if t then m else 0) ≡ 0
    by_room true none = none
    by_room false none = refl

module _ {B : Type 0} (is_match : B → Fields → Bool) (after : Named AfterKey) where
  -- the fixed charge: two nodes and two sources
  fixed-same : (documents : ℕ)
      → fixed_charge {B = B} (request_of (composite_after after)) documents ≡ 1_024
  fixed-same documents =
      ap sum (listed {B = B} (λ agg. node_charge documents agg ∷ []) (composite_after after))

  -- what a generated request counts
  counts-same : counts_of is_match (request_of (composite_after after))
      ≡ together ((codes "g", composite_counts (composite_after after) nothing_below) ∷ [])
  counts-same =
      ap (λ (c : Counts). together ((codes "g", c) ∷ []))
      (counts-made is_match _ below
      ∙ ap (λ (c : Counts). composite_counts (composite_after after) (together
      ((codes "n", c) ∷ [])))
      (counts-made is_match dates []))

  -- the roof is at most that of 100 buckets
  pub roof-most : (count : ℕ) (documents : List Fields)
      → roof is_match (request_of (composite_after after)) count documents ≤ most_bytes
  roof-most count documents = omega (
    arith,
    fixed-same count,
    ap (λ (c : Counts). c High documents) counts-same,
    bytes-most after documents,
  )
