-- What a composite counts keeps to the laws where what those below it count does.
use Rattle.std.proofs.Common.{◌≡◌, ◌≤◌, ◌+◌, ℕ, Bool, true, false, List, map}
use Rattle.std.proofs.Common.{refl, arith}
use Rattle.std.specs.Prelude.{if◌then◌else◌}
use Rattle.std.specs.List.{sum_by}
use Rattle.agg_values.specs.Tuple.{KeyTuple}
use Rattle.agg_segment.specs.storage.Document.{Fields}
use Rattle.agg_request_tree.specs.Occurrences.{occurrences}
use Rattle.agg_request_tree.specs.Page.{documents_with}
use Rattle.agg_request_tree.specs.Uncut.{counted}
use Rattle.agg_request_tree.specs.declared.aggregation.CompositeAggregation.{CompositeAggregation}
use Rattle.agg_request_tree.specs.charges.Charges.{bucket_bytes}
use Rattle.agg_request_tree.specs.charges.Roof.{Counts, composite_counts, has_room, over_tuples}
use Rattle.agg_request_tree.specs.charges.Roof.{past_tuples}
use Rattle.agg_request_tree.specs.charges.Roof.Height.{Uncut, High, Low}
use Rattle.agg_request_tree.specs.charges.Within.{Within}
use Rattle.agg_request_tree.proofs.lemmas.charges.CompositeTuples.{counted-within, each_tuple-most}
use Rattle.agg_request_tree.proofs.lemmas.charges.CompositeTuples.{over_tuples-within, own-most}
use Rattle.agg_request_tree.proofs.lemmas.charges.CompositeTuples.{own-within, room-within}
use Rattle.agg_request_tree.proofs.lemmas.charges.CompositeTuples.{those-within}
use Rattle.agg_request_tree.proofs.lemmas.charges.Lawful.{Lawful}
use Rattle.agg_request_tree.proofs.lemmas.charges.Sums.{sum_by-at_most, sum_by-both}
use Rattle.agg_request_tree.proofs.lemmas.charges.Sums.{sum_by-constant, sum_by-flat_map}
use Rattle.agg_request_tree.proofs.lemmas.charges.Sums.{sum_by-same}

module _ (composite : CompositeAggregation) (below : Counts) (lawful : Lawful below) where
  abbrev whole : Counts
  whole = composite_counts composite below

  -- the documents of a tuple
  abbrev those : List Fields → KeyTuple → List Fields
  those = documents_with composite.sources

  -- those of each tuple
  abbrev tuples : List Fields → List KeyTuple
  tuples = past_tuples composite

  -- the composite's uncut list
  abbrev uncut : List Fields → List Fields
  uncut = counted composite

  abbrev bucket : ℕ
  bucket = bucket_bytes composite

  -- ---- uncut lists

  -- a document weighs a bucket, and what it weighs below, for each of its tuples
  abbrev weight : Fields → ℕ
  weight document =
      sum_by (λ d. bucket + lawful.weight d)
      (map (λ t. document) (occurrences composite.sources document))

  weighs : (documents : List Fields) → whole Uncut documents ≡ sum_by weight documents
  weighs documents = omega (
    arith,
    lawful.weighs (uncut documents),
    sum_by-constant bucket (uncut documents),
    sum_by-both (λ d. bucket) lawful.weight (uncut documents),
    sum_by-flat_map (λ d. bucket + lawful.weight d)
        (λ d. map (λ t. d) (occurrences composite.sources d)) documents,
  )

  -- ---- roofs

  -- what is counted over the documents of each tuple is at most what is over the uncut list
  tuples-uncut : (documents : List Fields)
      → over_tuples composite (below High) documents ≤ below Uncut (uncut documents)
  tuples-uncut documents = omega (
    arith,
    sum_by-at_most (λ t. below High (those documents t))
        (λ t. below Uncut (those documents t)) (tuples documents)
        (λ t. lawful.most (those documents t)),
    sum_by-same (λ t. below Uncut (those documents t))
        (λ t. sum_by lawful.weight (those documents t)) (tuples documents)
        (λ t. lawful.weighs (those documents t)),
    each_tuple-most composite lawful.weight documents,
    lawful.weighs (uncut documents),
  )

  most : (documents : List Fields) → whole High documents ≤ whole Uncut documents
  most documents = omega (
    arith,
    own-most composite documents,
    by_room (has_room composite documents) (tuples-uncut documents),
  )
    where
      by_room : {m n : ℕ} (t : Bool) → m ≤ n → (if t then m else n) ≤ n
      by_room true few = few
      by_room false few = omega arith

  uncut-rises : (documents others : List Fields) → Within documents others
      → below Uncut (uncut documents) ≤ below Uncut (uncut others)
  uncut-rises documents others inside = omega (
    arith,
    lawful.weighs (uncut documents),
    lawful.weighs (uncut others),
    (counted-within composite documents others inside).lighter lawful.weight,
  )

  tuples-rise : (documents others : List Fields) → Within documents others
      → over_tuples composite (below High) documents ≤ over_tuples composite (below High) others
  tuples-rise documents others inside =
      over_tuples-within composite documents others inside (below High)
      (λ t.
      lawful.rises (those documents t) (those others t)
      (those-within composite documents others inside t))

  rises : (documents others : List Fields) → Within documents others
      → whole High documents ≤ whole High others
  rises documents others inside = omega (
    arith,
    own-within composite documents others inside,
    by_room (has_room composite documents) (has_room composite others)
        (room-within composite documents others inside) (tuples-rise documents others inside)
        (tuples-uncut documents) (uncut-rises documents others inside),
  )
    where
      by_room : {a b c d : ℕ} (s t : Bool) → (t ≡ true → s ≡ true) → a ≤ c → a ≤ b → b ≤ d
          → (if s then a else b) ≤ (if t then c else d)
      by_room true true fits each over uncut = each
      by_room true false fits each over uncut = omega (arith, over, uncut)
      by_room false true fits each over uncut = absurd (let never = fits refl in cc)
      by_room false false fits each over uncut = uncut

  -- ---- low roofs

  lower : (documents : List Fields) → whole Low documents ≤ whole High documents
  lower documents = omega (
    arith,
    by_room (has_room composite documents) (below Uncut (uncut documents))
        (sum_by-at_most (λ t. below Low (those documents t))
        (λ t. below High (those documents t)) (tuples documents)
        (λ t. lawful.lower (those documents t))),
  )
    where
      by_room : {m n : ℕ} (t : Bool) (u : ℕ) → m ≤ n → (if t then m else 0) ≤ (if t then n else u)
      by_room true u few = few
      by_room false u few = omega arith

  low-within : (documents others : List Fields) → Within documents others
      → Within others documents
      → over_tuples composite (below Low) documents
      ≤ over_tuples composite (below Low) others
  low-within documents others inside back =
      over_tuples-within composite documents others inside (below Low)
      (λ t. omega (
        arith,
        lawful.low_same (those documents t) (those others t)
            (those-within composite documents others inside t)
            (those-within composite others documents back t),
      ))

  low_same : (documents others : List Fields) → Within documents others
      → Within others documents → whole Low documents ≡ whole Low others
  low_same documents others inside back = omega (
    arith,
    own-within composite documents others inside,
    own-within composite others documents back,
    by_room (has_room composite documents) (has_room composite others)
        (room-within composite documents others inside)
        (room-within composite others documents back)
        (low-within documents others inside back) (low-within others documents back inside),
  )
    where
      by_room : {a b : ℕ} (s t : Bool) → (t ≡ true → s ≡ true) → (s ≡ true → t ≡ true)
          → a ≤ b → b ≤ a → (if s then a else 0) ≡ (if t then b else 0)
      by_room true true fits also few many = omega (arith, few, many)
      by_room true false fits also few many = absurd (let never = also refl in cc)
      by_room false true fits also few many = absurd (let never = fits refl in cc)
      by_room false false fits also few many = refl

  -- ---- all laws

  -- a composite keeps to the laws
  pub Lawful-composite : Lawful (composite_counts composite below)
  Lawful-composite = record {
    weight = weight;
    weighs = weighs;
    most = most;
    rises = rises;
    lower = lower;
    low_same = low_same;
  }
