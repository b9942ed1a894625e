-- What a composite holds with what is below it, and what it counts over the documents of parents.
use Rattle.std.proofs.Common.{◌≡◌, ◌≤◌, ◌+◌, ◌-◌, ◌*◌, ◌++◌, ℕ, List, [], Bool, true, false}
use Rattle.std.proofs.Common.{Some, None, if◌then◌else◌, length, min, get_or, refl, sym, ap}
use Rattle.std.proofs.Common.{◌∙◌, arith}
use Rattle.std.specs.Prelude.{slice_get, unwrap_or}
use Rattle.std.specs.List.{sum_by}
use Rattle.std.proofs.Math.Nat.{mul-le-mul_left}
use Rattle.std.proofs.lemmas.Option.{get_or_from_slice_get, unwrap_or-slice_get}
use Rattle.agg_segment.specs.storage.Document.{Fields}
use Rattle.agg_cache.specs.Waiting.{docs_of, is_id}
use Rattle.agg_segment.specs.Segment.{Stored, document_at, documents_at}
use Rattle.agg_request_tree.specs.Uncut.{counted}
use Rattle.agg_request_tree.specs.declared.aggregation.CompositeAggregation.{CompositeAggregation}
use Rattle.agg_request_tree.specs.charges.Charges.{bucket_bytes}
use Rattle.agg_request_tree.specs.charges.Roof.{Counts, composite_counts, has_room, over_tuples}
use Rattle.agg_request_tree.specs.charges.Roof.{own_bytes, past_tuples}
use Rattle.agg_request_tree.specs.charges.Roof.Height.{Uncut, High, Low}
use Rattle.agg_request_tree.specs.charges.Within.{Within}
use Rattle.agg_request_tree.proofs.lemmas.charges.Lawful.{Lawful}
use Rattle.agg_request_tree.proofs.lemmas.charges.Sums.{sum_by-at_most, sum_by-both, sum_by-map}
use Rattle.agg_request_tree.proofs.lemmas.charges.Sums.{sum_by-same, sum_by-times}
use Rattle.agg_composite.specs.buckets.Page.{Page}
use Rattle.agg_composite.specs.buckets.Visits.{docs_in, weight}
use Rattle.agg_engine_tree.proofs.lemmas.held_bytes.Cancelled.{cancelled}
use Rattle.agg_engine_tree.proofs.lemmas.held_bytes.DocumentLists.{within-front}
use Rattle.agg_engine_tree.proofs.lemmas.held_bytes.LabelSums.{weight-labels, weight-sum}
use Rattle.agg_engine_tree.proofs.lemmas.held_bytes.NumberSums.{places-least, places-most, up_to}

-- what the buckets of parents are to the documents that were taken under each: of these the pages
-- have the lowest tuples, with their documents under the ids where there is room for all tuples
pub record HasPages {S : Type 0} (composite : CompositeAggregation) (segment : Stored)
    (parents : List (Page S)) (handed : List (ℕ × ℕ)) (visited : ℕ → List ℕ)
    (documents : ℕ → List Fields) : Type 0 where
  pub many : (p : ℕ) → length (get_or parents p [])
      ≡ min composite.size (length (past_tuples composite (documents p)))
  pub sums : (p : ℕ) → has_room composite (documents p) ≡ true → (bytes : List Fields → ℕ)
      → sum_by (λ e. bytes (documents_at segment (docs_of (is_id e.1.id) handed)))
      (get_or parents p [])
      ≡ over_tuples composite bytes (documents p)
  pub covers : (p : ℕ) → has_room composite (documents p) ≡ true → (f : ℕ → ℕ)
      → weight f (visited p)
      ≤ sum_by (λ e. weight f (docs_of (is_id e.1.id) handed)) (get_or parents p [])
  pub inside : (p : ℕ)
      → Within (documents_at segment (visited p)) (counted composite (documents p))

module _ {S : Type 0} (composite : CompositeAggregation) (below : Counts) (lawful : Lawful below)
    (segment : Stored) (parents : List (Page S)) (handed : List (ℕ × ℕ)) (visited : ℕ → List ℕ)
    (documents : ℕ → List Fields) (next : ℕ)
    (pages : HasPages composite segment parents handed visited documents)
    (once : (f : ℕ → ℕ) (n : ℕ)
    → sum_by (λ p. sum_by (λ e. f e.1.id) (get_or parents p [])) (up_to n)
    ≤ sum_by f (up_to next)) where
  abbrev whole : Counts
  whole = composite_counts composite below

  -- the documents that were handed on under an id
  abbrev those : ℕ → List Fields
  those id = documents_at segment (docs_of (is_id id) handed)

  -- how many tuples of a parent have room
  abbrev many : ℕ → ℕ
  many p = min composite.size (length (past_tuples composite (documents p)))

  -- ---- the composite's own buckets

  own-bytes : (n : ℕ) → sum_by (λ p. own_bytes composite (documents p)) (up_to n)
      ≡ bucket_bytes composite * sum_by many (up_to n)
  own-bytes n =
      sum_by-same (λ p. own_bytes composite (documents p)) (λ p. many p * bucket_bytes composite)
      (up_to n) (λ p. flipped (bucket_bytes composite) (many p))
      ∙ sum_by-times many (bucket_bytes composite) (up_to n)
      ∙ flipped (sum_by many (up_to n)) (bucket_bytes composite)
    where
      flipped : (a b : ℕ) → a * b ≡ b * a
      flipped a b = grind arith

  page-many : (p : ℕ) (page : Page S) → slice_get parents p ≡ Some page → length page ≡ many p
  page-many p page at =
      ap length (sym (get_or_from_slice_get parents p page [] at)) ∙ pages.many p

  no-page : (p : ℕ) → slice_get parents p ≡ None → many p ≡ 0
  no-page p at =
      sym (pages.many p)
      ∙ ap length (sym (unwrap_or-slice_get parents p []) ∙ ap (λ o. unwrap_or o []) at)

  no-tuples : (ds : List Fields) → ds ≡ []
      → min composite.size (length (past_tuples composite ds)) ≡ 0
  no-tuples ds none =
      let nothing : min composite.size 0 ≡ 0 = omega arith in
      ap (λ xs. min composite.size (length (past_tuples composite xs))) none ∙ nothing

  own-most : (n : ℕ) → ((p : ℕ) → n ≤ p → documents p ≡ [])
      → bucket_bytes composite * sum_by length parents
      ≤ sum_by (λ p. own_bytes composite (documents p)) (up_to n)
  own-most n none =
      let most : sum_by length parents ≤ sum_by many (up_to n) =
      places-most length many parents n (λ p page at. omega (arith, page-many p page at))
      (λ p l. no-tuples (documents p) (none p l)) in
      omega (arith, own-bytes n, mul-le-mul_left (bucket_bytes composite) most)

  own-least : (n : ℕ) → sum_by (λ p. own_bytes composite (documents p)) (up_to n)
      ≤ bucket_bytes composite * sum_by length parents
  own-least n =
      let least : sum_by many (up_to n) ≤ sum_by length parents =
      places-least length many parents n (λ p page at. omega (arith, page-many p page at)) no-page
      in
      omega (arith, own-bytes n, mul-le-mul_left (bucket_bytes composite) least)

  -- ---- what is below

  -- what a composite counts below itself, by whether there is room
  abbrev by_room : Bool → ℕ → ℕ → ℕ
  by_room room each all = if room then each else all

  -- what a composite counts below itself over the documents of a parent
  abbrev own_below : ℕ → ℕ
  own_below p =
      by_room (has_room composite (documents p))
      (over_tuples composite (below High) (documents p))
      (below Uncut (counted composite (documents p)))

  abbrev own_low : ℕ → ℕ
  own_low p =
      by_room (has_room composite (documents p))
      (over_tuples composite (below Low) (documents p)) 0

  -- what a document of the segment adds to the bytes of uncut lists
  abbrev cost : ℕ → ℕ
  cost doc = lawful.weight (document_at segment doc)

  uncut-cost : (docs : List ℕ) → below Uncut (documents_at segment docs) ≡ weight cost docs
  uncut-cost docs =
      lawful.weighs (documents_at segment docs)
      ∙ sum_by-map lawful.weight (document_at segment) docs
      ∙ sym (weight-sum cost docs)

  -- the bytes below, under each id
  abbrev most_at : ℕ → ℕ
  most_at id = weight cost (docs_of (is_id id) handed)

  low-each : (p : ℕ) → own_low p
      ≤ sum_by (λ e. below Low (those e.1.id)) (get_or parents p [])
  low-each p = by_test (has_room composite (documents p)) (pages.sums p)
    where
      by_test : (room : Bool) → (room ≡ true → (bytes : List Fields → ℕ)
          → sum_by (λ e. bytes (those e.1.id)) (get_or parents p [])
          ≡ over_tuples composite bytes (documents p))
          → by_room room (over_tuples composite (below Low) (documents p)) 0
          ≤ sum_by (λ e. below Low (those e.1.id)) (get_or parents p [])
      by_test true sums = omega (arith, sums refl (below Low))
      by_test false sums = omega arith

  -- with all handed on, a composite holds at least what it counts at least
  pub composite-least : (n : ℕ)
      → sum_by (λ p. whole Low (documents p)) (up_to n)
      ≤ bucket_bytes composite * sum_by length parents
      + sum_by (λ id. below Low (those id)) (up_to next)
  composite-least n = omega (
    arith,
    sum_by-both (λ p. own_bytes composite (documents p)) own_low (up_to n),
    own-least n,
    sum_by-at_most own_low
        (λ p. sum_by (λ e. below Low (those e.1.id)) (get_or parents p [])) (up_to n)
        low-each,
    once (λ id. below Low (those id)) n,
  )

  module _ (given : List (ℕ × ℕ)) (waiting : ℕ → List ℕ)
      (waits : (id : ℕ) → docs_of (is_id id) given ++ waiting id ≡ docs_of (is_id id) handed) where
    -- what is counted below for the documents that were given under an id
    abbrev counted_at : ℕ → ℕ
    counted_at id = below High (documents_at segment (docs_of (is_id id) given))

    counted-those : (id : ℕ) → counted_at id ≤ below High (those id)
    counted-those id =
        lawful.rises (documents_at segment (docs_of (is_id id) given)) (those id)
        (within-front segment (docs_of (is_id id) given) (waiting id) (docs_of (is_id id) handed)
        (waits id))

    counted-most : (id : ℕ) → counted_at id ≤ most_at id
    counted-most id = omega (
      arith,
      counted-those id,
      lawful.most (those id),
      uncut-cost (docs_of (is_id id) handed),
    )

    -- what the ids of a parent spare, with what is counted for it
    spared : (p : ℕ) → weight cost (visited p)
        ≤ sum_by (λ e. most_at e.1.id - counted_at e.1.id) (get_or parents p []) + own_below p
    spared p =
        by_test (has_room composite (documents p)) (pages.sums p) (λ room. pages.covers p room cost)
      where
        spare : ℕ
        spare = sum_by (λ e. most_at e.1.id - counted_at e.1.id) (get_or parents p [])

        by_test : (room : Bool) → (room ≡ true → (bytes : List Fields → ℕ)
            → sum_by (λ e. bytes (those e.1.id)) (get_or parents p [])
            ≡ over_tuples composite bytes (documents p))
            → (room ≡ true → weight cost (visited p)
            ≤ sum_by (λ e. most_at e.1.id) (get_or parents p []))
            → weight cost (visited p)
            ≤ spare
            + by_room room (over_tuples composite (below High) (documents p))
            (below Uncut (counted composite (documents p)))
        by_test true sums covers = omega (
          arith,
          covers refl,
          sums refl (below High),
          sum_by-same (λ e. most_at e.1.id - counted_at e.1.id + counted_at e.1.id)
              (λ e. most_at e.1.id) (get_or parents p [])
              (λ e. omega (arith, counted-most e.1.id)),
          sum_by-both (λ e. most_at e.1.id - counted_at e.1.id) (λ e. counted_at e.1.id)
              (get_or parents p []),
          sum_by-at_most (λ e. counted_at e.1.id) (λ e. below High (those e.1.id))
              (get_or parents p []) (λ e. counted-those e.1.id),
        )
        by_test false sums covers = omega (
          arith,
          sym (uncut-cost (visited p)),
          lawful.weighs (documents_at segment (visited p)),
          lawful.weighs (counted composite (documents p)),
          (pages.inside p).lighter lawful.weight,
        )

    -- whatever waits, a composite holds at most what it counts
    pub composite-most : (n : ℕ) → ((p : ℕ) → n ≤ p → documents p ≡ [])
        → ((f : ℕ → ℕ) → weight f (docs_in handed) ≤ sum_by (λ p. weight f (visited p)) (up_to n))
        → bucket_bytes composite * sum_by length parents + sum_by counted_at (up_to next)
        ≤ sum_by (λ p. whole High (documents p)) (up_to n)
    composite-most n none all =
        let ids : sum_by most_at (up_to next) ≤ sum_by (λ p. weight cost (visited p)) (up_to n) =
        omega (arith, weight-labels cost next handed, all cost) in
        omega (
          arith,
          own-most n none,
          cancelled next n counted_at most_at (λ p. weight cost (visited p)) own_below
              (λ f p. sum_by (λ e. f e.1.id) (get_or parents p [])) counted-most ids
              (λ spare. once spare n) spared,
          sum_by-both (λ p. own_bytes composite (documents p)) own_below (up_to n),
        )
