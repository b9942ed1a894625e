-- What is counted for the documents that a filter gave, and for those that match of each parent.
use Rattle.std.proofs.Common.{◌≡◌, ◌<◌, ◌≤◌, ◌+◌, ◌++◌, ℕ, suc, List, [], ◌∷◌, true, false}
use Rattle.std.proofs.Common.{Some, append-nil, filter, inl, inr, refl, sym, ap, ◌∙◌}
use Rattle.std.proofs.Common.{arith}
use Rattle.std.specs.Prelude.{nat_eq, slice_get}
use Rattle.std.specs.List.{AllByRecursion, Contains, list_any, sum_by}
use Rattle.std.proofs.lemmas.Bool.{eqb-true}
use Rattle.std.proofs.lemmas.Cmp.{nat_eq_equiv}
use Rattle.std.proofs.lemmas.Map.Views.{list_any-from_Contains}
use Rattle.agg_cache.specs.Waiting.{docs_of, is_id}
use Rattle.agg_segment.specs.storage.Document.{Fields}
use Rattle.agg_segment.specs.Query.{matches}
use Rattle.agg_segment.specs.Segment.{Stored, documents_at}
use Rattle.agg_segment.specs.declared.query.QueryTree.{QueryTree}
use Rattle.agg_request_tree.specs.Matching.{matching}
use Rattle.agg_request_tree.specs.declared.aggregation.filter.FilterQuery.{FilterQuery}
use Rattle.agg_request_tree.proofs.Lists.{AllByRecursion-from_Has, Contains-from_Has}
use Rattle.agg_request_tree.specs.charges.Roof.{Counts}
use Rattle.agg_request_tree.specs.charges.Roof.Height.{High}
use Rattle.agg_request_tree.specs.charges.Within.{Within}
use Rattle.agg_request_tree.proofs.lemmas.charges.Lawful.{Lawful}
use Rattle.agg_request_tree.proofs.lemmas.charges.Tests.{by_answer, clash, not_true, second}
use Rattle.agg_composite.specs.buckets.Visits.{docs_in}
use Rattle.agg_filter.specs.Filter.{Filter, FilterFor}
use Rattle.agg_filter.specs.Matching.{is_matching}
use Rattle.agg_engine_tree.specs.segment_context.Context.{tree_in}
use Rattle.agg_engine_tree.specs.collector_tree.Caches.{Cache, waiting_in}
use Rattle.agg_engine_tree.proofs.lemmas.collector_tree.HandedDocuments.{matched-lighter}
use Rattle.agg_engine_tree.proofs.lemmas.held_bytes.DocumentLists.{docs-among, matched-same}
use Rattle.agg_engine_tree.proofs.lemmas.held_bytes.DocumentLists.{nothing-first, within-front}
use Rattle.agg_engine_tree.proofs.lemmas.held_bytes.DocumentLists.{within-lighter, within-trans}
use Rattle.agg_engine_tree.proofs.lemmas.held_bytes.NumberSums.{Differ, places-least, places-most}
use Rattle.agg_engine_tree.proofs.lemmas.held_bytes.NumberSums.{sum-below, sum-listed, up_to}

-- ---- ids

-- a number above those of a list
abbrev pub above : List ℕ → ℕ
above [] = 0
above (x ∷ xs) = suc (x + above xs)

all-above : (m : ℕ) (xs : List ℕ) → above xs ≤ m → AllByRecursion (λ x. x < m) xs
all-above m [] l = tt
all-above m (x ∷ xs) l = (omega arith, all-above m xs (omega arith))

number-place : (x : ℕ) (xs : List ℕ) → list_any (nat_eq x) xs ≡ true
    → (p : ℕ) × (slice_get xs p ≡ Some x)
number-place x [] has = absurd (cc)
number-place x (y ∷ ys) has = elim (by_answer (nat_eq x y)) [
  | inl is ↦ (0, ap Some (sym (eqb-true x y is)))
  | inr other ↦
      let rest = number-place x ys (second (nat_eq x y) (list_any (nat_eq x) ys) has other) in
      (suc rest.0, rest.1)
]

-- numbers of which each stands at one place differ
numbers-apart : (xs : List ℕ)
    → ((p q x : ℕ) → slice_get xs p ≡ Some x → slice_get xs q ≡ Some x → p ≡ q) → Differ xs
numbers-apart [] one = tt
numbers-apart (x ∷ xs) one = (
  not_true (list_any (nat_eq x) xs) (λ has.
      let place = number-place x xs has in
      absurd (omega (arith, one 0 (suc place.0) x refl place.1))),
  numbers-apart xs (λ p q y at also. omega (arith, one (suc p) (suc q) y at also)),
)

-- ---- the documents of ids

module _ (tree : QueryTree) (segment : Stored) (query : FilterQuery QueryTree)
    (same : tree ≡ tree_in query) (collector : Filter Cache) (taken given : List (ℕ × ℕ))
    (on : collector.hands_on ≡ true)
    (right : FilterFor waiting_in (is_matching tree segment) collector taken given) where
  -- the documents that were given under an id
  abbrev given_at : ℕ → List Fields
  given_at id = documents_at segment (docs_of (is_id id) given)

  -- those that match of a parent's
  abbrev matched : ℕ → List Fields
  matched p = matching matches query (documents_at segment (docs_of (is_id p) taken))

  matched-none : (p : ℕ) → docs_of (is_id p) taken ≡ [] → matched p ≡ []
  matched-none p none = ap (λ docs. matching matches query (documents_at segment docs)) none

  given-inside : (p id : ℕ) → slice_get collector.ids p ≡ Some id → Within (given_at id) (matched p)
  given-inside p id at =
      within-trans (given_at id)
      (documents_at segment (filter (is_matching tree segment) (docs_of (is_id p) taken)))
      (matched p)
      (within-front segment (docs_of (is_id id) given) (waiting_in collector.cache.0 id)
      (filter (is_matching tree segment) (docs_of (is_id p) taken)) (right.exact on p id at))
      (within-lighter
      (documents_at segment (filter (is_matching tree segment) (docs_of (is_id p) taken)))
      (matched p) (matched-lighter tree segment query same (docs_of (is_id p) taken)))

  given-none : (id : ℕ) → list_any (nat_eq id) collector.ids ≡ false → given_at id ≡ []
  given-none id none =
      ap (documents_at segment)
      (nothing-first (docs_of (is_id id) given) (waiting_in collector.cache.0 id)
      (right.others on id (λ c.
      clash (list_any (nat_eq id) collector.ids)
      (list_any-from_Contains nat_eq_equiv id collector.ids c) none)))

  -- whatever waits, what was given counts at most as what matches
  pub filter-most : (below : Counts) → Lawful below → (m n : ℕ)
      → ((p : ℕ) → n ≤ p → docs_of (is_id p) taken ≡ [])
      → sum_by (λ id. below High (given_at id)) (up_to m)
      ≤ sum_by (λ p. below High (matched p)) (up_to n)
  filter-most below lawful m n low =
      let nothing : below High [] ≡ 0 = omega (arith, lawful.most [], lawful.weighs []) in
      omega (
        arith,
        sum-listed (λ id. below High (given_at id)) collector.ids m
            (λ id none. ap (below High) (given-none id none) ∙ nothing),
        places-most (λ id. below High (given_at id)) (λ p. below High (matched p)) collector.ids
            n (λ p id at. lawful.rises (given_at id) (matched p) (given-inside p id at))
            (λ p l. ap (below High) (matched-none p (low p l)) ∙ nothing),
      )

  module _ (flushed : (id : ℕ) → waiting_in collector.cache.0 id ≡ [])
      (inside : (d : ℕ) → Contains (docs_in taken) d → d < segment.count) where
    own-inside : (p : ℕ) → AllByRecursion (λ d. d < segment.count) (docs_of (is_id p) taken)
    own-inside p =
        AllByRecursion-from_Has (λ d. d < segment.count) (docs_of (is_id p) taken)
        (λ d h. inside d (Contains-from_Has (docs_in taken) d (docs-among p taken d h)))

    given-same : (p id : ℕ) → slice_get collector.ids p ≡ Some id → given_at id ≡ matched p
    given-same p id at =
        ap (documents_at segment)
        (sym (append-nil (docs_of (is_id id) given))
        ∙ ap (λ docs. docs_of (is_id id) given ++ docs) (sym (flushed id))
        ∙ right.exact on p id at)
        ∙ matched-same tree segment query same (docs_of (is_id p) taken) (own-inside p)

    -- with all handed on, it counts at least as what matches
    pub filter-least : (low : List Fields → ℕ) → low [] ≡ 0 → (n : ℕ)
        → sum_by (λ p. low (matched p)) (up_to n)
        ≤ sum_by (λ id. low (given_at id)) (up_to (above collector.ids))
    filter-least low nothing n = omega (
      arith,
      places-least (λ id. low (given_at id)) (λ p. low (matched p)) collector.ids n
          (λ p id at. omega (arith, ap low (given-same p id at)))
          (λ p at. ap low (matched-none p (right.unprepared p (right.prepared p at))) ∙ nothing),
      sum-below (λ id. low (given_at id)) collector.ids (above collector.ids)
          (numbers-apart collector.ids right.distinct)
          (all-above (above collector.ids) collector.ids (omega arith)),
    )
