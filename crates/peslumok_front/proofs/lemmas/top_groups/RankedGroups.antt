-- Groups in order of their numbers of documents, and one that is put among them.
use Rattle.std.proofs.Common.{◌≡◌, ◌<◌, ◌≤◌, ◌+◌, ◌++◌, ◌∷◌, ◌∙◌, [], ℕ, zero, suc, List}
use Rattle.std.proofs.Common.{true, false, add-one, ap, append-nil, arith, get_or, inl, inr}
use Rattle.std.proofs.Common.{length, nat_lt, refl, subst, sym}
use Rattle.std.specs.Prelude.{filter}
use Rattle.std.specs.List.{AllByRecursion}
use Rattle.std.specs.List.Sorted.{IsSortedBy, ties}
use Rattle.std.specs.Cmp.{IsStrictWeakOrder}
use Rattle.std.proofs.lemmas.Bool.{cases_Bool}
use Rattle.std.proofs.lemmas.Bool.Decides.{nat_tests}
use Rattle.std.proofs.lemmas.List.Elements.{filter-append, recursion_from_All}
use Rattle.std.proofs.lemmas.List.MinMax.{IsStrictWeakOrder-flip}
use Rattle.std.proofs.lemmas.List.Sorted.{IsStrictWeakOrder-by_number, sorted_far}
use Rattle.std.specs.Prelude.{if◌then◌else◌}
use Rattle.agg_results.specs.declared.final_results.types.CompositeBucketEntry.{
  CompositeBucketEntry,
}
use Rattle.peslumok_front.specs.top_groups.Top.{AreRanked, has_more}

-- a group among others: after each that has as many documents or more
abbrev pub ranked_in : CompositeBucketEntry → List CompositeBucketEntry → List CompositeBucketEntry
ranked_in group [] = group ∷ []
ranked_in group (first ∷ others) =
    if nat_lt first.doc_count group.doc_count then group ∷ first ∷ others
    else first ∷ ranked_in group others

-- no group has more documents than so many
abbrev pub UpTo : ℕ → List CompositeBucketEntry → Type 0
UpTo most groups = AllByRecursion (λ g. g.doc_count ≤ most) groups

-- no group has more than one before it
abbrev pub Fall : List CompositeBucketEntry → Type 0
Fall [] = Unit {0}
Fall (group ∷ groups) = UpTo group.doc_count groups × Fall groups

by_count : IsStrictWeakOrder has_more
by_count =
    IsStrictWeakOrder-flip (λ (x y : CompositeBucketEntry). nat_lt x.doc_count y.doc_count)
    (IsStrictWeakOrder-by_number (λ (x : CompositeBucketEntry). x.doc_count))

-- of sorted groups a later one has no more
pub no-more : (groups : List CompositeBucketEntry) → IsSortedBy has_more groups
    → (i j : ℕ) (d : CompositeBucketEntry) → i ≤ j → j < length groups
    → (get_or groups j d).doc_count ≤ (get_or groups i d).doc_count
no-more groups sorted i j d before within =
    let test : nat_lt (get_or groups i d).doc_count (get_or groups j d).doc_count ≡ false =
    sorted_far has_more by_count groups sorted i j d before within in
    grind (arith, nat_tests, test)

-- a group has no more than the one before it, where they fall
fall-steps : (groups : List CompositeBucketEntry) → Fall groups → (k : ℕ)
    (d : CompositeBucketEntry) → suc k < length groups
    → (get_or groups (suc k) d).doc_count ≤ (get_or groups k d).doc_count
fall-steps [] fall k d within = absurd (omega (arith, within))
fall-steps (group ∷ []) fall k d within = absurd (omega (arith, within))
fall-steps (group ∷ next ∷ groups) fall zero d within = fall.0.0
fall-steps (group ∷ next ∷ groups) fall (suc k) d within =
    fall-steps (next ∷ groups) fall.1 k d (omega (arith, within))

pub sorted-from-fall : (groups : List CompositeBucketEntry) → Fall groups
    → IsSortedBy has_more groups
sorted-from-fall groups fall k d low within =
    let next : get_or groups (k + 1) d ≡ get_or groups (suc k) d =
    ap (λ i. get_or groups i d) (add-one k) in
    let fewer : (get_or groups (k + 1) d).doc_count ≤ (get_or groups k d).doc_count =
    subst (λ (g : CompositeBucketEntry). g.doc_count ≤ (get_or groups k d).doc_count) (sym next)
    (fall-steps groups fall k d (omega (arith, within))) in
    grind (arith, nat_tests, fewer)

fall-here : (groups : List CompositeBucketEntry)
    → ((i j : ℕ) (d : CompositeBucketEntry) → i ≤ j → j < length groups
    → (get_or groups j d).doc_count ≤ (get_or groups i d).doc_count) → Fall groups
fall-here [] falls = tt
fall-here (group ∷ groups) falls = (
  recursion_from_All (λ (g : CompositeBucketEntry). g.doc_count ≤ group.doc_count) groups
      (λ k d within. falls 0 (suc k) d (omega arith) (omega (arith, within))),
  fall-here groups
      (λ i j d before within.
      falls (suc i) (suc j) d (omega (arith, before)) (omega (arith, within))),
)

pub fall-from-sorted : (groups : List CompositeBucketEntry) → IsSortedBy has_more groups
    → Fall groups
fall-from-sorted groups sorted = fall-here groups (no-more groups sorted)

-- ---- one more group

up_to-weaker : (few most : ℕ) (groups : List CompositeBucketEntry) → few ≤ most
    → UpTo few groups → UpTo most groups
up_to-weaker few most [] less up = up
up_to-weaker few most (g ∷ groups) less up =
    (omega (arith, less, up.0), up_to-weaker few most groups less up.1)

up_to-ranked : (most : ℕ) (group : CompositeBucketEntry) (groups : List CompositeBucketEntry)
    → group.doc_count ≤ most → UpTo most groups → UpTo most (ranked_in group groups)
up_to-ranked most group [] own up = (own, tt)
up_to-ranked most group (first ∷ others) own up =
    elim (cases_Bool (nat_lt first.doc_count group.doc_count)) [
      | inl more ↦ rw more (own, up)
      | inr less ↦ rw less (up.0, up_to-ranked most group others own up.1)
    ]

fall-ranked : (group : CompositeBucketEntry) (groups : List CompositeBucketEntry) → Fall groups
    → Fall (ranked_in group groups)
fall-ranked group [] fall = (tt, tt)
fall-ranked group (first ∷ others) fall =
    elim (cases_Bool (nat_lt first.doc_count group.doc_count)) [
      | inl more ↦
          let fewer : first.doc_count ≤ group.doc_count = grind (arith, nat_tests, more) in
          rw more (
            (fewer, up_to-weaker first.doc_count group.doc_count others fewer fall.0),
            fall,
          )
      | inr less ↦
          let fewer : group.doc_count ≤ first.doc_count = grind (arith, nat_tests, less) in
          rw less (
            up_to-ranked first.doc_count group others fewer fall.0,
            fall-ranked group others fall.1,
          )
    ]

-- ---- those with as many

-- none of these has as many documents as one that has more than all of them
none-tie : (most : ℕ) (group : CompositeBucketEntry) (groups : List CompositeBucketEntry)
    → most < group.doc_count → UpTo most groups → filter (ties has_more group) groups ≡ []
none-tie most group [] more up = refl
none-tie most group (g ∷ groups) more up =
    let test : nat_lt g.doc_count group.doc_count ≡ true = grind (arith, nat_tests, more, up.0) in
    rw test (none-tie most group groups more up.1)

-- one that has fewer than a group that ties with another doesn't tie
tied-count : (x group : CompositeBucketEntry) → ties has_more x group ≡ true
    → x.doc_count ≡ group.doc_count
tied-count x group tied = grind (arith, nat_tests, tied)

-- the groups with as many as one stand as they were, and after them the one that is put in
ties-ranked : (x group : CompositeBucketEntry) (groups : List CompositeBucketEntry) → Fall groups
    → filter (ties has_more x) (ranked_in group groups)
    ≡ filter (ties has_more x) groups ++ filter (ties has_more x) (group ∷ [])
ties-ranked x group [] fall = refl
ties-ranked x group (first ∷ others) fall =
    elim (cases_Bool (nat_lt first.doc_count group.doc_count)) [
      | inl more ↦ rw more (before more)
      | inr less ↦ rw less (after (ties-ranked x group others fall.1))
    ]
  where
    before : nat_lt first.doc_count group.doc_count ≡ true
        → filter (ties has_more x) (group ∷ first ∷ others)
        ≡ filter (ties has_more x) (first ∷ others) ++ filter (ties has_more x) (group ∷ [])
    before more =
        elim (cases_Bool (ties has_more x group)) [
          | inl tied ↦
              let count = tied-count x group tied in
              let above : first.doc_count < x.doc_count = grind (arith, nat_tests, more, count) in
              let none : filter (ties has_more x) (first ∷ others) ≡ [] =
              none-tie first.doc_count x (first ∷ others) above (omega arith, fall.0) in
              rw (tied, none) refl
          | inr apart ↦ rw apart (sym (append-nil (filter (ties has_more x) (first ∷ others))))
        ]

    after : filter (ties has_more x) (ranked_in group others)
        ≡ filter (ties has_more x) others ++ filter (ties has_more x) (group ∷ [])
        → filter (ties has_more x) (first ∷ ranked_in group others)
        ≡ filter (ties has_more x) (first ∷ others) ++ filter (ties has_more x) (group ∷ [])
    after later =
        elim (cases_Bool (ties has_more x first)) [
          | inl tied ↦ rw tied (ap (λ gs. first ∷ gs) later)
          | inr apart ↦ rw apart later
        ]

-- ---- in order

pub ranked-none : AreRanked [] []
ranked-none = record { sorted = sorted-from-fall [] tt; stable = λ x. refl }

-- one more of groups in order
pub ranked-more : (groups ranked : List CompositeBucketEntry) (group : CompositeBucketEntry)
    → AreRanked groups ranked → AreRanked (groups ++ group ∷ []) (ranked_in group ranked)
ranked-more groups ranked group are =
    let fall = fall-from-sorted ranked are.sorted in
    record {
      sorted = sorted-from-fall (ranked_in group ranked) (fall-ranked group ranked fall);
      stable = λ x.
          ties-ranked x group ranked fall
          ∙ ap (λ gs. gs ++ filter (ties has_more x) (group ∷ [])) (are.stable x)
          ∙ sym (filter-append (ties has_more x) groups (group ∷ []));
    }
