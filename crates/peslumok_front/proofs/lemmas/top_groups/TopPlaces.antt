-- The place of a group among the first of groups in order.
use Rattle.std.proofs.Common.{◌≡◌, ◌<◌, ◌≤◌, ◌+◌, ◌-◌, ◌++◌, ◌∷◌, ◌∙◌, [], ℕ, zero, suc, List}
use Rattle.std.proofs.Common.{true, false, ap, arith, get_or, inl, inr, leb, length, nat_lt, refl}
use Rattle.std.proofs.Common.{Some, subst, sym, take}
use Rattle.std.specs.Prelude.{insert, slice_get}
use Rattle.std.specs.List.{position_or_len}
use Rattle.std.specs.List.Sorted.{IsPartitionPoint, IsPartitionedBy, IsSortedBy}
use Rattle.std.proofs.lemmas.Bool.{cases_Bool}
use Rattle.std.proofs.lemmas.Bool.Decides.{nat_tests}
use Rattle.std.proofs.lemmas.List.Edits.{length-insert}
use Rattle.std.proofs.lemmas.List.{get_or-take, length-take}
use Rattle.std.proofs.lemmas.List.Sums.{position_or_len_is}
use Rattle.std.proofs.lemmas.Option.{get_or_from_slice_get}
use Rattle.agg_results.specs.declared.final_results.types.CompositeBucketEntry.{
  CompositeBucketEntry,
}
use Rattle.peslumok_front.specs.top_groups.Top.{AreTop, has_more}
use Rattle.peslumok_front.proofs.lemmas.top_groups.RankedGroups.{no-more, ranked-more, ranked-none}
use Rattle.peslumok_front.proofs.lemmas.top_groups.RankedGroups.{ranked_in}

-- the place of a group among others
abbrev pub rank : CompositeBucketEntry → List CompositeBucketEntry → ℕ
rank group groups = position_or_len (λ g. nat_lt g.doc_count group.doc_count) groups

insert-next : (place : ℕ) (group first : CompositeBucketEntry)
    (others : List CompositeBucketEntry)
    → insert (first ∷ others) (1 + place) group ≡ first ∷ insert others place group
insert-next place group first others =
    let next : 1 + place ≡ suc place = omega arith in
    ap (λ p. insert (first ∷ others) p group) next

-- a group stands at its place
pub ranked-insert : (group : CompositeBucketEntry) (groups : List CompositeBucketEntry)
    → ranked_in group groups ≡ insert groups (rank group groups) group
ranked-insert group [] = refl
ranked-insert group (first ∷ others) =
    elim (cases_Bool (nat_lt first.doc_count group.doc_count)) [
      | inl more ↦ rw more refl
      | inr less ↦ rw less (ap (λ gs. first ∷ gs) (ranked-insert group others)
          ∙ sym (insert-next (rank group others) group first others))
    ]

-- of those before a place, a group that is put in at it or after it is none
pub take-insert-after : (n place : ℕ) (group : CompositeBucketEntry)
    (groups : List CompositeBucketEntry) → n ≤ place → place ≤ length groups
    → take n (insert groups place group) ≡ take n groups
take-insert-after zero place group groups below within = refl
take-insert-after (suc n) place group [] below within = absurd (omega arith)
take-insert-after (suc n) zero group (g ∷ groups) below within = absurd (omega arith)
take-insert-after (suc n) (suc place) group (g ∷ groups) below within =
    ap (λ gs. g ∷ gs) (take-insert-after n place group groups (omega arith) (omega arith))

-- a group that is put in before pushes the last one out
pub take-insert-before : (n place : ℕ) (group : CompositeBucketEntry)
    (groups : List CompositeBucketEntry) → place ≤ n → place ≤ length groups
    → take (suc n) (insert groups place group) ≡ insert (take n groups) place group
take-insert-before n zero group groups below within = refl
take-insert-before zero (suc place) group groups below within = absurd (omega arith)
take-insert-before (suc n) (suc place) group [] below within = absurd (omega arith)
take-insert-before (suc n) (suc place) group (g ∷ groups) below within =
    ap (λ gs. g ∷ gs) (take-insert-before n place group groups (omega arith) (omega arith))

pub take-few : (n : ℕ) (groups : List CompositeBucketEntry) → length groups ≤ n
    → take n groups ≡ groups
take-few zero [] few = refl
take-few zero (g ∷ groups) few = absurd (omega arith)
take-few (suc n) [] few = refl
take-few (suc n) (g ∷ groups) few = ap (λ gs. g ∷ gs) (take-few n groups (omega arith))

-- the first of the first are the first
twice : (n : ℕ) (others : List CompositeBucketEntry)
    → take n (take (suc n) others) ≡ take n others
twice zero others = refl
twice (suc n) [] = refl
twice (suc n) (g ∷ others) = ap (λ gs. g ∷ gs) (twice n others)

shorter : (n : ℕ) (first : CompositeBucketEntry) (others : List CompositeBucketEntry)
    → take n (first ∷ take n others) ≡ take n (first ∷ others)
shorter zero first others = refl
shorter (suc n) first others = ap (λ gs. first ∷ gs) (twice n others)

-- the first of ranked groups need no others
pub rank-first : (n : ℕ) (group : CompositeBucketEntry) (groups : List CompositeBucketEntry)
    → take n (ranked_in group (take n groups)) ≡ take n (ranked_in group groups)
rank-first zero group groups = refl
rank-first (suc n) group [] = refl
rank-first (suc n) group (first ∷ others) =
    elim (cases_Bool (nat_lt first.doc_count group.doc_count)) [
      | inl more ↦ rw more (ap (λ gs. group ∷ gs) (shorter n first others))
      | inr less ↦ rw less (ap (λ gs. first ∷ gs) (rank-first n group others))
    ]

-- ---- the first groups

-- none is the first of none
pub top-none : (count : ℕ) (top : List CompositeBucketEntry) → top ≡ [] → AreTop count [] top
top-none count top none = record {
  ranked = [];
  are_ranked = ranked-none;
  first = none ∙ sym (take-none count);
}
  where
    take-none : (n : ℕ) → take {A = CompositeBucketEntry} n [] ≡ []
    take-none zero = refl
    take-none (suc n) = refl

-- the first groups with one more
pub top-more : (count : ℕ) (before : List CompositeBucketEntry) (group : CompositeBucketEntry)
    (kept new : List CompositeBucketEntry) → AreTop count before kept
    → new ≡ take count (ranked_in group kept) → AreTop count (before ++ group ∷ []) new
top-more count before group kept new are added = record {
  ranked = ranked_in group are.ranked;
  are_ranked = ranked-more before are.ranked group are.are_ranked;
  first = added ∙ ap (λ gs. take count (ranked_in group gs)) are.first
      ∙ rank-first count group are.ranked;
}

-- they are sorted
pub top-sorted : (count : ℕ) (before top : List CompositeBucketEntry) → AreTop count before top
    → IsSortedBy has_more top
top-sorted count before top are =
    subst (IsSortedBy has_more) (sym are.first)
    (λ k d low within.
    let long : k + 1 < count = omega (arith, within, length-take count are.ranked) in
    let here = get_or-take count are.ranked k d (omega (arith, long)) in
    let next = get_or-take count are.ranked (k + 1) d long in
    rw (here, next) (are.are_ranked.sorted k d low
    (omega (arith, within, length-take count are.ranked))))

-- ---- a group that is added

-- one that stands past the room is left out
pub left-out : (n : ℕ) (group : CompositeBucketEntry) (groups : List CompositeBucketEntry)
    (place : ℕ) → length groups ≤ n → place ≡ rank group groups → place ≤ length groups → n ≤ place
    → groups ≡ take n (ranked_in group groups)
left-out n group groups place few is within past =
    sym (ap (take n) (ranked-insert group groups ∙ ap (λ p. insert groups p group) (sym is))
    ∙ take-insert-after n place group groups past within ∙ take-few n groups few)

-- one that comes to full groups pushes the last one out
pub pushed-out : (n : ℕ) (group : CompositeBucketEntry) (groups new : List CompositeBucketEntry)
    (place : ℕ) → length groups ≡ n → place ≡ rank group groups → place < n
    → new ≡ insert (take (n - 1) groups) place group
    → new ≡ take n (ranked_in group groups)
pushed-out zero group groups new place full is before put = absurd (omega arith)
pushed-out (suc n) group groups new place full is before put =
    let same : suc n - 1 ≡ n = omega arith in
    put ∙ ap (λ k. insert (take k groups) place group) same
    ∙ sym (ap (take (suc n)) (ranked-insert group groups ∙ ap (λ p. insert groups p group) (sym is))
    ∙ take-insert-before n place group groups (omega arith) (omega arith))

-- one that finds room is put in
pub put-in : (n : ℕ) (group : CompositeBucketEntry) (groups new : List CompositeBucketEntry)
    (place : ℕ) → length groups < n → place ≡ rank group groups → place ≤ length groups
    → new ≡ insert groups place group
    → new ≡ take n (ranked_in group groups)
put-in n group groups new place room is within put =
    let ranked = ranked-insert group groups ∙ ap (λ p. insert groups p group) (sym is) in
    put ∙ sym ranked
    ∙ sym (take-few n (ranked_in group groups)
    (subst (λ gs. length gs ≤ n) (sym ranked)
    (let long = length-insert groups place group within in omega (arith, long))))

-- ---- a search for the place

-- groups in order are cut where they have fewer documents than so many
pub cut-by-count : (count : ℕ) (groups : List CompositeBucketEntry) → IsSortedBy has_more groups
    → IsPartitionedBy (λ g. leb count g.doc_count) groups
cut-by-count count groups sorted i j d before within has =
    let falls = no-more groups sorted i j d before within in
    grind (arith, nat_tests, falls, has)

-- what the last one has
pub last-count : (count : ℕ) (groups : List CompositeBucketEntry) (last : CompositeBucketEntry)
    → Some last ≡ slice_get groups (length groups - 1) → count ≤ last.doc_count
    → count ≤ (get_or groups (length groups - 1) last).doc_count
last-count count groups last is has =
    subst (λ (g : CompositeBucketEntry). count ≤ g.doc_count)
    (sym (get_or_from_slice_get groups (length groups - 1) last last (sym is))) has

-- where all have as many, the place is the end
pub place-at-end : (count : ℕ) (groups : List CompositeBucketEntry) (d : CompositeBucketEntry)
    → IsSortedBy has_more groups → count ≤ (get_or groups (length groups - 1) d).doc_count
    → length groups ≡ position_or_len (λ g. nat_lt g.doc_count count) groups
place-at-end count groups d sorted last =
    sym (position_or_len_is (λ (g : CompositeBucketEntry). nat_lt g.doc_count count) groups
    (length groups) d (omega arith)
    (λ k within.
    let falls = no-more groups sorted k (length groups - 1) d (omega arith) (omega arith) in
    grind (arith, nat_tests, falls, last))
    (λ past. absurd (omega (arith, past))))

-- it is where the groups are cut
pub place-at-cut : (count place : ℕ) (groups : List CompositeBucketEntry) → place ≤ length groups
    → IsPartitionPoint (λ g. leb count g.doc_count ≡ true) (λ g. leb count g.doc_count ≡ false)
    groups place
    → place ≡ position_or_len (λ g. nat_lt g.doc_count count) groups
place-at-cut count place [] within cut = omega (arith, within)
place-at-cut count place (group ∷ groups) within cut =
    sym (position_or_len_is (λ (g : CompositeBucketEntry). nat_lt g.doc_count count)
    (group ∷ groups) place group within
    (λ k before.
    let has = cut.0 k group (omega arith) before in grind (arith, nat_tests, has))
    (λ here. let lacks = cut.1 place group (omega arith) here in grind (arith, nat_tests, lacks)))
