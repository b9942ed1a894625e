-- Room on a page for a new tuple.
use Rattle.std.proofs.Common.{◌≡◌, ◌≤◌, ◌<◌, ◌-◌, ◌+◌, ℕ, Bool, true, false, List, [], ◌∷◌, ◌++◌}
use Rattle.std.proofs.Common.{length, take, Some, None, refl, sym, ap, ◌∙◌, arith, subst}
use Rattle.std.proofs.Common.{inl, inr, length-append, Ordering, Less, Equal, Greater, is_lt, cond}
use Rattle.std.proofs.Common.{Err, Ok, OnErr, OnOk, Result}
use Rattle.std.specs.BTreeMap.{insert_entry, is_at}
use Rattle.std.specs.Cmp.{IsTotalOrder}
use Rattle.std.specs.List.{AllByRecursion, slice_get}
use Rattle.std.specs.List.Sorted.{IsStrictlySortedBy}
use Rattle.std.specs.Map.{keys_of, lookup}
use Rattle.std.specs.Ordering.{is_eq, ordering_reverse}
use Rattle.std.proofs.lemmas.Bool.{cases_Bool}
use Rattle.std.proofs.lemmas.List.{take_all, take_more}
use Rattle.std.proofs.lemmas.Map.{none_passes_from_lookup}
use Rattle.std.proofs.lemmas.Option.{get_or_from_slice_get, slice_get_within}
use Rattle.agg_heap_map.specs.Eviction.{GreatestIsBelow, TakesGreatest}
use Rattle.agg_heap_map.proofs.AscendingKeys.{Ascends, all-inserted, ascends-inserted}
use Rattle.agg_heap_map.proofs.AscendingKeys.{ascends_from_sorted, sorted_from_ascends}
use Rattle.agg_heap_map.proofs.EachItem.{weaker}
use Rattle.agg_composite.specs.buckets.Page.{HasRoom, IsAbove, IsAbsent, Page, PageTakes, Puts}
use Rattle.agg_composite.specs.buckets.Page.{opened}
use Rattle.agg_composite.specs.declared.buckets.bucket.Bucket.{Bucket}
use Rattle.agg_composite.proofs.lemmas.buckets.Owners.{above-each, above-none, above-same, is-above}
use Rattle.agg_composite.proofs.lemmas.buckets.Owners.{at-flips, at-itself}
use Rattle.agg_composite.proofs.lemmas.buckets.PageSteps.{length-insert, lookup-insert}

-- ---- lists

all-front : {X : Type 0} (P : X → Type 0) (xs : List X) (y : X)
    → AllByRecursion P (xs ++ y ∷ []) → AllByRecursion P xs × P y
all-front P [] y all = (tt, all.0)
all-front P (x ∷ xs) y all =
    let rest = all-front P xs y all.1 in
    ((all.0, rest.0), rest.1)

last-splits : {X : Type 0} (xs : List X) (x : X) → slice_get xs (length xs - 1) ≡ Some x
    → xs ≡ take (length xs - 1) xs ++ x ∷ []
last-splits xs x is =
    let inside = slice_get_within xs (length xs - 1) x is in
    sym (take_all (length xs - 1 + 1) xs (omega (arith, inside)))
    ∙ take_more xs (length xs - 1) x inside
    ∙ ap (λ y. take (length xs - 1) xs ++ y ∷ [])
    (get_or_from_slice_get xs (length xs - 1) x x is)

lookup-front : {S X : Type 0} (test : S → Bool) (es : List (S × X)) (e : S × X)
    → test e.0 ≡ false → lookup test (es ++ e ∷ []) ≡ lookup test es
lookup-front test [] e apart = rw apart refl
lookup-front test (f ∷ es) e apart =
    ap (λ o. cond (test f.0) (Some f.1) o) (lookup-front test es e apart)

module _ {S : Type 0} (R : S → S → Ordering) (total : IsTotalOrder R) where
  front-ascends : (page : Page S) (e : S × Bucket) → Ascends R total (page ++ e ∷ [])
      → Ascends R total page × AllByRecursion (λ f. R f.0 e.0 ≡ Less) page
  front-ascends [] e up = (tt, tt)
  front-ascends (f ∷ page) e up =
      let rest = front-ascends page e up.1 in
      let all = all-front (λ g. R f.0 g.0 ≡ Less) page e up.0 in
      ((all.0, rest.0), (all.1, rest.1))

  -- ---- the greatest of a page

  -- below a tuple, with the whole page
  above-last : (page front : Page S) (e : S × Bucket) (t : S)
      → IsStrictlySortedBy R (keys_of page) → page ≡ front ++ e ∷ [] → R e.0 t ≡ Less
      → AllByRecursion (λ f. R f.0 t ≡ Less) page
  above-last page front e t up is less =
      let ends = front-ascends front e
      (subst (Ascends R total) is (ascends_from_sorted R total page up)) in
      subst (AllByRecursion (λ f. R f.0 t ≡ Less)) (sym is)
      (joined front (weaker (λ f. R f.0 e.0 ≡ Less) (λ f. R f.0 t ≡ Less)
      (λ f below. total.trans f.0 e.0 t below less) front ends.1))
    where
      joined : (xs : Page S) → AllByRecursion (λ f. R f.0 t ≡ Less) xs
          → AllByRecursion (λ f. R f.0 t ≡ Less) (xs ++ e ∷ [])
      joined [] all = (less, tt)
      joined (x ∷ xs) all = (all.0, joined xs all.1)

  less-by : (o : Ordering) → is_lt o ≡ false → is_eq (ordering_reverse o) ≡ false
      → ordering_reverse o ≡ Less
  less-by Less a b = cc
  less-by Equal a b = cc
  less-by Greater a b = refl

  -- above a tuple that has no bucket, where it isn't below it
  below-last : (page front : Page S) (e : S × Bucket) (t : S) → IsAbsent R page t
      → page ≡ front ++ e ∷ [] → is_lt (R e.0 t) ≡ false → R t e.0 ≡ Less
  below-last page front e t none is not_less =
      let passes = none_passes_from_lookup (is_at (R t)) page none.absent in
      let apart = (all-front (λ f. is_at (R t) f.0 ≡ false) front e
      (subst (AllByRecursion (λ f. is_at (R t) f.0 ≡ false)) is passes)).1 in
      total.antisymm t e.0
      ∙ less-by (R e.0 t) not_less (subst (λ o. is_eq o ≡ false) (total.antisymm t e.0) apart)

  -- what the greatest tuple says of a new one, where as many buckets are there as fit
  module _ (size : ℕ) (page : Page S) (t : S) (none : IsAbsent R page t)
      (full : size ≤ length page) where
    pub above-page : GreatestIsBelow R t page → IsAbove R size page t
    above-page (inl empty) =
        is-above R size page t full
        (subst (AllByRecursion (λ f. R f.0 t ≡ Less)) (sym empty) tt)
    above-page (inr last) =
        is-above R size page t full
        (above-last page (take (length page - 1) page) last.0 t none.ordered
        (last-splits page last.0 last.1) last.2)

    pub room-made : (new : Page S) → TakesGreatest R t page new → HasRoom R size t page new
    room-made new takes =
        let is = last-splits page takes.1 takes.2 in
        inr (
          takes.1,
          is ∙ ap (λ es. es ++ takes.1 ∷ []) (sym takes.0),
          full,
          below-last page (take (length page - 1) page) takes.1 t none is takes.3,
        )

  -- ---- a new tuple's bucket

  -- it is one more, and where it is refused nothing changes
  pub one-more : {E : Type 0} (t : S) (b : Bucket) (old new : Page S) (result : Result (Unit {0}) E)
      → lookup (is_at (R t)) old ≡ None → OnOk result (new ≡ insert_entry R old t b)
      → OnErr result (new ≡ old) → length new ≤ length old + 1
  one-more t b old new (Ok x) none opens kept =
      let long = length-insert R total t b old none in
      let same = ap length opens in
      omega (arith, long, same)
  one-more t b old new (Err e) none opens kept = let same = ap length kept in omega (arith, same)

  module _ (size : ℕ) (t : S) (b : Bucket) (old mid : Page S) (none : IsAbsent R old t) where
    inserted : (q : S) (c : Bool) → is_at (R t) q ≡ c
        → lookup (is_at (R q)) (insert_entry R mid t b)
        ≡ cond c (Some b) (lookup (is_at (R q)) mid)
    inserted q c e =
        lookup-insert R total t q b mid
        ∙ ap (λ x. cond x (Some b) (lookup (is_at (R q)) mid)) e

    -- on a page with room
    puts-there : mid ≡ old → length old < size → Puts R size t b old (insert_entry R mid t b)
    puts-there same room =
        let long = length-insert R total t b mid
        (ap (lookup (is_at (R t))) same ∙ none.absent) in
        let before = ap length same in
        record {
          here = inserted t true (at-itself R total t);
          others = λ q e. inl (inserted q false e ∙ ap (lookup (is_at (R q))) same);
          ascending = sorted_from_ascends R total (insert_entry R mid t b)
              (ascends-inserted R total mid t b (ascends_from_sorted R total mid
              (subst (λ es. IsStrictlySortedBy R (keys_of es)) (sym same) none.ordered)));
          fits = λ l. omega (arith, long, room, before);
          no_fewer = omega (arith, long, before);
          fuller = λ q above. let full = above.full in absurd (omega (arith, room, full));
        }

    module _ (e : S × Bucket) (is : old ≡ mid ++ e ∷ []) (full : size ≤ length old)
        (less : R t e.0 ≡ Less) where
      ends : Ascends R total mid × AllByRecursion (λ f. R f.0 e.0 ≡ Less) mid
      ends = front-ascends mid e
          (subst (Ascends R total) is (ascends_from_sorted R total old none.ordered))

      apart : is_at (R t) e.0 ≡ false
      apart = ap is_eq less

      absent : lookup (is_at (R t)) mid ≡ None
      absent =
          sym (lookup-front (is_at (R t)) mid e apart) ∙ ap (lookup (is_at (R t))) (sym is)
          ∙ none.absent

      long : length (insert_entry R mid t b) ≡ length old
      long =
          let one = length-insert R total t b mid absent in
          let all = ap length is ∙ length-append mid (e ∷ []) in
          omega (arith, one, all)

      -- the tuple that is gone is above what is there
      gone : IsAbove R size (insert_entry R mid t b) e.0
      gone =
          is-above R size (insert_entry R mid t b) e.0 (omega (arith, full, long))
          (all-inserted R total (λ k. R k e.0 ≡ Less) mid t b less ends.1)

      -- on a full page, in the place of the greatest
      puts-below : Puts R size t b old (insert_entry R mid t b)
      puts-below = record {
        here = inserted t true (at-itself R total t);
        others = λ q ne. elim (cases_Bool (is_at (R e.0) q)) [
          | inl same ↦
              let above = above-same R total size (insert_entry R mid t b) e.0 q same gone in
              inr (above-none R total size (insert_entry R mid t b) q above, above)
          | inr other ↦
              inl (inserted q false ne
              ∙ sym (lookup-front (is_at (R q)) mid e (at-flips R total q e.0 ∙ other))
              ∙ ap (lookup (is_at (R q))) (sym is))
        ];
        ascending = sorted_from_ascends R total (insert_entry R mid t b)
            (ascends-inserted R total mid t b ends.0);
        fits = λ l. omega (arith, l, long);
        no_fewer = omega (arith, long);
        fuller = λ q above.
            let below = all-front (λ f. R f.0 q ≡ Less) mid e
            (subst (AllByRecursion (λ f. R f.0 q ≡ Less)) is (above-each R size old q above)) in
            is-above R size (insert_entry R mid t b) q (omega (arith, above.full, long))
            (all-inserted R total (λ k. R k q ≡ Less) mid t b
            (total.trans t e.0 q less below.1) below.0);
      }

      not-above : IsAbove R size old t → ⊥
      not-above above =
          let below = (all-front (λ f. R f.0 t ≡ Less) mid e
          (subst (AllByRecursion (λ f. R f.0 t ≡ Less)) is (above-each R size old t above))).1 in
          let greater : R e.0 t ≡ Greater = total.antisymm e.0 t ∙ ap ordering_reverse less in
          cc (below, greater)

    -- where there is room
    puts-room : HasRoom R size t old mid → Puts R size t b old (insert_entry R mid t b)
    puts-room (inl r) = puts-there r.0 r.1
    puts-room (inr r) = puts-below r.0 r.1 r.2 r.3

    pub absent-room : HasRoom R size t old mid → lookup (is_at (R t)) mid ≡ None
    absent-room (inl r) = ap (lookup (is_at (R t))) r.0 ∙ none.absent
    absent-room (inr r) = absent r.0 r.1 r.2 r.3

    not-above-room : HasRoom R size t old mid → IsAbove R size old t → ⊥
    not-above-room (inl r) above =
        let full = above.full in
        let room = r.1 in
        omega (arith, full, room)
    not-above-room (inr r) above = not-above r.0 r.1 r.2 r.3 above

  -- a visit that opens a bucket
  pub takes-new : (size next next_now : ℕ) (t : S) (id : ℕ) (old mid new : Page S)
      → IsAbsent R old t → HasRoom R size t old mid → next_now ≡ next + 1 → id ≡ next
      → new ≡ insert_entry R mid t (opened id)
      → PageTakes R size t next next_now old new (Some id)
  takes-new size next next_now t id old mid new none room later is opens =
      inr (
        later,
        is,
        none.absent,
        not-above-room size t (opened next) old mid none room,
        subst (Puts R size t (opened next) old)
            (ap (λ n. insert_entry R mid t (opened n)) (sym is) ∙ sym opens)
            (puts-room size t (opened next) old mid none room),
      )
