-- Parents and the ids of their buckets.
use Rattle.std.proofs.Common.{◌≡◌, ◌∙◌, refl, sym, ap, subst, ℕ, ◌<◌, ◌≤◌, List, []}
use Rattle.std.proofs.Common.{◌∷◌, ◌++◌, ◌⊎◌, inl, inr, Bool, true, false, Some, None, zero, suc}
use Rattle.std.proofs.Common.{◌-◌, length, get_or, arith, zero-add}
use Rattle.std.specs.Prelude.{Contains, filter, if◌then◌else◌, replicate, slice_get, take}
use Rattle.std.specs.List.{range_with_len}
use Rattle.std.proofs.lemmas.List.{append-nil, length-append, length-replicate, take_all}
use Rattle.std.proofs.lemmas.Bool.{cases_order}
use Rattle.std.proofs.lemmas.List.FromFn.{get_or-range_with_len, length-range_with_len}
use Rattle.std.proofs.lemmas.Option.{get_or_from_slice_get, slice_get-get_or, slice_get_past}
use Rattle.std.proofs.lemmas.Option.{slice_get_within}
use Rattle.agg_cache.specs.Waiting.{docs_of, is_id}
use Rattle.agg_filter.specs.Filter.{Filter, FilterFor, Prepares, id_of, matching_under}

-- each prepared parent's bucket has the parent's number as id
abbrev pub HasOwnIds : {C : Type 0} → Filter C → Type 0
HasOwnIds collector = collector.ids ≡ range_with_len 0 (length collector.counts)

lt_or_ge : (a b : ℕ) → (a < b) ⊎ (b ≤ a)
lt_or_ge a b = elim (cases_order a b) as (λ _. (a < b) ⊎ (b ≤ a)) [
  | inl same ↦ inr (omega (arith, same))
  | inr other ↦ elim other as (λ _. (a < b) ⊎ (b ≤ a)) [
    | inl below ↦ inl below
    | inr above ↦ inr (omega (arith, above))
  ]
]

-- a parent that isn't prepared has no id
pub no_id : (n i : ℕ) → n ≤ i → slice_get (range_with_len 0 n) i ≡ None
no_id n i past =
    slice_get_past (range_with_len 0 n) i (omega (arith, length-range_with_len 0 n, past))

-- a prepared one has its own number
pub range-at : (n i : ℕ) → i < n → slice_get (range_with_len 0 n) i ≡ Some i
range-at n i within =
    let inside : i < length (range_with_len 0 n) = omega (arith, length-range_with_len 0 n) in
    slice_get-get_or (range_with_len 0 n) i 0 inside
    ∙ ap Some (get_or-range_with_len 0 n i 0 within ∙ zero-add i)

-- so it is in a collector
pub own_id : {C : Type 0} (collector : Filter C) → HasOwnIds collector → (parent : ℕ)
    → parent < length collector.counts → id_of collector parent ≡ Some parent
own_id collector own parent within =
    ap (λ ids. slice_get ids parent) own ∙ range-at (length collector.counts) parent within

-- and only there
pub is_own_id : {C : Type 0} (collector : Filter C) → HasOwnIds collector → (parent id : ℕ)
    → id_of collector parent ≡ Some id → (id ≡ parent) × (parent < length collector.counts)
is_own_id collector own parent id is =
    let n = length collector.counts in
    let at : slice_get (range_with_len 0 n) parent ≡ Some id =
    sym (ap (λ ids. slice_get ids parent) own) ∙ is in
    let inside = slice_get_within (range_with_len 0 n) parent id at in
    let within : parent < n = omega (arith, length-range_with_len 0 n, inside) in
    let own_number = get_or-range_with_len 0 n parent 0 within ∙ zero-add parent in
    (sym (get_or_from_slice_get (range_with_len 0 n) parent id 0 at) ∙ own_number, within)

-- a parent without an id isn't prepared
pub is_unprepared : {C : Type 0} (collector : Filter C) → HasOwnIds collector → (parent : ℕ)
    → id_of collector parent ≡ None → length collector.counts ≤ parent
is_unprepared collector own parent none = is_past (lt_or_ge parent (length collector.counts))
  where
    is_past : (parent < length collector.counts) ⊎ (length collector.counts ≤ parent)
        → length collector.counts ≤ parent
    is_past (inl within) = absurd (cc (sym none ∙ own_id collector own parent within))
    is_past (inr past) = past

-- the ids are the numbers of prepared parents
pub contains_own : {C : Type 0} (collector : Filter C) → HasOwnIds collector → (id : ℕ)
    → id < length collector.counts → Contains collector.ids id
contains_own collector own id within =
    let P : List ℕ → Type 0 = λ ids. Contains ids id in
    let n = length collector.counts in
    let inside : id < length (range_with_len 0 n) =
    omega (arith, length-range_with_len 0 n, within) in
    subst P (sym own) (id, inside, get_or-range_with_len 0 n id id within ∙ zero-add id)

pub is_contained : {C : Type 0} (collector : Filter C) → HasOwnIds collector → (id : ℕ)
    → Contains collector.ids id → id < length collector.counts
is_contained collector own id among =
    let n = length collector.counts in
    let P : List ℕ → Type 0 = λ ids. Contains ids id in
    let has = subst P own among in
    let within : has.0 < n = omega (arith, length-range_with_len 0 n, has.1) in
    let same = get_or-range_with_len 0 n has.0 id within in
    omega (arith, within, same, has.2)

-- copies of a number, read with that number as the default
copies-at : (n i d : ℕ) → get_or (replicate n d) i d ≡ d
copies-at zero i d = refl
copies-at (suc n) zero d = refl
copies-at (suc n) (suc i) d = copies-at n i d

-- counts with zeros after them
zeros-after : (counts : List ℕ) (k parent : ℕ)
    → get_or (counts ++ replicate k 0) parent 0 ≡ get_or counts parent 0
zeros-after [] k parent = copies-at k parent 0
zeros-after (count ∷ counts) k zero = refl
zeros-after (count ∷ counts) k (suc parent) = zeros-after counts k parent

-- parents are prepared with counts of 0
pub prepares : {C : Type 0} (old new : Filter C) (k : ℕ) → HasOwnIds old → HasOwnIds new
    → new.counts ≡ old.counts ++ replicate k 0
    → new ≡ record old { counts = new.counts; ids = new.ids } → Prepares old new
prepares old new k own own_new are rest =
    let long = ap length are ∙ length-append old.counts (replicate k 0) in
    record {
      ids = λ parent id is.
          let has = is_own_id old own parent id is in
          own_id new own_new parent (omega (arith, has.1, long)) ∙ ap Some (sym has.0);
      counts = λ parent. ap (λ cs. get_or cs parent 0) are ∙ zeros-after old.counts k parent;
      more = omega (arith, long);
      rest = rest;
    }

-- counts get zeros after them, or stay as they are where memory is refused
pub resized : {C : Type 0} (old new : Filter C) (is_done : Bool) (size more_counts : ℕ)
    → HasOwnIds old → HasOwnIds new → length old.counts ≤ size
    → new.counts ≡ (if is_done then take size old.counts ++ replicate more_counts 0 else old.counts)
    → new ≡ record old { counts = new.counts; ids = new.ids } → Prepares old new
resized old new true size more_counts own own_new more are rest =
    prepares old new more_counts own own_new
    (are ∙ ap (λ cs. cs ++ replicate more_counts 0) (take_all size old.counts more)) rest
resized old new false size more_counts own own_new more are rest =
    prepares old new 0 own own_new (are ∙ sym (append-nil old.counts)) rest

-- there are no more of them than this
pub resized-few : (old new : List ℕ) (is_done : Bool) (size more_counts : ℕ)
    → length old ≤ size → more_counts ≡ size - length old
    → new ≡ (if is_done then take size old ++ replicate more_counts 0 else old)
    → length new ≤ size
resized-few old new true size more_counts few more are =
    let front = ap length (take_all size old few) in
    let long = ap length are
    ∙ length-append (take size old) (replicate more_counts 0) in
    let zeros = length-replicate {A = ℕ} more_counts 0 in
    omega (arith, few, more, front, long, zeros)
resized-few old new false size more_counts few more are =
    omega (arith, few, ap length are)

module _ {C : Type 0} (waiting : C → ℕ → List ℕ) (is_match : ℕ → Bool) (old new : Filter C)
    (visited given : List (ℕ × ℕ)) (f : FilterFor waiting is_match old visited given) where
  -- what was given or waits under the number of a parent, prepared or not
  new-exact : HasOwnIds old → old.hands_on ≡ true → (parent : ℕ)
      → (parent < length old.counts) ⊎ (length old.counts ≤ parent)
      → docs_of (is_id parent) given ++ waiting old.cache.0 parent
      ≡ matching_under is_match parent visited
  new-exact own hands parent (inl within) =
      f.exact hands parent parent (own_id old own parent within)
  new-exact own hands parent (inr past) =
      f.others hands parent (λ among.
      absurd (omega (arith, past, is_contained old own parent among)))
      ∙ sym (ap (filter is_match) (f.unprepared parent past))

  -- a collector that was right is right with more parents
  pub prepared-right : HasOwnIds old → HasOwnIds new → Prepares old new
      → length new.counts ≤ 4294967295 → FilterFor waiting is_match new visited given
  prepared-right own own_new more few =
      let cache = ap (λ c. c.cache) more.rest in
      let hands_on = ap (λ c. c.hands_on) more.rest in
      record {
        counted = λ parent. more.counts parent ∙ f.counted parent;
        exact = λ hands parent id is.
            let has = is_own_id new own_new parent id is in
            ap (λ i. docs_of (is_id i) given ++ waiting new.cache.0 i) has.0
            ∙ ap (λ c. docs_of (is_id parent) given ++ waiting c.0 parent) cache
            ∙ new-exact own (sym hands_on ∙ hands) parent (lt_or_ge parent (length old.counts));
        others = λ hands id none.
            ap (λ c. docs_of (is_id id) given ++ waiting c.0 id) cache
            ∙ f.others (sym hands_on ∙ hands) id (λ among. none (contains_own new own_new id
            (omega (arith, is_contained old own id among, more.more))));
        prepared = is_unprepared new own_new;
        distinct = λ parent other id is same.
            sym (is_own_id new own_new parent id is).0 ∙ (is_own_id new own_new other id same).0;
        low = λ parent id is.
            let has = is_own_id new own_new parent id is in omega (arith, has.0, has.1, few);
        unprepared = λ parent past. f.unprepared parent (omega (arith, past, more.more));
      }
