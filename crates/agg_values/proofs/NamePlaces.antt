-- What a binary search finds among entries whose keys ascend.
use Rattle.std.proofs.Common.{◌≡◌, ℕ, zero, suc, ◌+◌, ◌<◌, ◌≤◌, List, [], ◌∷◌, length, get_or, set}
use Rattle.std.proofs.Common.{map, Ordering, Less, Equal, Greater, Result, Ok, Err, Some, None}
use Rattle.std.proofs.Common.{true, refl, sym, ap, ◌∙◌, subst, inl, inr, arith}
use Rattle.std.specs.Ordering.{ordering_reverse, match_ordering, is_lt}
use Rattle.std.specs.Cmp.{IsTotalOrder}
use Rattle.std.specs.Map.{keys_of}
use Rattle.std.specs.List.{HoldsAt, AllWithin}
use Rattle.std.specs.List.Sorted.{IsStrictlySortedBy, IsSortedBy, IsBinarySearchResult}
use Rattle.std.specs.List.Sorted.{IsSearchInRange}
use Rattle.std.proofs.lemmas.List.{get_or-map, get_or_default}
use Rattle.std.proofs.lemmas.Bool.{cases_lt}
use Rattle.std.proofs.lemmas.Map.Entries.{length-keys_of}
use Rattle.std.proofs.lemmas.Map.Keys.{Less-from_sorted, sorted_tail}
use Rattle.std.proofs.lemmas.List.Sorted.{searchable_from_sorted}
use Rattle.std.specs.Map.{values_of, lookup, remove_entry}
use Rattle.std.specs.List.{IsAmong, slice_get, insert, remove}
use Rattle.std.specs.BTreeMap.{is_at, insert_entry}
use Rattle.std.specs.Ordering.{is_le}
use Rattle.std.proofs.lemmas.Map.{NonePasses, lookup-none}
use Rattle.std_collections.proofs.Entries.{remove_entry_none}
use Rattle.std_collections.proofs.Pairwise.{from_sorted, to_sorted, Pairwise-remove}
use Rattle.std.proofs.lemmas.Map.Entries.{length-values_of}
use Rattle.std.proofs.lemmas.Option.{slice_get-get_or}
use mathlib.Core.Bool.{true≢false}
use Rattle.std_collections.specs.Layout.BTreeMap.{seek, one_further}
use Rattle.std_collections.specs.Layout.Columns.{set_value_at}
use Rattle.std_collections.proofs.Seek.{seek-Ok, found_at, missing_at, insert_entry-Ok}
use Rattle.std_collections.proofs.Seek.{insert_entry_err}

turned : {K : Type 0} {cmp : K → K → Ordering} (total : IsTotalOrder cmp) (k x : K) (r : Ordering)
    → cmp x k ≡ r → cmp k x ≡ ordering_reverse r
turned total k x r h = total.antisymm k x ∙ ap ordering_reverse h

module _ {K X : Type 0} {cmp : K → K → Ordering} (total : IsTotalOrder cmp) where
  -- a later key is above an earlier one
  less_at : (es : List (K × X)) (i j : ℕ) (d : K × X) → IsStrictlySortedBy cmp (keys_of es) → i < j
      → j < length es → cmp (get_or es i d).0 (get_or es j d).0 ≡ Less
  less_at es i j d s l b =
      let len = length-keys_of es in
      let e = Less-from_sorted cmp (keys_of es) i j d.0 s l (omega arith) in
      rw (
        ← get_or-map (λ (e : K × X). e.0) es i d d.0 (omega arith),
        ← get_or-map (λ (e : K × X).
            e.0) es j d d.0 b,
      ) e

  module _ (k : K) where
    step : (e : K × X) (es : List (K × X)) (r : Ordering) → cmp k e.0 ≡ r
        → seek (cmp k) (e ∷ es) ≡ match_ordering r (Err 0) (Ok 0) (one_further (seek (cmp k) es))
    step e es r h = ap (λ o. match_ordering o (Err 0) (Ok 0) (one_further (seek (cmp k) es))) h

    pub seek_is_Ok : (es : List (K × X)) (i : ℕ) → IsStrictlySortedBy cmp (keys_of es)
        → i < length es → HoldsAt (λ e. cmp e.0 k ≡ Equal) es i → seek (cmp k) es ≡ Ok i
    seek_is_Ok [] i s l at = absurd (omega arith)
    seek_is_Ok (e ∷ es) zero s l at = step e es Equal (turned total k e.0 Equal (at e))
    seek_is_Ok (e ∷ es) (suc i) s l at =
        let here = get_or (e ∷ es) (suc i) e in
        let below : cmp e.0 here.0 ≡ Less = less_at (e ∷ es) 0 (suc i) e s (omega arith) l in
        let above : cmp k e.0 ≡ Greater = total.congr k here.0 e.0 (turned total k here.0 Equal
        (at e)) ∙ total.antisymm here.0 e.0 ∙ ap ordering_reverse below in
        step e es Greater above ∙ ap one_further (seek_is_Ok es i (sorted_tail cmp e.0 (keys_of es)
        s) (omega arith) (λ d. at d))

    pub seek_is_Err : (es : List (K × X)) (i : ℕ) → i ≤ length es
        → AllWithin (λ e. cmp e.0 k ≡ Less) es 0 i
        → AllWithin (λ e. cmp e.0 k ≡ Greater) es i (length es) → seek (cmp k) es ≡ Err i
    seek_is_Err [] zero l low high = refl
    seek_is_Err [] (suc i) l low high = absurd (omega arith)
    seek_is_Err (e ∷ es) zero l low high = step e es Less (turned total k e.0 Greater
        (high 0 e (omega arith) (omega arith)))
    seek_is_Err (e ∷ es) (suc i) l low high =
        step e es Greater (turned total k e.0 Less (low 0 e (omega arith) (omega arith)))
        ∙ ap one_further (seek_is_Err es i (omega arith) (λ j d a b. low (suc j) d (omega arith)
        (omega arith)) (λ j d a b. high (suc j) d (omega arith) (omega arith)))

    sorted_entries : (es : List (K × X)) → IsStrictlySortedBy cmp (keys_of es)
        → IsSortedBy (λ (a b : K × X). is_lt (cmp a.0 b.0)) es
    sorted_entries es s j d low high =
        ap is_lt (total.antisymm (get_or es (j + 1) d).0 (get_or es j d).0 ∙ ap ordering_reverse
        (less_at es j (j + 1) d s (omega arith) high))

    -- a binary search among ascending keys finds what a search from the front does
    pub searched : (es : List (K × X)) (r : Result ℕ ℕ) → IsStrictlySortedBy cmp (keys_of es)
        → IsSearchInRange r (length es) → IsBinarySearchResult (λ e. cmp e.0 k) es r
        → r ≡ seek (cmp k) es
    searched es (Ok i) s range at = sym (seek_is_Ok es i s range at)
    searched es (Err i) s range parted =
        let p = parted (searchable_from_sorted total (λ (e : K × X). e.0) es k
        (sorted_entries es s)) in
        sym (seek_is_Err es i range p.0 p.1)

    -- what lies before a lower key is lower too, and what lies after a higher one higher
    pub all_lower : (es : List (K × X)) (m : ℕ) → IsStrictlySortedBy cmp (keys_of es)
        → m < length es → HoldsAt (λ e. cmp e.0 k ≡ Less) es m
        → AllWithin (λ e. cmp e.0 k ≡ Less) es 0 (m + 1)
    all_lower es m s l at j d a b = elim (cases_lt j m) [
      | inl before ↦ total.trans _ (get_or es m d).0 k (less_at es j m d s before l) (at d)
      | inr here ↦ let same : j ≡ m = omega arith in rw same (at d)
    ]

    pub all_higher : (es : List (K × X)) (m : ℕ) → IsStrictlySortedBy cmp (keys_of es)
        → m < length es → HoldsAt (λ e. cmp e.0 k ≡ Greater) es m
        → AllWithin (λ e. cmp e.0 k ≡ Greater) es m (length es)
    all_higher es m s l at j d a b = elim (cases_lt m j) [
      | inl after ↦
          let up : cmp k (get_or es m d).0 ≡ Less = turned total k _ Greater (at d) in
          let far : cmp k (get_or es j d).0 ≡ Less = total.trans k _ _ up (less_at es m j d s after
          b) in
          total.antisymm _ k ∙ ap ordering_reverse far
      | inr here ↦ let same : j ≡ m = omega arith in rw same (at d)
    ]

    -- from the element at m under one default to it under each
    pub at_place : (r : Ordering) (es : List (K × X)) (m : ℕ) (e : K × X) → m < length es
        → cmp (get_or es m e).0 k ≡ r → HoldsAt (λ y. cmp y.0 k ≡ r) es m
    at_place r es m e l h d = rw (get_or_default es m d e l) h

-- the value at a place is the one that a look-up finds
pub found_value : {K X : Type 0} (cmp : K → K → Ordering) (k : K) (es : List (K × X)) (i : ℕ) (e : K
    × X) → Ok i ≡ seek (cmp k) es → e ≡ get_or es i e → Some e.1 ≡ lookup (is_at (cmp k)) es
found_value cmp k es i e h is =
    let within = (seek-Ok (cmp k) es i (sym h)).0 in
    let len = length-values_of es in
    let at : slice_get (map (λ (y : _ × _). y.1) es) i ≡ Some (get_or (map (λ (y : _ × _). y.1) es)
    i e.1) = slice_get-get_or _ i e.1 (omega arith) in
    let got : get_or (map (λ (y : _ × _). y.1) es) i e.1 ≡ e.1 = get_or-map (λ (y : _ × _). y.1) es
    i e e.1 within ∙ ap (λ (y : _ × _). y.1) (sym is) in
    sym ((found_at (cmp k) es i (sym h)).value ∙ at ∙ ap Some got)

-- no entry is at a key that has no place
none_at : {K X : Type 0} {cmp : K → K → Ordering} (total : IsTotalOrder cmp) (k : K)
    (es : List (K × X)) (i : ℕ)
    → IsStrictlySortedBy cmp (keys_of es) → Err i ≡ seek (cmp k) es → NonePasses (is_at (cmp k)) es
none_at {cmp = cmp} total k es i s h = missing_at (cmp k) (λ x y a b. below x y (cmp k x) refl a b)
    es i s (sym h)
  where
    below : (x y : _) (r : Ordering) → cmp k x ≡ r → is_le r ≡ true → cmp x y ≡ Less
        → cmp k y ≡ Less
    below x y Less e a b = total.trans k x y e b
    below x y Equal e a b = total.congr k x y e ∙ b
    below x y Greater e a b = absurd (true≢false (sym a))

-- it is one of the values
pub among_values : {K X : Type 0} (cmp : K → K → Ordering) (k : K) (es : List (K × X)) (i : ℕ)
    (e : K × X)
    → Ok i ≡ seek (cmp k) es → e ≡ get_or es i e → IsAmong (values_of es) e.1
among_values cmp k es i e h is =
    let within = (seek-Ok (cmp k) es i (sym h)).0 in
    let len = length-values_of es in
    let got = get_or-map (λ (y : _ × _). y.1) es i e e.1 within ∙ ap (λ (y : _ × _). y.1) (sym is)
    in
    (i, (omega arith, sym got))

-- a key that has no place is not found
pub missing_value : {K X : Type 0} {cmp : K → K → Ordering} (total : IsTotalOrder cmp) (k : K)
    (es : List (K × X)) (i : ℕ) → IsStrictlySortedBy cmp (keys_of es) → Err i ≡ seek (cmp k) es
    → None ≡ lookup (is_at (cmp k)) es
missing_value {cmp = cmp} total k es i s h =
    sym (lookup-none (is_at (cmp k)) es (none_at total k es i s h))

-- where a key has no place, there is nothing to take out
pub missing_stays : {K X : Type 0} {cmp : K → K → Ordering} (total : IsTotalOrder cmp) (k : K)
    (es : List (K × X)) (i : ℕ)
    → IsStrictlySortedBy cmp (keys_of es) → Err i ≡ seek (cmp k) es
    → es ≡ remove_entry (is_at (cmp k)) es
missing_stays {cmp = cmp} total k es i s h = sym (remove_entry_none (is_at (cmp k)) es
    (none_at total k es i s h))

-- an entry put where its key would go
pub put_between : {K X : Type 0} (cmp : K → K
    → Ordering) (k : K) (v : X) (es old new : List (K × X)) (i : ℕ)
    → new ≡ insert es i (k, v) → Err i ≡ seek (cmp k) es → es ≡ old → new ≡ insert_entry cmp old k v
put_between cmp k v es old new i put h same =
    put ∙ insert_entry_err cmp k v es i (sym h) ∙ ap (λ l. insert_entry cmp l k v) same

-- an entry taken out of its key's place
pub taken_out : {K X : Type 0} (cmp : K → K → Ordering) (k : K) (es old new : List (K × X)) (i : ℕ)
    → new ≡ remove es i → Ok i ≡ seek (cmp k) es → es ≡ old → new ≡ remove_entry (is_at (cmp k)) old
taken_out cmp k es old new i taken h same =
    taken ∙ (found_at (cmp k) es i (sym h)).removes ∙ ap (λ l. remove_entry (is_at (cmp k)) l) same

-- what is left ascends
pub sorted_removed : {K X : Type 0} (cmp : K → K → Ordering) (es : List (K × X)) (i : ℕ)
    → IsStrictlySortedBy cmp (keys_of es) → IsStrictlySortedBy cmp (keys_of (remove es i))
sorted_removed cmp es i s = to_sorted cmp _ (Pairwise-remove (λ x y. cmp x y ≡ Less) es i
    (from_sorted cmp _ s))

-- writing the value of an entry in its place
pub set_is : {K X : Type 0} (es : List (K × X)) (i : ℕ) (e : K × X) (v : X) → i < length es
    → e ≡ get_or es i e → set es i (e.0, v) ≡ set_value_at es i v
set_is [] i e v l is = absurd (omega arith)
set_is (f ∷ es) zero e v l is = ap (λ (y : _ × _). (y.0, v) ∷ es) is
set_is (f ∷ es) (suc i) e v l is = ap (λ t. f ∷ t) (set_is es i e v (omega arith) is)

pub keys_set : {K X : Type 0} (es : List (K × X)) (i : ℕ) (v : X)
    → keys_of (set_value_at es i v) ≡ keys_of es
keys_set [] i v = refl
keys_set (f ∷ es) zero v = refl
keys_set (f ∷ es) (suc i) v = ap (λ t. f.0 ∷ t) (keys_set es i v)

module _ {K X : Type 0} (cmp : K → K → Ordering) (k : K) (es : List (K × X)) (i : ℕ) where
  -- a value written at the key's place
  pub put_over : (e : K × X) (v : X) → Ok i ≡ seek (cmp k) es → e ≡ get_or es i e
      → set es i (e.0, v) ≡ insert_entry cmp es k v
  put_over e v h is = set_is es i e v (seek-Ok (cmp k) es i (sym h)).0 is ∙ insert_entry-Ok cmp k v
      es i (sym h)

  pub sorted_over : (e : K × X) (v : X) → Ok i ≡ seek (cmp k) es → e ≡ get_or es i e
      → IsStrictlySortedBy cmp (keys_of es) → IsStrictlySortedBy cmp (keys_of (set es i (e.0, v)))
  sorted_over e v h is s = subst (IsStrictlySortedBy cmp)
      (sym (ap keys_of (set_is es i e v (seek-Ok (cmp k) es i (sym h)).0 is) ∙ keys_set es i v)) s
