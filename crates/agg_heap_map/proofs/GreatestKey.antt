-- The greatest key of entries, and the entries without it.
use Rattle.std.proofs.Common.{◌≡◌, ◌-◌, ◌<◌, get_or, Bool, true, false, ◌||◌, List, [], ◌∷◌}
use Rattle.std.proofs.Common.{◌++◌, Some, length, length-append, take, refl, sym, ap, ◌∙◌, subst}
use Rattle.std.proofs.Common.{arith, Ordering, Less, Equal, Greater, is_lt}
use Rattle.std.specs.BinaryHeap.{IsHeap, IsUpperBound}
use Rattle.std.specs.Cmp.{IsTotalOrder, IsEquivalence}
use Rattle.std.specs.List.{AllByRecursion, IsDistinct, list_any, slice_get}
use Rattle.std.specs.List.Sorted.{IsPermutation}
use Rattle.std.specs.Map.{keys_of, remove_entry}
use Rattle.std.specs.Ordering.{eq_by_cmp, is_eq}
use Rattle.std.specs.Set.{remove_key}
use Rattle.std.proofs.lemmas.Bool.{false≢true}
use Rattle.std.proofs.lemmas.List.{take_at}
use Rattle.std.proofs.lemmas.List.Sorted.{IsPermutation-sym, IsPermutation-trans, IsPermutation-map}
use Rattle.std.proofs.lemmas.List.Sorted.{list_any-IsPermutation, length_permutation}
use Rattle.std.proofs.lemmas.Map.Keys.{IsDistinct-IsPermutation, IsDistinct-head, IsDistinct-tail}
use Rattle.agg_heap_map.specs.EntryOrder.{HaveSameKeys, ascending}
use Rattle.agg_heap_map.proofs.EachItem.{both, moved, on_entries, weaker}
use Rattle.agg_heap_map.proofs.EntryOrder.{ascending-same, ascending-last}
use Rattle.agg_heap_map.proofs.KeyRemoval.{Split, keys-left, remove_key-permutation, split}
use Rattle.agg_heap_map.proofs.KeyEquality.{once_by_cmp}

-- ---- lists

get-last : {X : Type 0} (xs : List X) (x : X) → slice_get (xs ++ x ∷ []) (length xs) ≡ Some x
get-last [] x = refl
get-last (y ∷ xs) x = get-last xs x

pub last-of : {X : Type 0} (xs ys : List X) (x : X) → xs ≡ ys ++ x ∷ []
    → slice_get xs (length xs - 1) ≡ Some x
last-of xs ys x is =
    let n : length xs - 1 ≡ length ys =
    (let e = ap length is ∙ length-append ys (x ∷ []) in omega arith) in
    ap (slice_get xs) n ∙ ap (λ zs. slice_get zs (length ys)) is ∙ get-last ys x

pub all-but-last : {X : Type 0} (xs ys : List X) (x : X) → xs ≡ ys ++ x ∷ []
    → ys ≡ take (length xs - 1) xs
all-but-last xs ys x is =
    let n : length ys ≡ length xs - 1 =
    (let e = ap length is ∙ length-append ys (x ∷ []) in omega arith) in
    sym (ap (take (length xs - 1)) is ∙ take_at ys (x ∷ []) (length xs - 1) n)

-- ---- the greatest

greater-by : (o : Ordering) → is_lt o ≡ false → is_eq o ≡ false → o ≡ Greater
greater-by Less not_less apart = cc
greater-by Equal not_less apart = cc
greater-by Greater not_less apart = refl

module _ {K : Type 0} (R : K → K → Ordering) (eq : K → K → Bool)
    (ties : (k l : K) → eq k l ≡ eq_by_cmp R k l) where
  -- the greatest of the keys is above all others
  above-others : (x : K) (others : List K) → IsDistinct eq (x ∷ others) → IsUpperBound R x others
      → AllByRecursion (λ l. R x l ≡ Greater) others
  above-others x others once upper =
      both (λ l. is_lt (R x l) ≡ false) (λ l. eq x l ≡ false) (λ l. R x l ≡ Greater)
      (λ l a b. greater-by (R x l) a (sym (ties x l) ∙ b)) others upper
      (IsDistinct-head eq x others once)

-- entries whose keys are x, the greatest, and the others
module _ {K X : Type 0} (R : K → K → Ordering) (total : IsTotalOrder R) (eq : K → K → Bool)
    (laws : IsEquivalence eq) (ties : (k l : K) → eq k l ≡ eq_by_cmp R k l)
    (es : List (K × X)) (x : K) (others : List K) (once : IsDistinct eq (keys_of es))
    (same : IsPermutation (keys_of es) (x ∷ others)) (upper : IsUpperBound R x others) where
  once_listed : IsDistinct eq (x ∷ others)
  once_listed = IsDistinct-IsPermutation eq laws.symm (keys_of es) (x ∷ others) same once

  -- without x the keys are the others
  pub left_keys : IsPermutation (keys_of (remove_entry (eq x) es)) others
  left_keys =
      let m : IsPermutation (remove_key (eq x) (keys_of es)) (remove_key (eq x) (x ∷ others)) =
      remove_key-permutation eq laws x (keys_of es) (x ∷ others) same once in
      let m' : IsPermutation (remove_key (eq x) (keys_of es)) others = rw (laws.refl x) at m in
      subst (λ ks. IsPermutation ks others) (sym (keys-left (eq x) es)) m'

  is_x : AllByRecursion (λ l. eq x l ≡ true → l ≡ x) (keys_of es)
  is_x =
      moved (λ l. eq x l ≡ true → l ≡ x) (x ∷ others) (keys_of es)
      (IsPermutation-sym (keys_of es) (x ∷ others) same) (
        λ _. refl,
        weaker (λ l. eq x l ≡ false) (λ l. eq x l ≡ true → l ≡ x)
            (λ l miss hit. absurd (false≢true (sym miss ∙ hit))) others
            (IsDistinct-head eq x others once_listed),
      )

  any_x : list_any (eq x) (keys_of es) ≡ true
  any_x =
      list_any-IsPermutation (eq x) (keys_of es) (x ∷ others) same
      ∙ ap (λ b. b || list_any (eq x) others) (laws.refl x)

  -- in order, x comes last, after what is left without it
  pub greatest : (v : X) × (ascending R es ≡ ascending R (remove_entry (eq x) es) ++ (x, v) ∷ [])
  greatest =
      let s : Split (eq x) (λ l. eq x l ≡ true → l ≡ x) es =
      split (eq x) (λ l. eq x l ≡ true → l ≡ x) es is_x any_x in
      let is : s.0.0 ≡ x = s.2 s.1 in
      let left : List (K × X) = remove_entry (eq x) es in
      let above : AllByRecursion (λ l. R x l ≡ Greater) (keys_of left) =
      moved (λ l. R x l ≡ Greater) others (keys_of left)
      (IsPermutation-sym (keys_of left) others left_keys)
      (above-others R eq ties x others once_listed upper) in
      let above' : AllByRecursion (λ f. R s.0.0 f.0 ≡ Greater) left =
      subst (λ k. AllByRecursion (λ f. R k f.0 ≡ Greater) left) (sym is)
      (on_entries (λ l. R x l ≡ Greater) left above) in (
        s.0.1,
        ascending-last R total es left s.0 (once_by_cmp R eq ties (keys_of es) once) s.3
            above' ∙ ap (λ k. ascending R left ++ (k, s.0.1) ∷ []) is,
      )

  -- what a map has once x is removed from it
  pub evicted : (fs : List (K × X)) → IsPermutation (remove_entry (eq x) es) fs
      → ascending R fs ≡ take (length (ascending R es) - 1) (ascending R es)
  evicted fs m =
      let g = greatest in
      let left : List (K × X) = remove_entry (eq x) es in
      let o : IsDistinct eq (keys_of left) =
      IsDistinct-IsPermutation eq laws.symm others (keys_of left)
      (IsPermutation-sym (keys_of left) others left_keys) (IsDistinct-tail eq x others once_listed)
      in
      sym (ascending-same R total left fs m (once_by_cmp R eq ties (keys_of left) o))
      ∙ all-but-last (ascending R es) (ascending R left) (x, g.0) g.1

  pub evicted_keys : (fs : List (K × X)) → IsPermutation (remove_entry (eq x) es) fs
      → IsPermutation (keys_of fs) others
  evicted_keys fs m =
      let left : List (K × X) = remove_entry (eq x) es in
      IsPermutation-trans (keys_of fs) (keys_of left) others
      (IsPermutation-sym (keys_of left) (keys_of fs) (IsPermutation-map (λ e. e.0) left fs m))
      left_keys

-- ---- nothing, or the greatest

nil-from_length : {X : Type 0} (xs : List X) → length xs ≡ 0 → xs ≡ []
nil-from_length [] h = refl
nil-from_length (x ∷ xs) h = absurd (omega arith)

nil-permuted : {X : Type 0} (xs ys : List X) → IsPermutation xs ys → length ys ≡ 0 → length xs ≡ 0
nil-permuted xs ys m h = length_permutation ys xs (IsPermutation-sym xs ys m) ∙ h

nil-keys : {K X : Type 0} (es : List (K × X)) → length (keys_of es) ≡ 0 → es ≡ []
nil-keys [] h = refl
nil-keys (e ∷ es) h = absurd (omega arith)

-- no items, so no entries
pub no_entries : {K X : Type 0} (R : K → K → Ordering) (es : List (K × X)) (items : List K)
    → IsPermutation (keys_of es) items → length items ≡ 0 → ascending R es ≡ []
no_entries R es items same none =
    ap (ascending R) (nil-keys es (nil-permuted (keys_of es) items same none))

item-front : {K : Type 0} (items : List K) (x : K) → 0 < length items → x ≡ get_or items 0 x
    → (others : List K) × (items ≡ x ∷ others)
item-front [] x some is = absurd (omega arith)
item-front (y ∷ items) x some is = (items, ap (λ k. k ∷ items) (sym is))

-- the items of a heap show this one
abbrev pub Shows : {K : Type 0} → (K → K → Ordering) → List K → K → Type 0
Shows {K} R items x =
    ((0 < length items) × ((d : K) → x ≡ get_or items 0 d))
    × (IsHeap R items → IsUpperBound R x items)

module _ {K X : Type 0} (R : K → K → Ordering) (total : IsTotalOrder R) (eq : K → K → Bool)
    (laws : IsEquivalence eq) (ties : (k l : K) → eq k l ≡ eq_by_cmp R k l) where
  -- what a heap shows first is the last key of the map's entries in order
  pub peeked : (es : List (K × X)) (items : List K) (x : K) → IsDistinct eq (keys_of es)
      → IsPermutation (keys_of es) items → 0 < length items → x ≡ get_or items 0 x
      → IsUpperBound R x items
      → (v : X) × (slice_get (ascending R es) (length (ascending R es) - 1) ≡ Some (x, v))
  peeked es items x once same some is upper =
      let f = item-front items x some is in
      let g = greatest R total eq laws ties es x f.0 once
      (subst (IsPermutation (keys_of es)) f.1 same)
      (let u : IsUpperBound R x (x ∷ f.0) = subst (IsUpperBound R x) f.1 upper in u.1) in
      (g.0, last-of (ascending R es) (ascending R (remove_entry (eq x) es)) (x, g.0) g.1)

  pub shown : (es : List (K × X)) (items : List K) (x : K)
      → HaveSameKeys R eq (keys_of es) items → Shows R items x
      → (v : X) × (slice_get (ascending R es) (length (ascending R es) - 1) ≡ Some (x, v))
  shown es items x keys shows =
      peeked es items x keys.once keys.same shows.0.0 (shows.0.1 x) (shows.1 keys.heap)
