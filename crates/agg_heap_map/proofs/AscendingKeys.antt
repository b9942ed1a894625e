-- Entries whose keys ascend.
use Rattle.std.proofs.Common.{◌≡◌, List, [], ◌∷◌, None, Some, refl, ap, ◌∙◌, Ordering, Less, Equal}
use Rattle.std.proofs.Common.{Greater}
use Rattle.std.specs.BTreeMap.{insert_entry, is_at}
use Rattle.std.specs.Cmp.{IsTotalOrder}
use Rattle.std.specs.List.{AllByRecursion}
use Rattle.std.specs.List.Sorted.{IsStrictlySortedBy}
use Rattle.std.specs.Map.{keys_of, lookup, set_value}
use Rattle.std.specs.Ordering.{match_ordering, ordering_reverse}
use Rattle.agg_heap_map.specs.EntryOrder.{ascending}
use Rattle.agg_heap_map.proofs.EachItem.{weaker, on_entries, on_keys}

module _ {K X : Type 0} (R : K → K → Ordering) (total : IsTotalOrder R) where
  -- the keys ascend
  abbrev pub Ascends : List (K × X) → Type 0
  Ascends [] = Unit {0}
  Ascends (e ∷ es) = AllByRecursion (λ f. R e.0 f.0 ≡ Less) es × Ascends es

  all-inserted-by : (P : K → Type 0) (o : Ordering) (k : K) (v : X) (e : K × X)
      (es more : List (K × X)) → P k → AllByRecursion (λ f. P f.0) (e ∷ es)
      → AllByRecursion (λ f. P f.0) more
      → AllByRecursion (λ f. P f.0) (match_ordering o ((k, v) ∷ e ∷ es) ((e.0, v) ∷ es) (e ∷ more))
  all-inserted-by P Less k v e es more own all rest = (own, all)
  all-inserted-by P Equal k v e es more own all rest = all
  all-inserted-by P Greater k v e es more own all rest = (all.0, rest)

  pub all-inserted : (P : K → Type 0) (es : List (K × X)) (k : K) (v : X) → P k
      → AllByRecursion (λ f. P f.0) es → AllByRecursion (λ f. P f.0) (insert_entry R es k v)
  all-inserted P [] k v own all = (own, tt)
  all-inserted P (e ∷ es) k v own all =
      all-inserted-by P (R k e.0) k v e es (insert_entry R es k v) own all
      (all-inserted P es k v own all.1)

  ascends-inserted-by : (o : Ordering) (k : K) (v : X) (e : K × X) (es : List (K × X)) → R k e.0 ≡ o
      → Ascends (e ∷ es) → Ascends (insert_entry R es k v)
      → Ascends (match_ordering o ((k, v) ∷ e ∷ es) ((e.0, v) ∷ es) (e ∷ insert_entry R es k v))
  ascends-inserted-by Less k v e es is up rest = (
    (
      is,
      weaker
          (λ f. R e.0 f.0 ≡ Less) (λ f. R k f.0 ≡ Less)
          (λ f above. total.trans k e.0 f.0 is above) es up.0,
    ),
    up,
  )
  ascends-inserted-by Equal k v e es is up rest = up
  ascends-inserted-by Greater k v e es is up rest = (
    all-inserted
        (λ l. R e.0 l ≡ Less) es k v (total.antisymm e.0 k ∙ ap ordering_reverse is) up.0,
    rest,
  )

  pub ascends-inserted : (es : List (K × X)) (k : K) (v : X) → Ascends es
      → Ascends (insert_entry R es k v)
  ascends-inserted [] k v up = (tt, tt)
  ascends-inserted (e ∷ es) k v up =
      ascends-inserted-by (R k e.0) k v e es refl up (ascends-inserted es k v up.1)

  pub ascending-ascends : (es : List (K × X)) → Ascends (ascending R es)
  ascending-ascends [] = tt
  ascending-ascends (e ∷ es) = ascends-inserted (ascending R es) e.0 e.1 (ascending-ascends es)

  pub sorted_from_ascends : (es : List (K × X)) → Ascends es → IsStrictlySortedBy R (keys_of es)
  unfolding IsStrictlySortedBy
  sorted_from_ascends [] up = tt
  sorted_from_ascends (e ∷ es) up =
      (on_keys (λ l. R e.0 l ≡ Less) es up.0, sorted_from_ascends es up.1)

  pub ascending-sorted : (es : List (K × X)) → IsStrictlySortedBy R (keys_of (ascending R es))
  ascending-sorted es = sorted_from_ascends (ascending R es) (ascending-ascends es)

  -- a key below all is not found
  pub none-above : (k l : K) (es : List (K × X)) → R k l ≡ Less
      → AllByRecursion (λ f. R l f.0 ≡ Less) es → lookup (is_at (R k)) es ≡ None
  none-above k l [] less above = refl
  none-above k l (e ∷ es) less above =
      rw (total.trans k l e.0 less above.0) (none-above k l es less above.1)

  set-there-by : (o : Ordering) (k : K) (v w : X) (e : K × X) (es : List (K × X)) → R k e.0 ≡ o
      → Ascends (e ∷ es) → lookup (is_at (R k)) (e ∷ es) ≡ Some v
      → (lookup (is_at (R k)) es ≡ Some v → set_value (is_at (R k)) es w ≡ insert_entry R es k w)
      → set_value (is_at (R k)) (e ∷ es) w ≡ match_ordering o ((k, w) ∷ e ∷ es) ((e.0, w) ∷ es)
      (e ∷ insert_entry R es k w)
  set-there-by Less k v w e es is up found rest =
      let none : lookup (is_at (R k)) (e ∷ es) ≡ None = rw is (none-above k e.0 es is up.0) in
      cc
  set-there-by Equal k v w e es is up found rest = rw is refl
  set-there-by Greater k v w e es is up found rest =
      let deeper : lookup (is_at (R k)) es ≡ Some v = rw is at found in
      rw is (ap (λ fs. e ∷ fs) (rest deeper))

  -- the value of a key that is there is replaced
  pub set-there : (es : List (K × X)) (k : K) (v w : X) → Ascends es
      → lookup (is_at (R k)) es ≡ Some v → set_value (is_at (R k)) es w ≡ insert_entry R es k w
  set-there [] k v w up found = cc
  set-there (e ∷ es) k v w up found =
      set-there-by (R k e.0) k v w e es refl up found (λ deeper. set-there es k v w up.1 deeper)

  pub ascends_from_sorted : (es : List (K × X)) → IsStrictlySortedBy R (keys_of es) → Ascends es
  unfolding IsStrictlySortedBy
  ascends_from_sorted [] up = tt
  ascends_from_sorted (e ∷ es) up =
      (on_entries (λ l. R e.0 l ≡ Less) es up.0, ascends_from_sorted es up.1)
