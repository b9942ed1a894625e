-- Values by key, where a key is set or taken away.
use Rattle.std.proofs.Common.{◌≡◌, Bool, true, false, cond, List, [], ◌∷◌, ◌++◌, Option, None, Some}
use Rattle.std.proofs.Common.{◌⊎◌, inl, inr, refl, sym, ap, ◌∙◌, subst, Ordering, Less, Equal}
use Rattle.std.proofs.Common.{Greater, is_eq}
use Rattle.std.specs.BTreeMap.{insert_entry, is_at}
use Rattle.std.specs.Cmp.{IsTotalOrder}
use Rattle.std.specs.List.{AllByRecursion}
use Rattle.std.specs.List.Sorted.{IsStrictlySortedBy}
use Rattle.std.specs.Map.{keys_of, lookup, remove_entry}
use Rattle.std.specs.Ordering.{match_ordering}
use Rattle.std.proofs.lemmas.Bool.{false≢true}
use Rattle.std.proofs.lemmas.Cmp.{tied_itself}
use Rattle.std.proofs.lemmas.Option.{none-some, same_Some}
use Rattle.std.proofs.lemmas.Map.Keys.{sorted_head, sorted_tail}
use Rattle.std.proofs.lemmas.Map.Lookups.{CmpEqualImpliesEq}

-- a key is one of these
abbrev pub Among : {K : Type 0} → List K → K → Type 0
Among [] k = ⊥
Among (l ∷ ks) k = (k ≡ l) ⊎ Among ks k

-- one of these with one more is among these or that one
pub among_more : {K : Type 0} (ks : List K) (l k : K) → Among (ks ++ l ∷ []) k
    → Among ks k ⊎ (k ≡ l)
among_more [] l k (inl same) = inr same
among_more [] l k (inr none) = absurd none
among_more (m ∷ ks) l k (inl same) = inl (inl same)
among_more (m ∷ ks) l k (inr rest) =
    elim (among_more ks l k rest) [ inl h ↦ inl (inr h) | inr same ↦ inr same ]

module _ {K : Type 0} {cmp : K → K → Ordering} (total : IsTotalOrder cmp)
    (exact : CmpEqualImpliesEq cmp) where
  own : (k : K) → is_at (cmp k) k ≡ true
  own k = ap is_eq (tied_itself total k)

  found-same : (k l : K) (o : Ordering) → cmp k l ≡ o → is_eq o ≡ true → k ≡ l
  found-same k l Less is h = absurd (false≢true h)
  found-same k l Equal is h = exact k l is
  found-same k l Greater is h = absurd (false≢true h)

  -- a key at which another is found is that one
  pub same_key : (k l : K) → is_at (cmp k) l ≡ true → k ≡ l
  same_key k l h = found-same k l (cmp k l) refl h

module _ {K X : Type 0} {cmp : K → K → Ordering} (total : IsTotalOrder cmp)
    (exact : CmpEqualImpliesEq cmp) where
  -- the value of a key
  abbrev value : K → List (K × X) → Option X
  value k es = lookup (is_at (cmp k)) es

  -- a first entry holds its own key
  pub value-first : (k : K) (v : X) (es : List (K × X)) → value k ((k, v) ∷ es) ≡ Some v
  value-first k v es = rw (own total exact k) refl

  -- ---- a first entry

  first-by : (b : Bool) (k : K) (e : K × X) (es : List (K × X)) (v : X) → is_at (cmp k) e.0 ≡ b
      → value k (e ∷ es) ≡ Some v → ((k ≡ e.0) × (e.1 ≡ v)) ⊎ (value k es ≡ Some v)
  first-by true k e es v is found =
      inl (same_key total exact k e.0 is, same_Some e.1 v (rw is at found))
  first-by false k e es v is found = inr (rw is at found)

  -- a value is the first one, of the first key, or one after it
  pub first_or_later : (k : K) (e : K × X) (es : List (K × X)) (v : X)
      → value k (e ∷ es) ≡ Some v → ((k ≡ e.0) × (e.1 ≡ v)) ⊎ (value k es ≡ Some v)
  first_or_later k e es v found = first-by (is_at (cmp k) e.0) k e es v refl found

  -- keys above one don't hold it
  none_above : (k : K) (es : List (K × X)) → AllByRecursion (λ l. cmp k l ≡ Less) (keys_of es)
      → value k es ≡ None
  none_above k [] above = refl
  none_above k (e ∷ es) above = rw above.0 (none_above k es above.1)

  later-by : (b : Bool) (k : K) (e : K × X) (es : List (K × X)) (v : X)
      → IsStrictlySortedBy cmp (keys_of (e ∷ es)) → is_at (cmp k) e.0 ≡ b
      → value k es ≡ Some v → value k (e ∷ es) ≡ Some v
  later-by true k e es v up is found =
      let none = none_above e.0 es (sorted_head cmp e.0 (keys_of es) up) in
      let own = sym (same_key total exact k e.0 is) in
      absurd (none-some v (sym (subst (λ l. value l es ≡ None) own none) ∙ found))
  later-by false k e es v up is found = rw is found

  -- what is after a first entry is there with it, where keys ascend
  pub later : (k : K) (e : K × X) (es : List (K × X)) (v : X)
      → IsStrictlySortedBy cmp (keys_of (e ∷ es)) → value k es ≡ Some v
      → value k (e ∷ es) ≡ Some v
  later k e es v up found = later-by (is_at (cmp k) e.0) k e es v up refl found

  -- ---- a key that is set

  put-by : (o : Ordering) (e : K × X) (es more : List (K × X)) (k : K) (v : X) → cmp k e.0 ≡ o
      → value k more ≡ Some v
      → value k (match_ordering o ((k, v) ∷ e ∷ es) ((e.0, v) ∷ es) (e ∷ more)) ≡ Some v
  put-by Less e es more k v is rest = rw (own total exact k) refl
  put-by Equal e es more k v is rest = rw is refl
  put-by Greater e es more k v is rest = rw is rest

  -- has the value
  pub value-put : (es : List (K × X)) (k : K) (v : X) → value k (insert_entry cmp es k v) ≡ Some v
  value-put [] k v = value-first k v []
  value-put (e ∷ es) k v =
      put-by (cmp k e.0) e es (insert_entry cmp es k v) k v refl (value-put es k v)

  other-put-by : (o : Ordering) (e : K × X) (es more : List (K × X)) (k q : K) (v : X)
      → cmp k e.0 ≡ o → is_at (cmp q) k ≡ false → value q more ≡ value q es
      → value q (match_ordering o ((k, v) ∷ e ∷ es) ((e.0, v) ∷ es) (e ∷ more)) ≡ value q (e ∷ es)
  other-put-by Less e es more k q v is apart rest = rw apart refl
  other-put-by Equal e es more k q v is apart rest =
      let there = subst (λ l. is_at (cmp q) l ≡ false) (exact k e.0 is) apart in
      rw there refl
  other-put-by Greater e es more k q v is apart rest =
      ap (λ r. cond (is_at (cmp q) e.0) (Some e.1) r) rest

  -- another has its value as before
  pub other-put : (es : List (K × X)) (k q : K) (v : X) → is_at (cmp q) k ≡ false
      → value q (insert_entry cmp es k v) ≡ value q es
  other-put [] k q v apart = rw apart refl
  other-put (e ∷ es) k q v apart =
      other-put-by (cmp k e.0) e es (insert_entry cmp es k v) k q v refl apart
      (other-put es k q v apart)

  -- ---- a key that is taken away

  abbrev without : K → List (K × X) → List (K × X)
  without k es = remove_entry (is_at (cmp k)) es

  gone-by : (o : Ordering) (e : K × X) (es : List (K × X)) (k : K) → cmp k e.0 ≡ o
      → IsStrictlySortedBy cmp (keys_of (e ∷ es)) → value k (without k es) ≡ None
      → value k (cond (is_eq o) es (e ∷ without k es)) ≡ None
  gone-by Less e es k is up rest = rw is rest
  gone-by Equal e es k is up rest =
      subst (λ l. value l es ≡ None) (sym (exact k e.0 is))
      (none_above e.0 es (sorted_head cmp e.0 (keys_of es) up))
  gone-by Greater e es k is up rest = rw is rest

  -- has no value
  pub value-gone : (es : List (K × X)) (k : K) → IsStrictlySortedBy cmp (keys_of es)
      → value k (without k es) ≡ None
  value-gone [] k up = refl
  value-gone (e ∷ es) k up =
      gone-by (cmp k e.0) e es k refl up
      (value-gone es k (sorted_tail cmp e.0 (keys_of es) up))

  other-gone-by : (b : Bool) (e : K × X) (es more : List (K × X)) (k q : K)
      → is_at (cmp k) e.0 ≡ b → is_at (cmp q) k ≡ false → value q more ≡ value q es
      → value q (cond b es (e ∷ more)) ≡ value q (e ∷ es)
  other-gone-by true e es more k q is apart rest =
      let there = subst (λ l. is_at (cmp q) l ≡ false) (same_key total exact k e.0 is) apart in
      rw there refl
  other-gone-by false e es more k q is apart rest =
      ap (λ r. cond (is_at (cmp q) e.0) (Some e.1) r) rest

  -- another has its value as before
  pub other-gone : (es : List (K × X)) (k q : K) → is_at (cmp q) k ≡ false
      → value q (without k es) ≡ value q es
  other-gone [] k q apart = refl
  other-gone (e ∷ es) k q apart =
      other-gone-by (is_at (cmp k) e.0) e es (without k es) k q refl apart
      (other-gone es k q apart)

  -- what is left ascends
  pub sorted-gone : (k : K) (es : List (K × X)) → IsStrictlySortedBy cmp (keys_of es)
      → IsStrictlySortedBy cmp (keys_of (without k es))
  unfolding IsStrictlySortedBy
  sorted-gone k [] up = tt
  sorted-gone k (e ∷ es) up =
      sorted-gone-by (is_at (cmp k) e.0) e es (without k es) up
      (all-gone (λ l. cmp e.0 l ≡ Less) k es up.0) (sorted-gone k es up.1)
    where
      all-gone-by : (P : K → Type 0) (b : Bool) (f : K × X) (fs more : List (K × X))
          → AllByRecursion P (keys_of (f ∷ fs)) → AllByRecursion P (keys_of more)
          → AllByRecursion P (keys_of (cond b fs (f ∷ more)))
      all-gone-by P true f fs more all rest = all.1
      all-gone-by P false f fs more all rest = (all.0, rest)

      all-gone : (P : K → Type 0) (k : K) (fs : List (K × X)) → AllByRecursion P (keys_of fs)
          → AllByRecursion P (keys_of (without k fs))
      all-gone P k [] all = tt
      all-gone P k (f ∷ fs) all =
          all-gone-by P (is_at (cmp k) f.0) f fs (without k fs) all (all-gone P k fs all.1)

      sorted-gone-by : (b : Bool) (f : K × X) (fs more : List (K × X))
          → IsStrictlySortedBy cmp (keys_of (f ∷ fs))
          → AllByRecursion (λ l. cmp f.0 l ≡ Less) (keys_of more)
          → IsStrictlySortedBy cmp (keys_of more)
          → IsStrictlySortedBy cmp (keys_of (cond b fs (f ∷ more)))
      sorted-gone-by true f fs more up above rest = up.1
      sorted-gone-by false f fs more up above rest = (above, rest)

  -- a key with a value is one of the keys
  pub among_keys : (k : K) (v : X) (es : List (K × X)) → value k es ≡ Some v
      → Among (keys_of es) k
  among_keys k v [] found = absurd (none-some v found)
  among_keys k v (e ∷ es) found =
      elim (first_or_later k e es v found) [
        | inl same ↦ inl same.0
        | inr later ↦ inr (among_keys k v es later)
      ]
