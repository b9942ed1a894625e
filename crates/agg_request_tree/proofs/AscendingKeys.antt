-- The ascending keys of a list: each of its keys once, in order.
use Rattle.std.proofs.Common.{◌≡◌, ℕ, suc, ◌<◌, ◌≤◌, inl, inr, cond}
use Rattle.std.proofs.Common.{List, [], ◌∷◌, length, is_eq, refl}
use Rattle.std.proofs.Common.{sym, ap, ◌∙◌, subst, arith, Ordering, Less, Equal, Greater}
use Rattle.std.specs.Cmp.{IsTotalOrder}
use Rattle.std.specs.Ordering.{ordering_reverse, match_ordering}
use Rattle.std.specs.List.{AllByRecursion, count_by}
use Rattle.std.specs.List.Sorted.{IsStrictlySortedBy}
use Rattle.std.proofs.lemmas.Cmp.{tied_itself}
use Rattle.std.proofs.lemmas.List.Sums.{sum_by-cons}
use Rattle.agg_request_tree.proofs.Lists.{Has}
use Rattle.agg_request_tree.proofs.Lists.{AllByRecursion-weaker}

-- ascending keys with one more, which changes nothing where it is among them
abbrev pub insert_key : {K : Type 0} → (K → K → Ordering) → K → List K → List K
insert_key R k [] = k ∷ []
insert_key R k (l ∷ ls) = match_ordering (R k l) (k ∷ l ∷ ls) (l ∷ ls) (l ∷ insert_key R k ls)

-- the keys of a list, each once and ascending
abbrev pub ascending_keys : {K : Type 0} → (K → K → Ordering) → List K → List K
ascending_keys R [] = []
ascending_keys R (k ∷ ks) = insert_key R k (ascending_keys R ks)

module _ {K : Type 0} (R : K → K → Ordering) (total : IsTotalOrder R) where
  -- what holds of a key and of the others, by how the key compares with the first of them
  all_inserted_by : (P : K → Type 0) (o : Ordering) (k l : K) (ls more : List K) → P k
      → AllByRecursion P (l ∷ ls) → AllByRecursion P more
      → AllByRecursion P (match_ordering o (k ∷ l ∷ ls) (l ∷ ls) (l ∷ more))
  all_inserted_by P Less k l ls more own all rest = (own, all)
  all_inserted_by P Equal k l ls more own all rest = all
  all_inserted_by P Greater k l ls more own all rest = (all.0, rest)

  -- what holds of a key and of the others holds with it inserted
  all_inserted : (P : K → Type 0) (k : K) (ls : List K) → P k → AllByRecursion P ls
      → AllByRecursion P (insert_key R k ls)
  all_inserted P k [] own all = (own, tt)
  all_inserted P k (l ∷ ls) own all = all_inserted_by P (R k l) k l ls (insert_key R k ls) own all
      (all_inserted P k ls own all.1)

  -- ascending keys with one more, by how it compares with the first
  sorted_inserted_by : (o : Ordering) (k l : K) (ls : List K) → R k l ≡ o
      → IsStrictlySortedBy R (l ∷ ls) → IsStrictlySortedBy R (insert_key R k ls)
      → IsStrictlySortedBy R (match_ordering o (k ∷ l ∷ ls) (l ∷ ls) (l ∷ insert_key R k ls))
  unfolding IsStrictlySortedBy
  sorted_inserted_by Less k l ls is up rest = (
    (
      is,
      AllByRecursion-weaker (λ y. R l y ≡ Less) (λ y. R k y ≡ Less) (λ y above.
          total.trans k l y is above) ls up.0,
    ),
    up,
  )
  sorted_inserted_by Equal k l ls is up rest = up
  sorted_inserted_by Greater k l ls is up rest = (
    all_inserted (λ y. R l y ≡ Less) k ls (total.antisymm l k ∙ ap ordering_reverse is) up.0,
    rest,
  )

  -- ascending keys ascend with one more
  sorted_inserted : (k : K) (ls : List K) → IsStrictlySortedBy R ls
      → IsStrictlySortedBy R (insert_key R k ls)
  unfolding IsStrictlySortedBy
  sorted_inserted k [] up = (tt, tt)
  sorted_inserted k (l ∷ ls) up = sorted_inserted_by (R k l) k l ls refl up
      (sorted_inserted k ls up.1)

  -- the ascending keys of a list ascend
  pub ascending_keys-sorted : (ks : List K) → IsStrictlySortedBy R (ascending_keys R ks)
  unfolding IsStrictlySortedBy
  ascending_keys-sorted [] = tt
  ascending_keys-sorted (k ∷ ks) = sorted_inserted k (ascending_keys R ks) (ascending_keys-sorted
      ks)

  -- an insertion's length, by how the key compares with the first
  length_inserted_by : (o : Ordering) (k l : K) (ls more : List K) → length more ≤ suc (length ls)
      → length (match_ordering o (k ∷ l ∷ ls) (l ∷ ls) (l ∷ more)) ≤ suc (suc (length ls))
  length_inserted_by Less k l ls more short = omega arith
  length_inserted_by Equal k l ls more short = omega arith
  length_inserted_by Greater k l ls more short = omega arith

  -- an insertion adds at most one key
  length_inserted : (k : K) (ls : List K) → length (insert_key R k ls) ≤ suc (length ls)
  length_inserted k [] = omega arith
  length_inserted k (l ∷ ls) = length_inserted_by (R k l) k l ls (insert_key R k ls)
      (length_inserted k ls)

  -- a list has no more ascending keys than keys
  pub length-ascending_keys : (ks : List K) → length (ascending_keys R ks) ≤ length ks
  length-ascending_keys [] = omega arith
  length-ascending_keys (k ∷ ks) = let rest = length-ascending_keys ks in
      let one = length_inserted k (ascending_keys R ks) in omega arith

  -- what holds of each key of a list holds of each of its ascending keys
  pub ascending_keys-all : (P : K → Type 0) (ks : List K) → AllByRecursion P ks
      → AllByRecursion P (ascending_keys R ks)
  ascending_keys-all P [] all = tt
  ascending_keys-all P (k ∷ ks) all = all_inserted P k (ascending_keys R ks) all.0
      (ascending_keys-all P ks all.1)

  -- the keys that an insertion keeps, by how the key compares with the first
  still_among_by : (o : Ordering) (k l x : K) (ls more : List K) → Has x (l ∷ ls)
      → (Has x ls → Has x more) → Has x (match_ordering o (k ∷ l ∷ ls) (l ∷ ls) (l ∷ more))
  still_among_by Less k l x ls more h rest = inr h
  still_among_by Equal k l x ls more h rest = h
  still_among_by Greater k l x ls more (inl e) rest = inl e
  still_among_by Greater k l x ls more (inr h) rest = inr (rest h)

  -- an insertion keeps the keys
  still_among : (k x : K) (ls : List K) → Has x ls → Has x (insert_key R k ls)
  still_among k x [] h = absurd h
  still_among k x (l ∷ ls) h = still_among_by (R k l) k l x ls (insert_key R k ls) h
      (still_among k x ls)

  module _ (M : K → Type 0) (exact : (x y : K) → M x → M y → R x y ≡ Equal → x ≡ y) where
    -- an inserted key is among the keys, by how it compares with the first
    now_among_by : (o : Ordering) (k l : K) (ls more : List K) → R k l ≡ o → M k → M l → Has k more
        → Has k (match_ordering o (k ∷ l ∷ ls) (l ∷ ls) (l ∷ more))
    now_among_by Less k l ls more is m_k m_l rest = inl refl
    now_among_by Equal k l ls more is m_k m_l rest = inl (sym (exact k l m_k m_l is))
    now_among_by Greater k l ls more is m_k m_l rest = inr rest

    -- an inserted key is among the keys
    now_among : (k : K) (ls : List K) → M k → AllByRecursion M ls → Has k (insert_key R k ls)
    now_among k [] m_k all = inl refl
    now_among k (l ∷ ls) m_k all = now_among_by (R k l) k l ls (insert_key R k ls) refl m_k all.0
        (now_among k ls m_k all.1)

    -- each key of a list is among its ascending keys, where keys of the kind that compare as equal
    -- are one
    pub ascending_keys-hold : (ks : List K) (x : K) → AllByRecursion M ks → Has x ks
        → Has x (ascending_keys R ks)
    ascending_keys-hold [] x all h = h
    ascending_keys-hold (k ∷ ks) x all (inl e) =
        subst (λ z. Has z (insert_key R k (ascending_keys R ks))) e
        (now_among k (ascending_keys R ks) all.0 (ascending_keys-all M ks all.1))
    ascending_keys-hold (k ∷ ks) x all (inr h) = still_among k x (ascending_keys R ks)
        (ascending_keys-hold ks x all.1 h)

  -- a key of a list counts at least once
  pub counts_itself : (x : K) (ks : List K) → Has x ks → 0 < count_by (λ y. is_eq (R x y)) ks
  counts_itself x [] h = absurd h
  counts_itself x (k ∷ ks) (inl e) =
      let same : R x k ≡ Equal = subst (λ z. R x z ≡ Equal) (sym e) (tied_itself total x) in
      let one : ◌≡◌ {A = ℕ} (cond (is_eq (R x k)) 1 0) 1 = ap (λ o. cond (is_eq o) 1 0) same in
      rw (sum_by-cons (λ y. cond (is_eq (R x y)) 1 0) k ks) (omega arith)
  counts_itself x (k ∷ ks) (inr h) = let rest = counts_itself x ks h in
      rw (sum_by-cons (λ y. cond (is_eq (R x y)) 1 0) k ks) (omega arith)
