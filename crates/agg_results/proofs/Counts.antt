-- Counts by key: more of a key, and counts added one by one.
use Rattle.std.proofs.Common.{◌≡◌, ℕ, ◌+◌, List, [], ◌∷◌, ◌++◌, take, refl, sym}
use Rattle.std.proofs.Common.{ap, ◌∙◌, subst, Ordering, Less, Equal, Greater}
use Rattle.std.specs.Cmp.{IsTotalOrder}
use Rattle.std.specs.List.{All, AllByRecursion}
use Rattle.std.specs.List.Sorted.{IsStrictlySortedBy}
use Rattle.std.specs.Map.{keys_of}
use Rattle.std.specs.Ordering.{match_ordering, ordering_reverse}
use Rattle.std.proofs.lemmas.List.{append-nil, take-map}
use Rattle.std.proofs.lemmas.List.Elements.{recursion_from_All}
use Rattle.agg_request_tree.proofs.Lists.{AllByRecursion-weaker}
use Rattle.agg_request_tree.proofs.PageKeys.{IsStrictlySortedBy-take}

-- ascending counts, with so many more of a key
abbrev pub add_count : {K : Type 0} → (K → K → Ordering) → List (K × ℕ) → K → ℕ → List (K × ℕ)
add_count R [] k n = (k, n) ∷ []
add_count R (e ∷ counts) k n =
    match_ordering (R k e.0)
    ((k, n) ∷ e ∷ counts) ((e.0, e.1 + n) ∷ counts) (e ∷ add_count R counts k n)

-- ascending counts, with others added
abbrev pub merged : {K : Type 0} → (K → K → Ordering) → List (K × ℕ) → List (K × ℕ)
    → List (K × ℕ)
merged R counts [] = counts
merged R counts (e ∷ others) = merged R (add_count R counts e.0 e.1) others

-- the keys of counts ascend
abbrev pub Ascend : {K : Type 0} → (K → K → Ordering) → List (K × ℕ) → Type 0
Ascend R counts = IsStrictlySortedBy R (keys_of counts)

-- the keys of counts are all below a key
abbrev pub Below : {K : Type 0} → (K → K → Ordering) → List (K × ℕ) → K → Type 0
Below R counts k = AllByRecursion (λ l. R l k ≡ Less) (keys_of counts)

-- the front of ascending counts ascends
pub Ascend-take : {K : Type 0} (R : K → K → Ordering) (n : ℕ) (es : List (K × ℕ)) → Ascend R es
    → Ascend R (take n es)
Ascend-take R n es up =
    subst (IsStrictlySortedBy R) (take-map (λ e. e.0) n es)
    (IsStrictlySortedBy-take R n (keys_of es) up)

-- a list with one more after it, in front of others
push-append : {X : Type 0} (xs : List X) (x : X) (ys : List X) → (xs ++ x ∷ []) ++ ys ≡ xs ++ x ∷ ys
push-append [] x ys = refl
push-append (z ∷ xs) x ys = ap (λ zs. z ∷ zs) (push-append xs x ys)

keys-push : {K : Type 0} (P : K → Type 0) (es : List (K × ℕ)) (e : K × ℕ)
    → AllByRecursion P (keys_of es) → P e.0 → AllByRecursion P (keys_of (es ++ e ∷ []))
keys-push P [] e all own = (own, tt)
keys-push P (x ∷ es) e all own = (all.0, keys-push P es e all.1 own)

module _ {K : Type 0} (R : K → K → Ordering) (total : IsTotalOrder R) where
  -- two keys the other way round
  pub reversed : (k l : K) (o : Ordering) → R k l ≡ o → R l k ≡ ordering_reverse o
  reversed k l o is = total.antisymm l k ∙ ap ordering_reverse is

  -- ---- at the end

  -- more of a key above all stands at the end
  pub add-end : (es : List (K × ℕ)) (k : K) (n : ℕ) → Below R es k
      → add_count R es k n ≡ es ++ (k, n) ∷ []
  add-end [] k n below = refl
  add-end (e ∷ es) k n below =
      rw (reversed e.0 k Less below.0) (ap (λ fs. e ∷ fs) (add-end es k n below.1))

  -- more of a key stands at the end, where each key, told by its place, is below it
  pub add-above : (es : List (K × ℕ)) (k : K) (n : ℕ) → All (λ l. R l k ≡ Less) (keys_of es)
      → add_count R es k n ≡ es ++ (k, n) ∷ []
  add-above es k n below =
      add-end es k n (recursion_from_All (λ l. R l k ≡ Less) (keys_of es) below)

  -- each of counts is above all of others
  abbrev Above : List (K × ℕ) → List (K × ℕ) → Type 0
  Above es fs = AllByRecursion (Below R es) (keys_of fs)

  above-more : (es : List (K × ℕ)) (e : K × ℕ) (ks : List K) → AllByRecursion (Below R es) ks
      → AllByRecursion (λ k. R e.0 k ≡ Less) ks → AllByRecursion (Below R (es ++ e ∷ [])) ks
  above-more es e [] above own = tt
  above-more es e (k ∷ ks) above own =
      (keys-push (λ l. R l k ≡ Less) es e above.0 own.0, above-more es e ks above.1 own.1)

  above-nothing : (ks : List K) → AllByRecursion (Below R []) ks
  above-nothing [] = tt
  above-nothing (k ∷ ks) = (tt, above-nothing ks)

  -- ascending counts above others, added one by one, stand after them
  pub merged-end : (es fs : List (K × ℕ)) → AllByRecursion (Below R es) (keys_of fs) → Ascend R fs
      → merged R es fs ≡ es ++ fs
  unfolding IsStrictlySortedBy
  merged-end es [] above up = sym (append-nil es)
  merged-end es (f ∷ fs) above up =
      ap (λ gs. merged R gs fs) (add-end es f.0 f.1 above.0)
      ∙ merged-end (es ++ f ∷ []) fs (above-more es f (keys_of fs) above.1 up.0) up.1
      ∙ push-append es f fs

  -- ascending counts, added one by one to nothing, are as they were
  pub merged-nothing : (es : List (K × ℕ)) → IsStrictlySortedBy R (keys_of es)
      → merged R [] es ≡ es
  merged-nothing es up = merged-end [] es (above-nothing (keys_of es)) up

  -- ---- keys

  all-added-by : (P : K → Type 0) (o : Ordering) (k : K) (n : ℕ) (e : K × ℕ)
      (es more : List (K × ℕ)) → P k → AllByRecursion P (keys_of (e ∷ es))
      → AllByRecursion P (keys_of more)
      → AllByRecursion P (keys_of
      (match_ordering o ((k, n) ∷ e ∷ es) ((e.0, e.1 + n) ∷ es) (e ∷ more)))
  all-added-by P Less k n e es more own all rest = (own, all)
  all-added-by P Equal k n e es more own all rest = all
  all-added-by P Greater k n e es more own all rest = (all.0, rest)

  -- what holds of each key and of one more
  pub all-added : (P : K → Type 0) (es : List (K × ℕ)) (k : K) (n : ℕ) → P k
      → AllByRecursion P (keys_of es) → AllByRecursion P (keys_of (add_count R es k n))
  all-added P [] k n own all = (own, tt)
  all-added P (e ∷ es) k n own all =
      all-added-by P (R k e.0) k n e es (add_count R es k n) own all
      (all-added P es k n own all.1)

  Ascend-add-by : (o : Ordering) (k : K) (n : ℕ) (e : K × ℕ) (es : List (K × ℕ)) → R k e.0 ≡ o
      → Ascend R (e ∷ es) → Ascend R (add_count R es k n)
      → Ascend R (match_ordering o
      ((k, n) ∷ e ∷ es) ((e.0, e.1 + n) ∷ es) (e ∷ add_count R es k n))
  unfolding IsStrictlySortedBy
  Ascend-add-by Less k n e es is up rest =
      let above = AllByRecursion-weaker (λ l. R e.0 l ≡ Less) (λ l. R k l ≡ Less)
      (λ l h. total.trans k e.0 l is h) (keys_of es) up.0 in
      ((is, above), up)
  Ascend-add-by Equal k n e es is up rest = up
  Ascend-add-by Greater k n e es is up rest =
      (all-added (λ l. R e.0 l ≡ Less) es k n (reversed k e.0 Greater is) up.0, rest)

  -- ascending counts with more of a key ascend
  pub Ascend-add : (es : List (K × ℕ)) (k : K) (n : ℕ) → Ascend R es
      → Ascend R (add_count R es k n)
  unfolding IsStrictlySortedBy
  Ascend-add [] k n up = (tt, tt)
  Ascend-add (e ∷ es) k n up =
      Ascend-add-by (R k e.0) k n e es refl up (Ascend-add es k n up.1)

  -- ascending counts with others added ascend
  pub Ascend-merged : (es fs : List (K × ℕ)) → Ascend R es → Ascend R (merged R es fs)
  Ascend-merged es [] up = up
  Ascend-merged es (f ∷ fs) up =
      Ascend-merged (add_count R es f.0 f.1) fs (Ascend-add es f.0 f.1 up)
