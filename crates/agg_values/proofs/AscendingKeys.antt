-- Ascending keys, and what is put after them.
use Rattle.std.proofs.Common.{◌≡◌, ℕ, List, [], ◌∷◌, ◌++◌, map, refl, sym, ap, ◌∙◌, subst}
use Rattle.std.proofs.Common.{Ordering, Less, Greater, append_assoc}
use Rattle.std.specs.BTreeMap.{insert_entry}
use Rattle.std.specs.Cmp.{IsTotalOrder}
use Rattle.std.specs.List.{AllByRecursion}
use Rattle.std.specs.List.Sorted.{IsStrictlySortedBy}
use Rattle.std.specs.Map.{keys_of}
use Rattle.std.specs.Ordering.{ordering_reverse}
use Rattle.std.proofs.lemmas.Cmp.{nat_list_cmp_total}
use Rattle.std.proofs.lemmas.List.{map-append}
use Rattle.agg_values.specs.Names.{Named, name_cmp, put}

-- what holds of each holds of one in between
middle : {K : Type 0} (P : K → Type 0) (ks : List K) (k : K) (ls : List K)
    → AllByRecursion P (ks ++ k ∷ ls) → P k
middle P [] k ls all = all.0
middle P (x ∷ ks) k ls all = middle P ks k ls all.1

module _ {K : Type 0} (R : K → K → Ordering) where
  -- those before one of ascending keys are below it
  pub below-split : (ks : List K) (k : K) (ls : List K) → IsStrictlySortedBy R (ks ++ k ∷ ls)
      → AllByRecursion (λ l. R l k ≡ Less) ks
  unfolding IsStrictlySortedBy
  below-split [] k ls up = tt
  below-split (x ∷ ks) k ls up =
      (middle (λ y. R x y ≡ Less) ks k ls up.0, below-split ks k ls up.1)

  -- the keys before one of ascending entries are below its key
  pub below-before : {X : Type 0} (es : List (K × X)) (e : K × X) (fs : List (K × X))
      → IsStrictlySortedBy R (keys_of (es ++ e ∷ fs))
      → AllByRecursion (λ l. R l e.0 ≡ Less) (keys_of es)
  below-before es e fs up =
      below-split (keys_of es) e.0 (keys_of fs)
      (subst (IsStrictlySortedBy R) (map-append (λ x. x.0) es (e ∷ fs)) up)

  module _ (total : IsTotalOrder R) where
    above : (l k : K) → R l k ≡ Less → R k l ≡ Greater
    above l k below = total.antisymm k l ∙ ap ordering_reverse below

    -- an entry above others is put after them
    pub insert-end : {X : Type 0} (es : List (K × X)) (k : K) (x : X)
        → AllByRecursion (λ l. R l k ≡ Less) (keys_of es)
        → insert_entry R es k x ≡ es ++ (k, x) ∷ []
    insert-end [] k x below = refl
    insert-end (e ∷ es) k x below =
        rw (above e.0 k below.0) (ap (λ fs. e ∷ fs) (insert-end es k x below.1))

-- a map of names, copied entry by entry: one more
pub copied-more : {X : Type 0} (map copy left rest now : Named X) (name given : List ℕ)
    (value other : X)
    → IsStrictlySortedBy name_cmp (keys_of map) → map ≡ copy ++ left
    → left ≡ (name, value) ∷ rest → now ≡ put given other copy → given ≡ name → other ≡ value
    → map ≡ now ++ rest
copied-more map copy left rest now name given value other up so_far next is same_name same_value =
    let listed = so_far ∙ ap (λ es. copy ++ es) next in
    let below = below-before name_cmp copy (name, value) rest
    (subst (λ es. IsStrictlySortedBy name_cmp (keys_of es)) listed up) in
    let last = is ∙ (λ i. put (same_name i) (same_value i) copy)
    ∙ insert-end name_cmp nat_list_cmp_total copy name value below in
    listed ∙ sym (append_assoc copy ((name, value) ∷ []) rest) ∙ ap (λ es. es ++ rest) (sym last)
