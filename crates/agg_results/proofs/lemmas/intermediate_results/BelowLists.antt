-- Two ascending lists of entries, one below the other, as one.
use Rattle.std.proofs.Common.{◌≡◌, ℕ, ◌<◌, ◌≤◌, ◌-◌, [], ◌∷◌, ◌++◌, None, Some, get_or, inl, inr}
use Rattle.std.proofs.Common.{refl, length, sym, ◌∙◌, subst, arith, Ordering, Less, Equal}
use Rattle.std.specs.Cmp.{IsTotalOrder}
use Rattle.std.specs.List.{All, AllByRecursion, slice_get}
use Rattle.std.specs.List.Sorted.{IsStrictlySortedBy}
use Rattle.std.specs.Map.{keys_of}
use Rattle.std.proofs.lemmas.Bool.{cases_lt}
use Rattle.std.proofs.lemmas.List.{append-nil, get_or-map, length-map}
use Rattle.std.proofs.lemmas.List.Elements.{All-contains, All-head, recursion_from_All}
use Rattle.std.proofs.lemmas.Map.Keys.{Less-from_sorted}
use Rattle.std.proofs.lemmas.Option.{none-some, same_Some, slice_get-get_or}
use Rattle.agg_values.specs.Tuple.{KeyTuple}
use Rattle.agg_results.specs.intermediate_results.Intermediate.{Entries, TupleEntry}
use Rattle.agg_results.specs.intermediate_results.Merging.{ByOrder, JoinEntries, SomeTied}
use Rattle.agg_results.specs.intermediate_results.Outcome.{AreBelow}
use Rattle.agg_results.specs.declared.intermediate_results as declared
use declared.entry.IntermediateTermBucketEntry.{IntermediateTermBucketEntry}
use Rattle.agg_results.proofs.lemmas.intermediate_results.KeyTurns.{reversed}

abbrev Entry : Type 0
Entry = IntermediateTermBucketEntry

module _ (R : KeyTuple → KeyTuple → Ordering) (total : IsTotalOrder R) where
  -- ---- their ends tell it

  module _ (es : Entries) (up : IsStrictlySortedBy R (keys_of es)) (i j : ℕ) (d : TupleEntry)
      (before : i < j) (within : j < length es) where
    ordered : R (get_or es i d).0 (get_or es j d).0 ≡ Less
    ordered =
        let keys = length-map es (λ (e : TupleEntry). e.0) in
        let first = get_or-map (λ (e : TupleEntry). e.0) es i d d.0 (omega arith) in
        let second = get_or-map (λ (e : TupleEntry). e.0) es j d d.0 within in
        (λ k. R (sym first k) (sym second k))
        ∙ Less-from_sorted R (keys_of es) i j d.0 up before (omega arith)

  -- what an entry is below, those before it are below
  below-from : (es : Entries) → IsStrictlySortedBy R (keys_of es) → (i j : ℕ) (d : TupleEntry)
      (k : KeyTuple) → i ≤ j → j < length es → R (get_or es j d).0 k ≡ Less
      → R (get_or es i d).0 k ≡ Less
  below-from es up i j d k before within less = elim (cases_lt i j) [
    | inl lower ↦
        total.trans (get_or es i d).0 (get_or es j d).0 k (ordered es up i j d lower within) less
    | inr upper ↦
        let same : j ≡ i = omega arith in
        subst (λ n. R (get_or es n d).0 k ≡ Less) same less
  ]

  -- nothing is below an empty list's end, nor above its start
  nowhere : (es : Entries) (i : ℕ) → None ≡ slice_get es i → i < length es → ⊥
  nowhere [] i none within = omega arith
  nowhere (e ∷ es) i none within =
      none-some (get_or (e ∷ es) i e) (none ∙ slice_get-get_or (e ∷ es) i e within)

  pub below_none : (lower upper : Entries) → None ≡ slice_get lower (length lower - 1)
      → AreBelow R lower upper
  below_none lower upper none j d within i c inside =
      absurd (nowhere lower (length lower - 1) none (omega arith))

  pub none_above : (lower upper : Entries) → None ≡ slice_get upper 0 → AreBelow R lower upper
  none_above lower upper none j d within i c inside =
      absurd (nowhere upper 0 none (omega arith))

  -- what is below an entry is below those after it
  above-from : (es : Entries) → IsStrictlySortedBy R (keys_of es) → (i j : ℕ) (d : TupleEntry)
      (k : KeyTuple) → i ≤ j → j < length es → R k (get_or es i d).0 ≡ Less
      → R k (get_or es j d).0 ≡ Less
  above-from es up i j d k before within less = elim (cases_lt i j) [
    | inl lower ↦
        total.trans k (get_or es i d).0 (get_or es j d).0 less (ordered es up i j d lower within)
    | inr upper ↦
        let same : i ≡ j = omega arith in
        subst (λ n. R k (get_or es n d).0 ≡ Less) same less
  ]

  found-at : (es : Entries) (i : ℕ) (e d : TupleEntry) → i < length es
      → slice_get es i ≡ Some e → get_or es i d ≡ e
  found-at es i e d within at = same_Some _ e (sym (slice_get-get_or es i d within) ∙ at)

  -- where the last of a list is below the first of another
  pub below_by_ends : (lower upper : Entries) (last first : TupleEntry)
      → IsStrictlySortedBy R (keys_of lower) → IsStrictlySortedBy R (keys_of upper)
      → slice_get lower (length lower - 1) ≡ Some last → slice_get upper 0 ≡ Some first
      → R last.0 first.0 ≡ Less → AreBelow R lower upper
  below_by_ends lower upper last first up up_upper at at_first less j d within i c inside =
      let at_end = found-at lower (length lower - 1) last c (omega arith) at in
      let at_start = found-at upper 0 first d (omega arith) at_first in
      below-from lower up i (length lower - 1) c (get_or upper j d).0 (omega arith) (omega arith)
      (subst (λ e. R e.0 (get_or upper j d).0 ≡ Less) (sym at_end)
      (above-from upper up_upper 0 j d last.0 (omega arith) within
      (subst (λ f. R last.0 f.0 ≡ Less) (sym at_start) less)))

  -- lists with other names
  module _ (left right lower upper : Entries) (is_lower : lower ≡ left)
      (is_upper : upper ≡ right) (below : AreBelow R lower upper) where
    pub below-same : AreBelow R left right
    below-same =
        subst (λ l. AreBelow R l right) is_lower (subst (λ u. AreBelow R lower u) is_upper below)

  -- ---- as one

  module _ (Both : Entry → Entry → Entry → Type 0) where
    right-after : (left : Entries) (f : TupleEntry) (fs : Entries)
        → AllByRecursion (λ e. R e.0 f.0 ≡ Less) left
        → JoinEntries R Both left (f ∷ fs) (left ++ f ∷ fs)
    right-after [] f fs all = refl
    right-after (e ∷ es) f fs all =
        subst (λ o. ByOrder o
        ((e ≡ e) × JoinEntries R Both es (f ∷ fs) (es ++ f ∷ fs))
        ((e.0 ≡ e.0) × Both e.1 f.1 e.1 × JoinEntries R Both es fs (es ++ f ∷ fs))
        ((e ≡ f) × JoinEntries R Both (e ∷ es) fs (es ++ f ∷ fs)))
        (sym all.0) (refl, right-after es f fs all.1)

    left-after : (right : Entries) (e : TupleEntry) (es : Entries)
        → AllByRecursion (λ f. R f.0 e.0 ≡ Less) right
        → JoinEntries R Both (e ∷ es) right (right ++ e ∷ es)
    left-after [] e es all = refl
    left-after (f ∷ fs) e es all =
        subst (λ o. ByOrder o
        ((f ≡ e) × JoinEntries R Both es (f ∷ fs) (fs ++ e ∷ es))
        ((f.0 ≡ e.0) × Both e.1 f.1 f.1 × JoinEntries R Both es fs (fs ++ e ∷ es))
        ((f ≡ f) × JoinEntries R Both (e ∷ es) fs (fs ++ e ∷ es)))
        (sym (reversed R total f.0 e.0 Less all.0)) (refl, left-after fs e es all.1)

    -- the right after the left
    pub join-right : (left right : Entries) → AreBelow R left right
        → JoinEntries R Both left right (left ++ right)
    join-right [] [] below = (refl, refl)
    join-right (e ∷ es) [] below = append-nil (e ∷ es)
    join-right left (f ∷ fs) below =
        right-after left f fs (recursion_from_All (λ e. R e.0 f.0 ≡ Less) left
        (All-head (λ f. All (λ e. R e.0 f.0 ≡ Less) left) f fs below))

    -- the left after the right
    pub join-left : (left right : Entries) → AreBelow R right left
        → JoinEntries R Both left right (right ++ left)
    join-left [] [] below = (refl, refl)
    join-left [] (f ∷ fs) below = append-nil (f ∷ fs)
    join-left (e ∷ es) right below =
        left-after right e es (recursion_from_All (λ f. R f.0 e.0 ≡ Less) right
        (All-head (λ e. All (λ f. R f.0 e.0 ≡ Less) right) e es below))

  -- ---- no tuple is in both

  less-equal : {P : Type 0} (o : Ordering) → o ≡ Less → o ≡ Equal → P
  less-equal o is other = let h : Less ≡ Equal = sym is ∙ other in cc

  pub below-untied : (Told : Entry → Entry → Type 0) (left right : Entries)
      → AreBelow R left right → ¬ (SomeTied R Told left right)
  below-untied Told left right below (e, f, in_left, in_right, tied, told) =
      less-equal (R e.0 f.0)
      (All-contains (λ e. R e.0 f.0 ≡ Less) left e
      (All-contains (λ f. All (λ e. R e.0 f.0 ≡ Less) left) right f below in_right) in_left) tied

  pub above-untied : (Told : Entry → Entry → Type 0) (left right : Entries)
      → AreBelow R right left → ¬ (SomeTied R Told left right)
  above-untied Told left right below (e, f, in_left, in_right, tied, told) =
      less-equal (R f.0 e.0)
      (All-contains (λ f. R f.0 e.0 ≡ Less) right f
      (All-contains (λ e. All (λ f. R f.0 e.0 ≡ Less) right) left e below in_left) in_right)
      (reversed R total e.0 f.0 Equal tied)
