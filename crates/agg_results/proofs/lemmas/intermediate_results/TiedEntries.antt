-- Entries of one tuple in two ascending lists.
use Rattle.std.proofs.Common.{◌≡◌, ◌⊎◌, inl, inr, [], ◌∷◌, refl, sym, ap, ◌∙◌, subst, Ordering}
use Rattle.std.proofs.Common.{Less, Equal, Greater}
use Rattle.std.specs.Cmp.{IsTotalOrder}
use Rattle.std.specs.List.{AllByRecursion, Contains}
use Rattle.std.specs.List.Sorted.{IsStrictlySortedBy}
use Rattle.std.specs.Map.{keys_of}
use Rattle.std.proofs.lemmas.Map.Keys.{sorted_head}
use Rattle.agg_values.specs.Tuple.{KeyTuple}
use Rattle.agg_request_tree.proofs.Lists.{Contains-from_Has, Has, Has-from_Contains}
use Rattle.agg_results.proofs.lemmas.intermediate_results.KeyTurns.{reversed}
use Rattle.agg_results.specs.intermediate_results.Intermediate.{Entries, TupleEntry}
use Rattle.agg_results.specs.intermediate_results.Merging.{SomeTied}
use Rattle.agg_results.specs.declared.intermediate_results as intermediate
use intermediate.entry.IntermediateTermBucketEntry.{IntermediateTermBucketEntry}

abbrev Entry : Type 0
Entry = IntermediateTermBucketEntry

module _ (R : KeyTuple → KeyTuple → Ordering) (total : IsTotalOrder R) where
  -- what holds of each key holds of that of an entry
  pub key-has : (P : KeyTuple → Type 0) (es : Entries) (e : TupleEntry)
      → AllByRecursion P (keys_of es) → Has e es → P e.0
  key-has P [] e all has = absurd has
  key-has P (f ∷ es) e all (inl same) = subst (λ (g : TupleEntry). P g.0) same all.0
  key-has P (f ∷ es) e all (inr has) = key-has P es e all.1 has

  -- what is below the first is below all
  below-all : (k : KeyTuple) (f : TupleEntry) (fs : Entries) (g : TupleEntry)
      → IsStrictlySortedBy R (keys_of (f ∷ fs)) → R k f.0 ≡ Less → Has g (f ∷ fs)
      → R k g.0 ≡ Less
  below-all k f fs g up less (inl same) = ap (λ (h : TupleEntry). R k h.0) (sym same) ∙ less
  below-all k f fs g up less (inr has) =
      total.trans k f.0 g.0 less
      (key-has (λ l. R f.0 l ≡ Less) fs g (sorted_head R f.0 (keys_of fs) up) has)

  less-equal : {P : Type 0} (o : Ordering) → o ≡ Less → o ≡ Equal → P
  less-equal o is other = let h : Less ≡ Equal = sym is ∙ other in cc

  module _ (Told : Entry → Entry → Type 0) (e f : TupleEntry) (es fs : Entries) where
    -- the first of the left, below all of the right, is tied to none
    pub tied-less : IsStrictlySortedBy R (keys_of (f ∷ fs)) → R e.0 f.0 ≡ Less
        → SomeTied R Told (e ∷ es) (f ∷ fs) → SomeTied R Told es (f ∷ fs)
    tied-less up less (g, h, in_left, in_right, tied, told) =
        elim (Has-from_Contains (e ∷ es) g in_left) [
          | inl same ↦
              less-equal (R g.0 h.0)
              (ap (λ (x : TupleEntry). R x.0 h.0) (sym same)
              ∙ below-all e.0 f fs h up less (Has-from_Contains (f ∷ fs) h in_right)) tied
          | inr has ↦ (g, h, Contains-from_Has es g has, in_right, tied, told)
        ]

    -- likewise the first of the right, below all of the left
    pub tied-greater : IsStrictlySortedBy R (keys_of (e ∷ es)) → R e.0 f.0 ≡ Greater
        → SomeTied R Told (e ∷ es) (f ∷ fs) → SomeTied R Told (e ∷ es) fs
    tied-greater up greater (g, h, in_left, in_right, tied, told) =
        elim (Has-from_Contains (f ∷ fs) h in_right) [
          | inl same ↦
              less-equal (R h.0 g.0)
              (ap (λ (x : TupleEntry). R x.0 g.0) (sym same)
              ∙ below-all f.0 e es g up (reversed R total e.0 f.0 Greater greater)
              (Has-from_Contains (e ∷ es) g in_left))
              (reversed R total g.0 h.0 Equal tied)
          | inr has ↦ (g, h, in_left, Contains-from_Has fs h has, tied, told)
        ]

    -- the first of both are tied to no other
    pub tied-equal : IsStrictlySortedBy R (keys_of (e ∷ es))
        → IsStrictlySortedBy R (keys_of (f ∷ fs))
        → R e.0 f.0 ≡ Equal → ¬ (Told e.1 f.1)
        → SomeTied R Told (e ∷ es) (f ∷ fs) → SomeTied R Told es fs
    tied-equal up other_up equal untold (g, h, in_left, in_right, tied, told) =
        by (Has-from_Contains (e ∷ es) g in_left) (Has-from_Contains (f ∷ fs) h in_right)
      where
        by : Has g (e ∷ es) → Has h (f ∷ fs) → SomeTied R Told es fs
        by (inl same) (inl other) =
            absurd (untold (subst (λ (x : TupleEntry). Told x.1 f.1) (sym same)
            (subst (λ (x : TupleEntry). Told g.1 x.1) (sym other) told)))
        by (inl same) (inr has) =
            less-equal (R g.0 h.0)
            (ap (λ (x : TupleEntry). R x.0 h.0) (sym same) ∙ total.congr e.0 f.0 h.0 equal
            ∙ key-has (λ l. R f.0 l ≡ Less) fs h (sorted_head R f.0 (keys_of fs) other_up) has)
            tied
        by (inr has) (inl other) =
            less-equal (R e.0 g.0)
            (key-has (λ l. R e.0 l ≡ Less) es g (sorted_head R e.0 (keys_of es) up) has)
            (total.congr e.0 f.0 g.0 equal
            ∙ ap (λ (x : TupleEntry). R x.0 g.0) other
            ∙ reversed R total g.0 h.0 Equal tied)
        by (inr has) (inr other) =
            (g, h, Contains-from_Has es g has, Contains-from_Has fs h other, tied, told)

    pub more-left : SomeTied R Told es (f ∷ fs) → SomeTied R Told (e ∷ es) (f ∷ fs)
    more-left (g, h, in_left, in_right, tied, told) = (
      g,
      h,
      Contains-from_Has (e ∷ es) g (inr (Has-from_Contains es g in_left)),
      in_right,
      tied,
      told,
    )

    pub more-right : SomeTied R Told (e ∷ es) fs → SomeTied R Told (e ∷ es) (f ∷ fs)
    more-right (g, h, in_left, in_right, tied, told) = (
      g,
      h,
      in_left,
      Contains-from_Has (f ∷ fs) h (inr (Has-from_Contains fs h in_right)),
      tied,
      told,
    )

    pub more-both : SomeTied R Told es fs → SomeTied R Told (e ∷ es) (f ∷ fs)
    more-both (g, h, in_left, in_right, tied, told) = (
      g,
      h,
      Contains-from_Has (e ∷ es) g (inr (Has-from_Contains es g in_left)),
      Contains-from_Has (f ∷ fs) h (inr (Has-from_Contains fs h in_right)),
      tied,
      told,
    )

    pub tied-first : R e.0 f.0 ≡ Equal → Told e.1 f.1 → SomeTied R Told (e ∷ es) (f ∷ fs)
    tied-first equal told = (
      e,
      f,
      Contains-from_Has (e ∷ es) e (inl refl),
      Contains-from_Has (f ∷ fs) f (inl refl),
      equal,
      told,
    )

  -- where one list has ended, nothing is tied
  pub none-tied : (Told : Entry → Entry → Type 0) (left right : Entries)
      → (left ≡ []) ⊎ (right ≡ []) → ¬ (SomeTied R Told left right)
  none-tied Told left right (inl none) (g, h, in_left, in_right, tied, told) =
      Has-from_Contains [] g (subst (λ es. Contains es g) none in_left)
  none-tied Told left right (inr none) (g, h, in_left, in_right, tied, told) =
      Has-from_Contains [] h (subst (λ es. Contains es h) none in_right)
