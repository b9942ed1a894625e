-- One more entry among ascending ones.
use Rattle.std.proofs.Common.{◌≡◌, ℕ, zero, suc, inl, inr, [], ◌∷◌, Some, Ok, Err, ◌<◌, arith}
use Rattle.std.proofs.Common.{length, refl, sym, ap, ◌∙◌, subst, Ordering, Less, Equal, Greater}
use Rattle.std.specs.Cmp.{IsTotalOrder}
use Rattle.std.specs.List.{insert, slice_get}
use Rattle.std.specs.List.Sorted.{IsStrictlySortedBy}
use Rattle.std.specs.Map.{keys_of, values_of}
use Rattle.std.proofs.lemmas.Map.Keys.{sorted_head, sorted_tail}
use Rattle.std.proofs.lemmas.Option.{same_Some}
use Rattle.std_collections.specs.Layout.BTreeMap.{seek}
use Rattle.std_collections.specs.Layout.Columns.{set_value_at}
use Rattle.std_collections.proofs.Seek.{AboveFirst, AnswersAt, seek-Ok, seek_err}
use Rattle.agg_values.specs.Tuple.{KeyTuple}
use Rattle.agg_request_tree.proofs.Lists.{Contains-from_Has, Has, Has-from_Contains}
use Rattle.agg_results.specs.intermediate_results.Intermediate.{Entries, TupleEntry}
use Rattle.agg_results.specs.intermediate_results.Merging.{ByOrder, JoinEntries, SomeTied}
use Rattle.agg_results.specs.declared.intermediate_results as declared
use declared.entry.IntermediateTermBucketEntry.{IntermediateTermBucketEntry}
use Rattle.agg_results.proofs.lemmas.intermediate_results.JoinedEntries.{join-nothing_right}
use Rattle.agg_results.proofs.lemmas.intermediate_results.KeyTurns.{reversed}
use Rattle.agg_results.proofs.lemmas.intermediate_results.TiedEntries.{key-has}

abbrev Entry : Type 0
Entry = IntermediateTermBucketEntry

-- ---- the place of a tuple that is held

held-by : (es : Entries) (i : ℕ) → i < length es
    → (e : Entry) × (slice_get (values_of es) i ≡ Some e)
held-by [] i within = absurd (omega arith)
held-by (x ∷ es) zero within = (x.1, refl)
held-by (x ∷ es) (suc i) within = held-by es i (omega arith)

module _ (R : KeyTuple → KeyTuple → Ordering) (k : KeyTuple) (es : Entries) (i : ℕ)
    (found : seek (R k) es ≡ Ok i) where
  -- it is among the entries
  pub within : i < length es
  within = (seek-Ok (R k) es i found).0

  -- what is held there
  pub held_there : (e : Entry) × (slice_get (values_of es) i ≡ Some e)
  held_there = held-by es i within

-- ---- one more entry

module _ (R : KeyTuple → KeyTuple → Ordering) (total : IsTotalOrder R) (k : KeyTuple)
    (entry : Entry) where
  abbrev One : Entries
  One = (k, entry) ∷ []

  less-equal : {P : Type 0} (o : Ordering) → o ≡ Less → o ≡ Equal → P
  less-equal o is other = let h : Less ≡ Equal = sym is ∙ other in cc

  greater-equal : {P : Type 0} (o : Ordering) → o ≡ Greater → o ≡ Equal → P
  greater-equal o is other = let h : Greater ≡ Equal = sym is ∙ other in cc

  -- ---- as one

  module _ (Both : Entry → Entry → Entry → Type 0) where
    stays : (x : TupleEntry) (es ws : Entries) → R x.0 k ≡ Less → JoinEntries R Both es One ws
        → JoinEntries R Both (x ∷ es) One (x ∷ ws)
    stays x es ws less join =
        subst (λ o. ByOrder o ((x ≡ x) × JoinEntries R Both es One ws)
        ((x.0 ≡ x.0) × Both x.1 entry x.1 × JoinEntries R Both es [] ws)
        ((x ≡ (k, entry)) × JoinEntries R Both (x ∷ es) [] ws)) (sym less) (refl, join)

    joined-by : (es : Entries) (i : ℕ) (e w : Entry) → AboveFirst (R k) es i
        → AnswersAt (R k) es i Equal → slice_get (values_of es) i ≡ Some e → Both e entry w
        → JoinEntries R Both es One (set_value_at es i w)
    joined-by [] i e w above at held both = absurd (cc held)
    joined-by (x ∷ es) zero e w above at held both =
        subst (λ o. ByOrder o ((◌≡◌ {A = TupleEntry} (x.0, w) x) × JoinEntries R Both es One es)
        ((x.0 ≡ x.0) × Both x.1 entry w × JoinEntries R Both es [] es)
        ((◌≡◌ {A = TupleEntry} (x.0, w) (k, entry)) × JoinEntries R Both (x ∷ es) [] es))
        (sym (reversed R total k x.0 Equal at)) (
          refl,
          subst (λ f. Both f entry w) (sym (same_Some x.1 e held)) both,
          join-nothing_right R Both es,
        )
    joined-by (x ∷ es) (suc i) e w above at held both =
        stays x es (set_value_at es i w) (reversed R total k x.0 Greater above.0)
        (joined-by es i e w above.1 at held both)

    -- an entry of a tuple that is held is merged at its place
    pub joined_there : (es : Entries) (i : ℕ) (e w : Entry) → seek (R k) es ≡ Ok i
        → slice_get (values_of es) i ≡ Some e → Both e entry w
        → JoinEntries R Both es One (set_value_at es i w)
    joined_there es i e w found held both =
        let place = seek-Ok (R k) es i found in
        joined-by es i e w place.1 place.2 held both

    put-by : (es : Entries) (i : ℕ) → AboveFirst (R k) es i → AnswersAt (R k) es i Less
        → JoinEntries R Both es One (insert es i (k, entry))
    put-by [] zero above at = refl
    put-by [] (suc i) above at = absurd above
    put-by (x ∷ es) zero above at =
        subst (λ o. ByOrder o
        ((◌≡◌ {A = TupleEntry} (k, entry) x) × JoinEntries R Both es One (x ∷ es))
        ((k ≡ x.0) × Both x.1 entry entry × JoinEntries R Both es [] (x ∷ es))
        ((◌≡◌ {A = TupleEntry} (k, entry) (k, entry)) × JoinEntries R Both (x ∷ es) [] (x ∷ es)))
        (sym (reversed R total k x.0 Less at)) (refl, refl)
    put-by (x ∷ es) (suc i) above at =
        stays x es (insert es i (k, entry)) (reversed R total k x.0 Greater above.0)
        (put-by es i above.1 at)

    -- one of a tuple that isn't held is put where it would go
    pub put_there : (es : Entries) (i : ℕ) → seek (R k) es ≡ Err i
        → JoinEntries R Both es One (insert es i (k, entry))
    put_there es i missing =
        let place = seek_err (R k) es i missing in
        put-by es i place.1 place.2

  -- ---- entries of its tuple

  module _ (Told : Entry → Entry → Type 0) where
    one : (h : TupleEntry) → Has h One → (k, entry) ≡ h
    one h (inl same) = same
    one h (inr none) = absurd none

    none-by : (es : Entries) (i : ℕ) (g : TupleEntry) → IsStrictlySortedBy R (keys_of es)
        → AboveFirst (R k) es i → AnswersAt (R k) es i Less → Has g es → R k g.0 ≡ Equal → ⊥
    none-by [] i g up above at has tied = has
    none-by (x ∷ es) zero g up above at (inl same) tied =
        less-equal (R k x.0) at (ap (λ (y : TupleEntry). R k y.0) same ∙ tied)
    none-by (x ∷ es) zero g up above at (inr has) tied =
        less-equal (R k g.0)
        (total.trans k x.0 g.0 at
        (key-has R total (λ l. R x.0 l ≡ Less) es g (sorted_head R x.0 (keys_of es) up) has)) tied
    none-by (x ∷ es) (suc i) g up above at (inl same) tied =
        greater-equal (R k x.0) above.0 (ap (λ (y : TupleEntry). R k y.0) same ∙ tied)
    none-by (x ∷ es) (suc i) g up above at (inr has) tied =
        none-by es i g (sorted_tail R x.0 (keys_of es) up) above.1 at has tied

    -- where its tuple isn't held, it is tied to none
    pub untied : (es : Entries) (i : ℕ) → IsStrictlySortedBy R (keys_of es) → seek (R k) es ≡ Err i
        → ¬ (SomeTied R Told es One)
    untied es i up missing (g, h, in_left, in_right, tied, told) =
        let place = seek_err (R k) es i missing in
        let own = one h (Has-from_Contains One h in_right) in
        none-by es i g up place.1 place.2 (Has-from_Contains es g in_left)
        (reversed R total g.0 k Equal
        (ap (λ (y : TupleEntry). R g.0 y.0) own ∙ tied))

    told-by : (es : Entries) (i : ℕ) (e : Entry) (g : TupleEntry)
        → IsStrictlySortedBy R (keys_of es) → AboveFirst (R k) es i → AnswersAt (R k) es i Equal
        → slice_get (values_of es) i ≡ Some e → Has g es → R k g.0 ≡ Equal → g.1 ≡ e
    told-by [] i e g up above at held has tied = absurd has
    told-by (x ∷ es) zero e g up above at held (inl same) tied =
        ap (λ (y : TupleEntry). y.1) (sym same) ∙ same_Some x.1 e held
    told-by (x ∷ es) zero e g up above at held (inr has) tied =
        less-equal (R k g.0)
        (total.congr k x.0 g.0 at
        ∙ key-has R total (λ l. R x.0 l ≡ Less) es g (sorted_head R x.0 (keys_of es) up) has) tied
    told-by (x ∷ es) (suc i) e g up above at held (inl same) tied =
        greater-equal (R k x.0) above.0 (ap (λ (y : TupleEntry). R k y.0) same ∙ tied)
    told-by (x ∷ es) (suc i) e g up above at held (inr has) tied =
        told-by es i e g (sorted_tail R x.0 (keys_of es) up) above.1 at held has tied

    -- what is told of the entries of its tuple is told of that of its place
    pub told_there : (es : Entries) (i : ℕ) (e : Entry) → IsStrictlySortedBy R (keys_of es)
        → seek (R k) es ≡ Ok i → slice_get (values_of es) i ≡ Some e
        → SomeTied R Told es One → Told e entry
    told_there es i e up found held (g, h, in_left, in_right, tied, told) =
        let place = seek-Ok (R k) es i found in
        let own = one h (Has-from_Contains One h in_right) in
        let here = told-by es i e g up place.1 place.2 held (Has-from_Contains es g in_left)
        (reversed R total g.0 k Equal (ap (λ (y : TupleEntry). R g.0 y.0) own ∙ tied)) in
        subst (λ f. Told f entry) here
        (subst (λ (y : TupleEntry). Told g.1 y.1) (sym own) told)

    place-by : (es : Entries) (i : ℕ) (e : Entry) → AnswersAt (R k) es i Equal
        → slice_get (values_of es) i ≡ Some e
        → (g : TupleEntry) × Has g es × (R k g.0 ≡ Equal) × (g.1 ≡ e)
    place-by [] i e at held = absurd (cc held)
    place-by (x ∷ es) zero e at held = (x, inl refl, at, same_Some x.1 e held)
    place-by (x ∷ es) (suc i) e at held =
        let rest = place-by es i e at held in
        (rest.0, inr rest.1, rest.2, rest.3)

    -- what is told of that of its place is told of those of its tuple
    pub tied_there : (es : Entries) (i : ℕ) (e : Entry) → seek (R k) es ≡ Ok i
        → slice_get (values_of es) i ≡ Some e → Told e entry → SomeTied R Told es One
    tied_there es i e found held told =
        let place = seek-Ok (R k) es i found in
        let here = place-by es i e place.2 held in (
          here.0,
          (k, entry),
          Contains-from_Has es here.0 here.1,
          Contains-from_Has One (k, entry) (inl refl),
          reversed R total k here.0.0 Equal here.2,
          subst (λ f. Told f entry) (sym here.3) told,
        )
