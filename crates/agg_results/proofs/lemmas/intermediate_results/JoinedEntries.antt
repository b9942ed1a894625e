-- Two ascending lists of entries as one: what is known of it.
use Rattle.std.proofs.Common.{◌≡◌, [], ◌∷◌, refl, sym, ◌∙◌, subst, Ordering, Less, Equal, Greater}
use Rattle.std.specs.Cmp.{IsTotalOrder}
use Rattle.std.specs.List.{AllByRecursion}
use Rattle.std.specs.Ordering.{ordering_reverse}
use Rattle.std.specs.List.Sorted.{IsStrictlySortedBy}
use Rattle.std.specs.Map.{keys_of}
use Rattle.std.proofs.lemmas.Map.Keys.{sorted_tail}
use Rattle.agg_values.specs.Tuple.{KeyTuple}
use Rattle.agg_results.specs.intermediate_results.Intermediate.{Entries, TupleEntry}
use Rattle.agg_results.specs.intermediate_results.Merging.{ByOrder, JoinEntries}
use Rattle.agg_results.specs.declared.intermediate_results as intermediate
use intermediate.entry.IntermediateTermBucketEntry.{IntermediateTermBucketEntry}
use Rattle.agg_results.proofs.lemmas.intermediate_results.KeyTurns.{reversed}

abbrev Entry : Type 0
Entry = IntermediateTermBucketEntry

module _ (R : KeyTuple → KeyTuple → Ordering) where
  -- nothing with a list is the list
  pub join-nothing_left : (Both : Entry → Entry → Entry → Type 0) (es : Entries)
      → JoinEntries R Both [] es es
  join-nothing_left Both [] = (refl, refl)
  join-nothing_left Both (e ∷ es) = refl

  -- a list with nothing is the list
  pub join-nothing_right : (Both : Entry → Entry → Entry → Type 0) (es : Entries)
      → JoinEntries R Both es [] es
  join-nothing_right Both [] = (refl, refl)
  join-nothing_right Both (e ∷ es) = refl

  weaker-by : (o : Ordering) (L L' E E' G G' : Type 0) → (L → L') → (E → E') → (G → G')
      → ByOrder o L E G → ByOrder o L' E' G'
  weaker-by Less L L' E E' G G' less equal greater h = less h
  weaker-by Equal L L' E E' G G' less equal greater h = equal h
  weaker-by Greater L L' E E' G G' less equal greater h = greater h

  pub join-weaker : (A B : Entry → Entry → Entry → Type 0)
      → ((e f w : Entry) → A e f w → B e f w)
      → (es fs ws : Entries) → JoinEntries R A es fs ws → JoinEntries R B es fs ws
  join-weaker A B weaker es fs [] is = is
  join-weaker A B weaker [] fs (w ∷ ws) is = is
  join-weaker A B weaker (e ∷ es) [] (w ∷ ws) is = is
  join-weaker A B weaker (e ∷ es) (f ∷ fs) (w ∷ ws) is =
      weaker-by (R e.0 f.0) _ _ _ _ _ _
      (λ h. (h.0, join-weaker A B weaker es (f ∷ fs) ws h.1))
      (λ h. (h.0, weaker e.1 f.1 w.1 h.1, join-weaker A B weaker es fs ws h.2))
      (λ h. (h.0, join-weaker A B weaker (e ∷ es) fs ws h.1))
      is

  module _ (Both : Entry → Entry → Entry → Type 0) where
    above-by : (o : Ordering) (P : KeyTuple → Type 0) (e f w : TupleEntry) (ws : Entries)
        (L E G : Type 0) → P e.0 → P f.0 → (L → AllByRecursion P (keys_of ws))
        → (E → AllByRecursion P (keys_of ws)) → (G → AllByRecursion P (keys_of ws))
        → ByOrder o ((w ≡ e) × L) ((w.0 ≡ e.0) × Both e.1 f.1 w.1 × E) ((w ≡ f) × G)
        → AllByRecursion P (keys_of (w ∷ ws))
    above-by Less P e f w ws L E G p q less equal greater h =
        (subst (λ (x : TupleEntry). P x.0) (sym h.0) p, less h.1)
    above-by Equal P e f w ws L E G p q less equal greater h =
        (subst P (sym h.0) p, equal h.2)
    above-by Greater P e f w ws L E G p q less equal greater h =
        (subst (λ (x : TupleEntry). P x.0) (sym h.0) q, greater h.1)

    -- what holds of each key of two lists holds of each of the whole
    join-keys : (P : KeyTuple → Type 0) (es fs ws : Entries) → AllByRecursion P (keys_of es)
        → AllByRecursion P (keys_of fs) → JoinEntries R Both es fs ws
        → AllByRecursion P (keys_of ws)
    join-keys P es fs [] ps qs is = tt
    join-keys P [] fs (w ∷ ws) ps qs is =
        subst (λ xs. AllByRecursion P (keys_of xs)) (sym is) qs
    join-keys P (e ∷ es) [] (w ∷ ws) ps qs is =
        subst (λ xs. AllByRecursion P (keys_of xs)) (sym is) ps
    join-keys P (e ∷ es) (f ∷ fs) (w ∷ ws) ps qs is =
        above-by (R e.0 f.0) P e f w ws _ _ _ ps.0 qs.0
        (λ h. join-keys P es (f ∷ fs) ws ps.1 qs h)
        (λ h. join-keys P es fs ws ps.1 qs.1 h)
        (λ h. join-keys P (e ∷ es) fs ws ps qs.1 h)
        is

    module _ (total : IsTotalOrder R) where
      above : (k l : KeyTuple) (es : Entries) → R k l ≡ Less
          → AllByRecursion (λ m. R l m ≡ Less) (keys_of es)
          → AllByRecursion (λ m. R k m ≡ Less) (keys_of es)
      above k l [] less all = tt
      above k l (e ∷ es) less all = (total.trans k l e.0 less all.0, above k l es less all.1)

      tied : (k l : KeyTuple) (es : Entries) → R k l ≡ Equal
          → AllByRecursion (λ m. R l m ≡ Less) (keys_of es)
          → AllByRecursion (λ m. R k m ≡ Less) (keys_of es)
      tied k l [] equal all = tt
      tied k l (e ∷ es) equal all = (total.congr k l e.0 equal ∙ all.0, tied k l es equal all.1)

      up-by : (o : Ordering) (e f w : TupleEntry) (es fs ws : Entries) → R e.0 f.0 ≡ o
          → R f.0 e.0 ≡ ordering_reverse o
          → IsStrictlySortedBy R (keys_of (e ∷ es)) → IsStrictlySortedBy R (keys_of (f ∷ fs))
          → (JoinEntries R Both es (f ∷ fs) ws → IsStrictlySortedBy R (keys_of ws))
          → (JoinEntries R Both es fs ws → IsStrictlySortedBy R (keys_of ws))
          → (JoinEntries R Both (e ∷ es) fs ws → IsStrictlySortedBy R (keys_of ws))
          → ByOrder o ((w ≡ e) × JoinEntries R Both es (f ∷ fs) ws)
          ((w.0 ≡ e.0) × Both e.1 f.1 w.1 × JoinEntries R Both es fs ws)
          ((w ≡ f) × JoinEntries R Both (e ∷ es) fs ws)
          → IsStrictlySortedBy R (keys_of (w ∷ ws))
      unfolding IsStrictlySortedBy
      up-by Less e f w es fs ws is turned up other_up less equal greater h = (
        subst (λ (x : TupleEntry). AllByRecursion (λ m. R x.0 m ≡ Less) (keys_of ws)) (sym h.0)
            (join-keys (λ m. R e.0 m ≡ Less) es (f ∷ fs) ws up.0
            (is, above e.0 f.0 fs is other_up.0) h.1),
        less h.1,
      )
      up-by Equal e f w es fs ws is turned up other_up less equal greater h = (
        subst (λ k. AllByRecursion (λ m. R k m ≡ Less) (keys_of ws)) (sym h.0)
            (join-keys (λ m. R e.0 m ≡ Less) es fs ws up.0
            (tied e.0 f.0 fs is other_up.0) h.2),
        equal h.2,
      )
      up-by Greater e f w es fs ws is turned up other_up less equal greater h = (
        subst (λ (x : TupleEntry). AllByRecursion (λ m. R x.0 m ≡ Less) (keys_of ws)) (sym h.0)
            (join-keys (λ m. R f.0 m ≡ Less) (e ∷ es) fs ws
            (turned, above f.0 e.0 es turned up.0) other_up.0 h.1),
        greater h.1,
      )

      -- the whole ascends
      pub join-up : (es fs ws : Entries) → IsStrictlySortedBy R (keys_of es)
          → IsStrictlySortedBy R (keys_of fs) → JoinEntries R Both es fs ws
          → IsStrictlySortedBy R (keys_of ws)
      join-up es fs [] up other_up is =
          subst (λ xs. IsStrictlySortedBy R (keys_of xs)) is.0 up
      join-up [] fs (w ∷ ws) up other_up is =
          subst (λ xs. IsStrictlySortedBy R (keys_of xs)) (sym is) other_up
      join-up (e ∷ es) [] (w ∷ ws) up other_up is =
          subst (λ xs. IsStrictlySortedBy R (keys_of xs)) (sym is) up
      join-up (e ∷ es) (f ∷ fs) (w ∷ ws) up other_up is =
          up-by (R e.0 f.0) e f w es fs ws refl (reversed R total e.0 f.0 (R e.0 f.0) refl)
          up other_up
          (λ h. join-up es (f ∷ fs) ws (sorted_tail R e.0 (keys_of es) up) other_up h)
          (λ h. join-up es fs ws (sorted_tail R e.0 (keys_of es) up)
          (sorted_tail R f.0 (keys_of fs) other_up) h)
          (λ h. join-up (e ∷ es) fs ws up (sorted_tail R f.0 (keys_of fs) other_up) h)
          is
