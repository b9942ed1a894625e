-- Two ascending lists of entries as one.
use Rattle.std.proofs.Common.{◌≡◌, ◌+◌, List, [], ◌∷◌, refl, sym, ap, ◌∙◌, subst}
use Rattle.std.proofs.Common.{Ordering, Less, Equal, Greater}
use Rattle.std.specs.List.{All, AllByRecursion}
use Rattle.std.specs.Ordering.{match_ordering}
use Rattle.std.proofs.lemmas.List.Elements.{All-from_recursion, recursion_from_All}
use Rattle.agg_values.specs.Tuple.{KeyTuple}
use Rattle.agg_request_tree.specs.Groups.{Group}
use Rattle.agg_request_tree.proofs.Lists.{AllByRecursion-weaker}
use Rattle.agg_results.proofs.MergedCounts.{merge, merge-nothing}
use Rattle.agg_results.specs.intermediate_results.Intermediate.{Entries, TupleEntry}
use Rattle.agg_results.specs.intermediate_results.Intermediate.{counts_of}
use Rattle.agg_results.specs.intermediate_results.Merging.{ByOrder, JoinEntries}
use Rattle.agg_results.specs.declared.intermediate_results as intermediate
use intermediate.entry.IntermediateTermBucketEntry.{IntermediateTermBucketEntry}

abbrev Entry : Type 0
Entry = IntermediateTermBucketEntry

module _ (R : KeyTuple → KeyTuple → Ordering) (Both : Entry → Entry → Entry → Type 0) where
  -- ---- counts

  module _ (counted : (e f w : Entry) → Both e f w → w.doc_count ≡ e.doc_count + f.doc_count) where
    counts-by : (o : Ordering) (e f w : TupleEntry) (es fs ws : Entries)
        (below above : List Group) (both : List Group) (Less_ Equal_ Greater_ : Type 0)
        → (Less_ → counts_of (w ∷ ws) ≡ (e.0, e.1.doc_count) ∷ below)
        → (Equal_ → counts_of (w ∷ ws) ≡ (e.0, e.1.doc_count + f.1.doc_count) ∷ both)
        → (Greater_ → counts_of (w ∷ ws) ≡ (f.0, f.1.doc_count) ∷ above)
        → ByOrder o Less_ Equal_ Greater_
        → counts_of (w ∷ ws) ≡ match_ordering o ((e.0, e.1.doc_count) ∷ below)
        ((e.0, e.1.doc_count + f.1.doc_count) ∷ both) ((f.0, f.1.doc_count) ∷ above)
    counts-by Less e f w es fs ws below above both L E G less equal greater is = less is
    counts-by Equal e f w es fs ws below above both L E G less equal greater is = equal is
    counts-by Greater e f w es fs ws below above both L E G less equal greater is = greater is

    -- the counts are merged
    pub join-counts : (left right whole : Entries) → JoinEntries R Both left right whole
        → counts_of whole ≡ merge R (counts_of left) (counts_of right)
    join-counts left right [] is =
        λ i. merge R (counts_of (sym is.0 i)) (counts_of (sym is.1 i))
    join-counts [] right (w ∷ ws) is = ap counts_of is
    join-counts (e ∷ es) [] (w ∷ ws) is =
        ap counts_of is ∙ sym (merge-nothing R (counts_of (e ∷ es)))
    join-counts (e ∷ es) (f ∷ fs) (w ∷ ws) is =
        counts-by (R e.0 f.0) e f w es fs ws (merge R (counts_of es) (counts_of (f ∷ fs)))
        (merge R (counts_of (e ∷ es)) (counts_of fs)) (merge R (counts_of es) (counts_of fs))
        _ _ _
        (λ h. λ i. ((h.0 i).0, (h.0 i).1.doc_count) ∷ join-counts es (f ∷ fs) ws h.1 i)
        (λ h. λ i. (h.0 i, counted e.1 f.1 w.1 h.1 i) ∷ join-counts es fs ws h.2 i)
        (λ h. λ i. ((h.0 i).0, (h.0 i).1.doc_count) ∷ join-counts (e ∷ es) fs ws h.1 i)
        is

  -- ---- what holds of each entry

  module _ (P Q S : TupleEntry → Type 0) (left : (e : TupleEntry) → P e → S e)
      (right : (f : TupleEntry) → Q f → S f)
      (tied : (e f w : TupleEntry) → R e.0 f.0 ≡ Equal → w.0 ≡ e.0 → Both e.1 f.1 w.1
      → P e → Q f → S w) where
    all-by : (o : Ordering) (e f w : TupleEntry) (ws : Entries) (L E G : Type 0) → R e.0 f.0 ≡ o
        → P e → Q f → (L → AllByRecursion S ws) → (E → AllByRecursion S ws)
        → (G → AllByRecursion S ws)
        → ByOrder o ((w ≡ e) × L) ((w.0 ≡ e.0) × Both e.1 f.1 w.1 × E) ((w ≡ f) × G)
        → AllByRecursion S (w ∷ ws)
    all-by Less e f w ws L E G is p q less equal greater h =
        (subst S (sym h.0) (left e p), less h.1)
    all-by Equal e f w ws L E G is p q less equal greater h =
        (tied e f w is h.0 h.1 p q, equal h.2)
    all-by Greater e f w ws L E G is p q less equal greater h =
        (subst S (sym h.0) (right f q), greater h.1)

    all-joined : (es fs ws : Entries) → AllByRecursion P es → AllByRecursion Q fs
        → JoinEntries R Both es fs ws → AllByRecursion S ws
    all-joined es fs [] ps qs is = tt
    all-joined [] fs (w ∷ ws) ps qs is =
        subst (AllByRecursion S) (sym is) (AllByRecursion-weaker Q S right fs qs)
    all-joined (e ∷ es) [] (w ∷ ws) ps qs is =
        subst (AllByRecursion S) (sym is) (AllByRecursion-weaker P S left (e ∷ es) ps)
    all-joined (e ∷ es) (f ∷ fs) (w ∷ ws) ps qs is =
        all-by (R e.0 f.0) e f w ws _ _ _ refl ps.0 qs.0
        (λ h. all-joined es (f ∷ fs) ws ps.1 qs h)
        (λ h. all-joined es fs ws ps.1 qs.1 h)
        (λ h. all-joined (e ∷ es) fs ws ps qs.1 h)
        is

    pub join-all : (es fs ws : Entries) → All P es → All Q fs
        → JoinEntries R Both es fs ws → All S ws
    join-all es fs ws ps qs is =
        All-from_recursion S ws
        (all-joined es fs ws (recursion_from_All P es ps) (recursion_from_All Q fs qs) is)
