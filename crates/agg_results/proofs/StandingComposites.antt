-- Results of a composite that stand for documents: the empty one, two as one, trimmed.
use Rattle.std.proofs.Common.{◌≡◌, ℕ, zero, suc, ◌+◌, ◌*◌, ◌<◌, ◌⊎◌, inl, inr, List}
use Rattle.std.proofs.Common.{[], ◌++◌, length, length-append, take, refl, sym, ap, ◌∙◌}
use Rattle.std.proofs.Common.{subst, arith, Ordering, Equal}
use Rattle.std.specs.Prelude.{nat_lt}
use Rattle.std.specs.List.{All}
use Rattle.std.proofs.lemmas.Bool.{cond_both}
use Rattle.std.proofs.lemmas.List.{take-map}
use Rattle.std.proofs.lemmas.List.Elements.{All-contains, All-nil, All-take, All-weaker}
use Rattle.agg_values.proofs.TupleOrder.{tuple_order-total}
use Rattle.agg_values.specs.KeyOrder.{SourceRules, tuple_order}
use Rattle.agg_values.specs.Tuple.{KeyTuple}
use Rattle.agg_segment.specs.storage.Document.{Fields}
use Rattle.agg_request_tree.specs.Groups.{Group}
use Rattle.agg_request_tree.specs.Occurrences.{bound_of}
use Rattle.agg_request_tree.specs.Page.{documents_with}
use Rattle.agg_request_tree.specs.Source.{rules_of}
use Rattle.agg_request_tree.specs.declared.aggregation.CompositeAggregation.{CompositeAggregation}
use Rattle.agg_results.specs.intermediate_results.Merging.{trimmed}
use Rattle.agg_results.proofs.Counts.{merged}
use Rattle.agg_results.specs.StandsFor.{GroupsStandFor}
use Rattle.agg_results.proofs.JoinedGroups.{stands-left, stands-merged, stands-right}
use Rattle.agg_results.proofs.MergedCounts.{merged-is_merge}
use Rattle.agg_results.proofs.StandingGroups.{stands-front, stands-nothing}
use Rattle.agg_results.specs.intermediate_results.Intermediate.{Entries, Held, TupleEntry}
use Rattle.agg_results.specs.intermediate_results.Intermediate.{below_entry, composite_of}
use Rattle.agg_results.specs.intermediate_results.Intermediate.{counts_of, entries_of, orders_of}
use Rattle.agg_results.specs.intermediate_results.Intermediate.{target_size_of}
use Rattle.agg_results.specs.intermediate_results.Merging.{BothWithRoom, CompositesMerged}
use Rattle.agg_results.specs.intermediate_results.Merging.{EntriesMerged, JoinEntries, PagesDiffer}
use Rattle.agg_results.specs.intermediate_results.Merging.{SomeTied, trimmed_to}
use Rattle.agg_results.specs.StandsFor.{CompositeStands, EntryStands, HasShapeOf, IsPart}
use Rattle.agg_results.specs.declared.intermediate_results as intermediate
use intermediate.composite.IntermediateCompositeBucketResult as held
use held.{IntermediateCompositeBucketResult, out-roll-IntermediateCompositeBucketResult}
use Rattle.agg_results.proofs.Joins.{join-all, join-counts}
use Rattle.agg_results.proofs.Parts.{part-append, part-left, part-right, with-append, with-tied}

pub zero_or_more : (n : ℕ) → (n ≡ 0) ⊎ (0 < n)
zero_or_more zero = inl refl
zero_or_more (suc n) = inr (omega arith)

module _ (Below : List Fields → Held → Type 0) (asked : CompositeAggregation) where
  -- what groups of a composite stand for
  abbrev pub Stand : List Fields → List Group → Type 0
  Stand = GroupsStandFor asked.sources asked.size (bound_of asked.sources asked.after)

  -- the shape of a composite's result by its parts
  abbrev pub IsShape : ℕ → SourceRules → Entries → Type 0
  IsShape size orders entries =
      ((size ≡ asked.size) × (orders ≡ rules_of asked.sources))
      ⊎ ((size ≡ 0) × (entries ≡ []))

  -- a result of parts that stand for documents
  pub stands-made : (documents : List Fields) (orders : SourceRules) (size : ℕ) (entries : Entries)
      → IsShape size orders entries → Stand documents (counts_of entries)
      → All (EntryStands Below asked.sources documents) entries
      → CompositeStands Below asked documents (composite_of orders size entries)
  stands-made documents orders size entries shape groups subs =
      let made = sym (out-roll-IntermediateCompositeBucketResult
      (record { entries = (orders, entries); target_size = size })) in
      record {
        shape = subst (λ r. IsShape r.target_size r.entries.0 r.entries.1) made shape;
        groups = subst (λ r. Stand documents (counts_of r.entries.1)) made groups;
        subs = subst (λ r. All (EntryStands Below asked.sources documents) r.entries.1) made subs;
      }

  -- the empty result stands for no documents
  pub stands-empty : CompositeStands Below asked []
      (composite_of (rules_of asked.sources) asked.size [])
  stands-empty =
      stands-made [] (rules_of asked.sources) asked.size [] (inl (refl, refl))
      (stands-nothing asked.sources asked.size (bound_of asked.sources asked.after))
      (All-nil (EntryStands Below asked.sources []))

  -- ---- shapes

  pub with_room : (c : IntermediateCompositeBucketResult) → HasShapeOf asked c
      → 0 < target_size_of c
      → (target_size_of c ≡ asked.size) × (orders_of c ≡ rules_of asked.sources)
  with_room c (inl is) some = is
  with_room c (inr none) some = let zero = none.0 in absurd (omega arith)

  without_room : (c : IntermediateCompositeBucketResult) → HasShapeOf asked c
      → target_size_of c ≡ 0
      → (asked.size ≡ 0) ⊎ (counts_of (entries_of c) ≡ [])
  without_room c (inl is) roomless = inl (sym is.0 ∙ roomless)
  without_room c (inr none) roomless = inr (ap counts_of none.1)

  -- trimmed, entries stand for the same documents
  stands-trimmed : (documents : List Fields) (size : ℕ) (orders : SourceRules) (entries : Entries)
      → (size ≡ asked.size) × (orders ≡ rules_of asked.sources)
      → Stand documents (counts_of entries)
      → All (EntryStands Below asked.sources documents) entries
      → CompositeStands Below asked documents (composite_of orders size (trimmed size entries))
  stands-trimmed documents size orders entries is stand subs =
      stands-made documents orders size (trimmed size entries) (inl is)
      (cond_both (nat_lt (2 * size) (length entries)) (take size entries) entries
      (λ es. Stand documents (counts_of es))
      (λ more. subst (Stand documents)
      (ap (λ n. take n (counts_of entries)) (sym is.0)
      ∙ take-map (λ (e : TupleEntry). (e.0, e.1.doc_count)) size entries)
      (stands-front asked.sources asked.size (bound_of asked.sources asked.after) documents
      (counts_of entries) stand))
      (λ few. stand))
      (cond_both (nat_lt (2 * size) (length entries)) (take size entries) entries
      (All (EntryStands Below asked.sources documents))
      (λ more. All-take (EntryStands Below asked.sources documents) size entries subs)
      (λ few. subs))

  -- ---- two results that stand for documents

  module _ (documents others : List Fields) where
    entry-left : (e : TupleEntry) → EntryStands Below asked.sources documents e
        → EntryStands Below asked.sources (documents ++ others) e
    entry-left e stand = (
      stand.0,
      subst (IsPart stand.0) (sym (with-append asked.sources documents others e.0))
          (part-left stand.0 _ _ stand.1),
      stand.2,
      stand.3,
    )

    entry-right : (e : TupleEntry) → EntryStands Below asked.sources others e
        → EntryStands Below asked.sources (documents ++ others) e
    entry-right e stand = (
      stand.0,
      subst (IsPart stand.0) (sym (with-append asked.sources documents others e.0))
          (part-right stand.0 (documents_with asked.sources documents e.0) _ stand.1),
      stand.2,
      stand.3,
    )

    module _ (c d : IntermediateCompositeBucketResult)
        (a : CompositeStands Below asked documents c)
        (b : CompositeStands Below asked others d) where
      abbrev R : KeyTuple → KeyTuple → Ordering
      R = tuple_order (rules_of asked.sources)

      stands-right-alone : target_size_of c ≡ 0
          → CompositeStands Below asked (documents ++ others) d
      stands-right-alone roomless = record {
        shape = b.shape;
        groups = stands-right asked.sources asked.size (bound_of asked.sources asked.after)
            documents others (counts_of (entries_of c)) (counts_of (entries_of d))
            (without_room c a.shape roomless) a.groups b.groups;
        subs = All-weaker (EntryStands Below asked.sources others)
            (EntryStands Below asked.sources (documents ++ others)) entry-right (entries_of d)
            b.subs;
      }

      stands-left-alone : target_size_of d ≡ 0
          → CompositeStands Below asked (documents ++ others) c
      stands-left-alone roomless = record {
        shape = a.shape;
        groups = stands-left asked.sources asked.size (bound_of asked.sources asked.after)
            documents others (counts_of (entries_of c)) (counts_of (entries_of d))
            (without_room d b.shape roomless) a.groups b.groups;
        subs = All-weaker (EntryStands Below asked.sources documents)
            (EntryStands Below asked.sources (documents ++ others)) entry-left (entries_of c)
            a.subs;
      }

      -- they have one shape, where those below entries of one tuple have
      pub composites-alike : (Differ : Held → Held → Type 0)
          → ((ds es : List Fields) (held more : Held) → Below ds held → Below es more
          → ¬ (Differ held more))
          → ¬ (BothWithRoom (PagesDiffer c d
          ⊎ SomeTied (tuple_order (orders_of c)) (λ e f. Differ (below_entry e) (below_entry f))
          (entries_of c) (entries_of d)) c d)
      composites-alike Differ alike (some, other_some, told) =
          by (with_room c a.shape some) (with_room d b.shape other_some) told
        where
          by : (target_size_of c ≡ asked.size) × (orders_of c ≡ rules_of asked.sources)
              → (target_size_of d ≡ asked.size) × (orders_of d ≡ rules_of asked.sources)
              → PagesDiffer c d
              ⊎ SomeTied (tuple_order (orders_of c)) (λ e f. Differ (below_entry e) (below_entry f))
              (entries_of c) (entries_of d) → ⊥
          by first second (inl (inl sizes)) = sizes (first.0 ∙ sym second.0)
          by first second (inl (inr orders)) = orders (first.1 ∙ sym second.1)
          by first second (inr (e, f, in_c, in_d, tied, differ)) =
              let s : EntryStands Below asked.sources documents e =
              All-contains (EntryStands Below asked.sources documents) (entries_of c) e a.subs in_c
              in
              let t : EntryStands Below asked.sources others f =
              All-contains (EntryStands Below asked.sources others) (entries_of d) f b.subs in_d
              in
              alike s.0 t.0 (below_entry e.1) (below_entry f.1) s.3 t.3 differ

      module _ (Merged : Held → Held → Held → Type 0)
          (joined : (ds es : List Fields) (held more whole : Held) → Below ds held → Below es more
          → Merged held more whole → Below (ds ++ es) whole) where
        entry-both : (e f w : TupleEntry) → R e.0 f.0 ≡ Equal → w.0 ≡ e.0
            → EntriesMerged Merged e.1 f.1 w.1
            → EntryStands Below asked.sources documents e
            → EntryStands Below asked.sources others f
            → EntryStands Below asked.sources (documents ++ others) w
        entry-both e f w tied key both s t =
            let own = subst (λ k. IsPart s.0 (documents_with asked.sources documents k)) (sym key)
            s.1 in
            let other = subst (λ k. IsPart t.0 (documents_with asked.sources others k)) (sym key)
            (subst (IsPart t.0) (sym (with-tied asked.sources others e.0 f.0 tied)) t.1) in
            let h = s.2 in
            let i = t.2 in (
              s.0 ++ t.0,
              subst (IsPart (s.0 ++ t.0)) (sym (with-append asked.sources documents others w.0))
                  (part-append s.0 _ t.0 _ own other),
              length-append s.0 t.0 ∙ (λ j. h j + i j) ∙ sym both.0,
              joined s.0 t.0 (below_entry e.1) (below_entry f.1) (below_entry w.1) s.3 t.3 both.1,
            )

        stands-both : (whole : Entries) → 0 < target_size_of c
            → JoinEntries (tuple_order (orders_of c)) (EntriesMerged Merged) (entries_of c)
            (entries_of d) whole
            → CompositeStands Below asked (documents ++ others) (trimmed_to c whole)
        stands-both whole some join =
            let shape = with_room c a.shape some in
            let ordered : JoinEntries R (EntriesMerged Merged) (entries_of c) (entries_of d) whole =
            subst (λ orders. JoinEntries (tuple_order orders) (EntriesMerged Merged) (entries_of c)
            (entries_of d) whole) shape.1 join in
            let counts : counts_of whole
            ≡ merged R (counts_of (entries_of c)) (counts_of (entries_of d)) =
            join-counts R (EntriesMerged Merged) (λ e f w both. both.0) (entries_of c)
            (entries_of d) whole ordered
            ∙ sym (merged-is_merge R (tuple_order-total (rules_of asked.sources))
            (counts_of (entries_of c)) (counts_of (entries_of d)) b.groups.ascending) in
            stands-trimmed (documents ++ others) (target_size_of c) (orders_of c) whole shape
            (subst (Stand (documents ++ others)) (sym counts)
            (stands-merged asked.sources asked.size (bound_of asked.sources asked.after) documents
            others (counts_of (entries_of c)) (counts_of (entries_of d)) a.groups b.groups))
            (join-all R (EntriesMerged Merged) (EntryStands Below asked.sources documents)
            (EntryStands Below asked.sources others)
            (EntryStands Below asked.sources (documents ++ others)) entry-left entry-right
            entry-both (entries_of c) (entries_of d) whole a.subs b.subs ordered)

        -- the two as one, trimmed, stand for the documents of both
        pub composites-joined : (w : IntermediateCompositeBucketResult)
            → CompositesMerged Merged c d w → CompositeStands Below asked (documents ++ others) w
        composites-joined w is = by (zero_or_more (target_size_of c))
            (zero_or_more (target_size_of d))
          where
            by : (target_size_of c ≡ 0) ⊎ (0 < target_size_of c)
                → (target_size_of d ≡ 0) ⊎ (0 < target_size_of d)
                → CompositeStands Below asked (documents ++ others) w
            by (inl none) other =
                subst (CompositeStands Below asked (documents ++ others)) (sym (is.right none))
                (stands-right-alone none)
            by (inr some) (inl none) =
                subst (CompositeStands Below asked (documents ++ others)) (sym (is.left some none))
                (stands-left-alone none)
            by (inr some) (inr other) =
                let both = is.both some other in
                subst (CompositeStands Below asked (documents ++ others)) (sym both.2)
                (stands-both both.0 some both.1)
