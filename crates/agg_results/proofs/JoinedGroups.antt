-- Groups that stand for documents, and groups that stand for others, as one.
use Rattle.std.proofs.Common.{◌≡◌, ℕ, ◌+◌, ◌⊎◌, inl, inr, cond, List, [], ◌∷◌, ◌++◌, take, map}
use Rattle.std.proofs.Common.{refl, sym, ap, ◌∙◌, subst, arith, Ordering, Equal, is_eq}
use Rattle.std.specs.Cmp.{IsTotalOrder}
use Rattle.std.specs.List.{count_by}
use Rattle.std.proofs.lemmas.List.Concat.{flat_map-append}
use Rattle.std.proofs.lemmas.List.Elements.{All-weaker}
use Rattle.std.proofs.lemmas.List.Sums.{sum_by-append, sum_by-cons}
use Rattle.agg_values.specs.KeyOrder.{tuple_order}
use Rattle.agg_values.specs.Tuple.{KeyTuple}
use Rattle.agg_values.proofs.TupleOrder.{tuple_order-total}
use Rattle.agg_segment.specs.storage.Document.{Fields}
use Rattle.agg_request_tree.specs.Groups.{Group}
use Rattle.agg_request_tree.specs.Occurrences.{occurrences, occurrences_in, past_occurrences}
use Rattle.agg_request_tree.specs.Occurrences.{same_tuple}
use Rattle.agg_request_tree.specs.Page.{IsPage, count_in, entry_of}
use Rattle.agg_request_tree.specs.Source.{Sources, rules_of}
use Rattle.agg_results.proofs.Counts.{merged}
use Rattle.agg_results.specs.StandsFor.{GroupsStandFor}
use Rattle.agg_results.proofs.Counts.{Ascend-merged, merged-nothing}
use Rattle.agg_results.proofs.CountedKeys.{counted, lowest-merged}
use Rattle.agg_results.proofs.LowestGroups.{IsPage-lowest, lowest-page}
use Rattle.agg_results.proofs.LowestGroups.{lowest_groups, past_occurrences-append}
use Rattle.agg_results.proofs.MergedCounts.{all-merged}
use Rattle.agg_results.proofs.StandingGroups.{CountsSome, IsPast}

-- tuples that are one occur equally often
pub count-tied : {K : Type 0} (R : K → K → Ordering) → IsTotalOrder R → (k l : K) (ks : List K)
    → R k l ≡ Equal → count_by (λ x. is_eq (R k x)) ks ≡ count_by (λ x. is_eq (R l x)) ks
count-tied R total k l [] tied = refl
count-tied R total k l (x ∷ ks) tied =
    sum_by-cons (λ y. cond (is_eq (R k y)) 1 0) x ks
    ∙ rw (total.congr k l x tied, count-tied R total k l ks tied)
    (sym (sum_by-cons (λ y. cond (is_eq (R l y)) 1 0) x ks))

module _ (sources : Sources) where
  -- how often a tuple occurs in two lists of documents
  count_in-append : (documents others : List Fields) (tuple : KeyTuple)
      → count_in sources (documents ++ others) tuple
      ≡ count_in sources documents tuple + count_in sources others tuple
  count_in-append documents others tuple =
      let test = same_tuple (rules_of sources) tuple in
      ap (count_by test) (flat_map-append (occurrences sources) documents others)
      ∙ sum_by-append (λ t. cond (test t) 1 0) (occurrences_in sources documents)
      (occurrences_in sources others)

  some-left : (documents others : List Fields) (g : Group) → CountsSome sources documents g
      → CountsSome sources (documents ++ others) g
  some-left documents others g some =
      let both = count_in-append documents others g.0 in
      (some.0, let most = some.1 in omega arith)

  some-right : (documents others : List Fields) (g : Group) → CountsSome sources others g
      → CountsSome sources (documents ++ others) g
  some-right documents others g some =
      let both = count_in-append documents others g.0 in
      (some.0, let most = some.1 in omega arith)

  pub some-tied : (documents others : List Fields) (g h : Group)
      → tuple_order (rules_of sources) g.0 h.0 ≡ Equal
      → CountsSome sources documents g → CountsSome sources others h
      → CountsSome sources (documents ++ others) (g.0, g.1 + h.1)
  some-tied documents others g h tied some more =
      let both = count_in-append documents others g.0 in
      let alike = count-tied (tuple_order (rules_of sources)) (tuple_order-total (rules_of sources))
      g.0 h.0 (occurrences_in sources others) tied in
      let least = some.0 in
      let most = some.1 in
      let most_more = more.1 in
      (omega arith, omega arith)

module _ (sources : Sources) (size : ℕ) (bound : KeyTuple) where
  -- groups that stand for documents, as one, stand for the documents of both
  pub stands-merged : (documents others : List Fields) (held more : List Group)
      → GroupsStandFor sources size bound documents held
      → GroupsStandFor sources size bound others more
      → GroupsStandFor sources size bound (documents ++ others)
      (merged (tuple_order (rules_of sources)) held more)
  stands-merged documents others held more a b = record {
    ascending = Ascend-merged R total held more a.ascending;
    page = subst (λ gs. IsPage sources size bound both (map (entry_of sources both) gs))
        (sym lowest) (IsPage-lowest sources size bound both);
    past = all-merged R total past past past (λ g p. p) (λ g p. p) (λ g h tied p q. p) held more
        b.ascending a.past b.past;
    some = all-merged R total (CountsSome sources documents) (CountsSome sources others)
        (CountsSome sources both) (some-left sources documents others)
        (some-right sources documents others) (some-tied sources documents others)
        held more b.ascending a.some b.some;
  }
    where
      past : Group → Type 0
      past = IsPast sources bound

      R : KeyTuple → KeyTuple → Ordering
      R = tuple_order (rules_of sources)

      total : IsTotalOrder R
      total = tuple_order-total (rules_of sources)

      both : List Fields
      both = documents ++ others

      lowest : take size (merged R held more) ≡ lowest_groups sources size bound both
      lowest =
          lowest-merged R total size (past_occurrences sources bound documents)
          (past_occurrences sources bound others) held more b.ascending
          (lowest-page sources size bound documents (take size held) a.page)
          (lowest-page sources size bound others (take size more) b.page)
          ∙ ap (λ ts. take size (counted R ts))
          (sym (past_occurrences-append sources bound documents others))

  -- ---- one of two lists of documents without groups, or no room for any

  -- with no room, more documents make no difference
  no_room : (documents others : List Fields) (groups : List Group) → size ≡ 0
      → ((g : Group) → CountsSome sources documents g → CountsSome sources others g)
      → GroupsStandFor sources size bound documents groups
      → GroupsStandFor sources size bound others groups
  no_room documents others groups none more stand = record {
    ascending = stand.ascending;
    page = subst (λ n. IsPage sources n bound others (map (entry_of sources others)
        (take n groups))) (sym none) (IsPage-lowest sources 0 bound others);
    past = stand.past;
    some = All-weaker (CountsSome sources documents) (CountsSome sources others) more groups
        stand.some;
  }

  -- what stands for the second documents stands for both, where nothing stands for the first
  pub stands-right : (documents others : List Fields) (held more : List Group)
      → (size ≡ 0) ⊎ (held ≡ [])
      → GroupsStandFor sources size bound documents held
      → GroupsStandFor sources size bound others more
      → GroupsStandFor sources size bound (documents ++ others) more
  stands-right documents others held more (inl none) a b =
      no_room others (documents ++ others) more none (some-right sources documents others) b
  stands-right documents others held more (inr nothing) a b =
      let R = tuple_order (rules_of sources) in
      subst (GroupsStandFor sources size bound (documents ++ others))
      (ap (λ gs. merged R gs more) nothing
      ∙ merged-nothing R (tuple_order-total (rules_of sources)) more b.ascending)
      (stands-merged documents others held more a b)

  -- what stands for the first documents stands for both, where nothing stands for the second
  pub stands-left : (documents others : List Fields) (held more : List Group)
      → (size ≡ 0) ⊎ (more ≡ [])
      → GroupsStandFor sources size bound documents held
      → GroupsStandFor sources size bound others more
      → GroupsStandFor sources size bound (documents ++ others) held
  stands-left documents others held more (inl none) a b =
      no_room documents (documents ++ others) held none (some-left sources documents others) a
  stands-left documents others held more (inr nothing) a b =
      subst (GroupsStandFor sources size bound (documents ++ others))
      (ap (merged (tuple_order (rules_of sources)) held) nothing)
      (stands-merged documents others held more a b)
