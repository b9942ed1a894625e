-- Successive pages are one page of all their sizes.
use Rattle.std.proofs.Common.{◌≡◌, ℕ, suc, ◌+◌, ◌*◌, true, List, [], ◌∷◌, ◌++◌, length, map, refl}
use Rattle.std.proofs.Common.{sym, ap, ◌∙◌, subst, arith, Ordering, Less, Equal, Greater, is_lt}
use Rattle.std.proofs.Common.{suc-mul}
use Rattle.std.specs.List.{AllByRecursion, Contains, flat_map}
use Rattle.std.specs.List.Sorted.{IsStrictlySortedBy}
use Rattle.std.proofs.lemmas.List.{map-append}
use Rattle.std.proofs.lemmas.List.Elements.{All-append, All-nil}
use Rattle.agg_values.specs.KeyOrder.{tuple_order}
use Rattle.agg_values.proofs.TupleOrder.{tuple_order-total}
use Rattle.agg_segment.specs.storage.Document.{Fields}
use Rattle.agg_request_tree.specs.Source.{rules_of, Sources}
use Rattle.agg_request_tree.specs.Occurrences.{is_past, occurrences_in}
use Rattle.agg_request_tree.specs.Page.{Entry, IsPage, MayList, count_in, documents_with}
use Rattle.agg_request_tree.specs.Successive.{AreSuccessive, last_tuple, steps_over}
use Rattle.agg_request_tree.proofs.Lists.{AllByRecursion-Has}
use Rattle.agg_request_tree.proofs.PageKeys.{Lowest, Lowest-append}
use Rattle.agg_request_tree.proofs.PagePast.{is_past-above, is_past-whole, past-parts, past-whole}
use Rattle.agg_request_tree.proofs.PageTuples.{occurring-canonical}
use Rattle.agg_request_tree.proofs.PageUnique.{Lowest-from_page, IsPage-from_lowest}
use Rattle.agg_values.specs.Tuple.{KeyTuple}

-- the test for less
pub less-from_is_lt : (o : Ordering) → is_lt o ≡ true → o ≡ Less
less-from_is_lt Less e = refl
less-from_is_lt Equal e = cc
less-from_is_lt Greater e = cc

-- what holds of each tuple holds of the last
pub at_last : (P : KeyTuple → Type 0) (entry : Entry) (entries : List Entry)
    → AllByRecursion P (map (λ e. e.tuple) (entry ∷ entries)) → P (last_tuple entry.tuple entries)
at_last P entry [] all = all.0
at_last P entry (next ∷ entries) all = at_last P next entries all.1

module _ (sources : Sources) where
  -- what is above the last of ascending tuples is above each
  pub all_below : (entry : Entry) (entries : List Entry)
      → IsStrictlySortedBy (tuple_order (rules_of sources)) (map (λ e. e.tuple) (entry ∷ entries))
      → (tuple : KeyTuple) → tuple_order (rules_of sources) (last_tuple entry.tuple entries) tuple
      ≡ Less
      → AllByRecursion (λ t. tuple_order (rules_of sources) t tuple ≡ Less) (map (λ e. e.tuple)
      (entry ∷ entries))
  unfolding IsStrictlySortedBy
  all_below entry [] up tuple less = (less, tt)
  all_below entry (next ∷ entries) up tuple less =
      let rest = all_below next entries up.1 tuple less in (
        (tuple_order-total (rules_of sources)).trans entry.tuple next.tuple tuple up.0.0 rest.0,
        rest,
      )

module _ (sources : Sources) (documents : List Fields) where
  -- past a tuple of the documents lie those of them that are above it
  above_whole : (last : KeyTuple) → Contains (occurrences_in sources documents) last
      → (tuple : KeyTuple) → Contains (occurrences_in sources documents) tuple
      → is_past (rules_of sources) last tuple ≡ is_lt (tuple_order (rules_of sources) last tuple)
  above_whole last in_last tuple in_tuple =
      is_past-whole (rules_of sources) last tuple (occurring-canonical sources documents last
      in_last).0 (occurring-canonical sources documents tuple in_tuple).0

  -- the tuples of a page and of the next one are the lowest of both sizes
  tuples_join : (size more : ℕ) (bound : KeyTuple) (page next : List Entry)
      → Lowest (tuple_order (rules_of sources)) (MayList sources bound documents) size
      (map (λ e. e.tuple) page)
      → Lowest (tuple_order (rules_of sources)) (MayList sources (last_tuple bound page) documents)
      more (map (λ e. e.tuple) next)
      → Lowest (tuple_order (rules_of sources)) (MayList sources bound documents) (size + more)
      (map (λ e. e.tuple) page ++ map (λ e. e.tuple) next)
  tuples_join size more bound [] next first second =
      Lowest-append (tuple_order (rules_of sources)) (tuple_order-total (rules_of sources))
      (MayList sources bound documents) (MayList sources bound documents)
      (λ tuple may. may) size more [] (map (λ e. e.tuple) next) first second (λ t u h may. absurd h)
      (λ tuple may below. may)
  tuples_join size more bound (entry ∷ entries) next first second =
      Lowest-append R (tuple_order-total (rules_of sources)) (MayList sources bound documents)
      (MayList sources last documents)
      (λ tuple may. past-whole sources bound documents tuple
      (past-parts sources last documents tuple may).0
      (is_past-above (rules_of sources) bound last tuple listed.1 (above tuple may)))
      size more (map (λ e. e.tuple) (entry ∷ entries)) (map (λ e. e.tuple) next) first second
      (λ t u h may. AllByRecursion-Has (λ l. R l u ≡ Less) (map (λ e. e.tuple) (entry ∷ entries)) t
      (all_below sources entry entries first.ascending u (above u may)) h)
      (λ tuple may below.
      let occurs = (past-parts sources bound documents tuple may).0 in
      past-whole sources last documents tuple occurs
      (above_whole last listed.0 tuple occurs
      ∙ ap is_lt (at_last (λ l. R l tuple ≡ Less) entry entries below)))
    where
      R : KeyTuple → KeyTuple → Ordering
      R = tuple_order (rules_of sources)

      last : KeyTuple
      last = last_tuple entry.tuple entries

      listed : Contains (occurrences_in sources documents) last
          × (is_past (rules_of sources) bound last ≡ true)
      listed = past-parts sources bound documents last
          (at_last (MayList sources bound documents) entry entries first.listed)

      above : (tuple : KeyTuple) → MayList sources last documents tuple → R last tuple ≡ Less
      above tuple may = let parts = past-parts sources last documents tuple may in
          less-from_is_lt (R last tuple) (sym (above_whole last listed.0 tuple parts.0) ∙ parts.1)

  -- a page and the next one are a page of both sizes
  pub IsPage-append : (size more : ℕ) (bound : KeyTuple) (page next : List Entry)
      → IsPage sources size bound documents page
      → IsPage sources more (last_tuple bound page) documents next
      → IsPage sources (size + more) bound documents (page ++ next)
  IsPage-append size more bound page next first second =
      IsPage-from_lowest sources (size + more) bound documents (page ++ next)
      (subst (Lowest (tuple_order (rules_of sources)) (MayList sources bound documents)
      (size + more)) (sym (map-append (λ (e : Entry). e.tuple) page next))
      (tuples_join size more bound page next (Lowest-from_page sources size bound documents page
      first) (Lowest-from_page sources more (last_tuple bound page) documents next second)))
      (All-append (λ e. e.count ≡ count_in sources documents e.tuple) page next first.counted
      second.counted)
      (All-append (λ e. e.documents ≡ documents_with sources documents e.tuple) page next first.kept
      second.kept)

  -- no entries are the page of no size
  no_entries : (bound : KeyTuple) → IsPage sources 0 bound documents []
  unfolding IsStrictlySortedBy
  no_entries bound = record {
    ascending = tt;
    short = omega arith;
    listed = All-nil (λ e. MayList sources bound documents e.tuple);
    complete = λ tuple may out. (
      All-nil (λ e. tuple_order (rules_of sources) e.tuple tuple ≡ Less),
      refl,
    );
    counted = All-nil (λ e. e.count ≡ count_in sources documents e.tuple);
    kept = All-nil (λ e. e.documents ≡ documents_with sources documents e.tuple);
  }

  -- the pages of a walk are one page of all their sizes
  pub IsPage-from_walk : (size : ℕ) (bound : KeyTuple) (pages : List (List Entry))
      → AreSuccessive sources bound (steps_over size documents pages)
      → IsPage sources (length pages * size) bound documents (flat_map (λ page. page) pages)
  IsPage-from_walk size bound [] walk = let none : 0 ≡ 0 * size = omega arith in
      subst (λ n. IsPage sources n bound documents []) none (no_entries bound)
  IsPage-from_walk size bound (page ∷ pages) walk =
      let sizes : size + length pages * size ≡ suc (length pages) * size =
      omega (arith, suc-mul (length pages) size) in
      subst (λ n. IsPage sources n bound documents (page ++ flat_map (λ page. page) pages)) sizes
      (IsPage-append size (length pages * size) bound page (flat_map (λ page. page) pages) walk.0
      (IsPage-from_walk size (last_tuple bound page) pages walk.1))
