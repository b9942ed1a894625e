-- There is at most one page of a request.
use Rattle.std.proofs.Common.{◌≡◌, ◌≢◌, ℕ, List, [], ◌∷◌, map, refl, sym, ap, ◌∙◌, Ordering, Less}
use Rattle.std.specs.List.{All, AllByRecursion, AllPairs}
use Rattle.std.proofs.lemmas.List.{length-map}
use Rattle.std.proofs.lemmas.List.Elements.{All-map, All-from_recursion, recursion_from_All}
use Rattle.agg_values.specs.KeyOrder.{tuple_order}
use Rattle.agg_values.proofs.TupleOrder.{tuple_order-total}
use Rattle.agg_segment.specs.storage.Document.{Fields}
use Rattle.agg_request_tree.specs.Source.{rules_of, Sources}
use Rattle.agg_request_tree.specs.Page.{Entry, IsPage, MayList, count_in, documents_with}
use Rattle.agg_request_tree.proofs.Lists.{All-from_map, Contains-from_Has, Has-from_Contains}
use Rattle.agg_request_tree.proofs.PageKeys.{Lowest, Lowest-same, AllPairs-from_sorted}
use Rattle.agg_request_tree.proofs.PageTuples.{occurring-exact}
use Rattle.agg_request_tree.proofs.PagePast.{past-parts}
use Rattle.agg_values.specs.Tuple.{KeyTuple}

module _ (sources : Sources) (size : ℕ) (bound : KeyTuple) (documents : List Fields) where
  -- the tuples of a page are the lowest of those that it may list
  pub Lowest-from_page : (entries : List Entry) → IsPage sources size bound documents entries
      → Lowest (tuple_order (rules_of sources)) (MayList sources bound documents) size
      (map (λ e. e.tuple) entries)
  Lowest-from_page entries page = record {
    ascending = page.ascending;
    short = simp length-map page.short;
    listed = recursion_from_All (MayList sources bound documents) tuples
        (All-map (MayList sources bound documents) (λ e. e.tuple) entries page.listed);
    complete = λ tuple may out.
        let h = page.complete tuple may (λ c. out (Has-from_Contains tuples tuple c)) in (
          recursion_from_All (λ l. R l tuple ≡ Less) tuples (All-map (λ l. R l tuple ≡ Less) (λ e.
              e.tuple) entries h.0),
          length-map entries (λ e. e.tuple) ∙ h.1,
        );
  }
    where
      R : KeyTuple → KeyTuple → Ordering
      R = tuple_order (rules_of sources)

      tuples : List KeyTuple
      tuples = map (λ e. e.tuple) entries

  -- entries of the lowest tuples, with their exact counts and documents, are a page
  pub IsPage-from_lowest : (entries : List Entry)
      → Lowest (tuple_order (rules_of sources)) (MayList sources bound documents) size
      (map (λ e. e.tuple) entries)
      → All (λ e. e.count ≡ count_in sources documents e.tuple) entries
      → All (λ e. e.documents ≡ documents_with sources documents e.tuple) entries
      → IsPage sources size bound documents entries
  IsPage-from_lowest entries low counted kept = record {
    ascending = low.ascending;
    short = simp length-map at low.short;
    listed = All-from_map (MayList sources bound documents) (λ e. e.tuple) entries
        (All-from_recursion (MayList sources bound documents) tuples low.listed);
    complete = λ tuple may out.
        let h = low.complete tuple may (λ c. out (Contains-from_Has tuples tuple c)) in (
          All-from_map (λ l. R l tuple ≡ Less) (λ e. e.tuple) entries (All-from_recursion (λ l.
              R l tuple ≡ Less) tuples h.0),
          sym (length-map entries (λ e. e.tuple)) ∙ h.1,
        );
    counted = counted;
    kept = kept;
  }
    where
      R : KeyTuple → KeyTuple → Ordering
      R = tuple_order (rules_of sources)

      tuples : List KeyTuple
      tuples = map (λ e. e.tuple) entries

  -- the entry of a tuple
  abbrev pub entry_at : KeyTuple → Entry
  entry_at tuple = record {
    tuple = tuple;
    count = count_in sources documents tuple;
    documents =
        documents_with sources documents tuple;
  }

  -- entries with their exact counts and documents are those of their tuples
  exact_entries : (entries : List Entry)
      → AllByRecursion (λ e. e.count ≡ count_in sources documents e.tuple) entries
      → AllByRecursion (λ e. e.documents ≡ documents_with sources documents e.tuple) entries
      → entries ≡ map entry_at (map (λ e. e.tuple) entries)
  exact_entries [] counted kept = refl
  exact_entries (e ∷ entries) counted kept =
      let rest = exact_entries entries counted.1 kept.1 in
      λ i. record { tuple = e.tuple; count = counted.0 i; documents = kept.0 i } ∷ rest i

  -- a page's entries are those of its tuples
  pub entries-from_tuples : (entries : List Entry) → IsPage sources size bound documents entries
      → entries ≡ map entry_at (map (λ e. e.tuple) entries)
  entries-from_tuples entries page =
      exact_entries entries (recursion_from_All (λ e. e.count ≡ count_in sources documents e.tuple)
      entries page.counted)
      (recursion_from_All (λ e. e.documents ≡ documents_with sources documents e.tuple) entries
      page.kept)

  -- two pages of the same request are the same
  pub IsPage-same : (entries others : List Entry) → IsPage sources size bound documents entries
      → IsPage sources size bound documents others → entries ≡ others
  IsPage-same entries others page other =
      let tuples =
      Lowest-same (tuple_order (rules_of sources)) (tuple_order-total (rules_of sources))
      (map (λ e. e.tuple) entries) (map (λ e. e.tuple) others)
      (MayList sources bound documents) (λ t u may_t may_u e. occurring-exact sources documents t u
      (past-parts sources bound documents t may_t).0
      (past-parts sources bound documents u may_u).0 e) size
      (Lowest-from_page entries page) (Lowest-from_page others other) in
      entries-from_tuples entries page ∙ ap (map entry_at) tuples
      ∙ sym (entries-from_tuples others other)

  -- two places of a page hold different tuples
  pub IsPage-distinct : (entries : List Entry) → IsPage sources size bound documents entries
      → AllPairs (λ e f. e.tuple ≢ f.tuple) entries
  IsPage-distinct entries page = AllPairs-from_sorted (tuple_order (rules_of sources))
      (tuple_order-total (rules_of sources)) (λ e. e.tuple) entries page.ascending
