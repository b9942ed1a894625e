-- The entries of a page, held one after another with what is below them.
use Rattle.std.proofs.Common.{◌≡◌, ℕ, List, [], ◌∷◌, ◌++◌, Less, Some, map, refl, sym, ap, ◌∙◌}
use Rattle.std.proofs.Common.{subst}
use Rattle.std.specs.List.{All, AllByRecursion, AllZip}
use Rattle.std.specs.List.Sorted.{IsStrictlySortedBy}
use Rattle.std.specs.Map.{keys_of}
use Rattle.std.proofs.lemmas.List.{map-append}
use Rattle.std.proofs.lemmas.List.Elements.{All-from_recursion}
use Rattle.agg_values.specs.KeyOrder.{SourceRules, tuple_order}
use Rattle.agg_request_tree.specs.Source.{Sources, rules_of}
use Rattle.agg_composite.specs.PageEntries.{entry_group}
use Rattle.agg_composite.specs.declared.page_entry.PageEntry.{PageEntry}
use Rattle.agg_results.specs.intermediate_results.Intermediate.{Entries, composite_of, entries_of}
use Rattle.agg_results.specs.intermediate_results.Intermediate.{orders_of, target_size_of}
use Rattle.agg_results.specs.declared.intermediate_results as declared
use declared.composite.IntermediateCompositeBucketResult as composites
use composites.{IntermediateCompositeBucketResult, out-IntermediateCompositeBucketResult}
use composites.{out-roll-IntermediateCompositeBucketResult}
use declared.entry.IntermediateTermBucketEntry.{IntermediateTermBucketEntry}
use declared.results.IntermediateAggregationResults.{IntermediateAggregationResults}
use Rattle.agg_engine_tree.specs.declared.segment_context.context.PerRequestAggSegCtx.{
  PerRequestAggSegCtx,
}
use Rattle.agg_engine_tree.specs.collector_tree.Tree.{Held}
use Rattle.agg_engine_tree.specs.tree_results.Entries.{HoldsPage, IsAscending, IsEntryOf}
use Rattle.agg_engine_tree.specs.tree_results.Results.{GroupStands}
use Rattle.agg_values.proofs.AscendingKeys.{below-before}

-- the parts of a composite's result
pub record HasParts (c : IntermediateCompositeBucketResult) (rules : SourceRules) (size : ℕ)
    (held : Entries) : Type 0 where
  pub orders_are : orders_of c ≡ rules
  pub size_is : target_size_of c ≡ size
  pub entries_are : entries_of c ≡ held

pub parts-made : (c : IntermediateCompositeBucketResult) (rules : SourceRules) (size : ℕ)
    (held : Entries) → c ≡ composite_of rules size held → HasParts c rules size held
parts-made c rules size held is =
    let same = ap out-IntermediateCompositeBucketResult is
    ∙ out-roll-IntermediateCompositeBucketResult
    (record { entries = (rules, held); target_size = size }) in
    record {
      orders_are = ap (λ r. r.entries.0) same;
      size_is = ap (λ r. r.target_size) same;
      entries_are = ap (λ r. r.entries.1) same;
    }

-- the next entry of an ascending page is above those that a result holds of it
pub next-above : (sources : Sources) (size : ℕ) (page : List PageEntry) (held : Entries)
    (c : IntermediateCompositeBucketResult) → HasParts c (rules_of sources) size held
    → keys_of held ≡ keys_of (map entry_group page)
    → (whole : List PageEntry) (entry : PageEntry) (rest : List PageEntry)
    → whole ≡ page ++ entry ∷ rest → IsAscending sources whole
    → All (λ k. tuple_order (orders_of c) k entry.key ≡ Less) (keys_of (entries_of c))
next-above sources size page held c has same whole entry rest split up =
    let before = below-before (tuple_order (rules_of sources)) (map entry_group page)
    (entry_group entry) (map entry_group rest)
    (subst (λ gs. IsStrictlySortedBy (tuple_order (rules_of sources)) (keys_of gs))
    (ap (map entry_group) split ∙ map-append entry_group page (entry ∷ rest)) up) in
    let keys = ap keys_of has.entries_are ∙ same in
    subst (λ (rules : SourceRules). All (λ k. tuple_order rules k entry.key ≡ Less)
    (keys_of (entries_of c))) (sym has.orders_are)
    (All-from_recursion (λ k. tuple_order (rules_of sources) k entry.key ≡ Less)
    (keys_of (entries_of c))
    (subst (AllByRecursion (λ k. tuple_order (rules_of sources) k entry.key ≡ Less))
    (sym keys) before))

-- one more pair
zip-more : {A B : Type 0} (R : A → B → Type 0) (xs : List A) (ys : List B) (x : A) (y : B)
    → AllZip R xs ys → R x y → AllZip R (xs ++ x ∷ []) (ys ++ y ∷ [])
zip-more R [] [] x y all here = (here, tt)
zip-more R [] (b ∷ ys) x y all here = absurd all
zip-more R (a ∷ xs) [] x y all here = absurd all
zip-more R (a ∷ xs) (b ∷ ys) x y all here = (all.0, zip-more R xs ys x y all.1 here)

module _ (ctx : PerRequestAggSegCtx) (h : Held) (sources : Sources) (size : ℕ) where
  -- a result without entries holds a page without any
  pub holds-none : (c : IntermediateCompositeBucketResult)
      → c ≡ composite_of (rules_of sources) size [] → HoldsPage ctx h sources size [] c
  holds-none c is = record { entries = []; is = is; are = tt }

  keys-are : (page : List PageEntry) (es : Entries) → AllZip (IsEntryOf ctx h) page es
      → keys_of es ≡ keys_of (map entry_group page)
  keys-are [] [] are = refl
  keys-are [] (e ∷ es) are = absurd are
  keys-are (p ∷ page) [] are = absurd are
  keys-are (p ∷ page) (e ∷ es) are = λ i. are.0.key i ∷ keys-are page es are.1 i

  module _ (page : List PageEntry) (c : IntermediateCompositeBucketResult)
      (holds : HoldsPage ctx h sources size page c) where
    has : HasParts c (rules_of sources) size holds.entries
    has = parts-made c (rules_of sources) size holds.entries holds.is

    -- the next entry of an ascending page is above those that are held
    pub holds-below : (whole : List PageEntry) (entry : PageEntry) (rest : List PageEntry)
        → whole ≡ page ++ entry ∷ rest
        → IsAscending sources whole
        → All (λ k. tuple_order (orders_of c) k entry.key ≡ Less) (keys_of (entries_of c))
    holds-below whole entry rest split up =
        next-above sources size page holds.entries c has (keys-are page holds.entries holds.are)
        whole entry rest split up

    -- with the next entry the result holds one more
    pub holds-more : (entry : PageEntry) (below : IntermediateAggregationResults)
        (d : IntermediateCompositeBucketResult)
        → GroupStands ctx h (Some entry.bucket_id) below.results
        → (let held : IntermediateTermBucketEntry = record {
          doc_count = entry.doc_count;
          sub_aggregation = below;
        } in d ≡ composite_of (orders_of c) (target_size_of c)
        (entries_of c ++ (entry.key, held) ∷ []))
        → HoldsPage ctx h sources size (page ++ entry ∷ []) d
    holds-more entry below d stands is =
        let held : IntermediateTermBucketEntry = record {
          doc_count = entry.doc_count;
          sub_aggregation = below;
        } in
        record {
          entries = holds.entries ++ (entry.key, held) ∷ [];
          is = is ∙ (λ i. composite_of (has.orders_are i) (has.size_is i)
              (has.entries_are i ++ (entry.key, held) ∷ []));
          are = zip-more (IsEntryOf ctx h) page holds.entries entry (entry.key, held) holds.are
              (record { key = refl; count = refl; stands = stands });
        }
