-- The last tuple of a full page, and the after key that is shown for it.
use Rattle.std.proofs.Common.{◌≡◌, ◌≢◌, ◌==◌, ℕ, List, [], ◌∷◌, Bool, true, false, cond}
use Rattle.std.proofs.Common.{Option, None, Some, length, map, refl, sym, ap, ◌∙◌, subst, Ordering}
use Rattle.std.proofs.Common.{Less, Equal, Greater, rules, arith, eq-eqb}
use Rattle.std.specs.Prelude.{MatchOption, Contains, ⊤}
use Rattle.std.specs.List.{AllByRecursion, last_or}
use Rattle.std.specs.Map.{keys_of}
use Rattle.std.specs.Ordering.{match_ordering}
use Rattle.std.proofs.lemmas.Bool.Decides.{nat_tests}
use Rattle.std.proofs.lemmas.List.{length-map}
use Rattle.std.proofs.lemmas.List.Elements.{recursion_from_All}
use Rattle.agg_values.specs.Names.{Named, name_cmp, put}
use Rattle.agg_values.specs.Tuple.{KeyTuple}
use Rattle.agg_values.specs.declared.after_key.AfterKey.{AfterKey}
use Rattle.agg_segment.specs.storage.Document.{Fields}
use Rattle.agg_request_tree.specs.BySource.{after_map}
use Rattle.agg_request_tree.specs.Occurrences.{occurrences, occurrences_in}
use Rattle.agg_request_tree.specs.Page.{Entry, IsPage, MayList, group_of}
use Rattle.agg_request_tree.specs.Source.{Sources, name_of, source_values}
use Rattle.agg_request_tree.proofs.PagePast.{past-parts}
use Rattle.agg_request_tree.proofs.Lists.{AllByRecursion-Has, AllByRecursion-always}
use Rattle.agg_request_tree.proofs.Lists.{AllByRecursion-flat_map, AllByRecursion-map}
use Rattle.agg_request_tree.proofs.Lists.{Has-from_Contains}
use Rattle.agg_request_tree.proofs.PageKeys.{AllByRecursion-weaker}
use Rattle.agg_results.specs.declared.final_results.types.AggregationResult as result
use result.{the_lemmas}
use Rattle.agg_results.specs.declared.final_results.types.CompositeBucketEntry.{
  CompositeBucketEntry,
}
use Rattle.agg_results.specs.intermediate_results.Shown.{shown_after, shown_page}
use Rattle.agg_results.specs.Results.{after_tuple}
use Rattle.agg_engine.specs.Walk.{after_of_result}

-- ---- the last tuple occurs

last-All : {A : Type 0} (P : A → Type 0) (o : Option A) (xs : List A) → MatchOption o ⊤ P
    → AllByRecursion P xs → MatchOption (last_or o xs) ⊤ P
last-All P o [] first all = first
last-All P o (x ∷ xs) first all = last-All P (Some x) xs all.0 all.1

tuples-All : (P : KeyTuple → Type 0) (page : List Entry) → AllByRecursion (λ e. P e.tuple) page
    → AllByRecursion P (keys_of (map group_of page))
tuples-All P [] all = tt
tuples-All P (e ∷ page) all = (all.0, tuples-All P page all.1)

after-All : (P : KeyTuple → Type 0) (full : Bool) (page : List Entry)
    → AllByRecursion (λ e. P e.tuple) page
    → MatchOption (cond full (last_or None (keys_of (map group_of page))) None) ⊤ P
after-All P true page all =
    last-All P None (keys_of (map group_of page)) tt (tuples-All P page all)
after-All P false page all = tt

-- the after tuple of a page occurs in the documents
pub after-occurs : (sources : Sources) (size : ℕ) (bound : KeyTuple) (documents : List Fields)
    (page : List Entry) (tuple : KeyTuple)
    → IsPage sources size bound documents page → after_tuple size page ≡ Some tuple
    → Contains (occurrences_in sources documents) tuple
after-occurs sources size bound documents page tuple is_page last =
    let P : KeyTuple → Type 0 = λ t. Contains (occurrences_in sources documents) t in
    let listed = recursion_from_All (λ e. MayList sources bound documents e.tuple) page
    is_page.listed in
    let occurs = after-All P (length (map group_of page) == size) page (AllByRecursion-weaker (λ e.
    MayList sources bound documents e.tuple) (λ e. P e.tuple)
    (λ e m. (past-parts sources bound documents e.tuple m).0) page listed) in
    subst (λ o. MatchOption o ⊤ P) last occurs

-- ---- the after key of a tuple isn't empty

put-some : {T : Type 0} (name : List ℕ) (value : T) (named : Named T) → put name value named ≢ []
put-some name value [] none = cc none
put-some name value (e ∷ named) none = by (name_cmp name e.0) none
  where
    by : (o : Ordering)
        → match_ordering o ((name, value) ∷ e ∷ named) ((e.0, value) ∷ named)
        (e ∷ put name value named) ≢ []
    by Less none = cc none
    by Equal none = cc none
    by Greater none = cc none

-- of as many keys as sources
HasKey : Sources → KeyTuple → Type 0
HasKey sources tuple = after_map sources tuple ≢ []

occurrences-key : (sources : Sources) (document : Fields) → sources ≢ []
    → AllByRecursion (HasKey sources) (occurrences sources document)
unfolding HasKey
occurrences-key [] document some = absurd (some refl)
occurrences-key (source ∷ sources) document some =
    AllByRecursion-flat_map (HasKey (source ∷ sources))
    (λ k. map (λ t. k ∷ t) (occurrences sources document)) (source_values source document)
    (AllByRecursion-always
    (λ k. AllByRecursion (HasKey (source ∷ sources))
    (map (λ t. k ∷ t) (occurrences sources document)))
    (λ k. AllByRecursion-map (HasKey (source ∷ sources)) (λ t. k ∷ t)
    (occurrences sources document)
    (AllByRecursion-always (λ t. HasKey (source ∷ sources) (k ∷ t))
    (λ t. put-some (name_of source) (record { 0 = k }) (after_map sources t))
    (occurrences sources document)))
    (source_values source document))

-- of a tuple of some sources that occurs
pub after_map-some : (sources : Sources) (documents : List Fields) (tuple : KeyTuple)
    → sources ≢ [] → Contains (occurrences_in sources documents) tuple
    → after_map sources tuple ≢ []
unfolding HasKey
after_map-some sources documents tuple some occurs =
    AllByRecursion-Has (HasKey sources) (occurrences_in sources documents) tuple
    (AllByRecursion-flat_map (HasKey sources) (occurrences sources) documents
    (AllByRecursion-always (λ d. AllByRecursion (HasKey sources) (occurrences sources d))
    (λ d. occurrences-key sources d some) documents))
    (Has-from_Contains (occurrences_in sources documents) tuple occurs)

-- ---- what is shown

-- the after key that a page shows
pub after-shown : (sources : Sources) (entries : List CompositeBucketEntry)
    (last : Option KeyTuple)
    → after_of_result (Some (shown_page sources entries last)) ≡ shown_after sources last
after-shown sources entries last = search (rules, the_lemmas)

-- a key that is shown is that of the last tuple
pub shown-tuple : (sources : Sources) (last : Option KeyTuple) (key : Named AfterKey)
    → key ≡ shown_after sources last → key ≢ []
    → (tuple : KeyTuple) × (last ≡ Some tuple) × (key ≡ after_map sources tuple)
shown-tuple sources None key is some = absurd (some is)
shown-tuple sources (Some tuple) key is some = (tuple, refl, is)

-- a page has a last tuple only where it is full
pub last-full : (size : ℕ) (page : List Entry) (tuple : KeyTuple)
    → after_tuple size page ≡ Some tuple → length page ≡ size
last-full size page tuple is =
    sym (length-map page group_of) ∙ by (length (map group_of page) == size) refl is
  where
    by : (b : Bool) → (length (map group_of page) == size) ≡ b
        → cond b (last_or None (keys_of (map group_of page))) None ≡ Some tuple
        → length (map group_of page) ≡ size
    by true test last = grind (arith, nat_tests, test)
    by false test last = cc last

-- a full page has a last tuple, where it has room
pub full-last : (size : ℕ) (page : List Entry) → length page ≡ size → size ≢ 0
    → (tuple : KeyTuple) × (after_tuple size page ≡ Some tuple)
full-last size page long room =
    let test : (length (map group_of page) == size) ≡ true =
    ap (λ n. n == size) (length-map page group_of ∙ long) ∙ eq-eqb size size refl in
    let found = last-some page None (λ none. room (sym long ∙ ap length none)) in
    (found.0, ap (λ b. cond b (last_or None (keys_of (map group_of page))) None) test ∙ found.1)
  where
    last-some : (entries : List Entry) (before : Option KeyTuple) → entries ≢ []
        → (tuple : KeyTuple) × (last_or before (keys_of (map group_of entries)) ≡ Some tuple)
    last-some [] before some = absurd (some refl)
    last-some (e ∷ []) before some = (e.tuple, refl)
    last-some (e ∷ f ∷ entries) before some =
        last-some (f ∷ entries) (Some e.tuple) (λ none. cc none)
