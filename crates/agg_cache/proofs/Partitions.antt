-- Documents in partitions, and what is there of a bucket.
use Rattle.std.proofs.Common.{◌≡◌, ◌≢◌, ◌==◌, ◌+◌, ◌%◌, ◌<◌, ◌≤◌, ℕ, zero, suc, Bool, true}
use Rattle.std.proofs.Common.{false, cond, if◌then◌else◌, List, [], ◌∷◌, ◌++◌, length, get_or}
use Rattle.std.proofs.Common.{filter, map}
use Rattle.std.proofs.Common.{refl, sym, ap, ◌∙◌, arith, subst, zero-add, nat_cmp, nat_lt, inl, inr}
use Rattle.std.specs.Prelude.{All, Err, Ok, OnErr, OnOk, Result}
use Rattle.std.specs.declared.alloc.Global.{Global}
use Rattle.std.specs.declared.vec.Vec.{Vec}
use Rattle.std.specs.List.{flat_map, range_with_len}
use Rattle.std.specs.List.Sorted.{IsStableByKey, ties}
use Rattle.std.specs.Ordering.{is_lt}
use Rattle.std.proofs.Math.ListN.{set}
use Rattle.std.proofs.lemmas.Bool.{cases_Bool, ne_eqb}
use Rattle.std.proofs.lemmas.Bool.Decides.{nat_tests}
use Rattle.std.proofs.lemmas.List.{append-nil, get_or-map, get_or-set_other, get_or-set_same}
use Rattle.std.proofs.lemmas.List.{get_or_past, length-map, map-set, set-get_or}
use Rattle.std.proofs.lemmas.List.Elements.{All-append, All-cons, All-head, All-nil, All-tail}
use Rattle.std.proofs.lemmas.List.FromFn.{get_or-range_with_len, length-map-range_with_len}
use Rattle.std.proofs.lemmas.List.FromFn.{length-range_with_len}
use Rattle.agg_cache.specs.Partitions.{ArePartitioned, IsAt, documents_of, ids_below}
use Rattle.agg_cache.specs.Partitions.{items_of, lists_of, with_document}
use Rattle.agg_cache.specs.Waiting.{docs_of, is_id, one_more}
use Rattle.agg_cache.proofs.UnderIds.{docs_of-append, docs_of-other, docs_of-same}

-- the documents of all partitions
abbrev all_of : List (List (ℕ × ℕ)) → List (ℕ × ℕ)
all_of partitions = flat_map (λ p. p) partitions

-- what holds anyway holds after an error
pub on_err_given : {T E P : Type 0} (r : Result T E) → P → OnErr r P
on_err_given (Ok x) holds = tt
on_err_given (Err e) holds = holds

-- what holds after an answer and after an error holds
pub either_way : {T E P : Type 0} (r : Result T E) → OnOk r P → OnErr r P → P
either_way (Ok x) ok err = ok
either_way (Err e) ok err = err

-- ---- the list of a bucket

-- no document is for an id that is above all
none-above : (pairs : List (ℕ × ℕ)) (id : ℕ) → ids_below pairs ≤ id
    → docs_of (is_id id) pairs ≡ []
none-above [] id above = refl
none-above (e ∷ es) id above =
    rw (ne_eqb e.0 id (omega arith)) (none-above es id (omega arith))

below-append : (xs ys : List (ℕ × ℕ))
    → (ids_below xs ≤ ids_below (xs ++ ys)) × (ids_below ys ≤ ids_below (xs ++ ys))
below-append [] ys = (omega arith, omega arith)
below-append (e ∷ es) ys =
    let later = below-append es ys in (omega (arith, later.0), omega (arith, later.1))

-- the ids of a partition are below those that are above all
below-part : (partitions : List (List (ℕ × ℕ))) (place : ℕ)
    → ids_below (get_or partitions place []) ≤ ids_below (all_of partitions)
below-part [] place = omega arith
below-part (p ∷ ps) zero = (below-append p (all_of ps)).0
below-part (p ∷ ps) (suc n) = omega (arith, below-part ps n, (below-append p (all_of ps)).1)

list-within : (partitions : List (List (ℕ × ℕ))) (n id : ℕ) → id < n
    → get_or (map (documents_of partitions) (range_with_len 0 n)) id []
    ≡ documents_of partitions id
list-within partitions n id within =
    get_or-map (documents_of partitions) (range_with_len 0 n) id 0 []
    (omega (arith, length-range_with_len 0 n))
    ∙ ap (documents_of partitions) (get_or-range_with_len 0 n id 0 within ∙ zero-add id)

list-past : (partitions : List (List (ℕ × ℕ))) (n id : ℕ) → n ≤ id
    → ids_below (get_or partitions (id % 16) []) ≤ n
    → get_or (map (documents_of partitions) (range_with_len 0 n)) id []
    ≡ documents_of partitions id
list-past partitions n id past below =
    get_or_past (map (documents_of partitions) (range_with_len 0 n)) id []
    (omega (arith, length-map-range_with_len (documents_of partitions) 0 n))
    ∙ sym (none-above (get_or partitions (id % 16) []) id (omega arith))

-- the list at an id has the documents of that bucket
pub list-at : (partitions : List (List (ℕ × ℕ))) (id : ℕ)
    → get_or (lists_of partitions) id [] ≡ documents_of partitions id
list-at partitions id =
    let n = ids_below (all_of partitions) in
    elim (cases_Bool (nat_lt id n)) [
      | inl within ↦ list-within partitions n id (grind (arith, nat_tests, within))
      | inr past ↦ list-past partitions n id (grind (arith, nat_tests, past))
          (below-part partitions (id % 16))
    ]

-- ---- one more document

more-same : (part : List (ℕ × ℕ)) (bucket doc : ℕ)
    → docs_of (is_id bucket) (part ++ (bucket, doc) ∷ [])
    ≡ docs_of (is_id bucket) part ++ doc ∷ []
more-same part bucket doc =
    docs_of-append bucket part ((bucket, doc) ∷ [])
    ∙ ap (λ docs. docs_of (is_id bucket) part ++ docs) (docs_of-same bucket (doc ∷ []))

more-other : (part : List (ℕ × ℕ)) (bucket doc id : ℕ) → bucket ≢ id
    → docs_of (is_id id) (part ++ (bucket, doc) ∷ []) ≡ docs_of (is_id id) part
more-other part bucket doc id other =
    docs_of-append id part ((bucket, doc) ∷ [])
    ∙ ap (λ docs. docs_of (is_id id) part ++ docs) (docs_of-other id bucket (doc ∷ []) other)
    ∙ append-nil (docs_of (is_id id) part)

module _ (partitions : List (List (ℕ × ℕ))) (bucket doc : ℕ)
    (within : bucket % 16 < length partitions) where
  abbrev with_more : List (List (ℕ × ℕ))
  with_more = with_document partitions bucket doc

  more-here : (id : ℕ) → id % 16 ≡ bucket % 16
      → get_or with_more (id % 16) []
      ≡ get_or partitions (bucket % 16) [] ++ (bucket, doc) ∷ []
  more-here id same =
      ap (λ place. get_or with_more place []) same
      ∙ get_or-set_same partitions (bucket % 16) _ [] within

  more-there : (id : ℕ) → id % 16 ≢ bucket % 16
      → get_or with_more (id % 16) [] ≡ get_or partitions (id % 16) []
  more-there id other = get_or-set_other partitions (bucket % 16) (id % 16) _ [] other

  more-of-bucket : documents_of with_more bucket ≡ documents_of partitions bucket ++ doc ∷ []
  more-of-bucket =
      ap (docs_of (is_id bucket)) (more-here bucket refl)
      ∙ more-same (get_or partitions (bucket % 16) []) bucket doc

  more-of-other : (id : ℕ) → bucket ≢ id
      → documents_of with_more id ≡ documents_of partitions id
  more-of-other id other = elim (cases_Bool (id % 16 == bucket % 16)) [
    | inl same ↦
        let here : id % 16 ≡ bucket % 16 = grind (arith, nat_tests, same) in
        ap (docs_of (is_id id)) (more-here id here)
        ∙ more-other (get_or partitions (bucket % 16) []) bucket doc id other
        ∙ ap (λ place. docs_of (is_id id) (get_or partitions place [])) (sym here)
    | inr differs ↦
        ap (docs_of (is_id id)) (more-there id (grind (arith, nat_tests, differs)))
  ]

  -- the bucket has one document more
  pub documents-more : (id : ℕ)
      → documents_of with_more id ≡ one_more bucket doc (documents_of partitions) id
  documents-more id = elim (cases_Bool (id == bucket)) [
    | inl same ↦
        let is : id ≡ bucket = grind (arith, nat_tests, same) in
        rw same (subst
        (λ i. documents_of with_more i ≡ documents_of partitions i ++ doc ∷ [])
        (sym is) more-of-bucket)
    | inr differs ↦ rw differs (more-of-other id (grind (arith, nat_tests, differs)))
  ]

  -- each document stands in the partition of its bucket
  pub partitioned-more : ArePartitioned partitions → ArePartitioned with_more
  partitioned-more are place = elim (cases_Bool (place == bucket % 16)) [
    | inl same ↦
        let is : place ≡ bucket % 16 = grind (arith, nat_tests, same) in
        subst (λ i. All (IsAt i) (get_or with_more i [])) (sym is)
        (subst (λ part. All (IsAt (bucket % 16)) part)
        (sym (get_or-set_same partitions (bucket % 16) _ [] within))
        (All-append (IsAt (bucket % 16)) (get_or partitions (bucket % 16) [])
        ((bucket, doc) ∷ []) (are (bucket % 16))
        (All-cons (IsAt (bucket % 16)) (bucket, doc) [] refl (All-nil (IsAt (bucket % 16))))))
    | inr differs ↦
        subst (λ part. All (IsAt place) part)
        (sym (get_or-set_other partitions (bucket % 16) place _ []
        (grind (arith, nat_tests, differs)))) (are place)
  ]

-- ---- in another order

-- whether the id of one is lower
abbrev below : ℕ × ℕ → ℕ × ℕ → Bool
below x y = is_lt (nat_cmp x.0 y.0)

tied : (id : ℕ) (e : ℕ × ℕ) → ties below (id, 0) e ≡ (e.0 == id)
tied id e = grind (arith, nat_tests)

passed : (is ties_with : Bool) (e : ℕ × ℕ) (docs : List ℕ) (pairs : List (ℕ × ℕ))
    → ties_with ≡ is → docs ≡ map (λ e. e.1) pairs
    → (if is then e.1 ∷ [] else []) ++ docs ≡ map (λ e. e.1) (cond ties_with (e ∷ pairs) pairs)
passed true true e docs pairs same are = ap (λ ds. e.1 ∷ ds) are
passed false false e docs pairs same are = are
passed true false e docs pairs same are = absurd (cc same)
passed false true e docs pairs same are = absurd (cc same)

-- the documents of an id are those of the pairs with that id
docs-filtered : (id : ℕ) (pairs : List (ℕ × ℕ))
    → docs_of (is_id id) pairs ≡ map (λ e. e.1) (filter (ties below (id, 0)) pairs)
docs-filtered id [] = refl
docs-filtered id (e ∷ es) =
    passed (e.0 == id) (ties below (id, 0) e) e _ _ (tied id e) (docs-filtered id es)

-- a stable sort by id keeps the documents of each
pub documents-sorted : (pairs sorted : List (ℕ × ℕ))
    → IsStableByKey (λ e. e.0) nat_cmp pairs sorted → (id : ℕ)
    → docs_of (is_id id) sorted ≡ docs_of (is_id id) pairs
documents-sorted pairs sorted stable id =
    docs-filtered id sorted ∙ ap (map (λ e. e.1)) (stable (id, 0)) ∙ sym (docs-filtered id pairs)

-- ---- all together

none-elsewhere : (part : List (ℕ × ℕ)) (place id : ℕ) → All (IsAt place) part
    → id % 16 ≢ place → docs_of (is_id id) part ≡ []
none-elsewhere [] place id are other = refl
none-elsewhere (e ∷ es) place id are other =
    let head : e.0 % 16 ≡ place = All-head (IsAt place) e es are in
    rw (ne_eqb e.0 id (λ same. other (ap (λ i. i % 16) (sym same) ∙ head)))
    (none-elsewhere es place id (All-tail (IsAt place) e es are) other)

-- the partitions after the first begin one place later
later : (first : ℕ) (partitions : List (List (ℕ × ℕ)))
    → ((place : ℕ) → All (IsAt (first + suc place)) (get_or partitions place []))
    → (place : ℕ) → All (IsAt ((first + 1) + place)) (get_or partitions place [])
later first partitions are place =
    let same : first + suc place ≡ (first + 1) + place = omega arith in
    subst (λ i. All (IsAt i) (get_or partitions place [])) same (are place)

-- no document is for an id of a partition before the first
none-before : (partitions : List (List (ℕ × ℕ))) (first id : ℕ)
    → ((place : ℕ) → All (IsAt (first + place)) (get_or partitions place []))
    → id % 16 < first → docs_of (is_id id) (all_of partitions) ≡ []
none-before [] first id are before = refl
none-before (p ∷ ps) first id are before =
    docs_of-append id p (all_of ps)
    ∙ ap (λ docs. docs ++ docs_of (is_id id) (all_of ps))
    (none-elsewhere p (first + 0) id (are 0) (omega arith))
    ∙ none-before ps (first + 1) id (later first ps (λ place. are (suc place))) (omega arith)

-- the documents of a bucket, where partitions begin with that of a place
documents-from : (partitions : List (List (ℕ × ℕ))) (first rest id : ℕ)
    → ((place : ℕ) → All (IsAt (first + place)) (get_or partitions place []))
    → first + rest ≡ id % 16
    → docs_of (is_id id) (all_of partitions) ≡ docs_of (is_id id) (get_or partitions rest [])
documents-from [] first rest id are at = refl
documents-from (p ∷ ps) first zero id are at =
    docs_of-append id p (all_of ps)
    ∙ ap (λ docs. docs_of (is_id id) p ++ docs)
    (none-before ps (first + 1) id (later first ps (λ place. are (suc place))) (omega arith))
    ∙ append-nil (docs_of (is_id id) p)
documents-from (p ∷ ps) first (suc n) id are at =
    docs_of-append id p (all_of ps)
    ∙ ap (λ docs. docs ++ docs_of (is_id id) (all_of ps))
    (none-elsewhere p (first + 0) id (are 0) (omega arith))
    ∙ documents-from ps (first + 1) n id (later first ps (λ place. are (suc place)))
    (omega arith)

-- the documents of a bucket are those of its partition
pub documents-joined : (partitions : List (List (ℕ × ℕ))) (id : ℕ) → ArePartitioned partitions
    → docs_of (is_id id) (all_of partitions) ≡ documents_of partitions id
documents-joined partitions id are =
    documents-from partitions 0 (id % 16) id
    (λ place. subst (λ i. All (IsAt i) (get_or partitions place []))
    (sym (zero-add place)) (are place)) (zero-add (id % 16))

-- ---- none

pub none-documents : (partitions : List (List (ℕ × ℕ)))
    → ((place : ℕ) → get_or partitions place [] ≡ []) → (id : ℕ) → documents_of partitions id ≡ []
none-documents partitions none id = ap (docs_of (is_id id)) (none (id % 16))

-- ---- sorted

-- a partition whose documents are those that were there, in the order of each bucket
pub sorted-partitioned : (partitions : List (List (ℕ × ℕ))) (at : ℕ) (sorted : List (ℕ × ℕ))
    → at < length partitions
    → ((place : ℕ) → All (IsAt place) (get_or partitions at []) → All (IsAt place) sorted)
    → ArePartitioned partitions → ArePartitioned (set partitions at sorted)
sorted-partitioned partitions at sorted within keeps are place =
    elim (cases_Bool (place == at)) [
      | inl same ↦
          let is : place ≡ at = grind (arith, nat_tests, same) in
          subst (λ i. All (IsAt i) (get_or (set partitions at sorted) i [])) (sym is)
          (subst (λ part. All (IsAt at) part)
          (sym (get_or-set_same partitions at sorted [] within)) (keeps at (are at)))
      | inr differs ↦
          subst (λ part. All (IsAt place) part)
          (sym (get_or-set_other partitions at place sorted []
          (grind (arith, nat_tests, differs)))) (are place)
    ]

pub sorted-documents : (partitions : List (List (ℕ × ℕ))) (at : ℕ) (sorted : List (ℕ × ℕ))
    → at < length partitions
    → ((id : ℕ) → docs_of (is_id id) sorted ≡ docs_of (is_id id) (get_or partitions at []))
    → (id : ℕ) → documents_of (set partitions at sorted) id ≡ documents_of partitions id
sorted-documents partitions at sorted within same id =
    elim (cases_Bool (id % 16 == at)) [
      | inl here ↦
          let is : id % 16 ≡ at = grind (arith, nat_tests, here) in
          ap (λ i. docs_of (is_id id) (get_or (set partitions at sorted) i [])) is
          ∙ ap (docs_of (is_id id)) (get_or-set_same partitions at sorted [] within)
          ∙ same id ∙ ap (λ i. docs_of (is_id id) (get_or partitions i [])) (sym is)
      | inr elsewhere ↦
          ap (docs_of (is_id id)) (get_or-set_other partitions at (id % 16) sorted []
          (grind (arith, nat_tests, elsewhere)))
    ]

-- ---- the same documents

module _ (partitions others : List (List (ℕ × ℕ))) where
  -- partitions with the same documents of each bucket have the same lists
  pub same-lists : ((id : ℕ) → documents_of others id ≡ documents_of partitions id) → (id : ℕ)
      → get_or (lists_of others) id [] ≡ get_or (lists_of partitions) id []
  same-lists same id = list-at others id ∙ same id ∙ sym (list-at partitions id)

  module _ (same : (place : ℕ) → get_or others place [] ≡ get_or partitions place []) where
    pub same-documents : (id : ℕ) → documents_of others id ≡ documents_of partitions id
    same-documents id = ap (docs_of (is_id id)) (same (id % 16))

    pub same-partitioned : ArePartitioned partitions → ArePartitioned others
    same-partitioned are place =
        subst (λ part. All (IsAt place) part) (sym (same place)) (are place)

-- ---- as they are kept

module _ (kept : List (Vec (ℕ × ℕ) Global)) (at : ℕ) (part : Vec (ℕ × ℕ) Global) where
  -- another partition at a place
  pub items-set : items_of (set kept at part) ≡ set (items_of kept) at part.items
  items-set = map-set (λ p. p.items) kept at part

  pub items-at : at < length kept → get_or (items_of kept) at [] ≡ (get_or kept at part).items
  items-at within = get_or-map (λ p. p.items) kept at part [] within

-- a partition of which no document is left
pub none-set : (partitions : List (List (ℕ × ℕ))) (at : ℕ) → at < length partitions
    → ((place : ℕ) → place < at → get_or partitions place [] ≡ [])
    → (place : ℕ) → place < at + 1 → get_or (set partitions at []) place [] ≡ []
none-set partitions at within none place before = elim (cases_Bool (place == at)) [
  | inl same ↦
      let is : place ≡ at = grind (arith, nat_tests, same) in
      ap (λ i. get_or (set partitions at []) i []) is
      ∙ get_or-set_same partitions at [] [] within
  | inr differs ↦
      let other : place ≢ at = grind (arith, nat_tests, differs) in
      get_or-set_other partitions at place [] [] other ∙ none place (omega (arith, before, other))
]

-- no partition is past the last
pub none-past : (partitions : List (List (ℕ × ℕ))) (end : ℕ) → length partitions ≤ end
    → ((place : ℕ) → place < end → get_or partitions place [] ≡ [])
    → (place : ℕ) → get_or partitions place [] ≡ []
none-past partitions end all none place = elim (cases_Bool (nat_lt place end)) [
  | inl before ↦ none place (grind (arith, nat_tests, before))
  | inr past ↦
      let after : end ≤ place = grind (arith, nat_tests, past) in
      get_or_past partitions place [] (omega (arith, after, all))
]

module _ (kept : List (Vec (ℕ × ℕ) Global)) (at : ℕ) (was now : Vec (ℕ × ℕ) Global)
    (within : at < length kept) (there : was ≡ get_or kept at was) where
  items-were : get_or (items_of kept) at [] ≡ was.items
  items-were = items-at kept at was within ∙ ap (λ part. part.items) (sym there)

  at-within : at < length (items_of kept)
  at-within = omega (arith, within, length-map kept (λ part. part.items))

  -- the same documents at their place change nothing
  pub kept-same : now.items ≡ was.items → items_of (set kept at now) ≡ items_of kept
  kept-same same =
      items-set kept at now ∙ ap (set (items_of kept) at) (same ∙ sym items-were)
      ∙ set-get_or (items_of kept) at []

  -- a partition that is sorted by bucket keeps each document in the partition of its bucket
  pub kept-partitioned : ((place : ℕ) → All (IsAt place) was.items → All (IsAt place) now.items)
      → ArePartitioned (items_of kept) → ArePartitioned (items_of (set kept at now))
  kept-partitioned keeps are =
      subst ArePartitioned (sym (items-set kept at now))
      (sorted-partitioned (items_of kept) at now.items at-within
      (λ place all. keeps place (subst (All (IsAt place)) items-were all)) are)

  -- and the documents of each bucket
  pub kept-documents : ((id : ℕ) → docs_of (is_id id) now.items ≡ docs_of (is_id id) was.items)
      → (id : ℕ) → documents_of (items_of (set kept at now)) id ≡ documents_of (items_of kept) id
  kept-documents same id =
      ap (λ partitions. documents_of partitions id) (items-set kept at now)
      ∙ sorted-documents (items_of kept) at now.items at-within
      (λ i. same i ∙ ap (docs_of (is_id i)) (sym items-were)) id
