-- Fields in which some document has a value.
use Rattle.std.proofs.Common.{◌≡◌, ◌+◌, ◌++◌, ◌∷◌, ◌<◌, ◌∙◌, [], ℕ, List, Bool, true, false, map}
use Rattle.std.proofs.Common.{ap, arith, filter, flat_map, get_or, length, refl, subst, sym, take}
use Rattle.std.specs.Prelude.{◌==◌, ◌||◌, if◌then◌else◌, not}
use Rattle.std.specs.List.{list_any, range_with_len}
use Rattle.std.proofs.lemmas.Bool.{eqb-true}
use Rattle.std.proofs.lemmas.List.{length-map, map-append, take_more}
use Rattle.std.proofs.lemmas.List.Elements.{filter-append}
use Rattle.std.proofs.lemmas.List.Folds.{list_any-append, list_any_at, list_any_none}
use Rattle.std.proofs.lemmas.List.FromFn.{get_or-range_with_len, length-range_with_len}
use Rattle.agg_values.specs.TypedKey.{CompositeIntermediateKey}
use Rattle.agg_segment.specs.storage.Columns.{StoredColumn, all_keys, column_keys}
use Rattle.agg_segment.specs.storage.Document.{Fields}
use Rattle.peslumok_records.specs.declared.held.asked.AskedField.{AskedField}
use Rattle.agg_segment.specs.Query.{holds, is_any}
use Rattle.agg_segment.specs.Segment.{Stored, document_at, documents_of}
use Rattle.peslumok_records.specs.record_index.Index.{has_keys, is_seen, unseen_names}

-- ---- a column

-- what a test of a length says
pub is-none : {X : Type 0} (xs : List X) (none : Bool) → none ≡ (length xs == 0) → none ≡ true
    → length xs ≡ 0
is-none xs none is holds = eqb-true (length xs) 0 (sym is ∙ holds)

pub is-some : {X : Type 0} (xs : List X) (none : Bool) → none ≡ (length xs == 0) → none ≡ false
    → 0 < length xs
is-some [] none is fails = let both : true ≡ false = sym is ∙ fails in cc both
is-some (x ∷ xs) none is fails = omega arith

-- some key is there
any-key : (keys : List CompositeIntermediateKey) → 0 < length keys → list_any is_any keys ≡ true
any-key [] some = absurd (omega (arith, some))
any-key (key ∷ keys) some = refl

no-key : (keys : List CompositeIntermediateKey) → length keys ≡ 0 → list_any is_any keys ≡ false
no-key [] none = refl
no-key (key ∷ keys) none = absurd (omega (arith, none))

module _ (column : StoredColumn) where
  -- the numbers of a document are as many as its keys
  pub some-keys : {N : Type 0} (f : N → CompositeIntermediateKey) (numbers : List N) (doc : ℕ)
      → map f numbers ≡ column_keys column doc → 0 < length numbers
      → list_any is_any (column_keys column doc) ≡ true
  some-keys f numbers doc same some =
      any-key (column_keys column doc)
      (omega (arith, some, length-map numbers f, ap length same))

  pub no-keys : {N : Type 0} (f : N → CompositeIntermediateKey) (numbers : List N) (doc : ℕ)
      → map f numbers ≡ column_keys column doc → length numbers ≡ 0
      → list_any is_any (column_keys column doc) ≡ false
  no-keys f numbers doc same none =
      no-key (column_keys column doc)
      (omega (arith, none, length-map numbers f, ap length same))

  -- a document below a count has a key
  pub has_keys-at : (count doc : ℕ) → doc < count
      → list_any is_any (column_keys column doc) ≡ true
      → has_keys column (range_with_len 0 count) ≡ true
  has_keys-at count doc within has =
      list_any_at (λ d. list_any is_any (column_keys column d)) (range_with_len 0 count) doc 0
      (omega (arith, within, length-range_with_len 0 count))
      (subst (λ d. list_any is_any (column_keys column d) ≡ true)
      (let same : doc ≡ get_or (range_with_len 0 count) doc 0 =
      omega (arith, get_or-range_with_len 0 count doc 0 within) in same) has)

  -- no document below a count has a key
  pub has_keys-none : (count : ℕ)
      → ((doc : ℕ) → doc < count → list_any is_any (column_keys column doc) ≡ false)
      → has_keys column (range_with_len 0 count) ≡ false
  has_keys-none count none =
      list_any_none (λ d. list_any is_any (column_keys column d)) (range_with_len 0 count)
      (λ k d within.
      let below : k < count = omega (arith, within, length-range_with_len 0 count) in
      let same : k ≡ get_or (range_with_len 0 count) k d =
      omega (arith, get_or-range_with_len 0 count k d below) in
      subst (λ n. list_any is_any (column_keys column n) ≡ false) same (none k below))

-- ---- lists of lists

or-apart : (a b c d : Bool) → ((a || b) || (c || d)) ≡ ((a || c) || (b || d))
or-apart true b true d = refl
or-apart true b false d = refl
or-apart false true true d = refl
or-apart false true false d = refl
or-apart false false c d = refl

module _ {X : Type 0} where
  any-same : (p q : X → Bool) → ((x : X) → p x ≡ q x) → (xs : List X)
      → list_any p xs ≡ list_any q xs
  any-same p q same [] = refl
  any-same p q same (x ∷ xs) = λ i. same x i || any-same p q same xs i

  any-either : (p q : X → Bool) (xs : List X)
      → list_any (λ x. p x || q x) xs ≡ (list_any p xs || list_any q xs)
  any-either p q [] = refl
  any-either p q (x ∷ xs) =
      ap (λ b. (p x || q x) || b) (any-either p q xs)
      ∙ or-apart (p x) (q x) (list_any p xs) (list_any q xs)

  any-nothing : (xs : List X) → list_any (λ (x : X). false) xs ≡ false
  any-nothing [] = refl
  any-nothing (x ∷ xs) = any-nothing xs

module _ {X Y : Type 0} where
  any-map : (p : Y → Bool) (f : X → Y) (xs : List X)
      → list_any p (map f xs) ≡ list_any (λ x. p (f x)) xs
  any-map p f [] = refl
  any-map p f (x ∷ xs) = ap (λ b. p (f x) || b) (any-map p f xs)

  -- some item of some list
  pub any-flat_map : (p : Y → Bool) (f : X → List Y) (xs : List X)
      → list_any p (flat_map f xs) ≡ list_any (λ x. list_any p (f x)) xs
  any-flat_map p f [] = refl
  any-flat_map p f (x ∷ xs) =
      list_any-append p (f x) (flat_map f xs)
      ∙ ap (λ b. list_any p (f x) || b) (any-flat_map p f xs)

  -- some pair, the one first or the other
  any-turned : (p : X → Y → Bool) (xs : List X) (ys : List Y)
      → list_any (λ x. list_any (p x) ys) xs ≡ list_any (λ y. list_any (λ x. p x y) xs) ys
  any-turned p xs [] = any-nothing xs
  any-turned p xs (y ∷ ys) =
      any-either (λ x. p x y) (λ x. list_any (p x) ys) xs
      ∙ ap (λ b. list_any (λ x. p x y) xs || b) (any-turned p xs ys)

-- ---- a segment

-- a document of a segment has a value in a field just where a column of the field has a key
pub segment-seen : (segment : Stored) (field : List ℕ) (columns : List StoredColumn) (count : ℕ)
    → ((doc : ℕ) → all_keys columns doc ≡ document_at segment doc field)
    → count ≡ length (documents_of segment)
    → list_any (λ c. has_keys c (range_with_len 0 count)) columns
    ≡ is_seen (documents_of segment) field
segment-seen segment field columns count keys counted =
    let docs = range_with_len 0 count in
    let same : count ≡ segment.count =
    counted ∙ length-map (range_with_len 0 segment.count) (document_at segment)
    ∙ length-range_with_len 0 segment.count in
    let by_document : list_any (λ c. has_keys c docs) columns
    ≡ list_any (λ doc. list_any (λ c. list_any is_any (column_keys c doc)) columns) docs =
    any-turned (λ c doc. list_any is_any (column_keys c doc)) columns docs in
    by_document
    ∙ any-same (λ doc. list_any (λ c. list_any is_any (column_keys c doc)) columns)
    (λ doc. holds is_any field (document_at segment doc))
    (λ doc. sym (any-flat_map is_any (λ c. column_keys c doc) columns)
    ∙ ap (list_any is_any) (keys doc)) docs
    ∙ sym (any-map (holds is_any field) (document_at segment) docs)
    ∙ ap (λ n. list_any (holds is_any field) (map (document_at segment) (range_with_len 0 n))) same

-- ---- unseen names

-- a name that is kept, and one that is not
filter-one : (test : List ℕ → Bool) (name : List ℕ) (kept : Bool) → test name ≡ kept
    → filter test (name ∷ []) ≡ (if kept then name ∷ [] else [])
filter-one test name true is = rw is refl
filter-one test name false is = rw is refl

-- one asked field more
pub unseen-more : (documents : List Fields) (asked : List AskedField) (i : ℕ) (field : AskedField)
    → i < length asked → field ≡ get_or asked i field
    → unseen_names documents (take (i + 1) asked)
    ≡ unseen_names documents (take i asked)
    ++ (if not (is_seen documents field.name) then field.name ∷ [] else [])
unseen-more documents asked i field within is =
    let test = λ (name : List ℕ). not (is_seen documents name) in
    let name_of = λ (f : AskedField). f.name in
    ap (unseen_names documents) (take_more asked i field within)
    ∙ ap (λ (f : AskedField). unseen_names documents (take i asked ++ f ∷ [])) (sym is)
    ∙ ap (filter test) (map-append name_of (take i asked) (field ∷ []))
    ∙ filter-append test (map name_of (take i asked)) (field.name ∷ [])
    ∙ ap (λ names. filter test (map name_of (take i asked)) ++ names)
    (filter-one test field.name (test field.name) refl)
