-- The keys of sources, by their names.
use Rattle.std.proofs.Common.{◌≡◌, ◌≢◌, ◌<◌, ◌≤◌, ◌++◌, ◌⊎◌, ℕ, zero, suc, List, [], ◌∷◌, Option}
use Rattle.std.proofs.Common.{None, Some, inl, inr, refl, sym, ap, ◌∙◌, subst, arith, length, drop}
use Rattle.std.proofs.Common.{get_or, append-nil, Bor, IsSome, option_map}
use Rattle.std.proofs.Common.{rules}
use Rattle.std.specs.Prelude.{slice_get}
use Rattle.std.proofs.Math.Seq.{drop-cons}
use Rattle.csv.specs.Records.{field_at}
use Rattle.csv.proofs.RecordFacts.{field-there}
use Rattle.agg_values.specs.Names.{Named, put, value_of}
use Rattle.agg_values.specs.declared.after_key.AfterKey.{AfterKey}
use Rattle.agg_values.specs.TypedKey.{CompositeIntermediateKey}
use Rattle.agg_request_tree.proofs.PageAfter.{value_of-put, value_of-put_other}
use Rattle.peslumok_texts.specs.fields.Types.{type_of}
use Rattle.peslumok_texts.specs.declared.fields.error.ValueError.{ValueError}
use Rattle.peslumok_texts.specs.declared.fields.field_type.FieldType.{FieldType}
use Rattle.peslumok_texts.specs.words.By.{parts}
use Rattle.peslumok_texts.specs.declared.words.by.BySpec.{BySpec}
use Rattle.peslumok_front.specs.grouping.Sources.{column_name}
use Rattle.peslumok_front.specs.declared.grouping.grouping.Grouping.{Grouping}
use Rattle.peslumok_front.specs.declared.grouping.error.GroupingError.{GroupingError}
use Rattle.peslumok_front.specs.declared.grouping.error.GroupingError.TheVariants as error
use Rattle.peslumok_front.specs.after_text.After.{AreReadAs, HasBadValue, HaveOwnColumns}
use Rattle.peslumok_front.specs.after_text.After.{IsUnreadKey, IsUnreadValue, IsAfterText}
use Rattle.peslumok_front.specs.after_text.After.{IsKeyOfValues, ReadsAs, keys_by_name, values_in}
use Rattle.peslumok_front.specs.after_text.AfterCells.{AreTextsOf}
use Rattle.peslumok_front.proofs.lemmas.after_text.CsvLine.{AreCells}

-- ---- lists from a place on

-- what is at a place begins the rest from there on
pub drop-get : {X : Type 0} (xs : List X) (i : ℕ) (x : X) → slice_get xs i ≡ Some x
    → drop i xs ≡ x ∷ drop (suc i) xs
drop-get [] i x is = absurd (cc is)
drop-get (y ∷ xs) zero x is = let same : y ≡ x = cc in ap (λ z. z ∷ xs) same
drop-get (y ∷ xs) (suc i) x is = drop-get xs i x is

-- where nothing is at a place, nothing is left
pub drop-none : {X : Type 0} (xs : List X) (i : ℕ) → slice_get xs i ≡ None → drop i xs ≡ []
drop-none [] zero is = refl
drop-none [] (suc i) is = refl
drop-none (y ∷ xs) zero is = absurd (cc is)
drop-none (y ∷ xs) (suc i) is = drop-none xs i is

pub drop-all : {X : Type 0} (xs : List X) (i : ℕ) → length xs ≤ i → drop i xs ≡ []
drop-all [] zero all = refl
drop-all [] (suc i) all = refl
drop-all (y ∷ xs) zero all = absurd (omega arith)
drop-all (y ∷ xs) (suc i) all = drop-all xs i (omega arith)

-- a field at a place begins the rest from there on
pub drop-field : (xs : List (List ℕ)) (i : ℕ) (x : List ℕ) → field_at xs i ≡ Some x
    → drop i xs ≡ x ∷ drop (suc i) xs
unfolding field_at
drop-field [] i x is = absurd (cc is)
drop-field (y ∷ xs) zero x is = let same : y ≡ x = cc in ap (λ z. z ∷ xs) same
drop-field (y ∷ xs) (suc i) x is = drop-field xs i x is

-- ---- the key of a source

-- the key of a source is under its name
pub key-there : (sources : List BySpec) (keys : List AfterKey) (i : ℕ) (d : BySpec)
    → HaveOwnColumns sources → i < length sources
    → value_of (column_name (parts (get_or sources i d))) (keys_by_name sources keys)
    ≡ slice_get keys i
key-there [] keys i d apart within = absurd (omega arith)
key-there (by ∷ sources) [] i d apart within = refl
key-there (by ∷ sources) (key ∷ keys) zero d apart within =
    value_of-put (column_name (parts by)) key (keys_by_name sources keys)
key-there (by ∷ sources) (key ∷ keys) (suc i) d apart within =
    let differs : column_name (parts (get_or sources i d)) ≢ column_name (parts by) =
    λ same. apart zero (suc i) d (omega arith) within (sym same) in
    value_of-put_other (column_name (parts (get_or sources i d))) (column_name (parts by)) key
    (keys_by_name sources keys) differs
    ∙ key-there sources keys i d
    (λ m n e before inside. apart (suc m) (suc n) e (omega arith) (omega arith)) (omega arith)

-- ---- the texts of keys

module _ (types : Named FieldType) where
  -- no key has no text
  pub no-texts : (sources : List BySpec) → AreTextsOf types sources [] []
  no-texts [] = refl
  no-texts (by ∷ sources) = refl

  pub texts-end : (sources rest : List BySpec) (keys left : List AfterKey) (texts : List (List ℕ))
      → ((more : List (List ℕ)) → AreTextsOf types rest left more
      → AreTextsOf types sources keys (texts ++ more))
      → (left ≡ []) ⊎ (rest ≡ []) → AreTextsOf types sources keys texts
  texts-end sources rest keys left texts so_far (inl none) =
      subst (AreTextsOf types sources keys) (append-nil texts)
      (so_far [] (subst (λ ks. AreTextsOf types rest ks []) (sym none) (no-texts rest)))
  texts-end sources rest keys left texts so_far (inr none) =
      subst (AreTextsOf types sources keys) (append-nil texts)
      (so_far [] (subst (λ bs. AreTextsOf types bs left []) (sym none) refl))

  -- cells of which each is read as its key
  pub texts-cells : (sources : List BySpec) (keys : List AfterKey) (texts : List (List ℕ))
      → AreTextsOf types sources keys texts → AreCells texts
  texts-cells [] keys texts none = subst AreCells (sym none) tt
  texts-cells (by ∷ sources) [] texts none = subst AreCells (sym none) tt
  texts-cells (by ∷ sources) (key ∷ keys) [] absent = absurd absent
  texts-cells (by ∷ sources) (key ∷ keys) (text ∷ texts) are =
      (are.0, texts-cells sources keys texts are.2)

  -- they are read as the keys of the first sources
  pub texts-read : (sources : List BySpec) (keys : List AfterKey) (texts : List (List ℕ))
      → AreTextsOf types sources keys texts
      → (own : List AfterKey) × AreReadAs types sources texts own
      × (keys_by_name sources keys ≡ keys_by_name sources own)
  texts-read [] keys texts none =
      ([], subst (λ ts. AreReadAs types [] ts []) (sym none) refl, refl)
  texts-read (by ∷ sources) [] texts none =
      ([], subst (λ ts. AreReadAs types (by ∷ sources) ts []) (sym none) refl, refl)
  texts-read (by ∷ sources) (key ∷ keys) [] absent = absurd absent
  texts-read (by ∷ sources) (key ∷ keys) (text ∷ texts) are =
      let later = texts-read sources keys texts are.2 in
      (key ∷ later.0, (are.1, later.1), ap (put (column_name (parts by)) key) later.2)

  -- ---- values that are read

  -- as many values as there are sources at most
  pub read-fewer : (sources : List BySpec) (values : List (List ℕ)) (keys : List AfterKey)
      → AreReadAs types sources values keys → length values ≤ length sources
  read-fewer sources [] keys read = omega arith
  read-fewer [] (value ∷ values) keys read = absurd read
  read-fewer (by ∷ sources) (value ∷ values) [] read = absurd read
  read-fewer (by ∷ sources) (value ∷ values) (key ∷ keys) read =
      let later = read-fewer sources values keys read.1 in omega arith

  -- the value at a place is read as some key
  pub read-there : (sources : List BySpec) (values : List (List ℕ)) (keys : List AfterKey) (i : ℕ)
      (d : BySpec) (value : List ℕ) → AreReadAs types sources values keys
      → field_at values i ≡ Some value
      → (key : CompositeIntermediateKey)
      × ReadsAs (type_of types (get_or sources i d).field.now) value key
  unfolding field_at
  read-there sources [] keys i d value read at = absurd (cc at)
  read-there [] (first ∷ values) keys i d value read at = absurd read
  read-there (by ∷ sources) (first ∷ values) [] i d value read at = absurd read
  read-there (by ∷ sources) (first ∷ values) (key ∷ keys) zero d value read at =
      let same : first ≡ value = cc in
      (key.0, subst (λ v. ReadsAs (type_of types by.field.now) v key.0) same read.0)
  read-there (by ∷ sources) (first ∷ values) (key ∷ keys) (suc i) d value read at =
      read-there sources values keys i d value read.1 at

  -- a bad value at a place is one of the values
  bad-there : (sources : List BySpec) (values : List (List ℕ)) (i : ℕ) (d : BySpec)
      (value field : List ℕ) (fault : ValueError) → i < length sources
      → field_at values i ≡ Some value
      → IsUnreadKey types (get_or sources i d) value (error.AfterValue field fault)
      → HasBadValue types sources values field fault
  unfolding field_at
  bad-there sources [] i d value field fault within at bad = absurd (cc at)
  bad-there [] (first ∷ values) i d value field fault within at bad = absurd (omega arith)
  bad-there (by ∷ sources) (first ∷ values) zero d value field fault within at bad =
      let same : value ≡ first = cc in
      inl (subst (λ v. IsUnreadKey types by v (error.AfterValue field fault)) same bad)
  bad-there (by ∷ sources) (first ∷ values) (suc i) d value field fault within at bad =
      inr (bad-there sources values i d value field fault (omega arith) at bad)

  -- so the cause of one value is a cause of all
  pub unread-there : (sources : List BySpec) (values : List (List ℕ)) (i : ℕ) (d : BySpec)
      (value : List ℕ) (why : GroupingError) → i < length sources → field_at values i ≡ Some value
      → IsUnreadKey types (get_or sources i d) value why → IsUnreadValue types sources values why
  unread-there sources values i d value error.OutOfMemory within at cause = tt
  unread-there sources values i d value (error.AfterValue field fault) within at cause =
      bad-there sources values i d value field fault within at cause
  unread-there sources values i d value _ within at cause = cause

  -- ---- values from a place on

  -- the values of sources from one on are read as these keys, and as no others
  pub record ReadFrom (sources : List BySpec) (values : List (List ℕ)) (after : Named AfterKey)
      : Type 0 where
    pub keys : List AfterKey
    pub read : AreReadAs types sources values keys
    pub only : (others : List AfterKey) → AreReadAs types sources values others → others ≡ keys
    pub named : after ≡ keys_by_name sources keys

  -- no value is read as no key
  pub none-from : (sources : List BySpec) → ReadFrom sources [] []
  none-from [] = record { keys = []; read = refl; only = λ others is. is; named = refl }
  none-from (by ∷ sources) = record { keys = []; read = refl; only = λ others is. is; named = refl }

  more-keys : (by : BySpec) (sources : List BySpec) (value : List ℕ) (values : List (List ℕ))
      (key : AfterKey)
      (each : (k : CompositeIntermediateKey) → ReadsAs (type_of types by.field.now) value k
      → key.0 ≡ k)
      (keys : List AfterKey)
      → ((others : List AfterKey) → AreReadAs types sources values others → others ≡ keys)
      → (others : List AfterKey) → AreReadAs types (by ∷ sources) (value ∷ values) others
      → others ≡ key ∷ keys
  more-keys by sources value values key each keys only [] read = absurd read
  more-keys by sources value values key each keys only (other ∷ others) read =
      let first : other ≡ key = ap (λ k. record { 0 = k }) (sym (each other.0 read.0)) in
      let later = only others read.1 in
      cc

  -- one value before them
  pub more-from : (by : BySpec) (sources : List BySpec) (value : List ℕ)
      (values : List (List ℕ)) (key : AfterKey) (old new : Named AfterKey)
      → ReadsAs (type_of types by.field.now) value key.0
      → ((k : CompositeIntermediateKey) → ReadsAs (type_of types by.field.now) value k → key.0 ≡ k)
      → ReadFrom sources values old → new ≡ put (column_name (parts by)) key old
      → ReadFrom (by ∷ sources) (value ∷ values) new
  more-from by sources value values key old new reads each later is = record {
    keys = key ∷ later.keys;
    read = (reads, later.read);
    only = more-keys by sources value values key each later.keys later.only;
    named = is ∙ ap (put (column_name (parts by)) key) later.named;
  }

  -- one value before those from a place on
  pub read-step : (sources : List BySpec) (values : List (List ℕ)) (place i : ℕ) (d : BySpec)
      (value : List ℕ) (key : AfterKey) (old new : Named AfterKey)
      → place ≡ suc i → i < length sources → field_at values i ≡ Some value
      → ReadsAs (type_of types (get_or sources i d).field.now) value key.0
      → ((k : CompositeIntermediateKey)
      → ReadsAs (type_of types (get_or sources i d).field.now) value k → key.0 ≡ k)
      → ReadFrom (drop place sources) (drop place values) old
      → new ≡ put (column_name (parts (get_or sources i d))) key old
      → ReadFrom (drop i sources) (drop i values) new
  read-step sources values place i d value key old new next within at reads each later is =
      let rest = subst (λ p. ReadFrom (drop p sources) (drop p values) old) next later in
      let whole = more-from (get_or sources i d) (drop (suc i) sources) value
      (drop (suc i) values) key old new reads each rest is in
      subst (λ bs. ReadFrom bs (drop i values) new) (sym (drop-cons sources i d within))
      (subst (λ vs. ReadFrom (get_or sources i d ∷ drop (suc i) sources) vs new)
      (sym (drop-field values i value at)) whole)

  -- where more values were given, there is no key
  pub too-many : (sources : List BySpec) (values : List (List ℕ)) (after : Named AfterKey)
      → length sources < length values → ¬ (IsKeyOfValues types sources values after)
  too-many sources values after more (keys, read, named) =
      let fewer = read-fewer sources values keys read in absurd (omega arith)

-- a field at a place within a record is there
pub field-some : (fields : List (List ℕ)) (i : ℕ) (found : Option (Bor (List ℕ)))
    → option_map (λ s. s.now) found ≡ field_at fields i → i < length fields → IsSome found
field-some fields i (Some text) is within = search rules
field-some fields i None is within = absurd (field-there fields i within (sym is))

-- a text of more values than there are sources is that of no after key
pub extra-none : (grouping : Grouping) (text : List ℕ) (values : List (List ℕ))
    → values_in text ≡ Some values → length grouping.by.items < length values
    → (after : Named AfterKey) → ¬ (IsAfterText grouping text after)
extra-none grouping text values listed more after is =
    let same : values ≡ is.0 = some-same (sym listed ∙ is.1) in
    too-many grouping.types grouping.by.items values after more
    (subst (λ vs. IsKeyOfValues grouping.types grouping.by.items vs after) (sym same) is.2)
  where
    some-same : {x y : List (List ℕ)} → Some x ≡ Some y → x ≡ y
    some-same e = cc
