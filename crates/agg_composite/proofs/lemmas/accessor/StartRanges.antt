-- The starts for what accessors hold are those for the values of their fields, in range or not.
use Rattle.std.proofs.Common.{◌≡◌, ◌<◌, ◌≤◌, ◌+◌, ◌-◌, ◌++◌, ℕ, ℤ, zero, suc, List, [], ◌∷◌, All}
use Rattle.std.proofs.Common.{Bool, filter}
use Rattle.std.proofs.Common.{length, get_or, map, reverse, take, refl, sym, ap, ◌∙◌, subst, arith}
use Rattle.std.specs.List.{AllByRecursion, AllZip}
use Rattle.std.specs.Prelude.{option_map}
use Rattle.std.proofs.lemmas.List.{get_or-map, get_or-reverse, length-map, length-reverse}
use Rattle.std.proofs.lemmas.List.{reverse-reverse, take_all, take_more}
use Rattle.std.proofs.lemmas.List.Elements.{All-from_recursion, All-map, filter-append}
use Rattle.std.proofs.lemmas.List.Elements.{recursion_from_All}
use Rattle.std.proofs.lemmas.Slice.Zip.{all_zipped_more}
use Rattle.agg_values.specs.Names.{Named}
use Rattle.agg_values.specs.TypedKey.{CompositeIntermediateKey, canonical_key}
use Rattle.agg_values.specs.declared.after_key.AfterKey.{AfterKey}
use Rattle.agg_values.specs.declared.order.Order.{Order}
use Rattle.agg_values.specs.declared.order.Order.TheVariants.{Asc, Desc}
use Rattle.agg_calendar.specs.declared.interval.PrecomputedDateInterval.{PrecomputedDateInterval}
use Rattle.agg_segment.specs.storage.Columns.{StoredColumn, all_keys, column_keys}
use Rattle.agg_segment.specs.Segment.{Stored, document_at}
use Rattle.agg_request_tree.specs.Faults.{HasInterval}
use Rattle.agg_request_tree.specs.Ranges.{AreInRange, IsInRange}
use Rattle.agg_request_tree.specs.Source.{Sources, date_of, field_of, is_from, min_of}
use Rattle.agg_request_tree.specs.Source.{order_of, start_by, start_in, values_from}
use Rattle.agg_request_tree.specs.declared.source.CompositeAggregationSource as kind
use kind.{CompositeAggregationSource}
use kind.TheVariants.{DateHistogram, Histogram, Terms}
use Rattle.agg_request_tree.proofs.Faults.{HasInterval-large}
use Rattle.agg_composite.specs.accessor.Accessors.{AllFit, AreOfField, IsDivisionOf}
use Rattle.agg_composite.specs.accessor.Accessors.{keys_in_columns}
use Rattle.agg_composite.specs.accessor.Ranges.{AreAllInRange}
use Rattle.agg_composite.specs.accessor.Lanes.{columns_of, in_requested}
use Rattle.agg_composite.specs.accessor.Ranges.{AreColumnsWithin, IsDocumentWithin, divisor_at}
use Rattle.agg_request_tree.specs.Ranges.{IsWithin}
use Rattle.agg_composite.specs.accessor.Starts.{divided, divisor_of}
use Rattle.agg_composite.specs.declared.accessor.accessor.CompositeAccessor.{CompositeAccessor}
use Rattle.agg_composite.specs.declared.accessor.accessor.CompositeSourceAccessors.{
  CompositeSourceAccessors,
}
use Rattle.agg_composite.specs.declared.accessor.divisor.Divisor.{Divisor}
use Rattle.agg_composite.proofs.lemmas.accessor.Divisors.{numbers-divide, time-divides}
use Rattle.agg_composite.proofs.lemmas.accessor.FieldColumns.{starts-of_field}
use Rattle.agg_composite.proofs.lemmas.accessor.KeysGiven.{range-alike, starts-canonical}
use Rattle.agg_composite.proofs.lemmas.accessor.LeastValues.{values-from_canonical}

-- ---- lists

module _ {A : Type 0} (Q : A → Type 0) where
  reversed-all : (xs : List A) → All Q xs → All Q (reverse xs)
  reversed-all xs all i d l =
      let long = length-reverse xs in
      subst Q (sym (get_or-reverse xs i d (omega (arith, l, long))))
      (all (length xs - 1 - i) d (omega (arith, l, long)))

  -- what holds of all holds of all in the requested order, and back
  requested-all : (order : Order) (xs : List A) → All Q xs → All Q (in_requested order xs)
  requested-all Asc xs all = all
  requested-all Desc xs all = reversed-all xs all

  given-all : (order : Order) (xs : List A) → All Q (in_requested order xs) → All Q xs
  given-all Asc xs all = all
  given-all Desc xs all =
      subst (All Q) (reverse-reverse xs) (reversed-all (reverse xs) all)

  joined-all : (xs ys : List A) → AllByRecursion Q xs → AllByRecursion Q ys
      → AllByRecursion Q (xs ++ ys)
  joined-all [] ys all rest = rest
  joined-all (x ∷ xs) ys all rest = (all.0, joined-all xs ys all.1 rest)

-- what holds of what a function gives holds of what it gives for each
pub from-map : {A B : Type 0} (Q : B → Type 0) (f : A → B) (xs : List A) → All Q (map f xs)
    → All (λ x. Q (f x)) xs
from-map Q f xs all i d l =
    let long = length-map xs f in
    subst Q (get_or-map f xs i d (f d) l) (all i (f d) (omega (arith, l, long)))

-- what holds of two lists in a row holds of each
pub in_front : {A : Type 0} (P : A → Type 0) (xs ys : List A) → AllByRecursion P (xs ++ ys)
    → AllByRecursion P xs × AllByRecursion P ys
in_front P [] ys all = (tt, all)
in_front P (x ∷ xs) ys all =
    let rest = in_front P xs ys all.1 in ((all.0, rest.0), rest.1)

-- ---- keys of columns

module _ (P : CompositeIntermediateKey → Type 0) (p : CompositeIntermediateKey → Bool) (doc : ℕ)
  where
    keys-all : (columns : List StoredColumn)
        → All (λ c. All P (filter p (column_keys c doc))) columns
        → AllByRecursion P (filter p (all_keys columns doc))
    keys-all [] all = tt
    keys-all (c ∷ columns) all =
        subst (AllByRecursion P)
        (sym (filter-append p (column_keys c doc) (all_keys columns doc)))
        (joined-all P (filter p (column_keys c doc)) (filter p (all_keys columns doc))
        (recursion_from_All P (filter p (column_keys c doc)) (all 0 c (omega arith)))
        (keys-all columns (λ i d l. all (suc i) d (omega (arith, l)))))

    -- what holds of the keys that pass holds of those of the first column, and of the others
    pub keys-split : (c : StoredColumn) (columns : List StoredColumn)
        → AllByRecursion P (filter p (all_keys (c ∷ columns) doc))
        → AllByRecursion P (filter p (column_keys c doc))
        × AllByRecursion P (filter p (all_keys columns doc))
    keys-split c columns all =
        in_front P (filter p (column_keys c doc)) (filter p (all_keys columns doc))
        (subst (AllByRecursion P) (filter-append p (column_keys c doc) (all_keys columns doc)) all)

    keys-each : (columns : List StoredColumn)
        → AllByRecursion P (filter p (all_keys columns doc))
        → All (λ c. All P (filter p (column_keys c doc))) columns
    keys-each [] all i d l = absurd (omega (arith, l))
    keys-each (c ∷ columns) all zero d l =
        All-from_recursion P (filter p (column_keys c doc)) (keys-split c columns all).0
    keys-each (c ∷ columns) all (suc i) d l =
        keys-each columns (keys-split c columns all).1 i d (omega (arith, l))

-- ---- accessors

-- a source's divisor gives its starts
divisor-start : (source : CompositeAggregationSource) (interval : PrecomputedDateInterval)
    (offset : ℤ) (k : CompositeIntermediateKey)
    → HasInterval source → IsDivisionOf source interval offset
    → divided (divisor_of source interval offset) k ≡ start_in source k
divisor-start (Terms s) interval offset k has is = refl
divisor-start (Histogram s) interval offset k has is =
    ap (λ (d : Divisor). divided d k) (numbers-divide s.interval (HasInterval-large s has))
divisor-start (DateHistogram s) interval offset k has is =
    ap (λ (d : Divisor). divided d k) (time-divides interval offset is.1)
    ∙ (λ x. option_map (start_by (sym is.0 x)) (date_of k))

module _ (segment : Stored) (source : CompositeAggregationSource)
    (accessors : List CompositeAccessor) (of_field : AreOfField segment source accessors)
    (doc : ℕ) where
  -- the starts for the keys of an accessor's column lie within i64
  abbrev OwnWithin : CompositeAccessor → Type 0
  OwnWithin a = IsDocumentWithin (min_of source) (divisor_at source a) a.column.now doc

  -- those for the values of the field do
  abbrev FieldWithin : Type 0
  FieldWithin = All (IsInRange source) (values_from source (document_at segment doc))

  -- what isn't below the source's least value
  abbrev from : List CompositeIntermediateKey → List CompositeIntermediateKey
  from ks = filter (is_from (min_of source)) ks

  abbrev values : List CompositeIntermediateKey
  values = from (document_at segment doc (field_of source))

  -- they are the values that the source reads
  values-are : map canonical_key values ≡ values_from source (document_at segment doc)
  values-are =
      sym (values-from_canonical (min_of source) (document_at segment doc (field_of source)))

  -- how a key of an accessor starts
  own-start : (i : ℕ) (d : CompositeAccessor) → i < length accessors
      → (k : CompositeIntermediateKey)
      → divided (divisor_at source (get_or accessors i d)) k ≡ start_in source k
  own-start i d l k =
      let a = get_or accessors i d in
      divisor-start source a.date_histogram_interval a.date_offset_ns k of_field.interval
      (of_field.each i d l).division

  columns-field : All OwnWithin accessors → FieldWithin
  unfolding IsDocumentWithin
  columns-field all =
      let each : All (λ (a : CompositeAccessor). All (IsInRange source)
      (from (column_keys a.column.now doc))) accessors =
      λ i d l j k m. subst IsWithin (own-start i d l _) (all i d l j k m) in
      subst (All (IsInRange source)) values-are
      (All-from_recursion (IsInRange source) (map canonical_key values)
      (range-alike source (map canonical_key values) (keys_in_columns source accessors doc)
      (starts-canonical source values ∙ sym (starts-of_field segment source accessors of_field doc))
      (keys-all (IsInRange source) (is_from (min_of source)) doc
      (in_requested (order_of source) (columns_of accessors))
      (requested-all (λ c. All (IsInRange source) (from (column_keys c doc))) (order_of source)
      (columns_of accessors)
      (All-map (λ c. All (IsInRange source) (from (column_keys c doc))) (λ a. a.column.now)
      accessors each)))))

  field-columns : FieldWithin → All OwnWithin accessors
  unfolding IsDocumentWithin
  field-columns all =
      let each = from-map (λ (c : StoredColumn). All (IsInRange source) (from (column_keys c doc)))
      (λ (a : CompositeAccessor). a.column.now) accessors
      (given-all (λ c. All (IsInRange source) (from (column_keys c doc))) (order_of source)
      (columns_of accessors)
      (keys-each (IsInRange source) (is_from (min_of source)) doc
      (in_requested (order_of source) (columns_of accessors))
      (range-alike source (keys_in_columns source accessors doc) (map canonical_key values)
      (starts-of_field segment source accessors of_field doc ∙ sym (starts-canonical source values))
      (recursion_from_All (IsInRange source) (map canonical_key values)
      (subst (All (IsInRange source)) (sym values-are) all))))) in
      λ i d l j k m. subst IsWithin (sym (own-start i d l _)) (each i d l j k m)

-- ---- documents

-- the starts of each source in the columns of its accessors lie within i64
abbrev pub AreSourcesWithin : Sources → List CompositeSourceAccessors → List ℕ → Type 0
AreSourcesWithin sources accessors docs =
    AllZip (λ source a. AreColumnsWithin source a.accessors docs) sources accessors

module _ (segment : Stored) (after : Named AfterKey) (docs : List ℕ) where
  -- the starts of what a source reads in the documents lie within i64
  abbrev SourceWithin : CompositeAggregationSource → Type 0
  SourceWithin source =
      All (λ doc. All (IsInRange source) (values_from source (document_at segment doc))) docs

  sources-values : (sources : Sources) (accessors : List CompositeSourceAccessors)
      → AllFit segment after sources accessors → AreSourcesWithin sources accessors docs
      → AllByRecursion SourceWithin sources
  sources-values [] [] fit all = tt
  sources-values [] (a ∷ accessors) fit all = absurd fit
  sources-values (source ∷ sources) [] fit all = absurd fit
  sources-values (source ∷ sources) (a ∷ accessors) fit all = (
    λ j doc m. columns-field segment source a.accessors fit.0.columns (get_or docs j doc)
        (λ i d l. all.0 i d l j doc m),
    sources-values sources accessors fit.1 all.1,
  )

  values-sources : (sources : Sources) (accessors : List CompositeSourceAccessors)
      → AllFit segment after sources accessors → AllByRecursion SourceWithin sources
      → AreSourcesWithin sources accessors docs
  values-sources [] [] fit all = tt
  values-sources [] (a ∷ accessors) fit all = absurd fit
  values-sources (source ∷ sources) [] fit all = absurd fit
  values-sources (source ∷ sources) (a ∷ accessors) fit all = (
    λ i d l j doc m. field-columns segment source a.accessors fit.0.columns (get_or docs j doc)
        (all.0 j doc m) i d l,
    values-sources sources accessors fit.1 all.1,
  )

  -- the documents are in range where the columns are
  pub within-range : (sources : Sources) (accessors : List CompositeSourceAccessors)
      → AllFit segment after sources accessors → AreSourcesWithin sources accessors docs
      → AreAllInRange segment sources docs
  within-range sources accessors fit all =
      let each = All-from_recursion SourceWithin sources (sources-values sources accessors fit all)
      in
      All-map (AreInRange sources) (document_at segment) docs
      (λ j doc m i source l. each i source l j doc m)

  pub range-within : (sources : Sources) (accessors : List CompositeSourceAccessors)
      → AllFit segment after sources accessors → AreAllInRange segment sources docs
      → AreSourcesWithin sources accessors docs
  range-within sources accessors fit all =
      let each = from-map (AreInRange sources) (document_at segment) docs all in
      values-sources sources accessors fit (recursion_from_All SourceWithin sources
      (λ i source l j doc m. each j doc m i source l))

-- ---- one source more

pub within-at : (sources : Sources) (accessors : List CompositeSourceAccessors) (docs : List ℕ)
    (i : ℕ) (source : CompositeAggregationSource) (a : CompositeSourceAccessors)
    → i < length sources → get_or sources i source ≡ source → get_or accessors i a ≡ a
    → AreSourcesWithin sources accessors docs → AreColumnsWithin source a.accessors docs
within-at [] accessors docs i source a l s_is a_is all = absurd (omega arith)
within-at (s ∷ sources) [] docs i source a l s_is a_is all = absurd all
within-at (s ∷ sources) (b ∷ accessors) docs zero source a l s_is a_is all =
    subst (λ (p : CompositeAggregationSource × CompositeSourceAccessors).
    AreColumnsWithin p.0 p.1.accessors docs) (λ x. (s_is x, a_is x)) all.0
within-at (s ∷ sources) (b ∷ accessors) docs (suc i) source a l s_is a_is all =
    within-at sources accessors docs i source a (omega (arith, l)) s_is a_is all.1

-- those of one more source that is looked at
pub within-next : (sources : Sources) (accessors : List CompositeSourceAccessors) (docs : List ℕ)
    (i : ℕ) (source : CompositeAggregationSource) (a : CompositeSourceAccessors)
    (own : List CompositeAccessor)
    → i < length sources → i < length accessors
    → get_or sources i source ≡ source → get_or accessors i a ≡ a → own ≡ a.accessors
    → AreSourcesWithin (take i sources) (take i accessors) docs
    → AreColumnsWithin source own docs
    → AreSourcesWithin (take (i + 1) sources) (take (i + 1) accessors) docs
within-next sources accessors docs i source a own l m s_is a_is own_is so_far here =
    let one : take (i + 1) sources ≡ take i sources ++ source ∷ [] =
    take_more sources i source l ∙ ap (λ x. take i sources ++ x ∷ []) s_is in
    let other : take (i + 1) accessors ≡ take i accessors ++ a ∷ [] =
    take_more accessors i a m ∙ ap (λ x. take i accessors ++ x ∷ []) a_is in
    subst (λ (p : Sources × List CompositeSourceAccessors). AreSourcesWithin p.0 p.1 docs)
    (λ x. (sym one x, sym other x))
    (all_zipped_more (λ (s : CompositeAggregationSource) (b : CompositeSourceAccessors).
    AreColumnsWithin s b.accessors docs) (take i sources) (take i accessors) source a so_far
    (subst (λ xs. AreColumnsWithin source xs docs) own_is here))

-- those of all sources
pub within-whole : (sources : Sources) (accessors : List CompositeSourceAccessors)
    (docs : List ℕ) (i : ℕ) → length sources ≤ i → length sources ≡ length accessors
    → AreSourcesWithin (take i sources) (take i accessors) docs
    → AreSourcesWithin sources accessors docs
within-whole sources accessors docs i past long all =
    subst (λ (p : Sources × List CompositeSourceAccessors). AreSourcesWithin p.0 p.1 docs)
    (λ x. (take_all i sources past x, take_all i accessors (omega (arith, past, long)) x)) all
