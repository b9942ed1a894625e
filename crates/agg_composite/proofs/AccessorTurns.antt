-- Choices of the accessors of a source, which are read in turn in the order of their classes.
use Rattle.std.proofs.Common.{◌≡◌, ℕ, suc, ◌+◌, ◌<◌, ◌^◌, List, [], ◌∷◌, ◌++◌, length, get_or, take}
use Rattle.std.proofs.Common.{map, refl, sym, ap, ◌∙◌, append_assoc, subst, arith, All, zero}
use Rattle.std.proofs.Common.{Bool, filter}
use Rattle.std.specs.List.{AllByRecursion}
use Rattle.std.proofs.lemmas.List.{append-nil, get_or-map, get_or-reverse, length-map}
use Rattle.std.proofs.lemmas.List.{length-reverse, take_more}
use Rattle.std.proofs.lemmas.List.Concat.{flat_map-append}
use Rattle.std.proofs.lemmas.List.Elements.{All-filter, filter-append, recursion_from_All}
use Rattle.agg_values.specs.TypedKey.{CompositeIntermediateKey}
use Rattle.agg_values.specs.declared.order.Order.{Order}
use Rattle.agg_values.specs.declared.order.Order.TheVariants.{Asc, Desc}
use Rattle.agg_segment.specs.storage.Columns.{StandsForKey, StoredColumn, all_keys, column_keys}
use Rattle.agg_segment.specs.storage.Columns.{encoded_key}
use Rattle.agg_request_tree.specs.Ranges.{IsInRange}
use Rattle.agg_request_tree.specs.Source.{is_from, keys_in, min_of, order_of}
use Rattle.agg_request_tree.specs.declared.source.CompositeAggregationSource as kind
use kind.{CompositeAggregationSource}
use Rattle.agg_composite.specs.accessor.Accessors.{IsAccessorOf, keys_from, keys_in_columns}
use Rattle.agg_composite.specs.accessor.Lanes.{columns_of, in_requested}
use Rattle.agg_composite.specs.accessor.Least.{IsLeastIn, is_number_from, least_at, numbers_from}
use Rattle.agg_composite.specs.declared.accessor.accessor.CompositeAccessor.{CompositeAccessor}
use Rattle.agg_composite.specs.declared.accessor.accessor.CompositeSourceAccessors.{
  CompositeSourceAccessors,
}
use Rattle.agg_composite.proofs.lemmas.accessor.LeastValues.{keys-from_numbers, least-here}
use Rattle.agg_composite.proofs.lemmas.accessor.StartRanges.{keys-split}
use Rattle.agg_composite.proofs.lemmas.accessor.KeysGiven.{keys_in-append}
use Rattle.agg_composite.specs.Choices.{AddsChoices, AreChoicesOf, CanRead, IsChoiceOf}
use Rattle.agg_composite.specs.Choices.{divided_choices, index_in}
use Rattle.agg_composite.specs.declared.walk.choice.Choice.{Choice}
use Rattle.agg_composite.proofs.ColumnChoices.{column-chosen}
use Rattle.agg_composite.proofs.Pairs.{AllZip-append}
use Rattle.agg_composite.proofs.ReadNumbers.{fits-from}

-- what stands in the requested order at a turn
requested-at : {A : Type 0} (order : Order) (xs : List A) (turn : ℕ) (d : A) → turn < length xs
    → get_or (in_requested order xs) turn d ≡ get_or xs (index_in order (length xs) turn) d
requested-at Asc xs turn d l = refl
requested-at Desc xs turn d l = get_or-reverse xs turn d l

pub length-requested : {A : Type 0} (order : Order) (xs : List A)
    → length (in_requested order xs) ≡ length xs
length-requested Asc xs = refl
length-requested Desc xs = length-reverse xs

-- the column that is read in a turn
turn-column : (order : Order) (accessors : List CompositeAccessor) (turn index : ℕ)
    (accessor : CompositeAccessor)
    → turn < length accessors → index < length accessors
    → index ≡ index_in order (length accessors) turn
    → accessor ≡ get_or accessors index accessor
    → get_or (in_requested order (columns_of accessors)) turn accessor.column.now
    ≡ accessor.column.now
turn-column order accessors turn index accessor l within is accessor_is =
    let column : CompositeAccessor → StoredColumn = λ x. x.column.now in
    let long : length (columns_of accessors) ≡ length accessors = length-map accessors column in
    requested-at order (columns_of accessors) turn accessor.column.now (omega (arith, long, l))
    ∙ ap (λ n. get_or (columns_of accessors) (index_in order n turn) accessor.column.now) long
    ∙ ap (λ n. get_or (columns_of accessors) n accessor.column.now) (sym is)
    ∙ get_or-map column accessors index accessor accessor.column.now within
    ∙ ap column (sym accessor_is)

-- what columns read, one more
pub all_keys-append : (doc : ℕ) (xs ys : List StoredColumn)
    → all_keys (xs ++ ys) doc ≡ all_keys xs doc ++ all_keys ys doc
all_keys-append doc xs ys = flat_map-append (λ column. column_keys column doc) xs ys

pub turn-keys : (columns : List StoredColumn) (turn doc : ℕ) (column : StoredColumn)
    → turn < length columns → get_or columns turn column ≡ column
    → all_keys (take (turn + 1) columns) doc
    ≡ all_keys (take turn columns) doc ++ column_keys column doc
turn-keys columns turn doc column l is =
    ap (λ xs. all_keys xs doc) (take_more columns turn column l)
    ∙ all_keys-append doc (take turn columns) (get_or columns turn column ∷ [])
    ∙ ap (λ ks. all_keys (take turn columns) doc ++ ks)
    (append-nil (column_keys (get_or columns turn column) doc)
    ∙ ap (λ (x : StoredColumn). column_keys x doc) is)

-- what holds of the keys of columns that pass holds of those of the column that is read in a turn
turn-range : (P : CompositeIntermediateKey → Type 0) (p : CompositeIntermediateKey → Bool)
    (columns : List StoredColumn) (turn doc : ℕ) (column : StoredColumn)
    → turn < length columns → get_or columns turn column ≡ column
    → AllByRecursion P (filter p (all_keys columns doc))
    → AllByRecursion P (filter p (column_keys column doc))
turn-range P p [] turn doc column l is all = absurd (omega arith)
turn-range P p (c ∷ columns) zero doc column l is all =
    subst (λ (x : StoredColumn). AllByRecursion P (filter p (column_keys x doc))) is
    (keys-split P p doc c columns all).0
turn-range P p (c ∷ columns) (suc turn) doc column l is all =
    turn-range P p columns turn doc column (omega (arith, l)) is
    (keys-split P p doc c columns all).1

-- the keys of a document in a column that aren't below the source's least value
abbrev pub read_in : CompositeAggregationSource → StoredColumn → ℕ
    → List CompositeIntermediateKey
read_in source column doc = filter (is_from (min_of source)) (column_keys column doc)

-- choices of one more column
pub turn-chosen : (source : CompositeAggregationSource) (a : CompositeSourceAccessors)
    (columns : List StoredColumn) (turn doc : ℕ) (column : StoredColumn)
    (before now then own : List Choice)
    → turn < length columns → get_or columns turn column ≡ column
    → AddsChoices source a doc (keys_in source (keys_from source (take turn columns) doc)) before
    now
    → then ≡ now ++ own
    → (CanRead source a doc
    → AreChoicesOf source a own (keys_in source (read_in source column doc)))
    → AddsChoices source a doc (keys_in source (keys_from source (take (turn + 1) columns) doc))
    before then
turn-chosen source a columns turn doc column before now then own l is so_far e p =
    let from = is_from (min_of source) in
    let front = keys_from source (take turn columns) doc in
    let here = read_in source column doc in (
      so_far.0 ++ own,
      e ∙ ap (λ cs. cs ++ own) so_far.1 ∙ append_assoc before so_far.0 own,
      λ can. subst (AreChoicesOf source a (so_far.0 ++ own))
          (sym (ap (λ ks. keys_in source (filter from ks)) (turn-keys columns turn doc column l is)
          ∙ ap (keys_in source)
          (filter-append from (all_keys (take turn columns) doc) (column_keys column doc))
          ∙ keys_in-append source front here))
          (AllZip-append (IsChoiceOf source a) so_far.0 own (keys_in source front)
          (keys_in source here) (so_far.2 can) (p can)),
    )

-- what is read in a turn: the next column, and choices of its keys in the document
pub record TurnRead (source : CompositeAggregationSource) (a : CompositeSourceAccessors)
    (columns : List StoredColumn) (turn doc : ℕ) (column : StoredColumn) (choices : List Choice)
    : Type 0 where
  pub within : turn < length columns
  pub next : get_or columns turn column ≡ column
  pub chosen : CanRead source a doc
      → AreChoicesOf source a choices (keys_in source (read_in source column doc))

pub turn-read : (source : CompositeAggregationSource) (a : CompositeSourceAccessors) (order : Order)
    (accessors : List CompositeAccessor) (turn index doc : ℕ) (found : CompositeAccessor)
    (numbers : List ℕ)
    → order ≡ order_of source → accessors ≡ a.accessors → turn < length accessors
    → index < length accessors → index ≡ index_in order (length accessors) turn
    → found ≡ get_or accessors index found
    → ((j : ℕ) → get_or numbers j 0 < 2 ^ 64)
    → All (StandsForKey found.column.now.keys) numbers
    → map (encoded_key found.column.now.keys) numbers ≡ column_keys found.column.now doc
    → TurnRead source a (in_requested order (columns_of accessors)) turn doc found.column.now
    (divided_choices source a found index (numbers_from (least_at a.min index) numbers))
turn-read source a order accessors turn index doc found numbers ordered same l within is found_is
    fits stand keys =
    let own_is : found ≡ get_or a.accessors index found =
    found_is ∙ ap (λ xs. get_or xs index found) same in
    let long = length-requested order (columns_of accessors)
    ∙ length-map accessors (λ (x : CompositeAccessor). x.column.now) in
    let long_same = ap length same in
    let here : index < length a.accessors = omega (arith, within, long_same) in
    let columns = in_requested order (columns_of accessors) in
    let from = is_from (min_of source) in
    let place = least_at a.min index in
    let inside : turn < length columns = omega (arith, long, l) in
    let next : get_or columns turn found.column.now ≡ found.column.now =
    turn-column order accessors turn index found l within is found_is in
    record {
      within = inside;
      next = next;
      chosen = λ can.
          let all : AllByRecursion (IsInRange source) (keys_from source columns doc) =
          subst (AllByRecursion (IsInRange source))
          (sym (λ j. keys_from source (in_requested (ordered j) (columns_of (same j))) doc))
          (recursion_from_All (IsInRange source) (keys_in_columns source a.accessors doc)
          can.range) in
          let least : IsLeastIn found.column.now.keys (min_of source) place =
          least-here (min_of source) a a.accessors index found place can.least refl here own_is refl
          in
          let read : map (encoded_key found.column.now.keys) (numbers_from place numbers)
          ≡ read_in source found.column.now doc =
          sym (keys-from_numbers found.column.now.keys (min_of source) place least numbers stand)
          ∙ ap (filter from) keys in
          column-chosen source a index found (numbers_from place numbers)
          (read_in source found.column.now doc) here own_is (fits-from place numbers fits)
          (All-filter (is_number_from place) (StandsForKey found.column.now.keys) numbers stand)
          read can.interval
          (subst (IsAccessorOf source) (sym own_is) (can.each index found here))
          (subst (AllByRecursion (IsInRange source)) (sym read)
          (turn-range (IsInRange source) from columns turn doc found.column.now inside next all));
    }
