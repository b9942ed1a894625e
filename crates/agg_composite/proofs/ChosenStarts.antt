-- The starts of a column's values are choices of the keys that a source gives for the values.
use Rattle.std.proofs.Common.{◌≡◌, ◌<◌, ◌^◌, ℕ, ℤ, pos, List, [], ◌∷◌, Bool}
use Rattle.std.proofs.Common.{Ok, Option, Result, Some, cond, false, inr, length, map, true}
use Rattle.std.proofs.Common.{refl, sym, ap, ◌∙◌, subst, arith}
use Rattle.std.specs.Int.{int_div_euclid, w64}
use Rattle.std.specs.List.{AllByRecursion, cons_option}
use Rattle.std.specs.Prelude.{◌≤ℤ◌, ◌-ℤ◌, FitsSigned, MatchOption, filter_map, int_lt, option_map}
use Rattle.std.specs.Prelude.{⊤, unsigned_abs}
use Rattle.std.proofs.lemmas.Int.{ints}
use Rattle.agg_values.specs.TypedKey.{CompositeIntermediateKey, typed_number}
use Rattle.agg_values.specs.declared.typed_key.CompositeIntermediateKey.TheVariants as key
use Rattle.agg_values.specs.declared.request_error.RequestError.{RequestError}
use Rattle.agg_calendar.specs.Start.{IsUsable, fixed_start}
use Rattle.agg_calendar.specs.declared.interval.PrecomputedDateInterval as interval
use interval.{PrecomputedDateInterval}
use Rattle.agg_segment.specs.storage.Columns.{StandsForKey, encoded_key, type_of}
use Rattle.agg_segment.specs.declared.storage.keys.ColumnKeys.{ColumnKeys}
use Rattle.agg_segment.specs.declared.storage.keys.ColumnKeys.TheVariants.{Bools, Texts, Signed}
use Rattle.agg_segment.specs.declared.storage.keys.ColumnKeys.TheVariants.{Unsigned, Addresses}
use Rattle.agg_segment.specs.declared.storage.keys.ColumnKeys.TheVariants.{Dates}
use Rattle.agg_request_tree.specs.Ranges.{IsInRange}
use Rattle.agg_request_tree.specs.Source.{counted_number, date_of, division_of, keys_in, order_of}
use Rattle.agg_request_tree.specs.Source.{start_by, start_in}
use Rattle.agg_request_tree.specs.SourceColumns.{reads_type}
use Rattle.agg_request_tree.specs.declared.source.CompositeAggregationSource as kind
use kind.{CompositeAggregationSource}
use kind.TheVariants.{DateHistogram, Histogram}
use Rattle.agg_request_tree.specs.declared.source.DateHistogramCompositeAggregationSource as dates
use dates.{DateHistogramCompositeAggregationSource as Dated}
use Rattle.agg_request_tree.specs.declared.source.HistogramCompositeAggregationSource as numbers
use numbers.{HistogramCompositeAggregationSource as Counted}
use Rattle.agg_composite.specs.Choices.{AreChoicesOf, choice_at}
use Rattle.agg_composite.specs.accessor.Lanes.{keys_at, lanes}
use Rattle.agg_composite.specs.accessor.Places.{moved_up}
use Rattle.agg_composite.specs.accessor.Starts.{by_numbers, by_time, is_within, lane_number}
use Rattle.agg_composite.specs.accessor.Starts.{start_number}
use Rattle.agg_composite.specs.declared.accessor.accessor.CompositeSourceAccessors.{
  CompositeSourceAccessors,
}
use Rattle.agg_composite.specs.declared.accessor.divisor.Divisor.{Divisor}
use Rattle.agg_composite.specs.declared.walk.choice.Choice.{Choice}
use Rattle.agg_composite.proofs.lemmas.accessor.Divisors.{numbers-divide, time-divides}
use Rattle.agg_composite.proofs.lemmas.accessor.LaneKeys.{numbers-at}

-- ---- starts within i64

within : (start : ℤ) → FitsSigned w64 start → is_within start ≡ true
within start fits = grind (arith, ints)

pub below-limit : (start : ℤ) → FitsSigned w64 start → moved_up start < 2 ^ 64
below-limit start fits = grind (arith, ints)

up-down : (start : ℤ) → FitsSigned w64 start
    → start ≡ pos (moved_up start) -ℤ pos (2 ^ 63)
up-down start fits = grind (arith, ints)

below-large : (start : ℤ) → FitsSigned w64 start → int_lt start (pos (2 ^ 63)) ≡ true
below-large start fits = grind (arith, ints)

-- a start is the key that its number stands for, as a number and as a date
number-key : (start : ℤ) → FitsSigned w64 start
    → typed_number start ≡ encoded_key Signed (moved_up start)
number-key start fits =
    ap (λ b. cond b (key.I64 start) (key.U64 (unsigned_abs start))) (below-large start fits)
    ∙ ap (λ n. key.I64 n) (up-down start fits)

date-key : (start : ℤ) → FitsSigned w64 start
    → key.DateTime start ≡ encoded_key Dates (moved_up start)
date-key start fits = ap (λ n. key.DateTime n) (up-down start fits)

-- ---- starts as choices

-- a value starts within i64
abbrev pub StartsWithin : (CompositeIntermediateKey → Option ℤ) → CompositeIntermediateKey → Type 0
StartsWithin f k = (start : ℤ) × (f k ≡ Some start) × FitsSigned w64 start

module _ (source : CompositeAggregationSource) (a : CompositeSourceAccessors) (lane : ℕ)
    (l : lane < length (lanes source a.accessors)) (own : ColumnKeys)
    (lane_is : keys_at source a.accessors lane ≡ own) (key_of : ℤ → CompositeIntermediateKey)
    (stands : (start : ℤ) → FitsSigned w64 start
    → StandsForKey own (moved_up start) × (key_of start ≡ encoded_key own (moved_up start)))
    (f : CompositeIntermediateKey → Option ℤ) (keys : ColumnKeys) where
  -- the number of a start as a choice
  abbrev start_choice : Option ℤ → Choice
  start_choice start = choice_at (order_of source) a lane (start_number start)

  -- the starts of numbers
  starts-chosen : (numbers : List ℕ)
      → AllByRecursion (λ n. StartsWithin f (encoded_key keys n)) numbers
      → AreChoicesOf source a (map (λ n. start_choice (f (encoded_key keys n))) numbers)
      (map key_of (filter_map f (map (encoded_key keys) numbers)))
  starts-chosen [] all = tt
  starts-chosen (n ∷ numbers) all =
      let start = all.0.0 in
      let fits = all.0.2 in
      let number = moved_up start in
      let facts = stands start fits in
      let rest = map (λ n. start_choice (f (encoded_key keys n))) numbers in
      let others = filter_map f (map (encoded_key keys) numbers) in
      let number_is : start_number (Some start) ≡ number =
      ap (λ b. cond b number 0) (within start fits) in
      subst (λ (o : Option ℤ). AreChoicesOf source a (start_choice o ∷ rest)
      (map key_of (cons_option o others))) (sym all.0.1) (
        inr (
          lane,
          number,
          l,
          below-limit start fits,
          subst (λ (k : ColumnKeys). StandsForKey k number) (sym lane_is) facts.0,
          ap (choice_at (order_of source) a lane) number_is,
          facts.1 ∙ ap (λ (k : ColumnKeys). encoded_key k number) (sym lane_is),
        ),
        starts-chosen numbers all.1,
      )

-- ---- what sources read starts

number-start : (width n : ℤ) (m : ℕ) (b : Bool)
    → (start : ℤ)
    × (option_map (fixed_start width) (counted_number (cond b (key.I64 n) (key.U64 m)))
    ≡ Some start)
number-start width n m true = (fixed_start width n, refl)
number-start width n m false = (fixed_start width (pos m), refl)

-- what is counted has a start
counted-start : (s : Counted) (keys : ColumnKeys)
    → reads_type (Histogram s) (type_of keys) ≡ true → (n : ℕ)
    → (start : ℤ) × (start_in (Histogram s) (encoded_key keys n) ≡ Some start)
counted-start s Bools is n = absurd (cc is)
counted-start s (Texts texts) is n = absurd (cc is)
counted-start s Signed is n = (fixed_start s.interval (pos n -ℤ pos (2 ^ 63)), refl)
counted-start s Unsigned is n =
    number-start s.interval (pos n) (unsigned_abs (pos n)) (int_lt (pos n) (pos (2 ^ 63)))
counted-start s (Addresses addresses) is n = absurd (cc is)
counted-start s Dates is n =
    (fixed_start s.interval (int_div_euclid (pos n -ℤ pos (2 ^ 63)) (pos 1_000_000)), refl)

-- what a date source reads is of dates
dates-alone : (s : Dated) (keys : ColumnKeys)
    → reads_type (DateHistogram s) (type_of keys) ≡ true → keys ≡ Dates
dates-alone s Bools is = absurd (cc is)
dates-alone s (Texts texts) is = absurd (cc is)
dates-alone s Signed is = absurd (cc is)
dates-alone s Unsigned is = absurd (cc is)
dates-alone s (Addresses addresses) is = absurd (cc is)
dates-alone s Dates is = refl

-- each start in range is within i64
each-within : (f : CompositeIntermediateKey → Option ℤ) (keys : ColumnKeys)
    → ((n : ℕ) → (start : ℤ) × (f (encoded_key keys n) ≡ Some start)) → (numbers : List ℕ)
    → AllByRecursion (λ k. MatchOption (f k) ⊤ (λ start. FitsSigned w64 start))
    (map (encoded_key keys) numbers)
    → AllByRecursion (λ n. StartsWithin f (encoded_key keys n)) numbers
each-within f keys each [] all = tt
each-within f keys each (n ∷ numbers) all =
    let found = each n in
    let fits = subst (λ (o : Option ℤ). MatchOption o ⊤ (λ start. FitsSigned w64 start)) found.1
    all.0 in
    ((found.0, found.1, fits), each-within f keys each numbers all.1)

-- ---- the numbers of a column

module _ (a : CompositeSourceAccessors) (keys : ColumnKeys) (numbers : List ℕ) where
  -- as starts of a histogram
  pub counted-chosen : (s : Counted) → pos 1 ≤ℤ s.interval
      → 0 < length (lanes (Histogram s) a.accessors)
      → reads_type (Histogram s) (type_of keys) ≡ true
      → AllByRecursion (IsInRange (Histogram s)) (map (encoded_key keys) numbers)
      → AreChoicesOf (Histogram s) a
      (map (λ n. choice_at s.order a 0 (lane_number (by_numbers s.interval) keys n)) numbers)
      (keys_in (Histogram s) (map (encoded_key keys) numbers))
  counted-chosen s least l reads all =
      let source = Histogram s in
      subst (λ (d : Divisor). AreChoicesOf source a
      (map (λ n. choice_at s.order a 0 (lane_number d keys n)) numbers)
      (keys_in source (map (encoded_key keys) numbers)))
      (sym (numbers-divide s.interval least))
      (starts-chosen source a 0 l Signed (numbers-at a.accessors 0 l) typed_number
      (λ start fits. (below-limit start fits, number-key start fits)) (start_in source) keys
      numbers (each-within (start_in source) keys (counted-start s keys reads) numbers all))

  -- as starts of a date source
  pub dates-chosen : (s : Dated) (i : ℕ) (interval : PrecomputedDateInterval) (offset : ℤ)
      → division_of s ≡ Ok (interval, offset) → IsUsable interval
      → i < length (lanes (DateHistogram s) a.accessors)
      → keys_at (DateHistogram s) a.accessors i ≡ keys
      → reads_type (DateHistogram s) (type_of keys) ≡ true
      → AllByRecursion (IsInRange (DateHistogram s)) (map (encoded_key keys) numbers)
      → AreChoicesOf (DateHistogram s) a
      (map (λ n. choice_at s.order a i (lane_number (by_time interval offset) keys n)) numbers)
      (keys_in (DateHistogram s) (map (encoded_key keys) numbers))
  dates-chosen s i interval offset is usable l lane reads all =
      let source = DateHistogram s in
      let dated = dates-alone s keys reads in
      subst (λ (d : Divisor). AreChoicesOf source a
      (map (λ n. choice_at s.order a i (lane_number d keys n)) numbers)
      (keys_in source (map (encoded_key keys) numbers)))
      (sym (time-divides interval offset usable))
      (subst (λ (r : Result (PrecomputedDateInterval × ℤ) RequestError). AreChoicesOf source a
      (map (λ n. choice_at s.order a i
      (start_number (option_map (start_by r) (date_of (encoded_key keys n))))) numbers)
      (keys_in source (map (encoded_key keys) numbers))) is
      (starts-chosen source a i l Dates (lane ∙ dated) (λ n. key.DateTime n)
      (λ start fits. (below-limit start fits, date-key start fits)) (start_in source) keys
      numbers (each-within (start_in source) keys
      (λ n. subst (λ (k : ColumnKeys). (start : ℤ)
      × (start_in source (encoded_key k n) ≡ Some start)) (sym dated)
      (start_by (division_of s) (pos n -ℤ pos (2 ^ 63)), refl)) numbers all)))
