-- The source that is asked for.
use Rattle.std.proofs.Common.{◌≡◌, ◌∙◌, ◌<◌, ◌+◌, ◌++◌, ◌∷◌, refl, sym, ap, subst, ℕ, List, []}
use Rattle.std.proofs.Common.{Option, None, Some, Result, Ok, Err, get_or, length, map, take}
use Rattle.std.specs.Prelude.{unwrap_or}
use Rattle.std.proofs.lemmas.List.{map-append, map_more}
use Rattle.agg_values.specs.Names.{Named}
use Rattle.agg_values.specs.declared.after_key.AfterKey.{AfterKey}
use Rattle.agg_segment.specs.declared.storage.document.FieldValue.{FieldValue}
use Rattle.agg_request_tree.specs.declared.source.CompositeAggregationSource as source
use source.{CompositeAggregationSource}
use Rattle.agg_request_tree.specs.Source.{name_of}
use Rattle.peslumok_texts.specs.decimals.Decimal.{decimal_of}
use Rattle.peslumok_texts.specs.fields.Types.{type_of}
use Rattle.peslumok_texts.specs.declared.fields.error.ValueError.{ValueError}
use Rattle.peslumok_texts.specs.declared.fields.field_type.FieldType.{FieldType}
use Rattle.peslumok_texts.specs.declared.fields.field_type.FieldType.TheVariants as of
use Rattle.peslumok_texts.specs.words.By.{Parts, parts}
use Rattle.peslumok_texts.specs.declared.words.by.BySpec.{BySpec}
use Rattle.peslumok_front.specs.grouping.Divisions.{date_interval, dates_division}
use Rattle.peslumok_front.specs.grouping.Divisions.{decimal_division, division_by}
use Rattle.peslumok_front.specs.grouping.Divisions.{number_division, offset_asked}
use Rattle.peslumok_front.specs.grouping.Divisions.{without_offset}
use Rattle.peslumok_front.specs.grouping.Mins.{least_asked, least_key, least_value}
use Rattle.peslumok_front.specs.grouping.Sources.{HasFaultyPart, column_name, divided_source}
use Rattle.peslumok_front.specs.grouping.Sources.{faulty_part, joined, source_asked, source_by}
use Rattle.peslumok_front.specs.grouping.Sources.{source_parts}
use Rattle.peslumok_front.specs.declared.grouping.by_fault.ByFault.{ByFault}
use Rattle.peslumok_front.specs.declared.grouping.by_fault.ByFault.TheVariants as by_fault
use Rattle.peslumok_front.specs.declared.grouping.by_fault.IntervalFault.{IntervalFault}
use Rattle.peslumok_front.specs.declared.grouping.by_fault.OffsetFault.{OffsetFault}
use Rattle.peslumok_front.specs.declared.grouping.division.DateInterval.{DateInterval}
use Rattle.peslumok_front.specs.declared.grouping.division.DateInterval.TheVariants.{Fixed}
use Rattle.peslumok_front.specs.declared.grouping.division.DateInterval.TheVariants.{Calendar}
use Rattle.peslumok_front.specs.declared.grouping.division.Division.{Division}
use Rattle.peslumok_front.specs.declared.grouping.division.Division.TheVariants.{Values, Width}
use Rattle.peslumok_front.specs.declared.grouping.division.Division.TheVariants.{Dates}

-- ---- faults

-- the part of an interval, an offset and a least value that a fault is of
abbrev part_of : Option (List ℕ) → Option (List ℕ) → Option (List ℕ) → ByFault → Option (List ℕ)
part_of interval offset min (by_fault.Interval why) = interval
part_of interval offset min (by_fault.Offset why) = offset
part_of interval offset min (by_fault.Min why) = min

-- the part that a fault is of is there
abbrev IsThere : Option (List ℕ) → Type 0
IsThere part = (text : List ℕ) × (part ≡ Some text)

-- a refusal is of a part that is there
abbrev IsOfPart : {T : Type 0} → Option (List ℕ) → Option (List ℕ) → Option (List ℕ)
    → Result T ByFault → Type 0
IsOfPart {T = T} interval offset min read = (why : ByFault) → read ≡ Err why
    → IsThere (part_of interval offset min why)

of_numbers : (interval : List ℕ) (offset min : Option (List ℕ))
    (read : Result Division IntervalFault)
    → IsOfPart (Some interval) offset min (without_offset read offset)
of_numbers interval None min (Ok division) why is = cc is
of_numbers interval (Some text) min (Ok division) (by_fault.Offset why) is = (text, refl)
of_numbers interval (Some text) min (Ok division) (by_fault.Interval why) is = (interval, refl)
of_numbers interval (Some text) min (Ok division) (by_fault.Min why) is = cc is
of_numbers interval offset min (Err fault) (by_fault.Interval why) is = (interval, refl)
of_numbers interval offset min (Err fault) (by_fault.Offset why) is = cc is
of_numbers interval offset min (Err fault) (by_fault.Min why) is = cc is

of_dates : (interval : List ℕ) (offset min : Option (List ℕ))
    (read : Result DateInterval IntervalFault)
    → IsOfPart (Some interval) offset min (dates_division read (offset_asked offset))
of_dates interval offset min (Err fault) (by_fault.Interval why) is = (interval, refl)
of_dates interval offset min (Err fault) (by_fault.Offset why) is = cc is
of_dates interval offset min (Err fault) (by_fault.Min why) is = cc is
of_dates interval None min (Ok found) why is = cc is
of_dates interval (Some text) min (Ok found) (by_fault.Interval why) is = (interval, refl)
of_dates interval (Some text) min (Ok found) (by_fault.Offset why) is = (text, refl)
of_dates interval (Some text) min (Ok found) (by_fault.Min why) is =
    no_min found (offset_asked (Some text)) why is
  where
    no_min : (found : DateInterval) (read : Result (Option (List ℕ)) OffsetFault)
        (why : ValueError) → dates_division (Ok found) read ≡ Err (by_fault.Min why)
        → IsThere min
    no_min found (Ok offset) why is = cc is
    no_min found (Err fault) why is = cc is

of_division : (type : FieldType) (interval offset min : Option (List ℕ))
    → IsOfPart interval offset min (division_by type interval offset)
of_division type None offset min why is = cc is
of_division of.Plain (Some text) offset min why is =
    of_numbers text offset min (number_division text) why is
of_division of.Text (Some text) offset min (by_fault.Interval why) is = (text, refl)
of_division of.Text (Some text) offset min (by_fault.Offset why) is = cc is
of_division of.Text (Some text) offset min (by_fault.Min why) is = cc is
of_division of.Date (Some text) offset min why is =
    of_dates text offset min (date_interval text) why is
of_division (of.DateNumber unit) (Some text) offset min why is =
    of_dates text offset min (date_interval text) why is
of_division (of.Decimal places) (Some text) offset min why is =
    of_numbers text offset min (decimal_division (decimal_of places text)) why is

of_key : (interval offset : Option (List ℕ)) (text : List ℕ) (read : Result FieldValue ValueError)
    → IsOfPart interval offset (Some text) (least_key read)
of_key interval offset text (Ok value) why is = cc is
of_key interval offset text (Err fault) (by_fault.Min why) is = (text, refl)
of_key interval offset text (Err fault) (by_fault.Interval why) is = cc is
of_key interval offset text (Err fault) (by_fault.Offset why) is = cc is

of_least : (type : FieldType) (interval offset min : Option (List ℕ))
    → IsOfPart interval offset min (least_asked type min)
of_least type interval offset None why is = cc is
of_least type interval offset (Some text) why is =
    of_key interval offset text (least_value type text) why is

of_joined : (by : Parts) (interval offset min : Option (List ℕ))
    (division : Result Division ByFault) (least : Result (Option AfterKey) ByFault)
    → IsOfPart interval offset min division → IsOfPart interval offset min least
    → IsOfPart interval offset min (joined by division least)
of_joined by interval offset min (Err fault) least first then why is = first why (cc is)
of_joined by interval offset min (Ok division) (Err fault) first then why is = then why (cc is)
of_joined by interval offset min (Ok division) (Ok key) first then why is = cc is

-- the part that a fault is of is one of the source's
as_part : (by : Parts) (why : ByFault)
    → part_of by.interval by.offset by.min why ≡ faulty_part by why
as_part by (by_fault.Interval why) = refl
as_part by (by_fault.Offset why) = refl
as_part by (by_fault.Min why) = refl

part_there : (type : FieldType) (by : Parts) (why : ByFault) → source_by type by ≡ Err why
    → IsThere (faulty_part by why)
part_there type by why is =
    subst IsThere (as_part by why)
    (of_joined by by.interval by.offset by.min (division_by type by.interval by.offset)
    (least_asked type by.min) (of_division type by.interval by.offset by.min)
    (of_least type by.interval by.offset by.min) why is)

-- the source of a field is the source that is asked for
pub asked_by : (types : Named FieldType) (by : Parts) (type : FieldType) (field : List ℕ)
    → type ≡ type_of types field → field ≡ by.field → source_by type by ≡ source_asked types by
asked_by types by type field type_is field_is =
    ap (λ t. source_by t by) (type_is ∙ ap (type_of types) field_is)

-- no source is asked for, where a part is refused
pub refused-part : (types : Named FieldType) (by : Parts) (type : FieldType)
    (field shown text : List ℕ) (why : ByFault)
    → type ≡ type_of types field → field ≡ by.field → shown ≡ field
    → source_by type by ≡ Err why → text ≡ unwrap_or (faulty_part by why) []
    → HasFaultyPart types by shown text why
refused-part types by type field shown text why type_is field_is shown_is refused text_is =
    let (part, there) = part_there type by why refused in
    let same : text ≡ part = text_is ∙ ap (λ p. unwrap_or p []) there in
    record {
      of_field = sym (shown_is ∙ field_is);
      of_part = there ∙ ap Some (sym same);
      refused = sym (asked_by types by type field type_is field_is) ∙ refused;
    }

-- ---- names

divided-called : (by : Parts) (min : Option AfterKey) (division : Division)
    → name_of (divided_source (source_parts by min) division) ≡ column_name by
divided-called by min Values = refl
divided-called by min (Width interval) = refl
divided-called by min (Dates (Fixed interval) offset) = refl
divided-called by min (Dates (Calendar interval) offset) = refl

joined-called : (by : Parts) (division : Result Division ByFault)
    (least : Result (Option AfterKey) ByFault) (source : CompositeAggregationSource)
    → joined by division least ≡ Ok source → name_of source ≡ column_name by
joined-called by (Err why) least source is = absurd (cc is)
joined-called by (Ok division) (Err why) source is = absurd (cc is)
joined-called by (Ok division) (Ok min) source is =
    let same : divided_source (source_parts by min) division ≡ source = cc is in
    ap name_of (sym same) ∙ divided-called by min division

-- a source that is asked for is called as its column
pub called-as_column : (types : Named FieldType) (by : Parts) (source : CompositeAggregationSource)
    → source_asked types by ≡ Ok source → name_of source ≡ column_name by
called-as_column types by source is =
    joined-called by (division_by (type_of types by.field) by.interval by.offset)
    (least_asked (type_of types by.field) by.min) source is

-- ---- lists

-- one source more
pub sources-more : (types : Named FieldType) (by items : List BySpec) (i : ℕ) (d : BySpec)
    (sources : List CompositeAggregationSource) (source : CompositeAggregationSource)
    → by ≡ items → i < length by
    → map Ok sources ≡ map (λ b. source_asked types (parts b)) (take i items)
    → source_asked types (parts (get_or by i d)) ≡ Ok source
    → map Ok (sources ++ source ∷ [])
    ≡ map (λ b. source_asked types (parts b)) (take (i + 1) items)
sources-more types by items i d sources source are within so_far is =
    map-append Ok sources (source ∷ [])
    ∙ ap (λ xs. xs ++ Ok source ∷ []) so_far
    ∙ ap (λ s. map asked (take i items) ++ s ∷ []) (sym found)
    ∙ sym (map_more asked items i d (subst (λ (xs : List BySpec). i < length xs) are within))
  where
    asked : BySpec → Result CompositeAggregationSource ByFault
    asked b = source_asked types (parts b)

    found : source_asked types (parts (get_or items i d)) ≡ Ok source
    found =
        subst (λ (xs : List BySpec). source_asked types (parts (get_or xs i d)) ≡ Ok source) are is
