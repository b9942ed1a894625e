-- Composites as JSON: their sources, their size and their after key.
use Rattle.std.specs.Prelude.{◌≡◌, ◌≢◌, [], ℕ, ℤ, List, Bool, false, Option, Some}
use Rattle.std.specs.Prelude.{codes, option_and_then, ⊤}
use Rattle.serde_json.specs.Data.{Data, Items, Members}
use Rattle.serde_json.specs.Find.{as_array, as_bool, as_object, as_str, get}
use Rattle.agg_values.specs.Names.{Named}
use Rattle.agg_values.specs.declared.typed_key.CompositeIntermediateKey.TheVariants.{Null}
use Rattle.agg_values.specs.declared.after_key.AfterKey.{AfterKey}
use Rattle.agg_values.specs.declared.order.Order.{Order}
use Rattle.agg_values.specs.declared.order.Order.TheVariants.{Asc, Desc}
use Rattle.agg_values.specs.declared.order.MissingOrder.{MissingOrder}
use Rattle.agg_values.specs.declared.order.MissingOrder.TheVariants.{Default, First, Last}
use Rattle.agg_calendar.specs.declared.interval.CalendarInterval.{CalendarInterval}
use Rattle.agg_calendar.specs.declared.interval.CalendarInterval.TheVariants.{Year, Month, Week}
use Rattle.agg_request.specs.json_values.Json.{EachIs, EachNamedIs, IsField, IsGiven, IsOr}
use Rattle.agg_request.specs.json_values.Json.{IsWholeAt, only_member, present, small_number}
use Rattle.agg_request.specs.json_values.Json.{whole_number}
use Rattle.agg_request.specs.json_values.Query.{SaysKey}
use Rattle.agg_request_tree.specs.Source.{Sources, field_of, missing_bucket_of, missing_order_of}
use Rattle.agg_request_tree.specs.Source.{min_key_of, name_of, order_of}
use Rattle.agg_request_tree.specs.declared.aggregation.CompositeAggregation.{CompositeAggregation}
use Rattle.agg_request_tree.specs.declared.source.CompositeAggregationSource as any_source
use any_source.{CompositeAggregationSource}
use any_source.TheVariants.{Terms, Histogram, DateHistogram}
use Rattle.agg_request_tree.specs.declared.source.DateHistogramCompositeAggregationSource as dates
use dates.{DateHistogramCompositeAggregationSource as Dates}

-- ---- sources

-- the word for an order
abbrev pub order_word : Order → List ℕ
order_word Asc = codes "asc"
order_word Desc = codes "desc"

-- the word for a missing order
abbrev pub missing_order_word : MissingOrder → List ℕ
missing_order_word Default = codes "default"
missing_order_word First = codes "first"
missing_order_word Last = codes "last"

-- what may stand at a member is a value's word; where it is absent the value is this one
abbrev pub IsWordOr : {A : Type 0} → A → (A → List ℕ) → Option Data → A → Type 0
IsWordOr given word = IsOr given (λ d value. as_str d ≡ Some (word value))

-- what may stand at a member is a truth value; where it is absent it is false
abbrev pub IsFlag : Option Data → Bool → Type 0
IsFlag = IsOr false (λ d flag. as_bool d ≡ Some flag)

-- the word for a unit of the calendar
abbrev pub unit_word : CalendarInterval → List ℕ
unit_word Year = codes "year"
unit_word Month = codes "month"
unit_word Week = codes "week"

-- the interval of a body, a whole number within i64
abbrev pub IsIntervalOf : Bool → Data → ℤ → Type 0
IsIntervalOf = IsWholeAt whole_number (codes "interval")

-- a value is a text that says a key, and not Null
abbrev pub SaysValue : Bool → Data → AfterKey → Type 0
SaysValue lenient d key =
    (text : List ℕ) × (as_str d ≡ Some text) × SaysKey lenient text key.0 × (key.0 ≢ Null)

-- the least value of a body: it may stand there, and null stands for none
abbrev pub IsLeastOf : Bool → Data → Option AfterKey → Type 0
IsLeastOf lenient body = IsGiven (SaysValue lenient) (present (codes "min") body)

-- what the body of any source of a name says; other members don't count
pub record IsSharedBody (lenient : Bool) (name : List ℕ) (body : Data)
    (source : CompositeAggregationSource) : Type 0 where
  pub named : name_of source ≡ name
  pub field : IsField body (field_of source)
  pub order : IsWordOr Asc order_word (get (codes "order") body) (order_of source)
  pub missing_bucket : IsFlag (get (codes "missing_bucket") body) (missing_bucket_of source)
  pub missing_order : IsWordOr Default missing_order_word (get (codes "missing_order") body)
      (missing_order_of source)
  pub min : IsLeastOf lenient body (min_key_of source)

-- a text may stand at a member, and null stands for none
abbrev pub IsTextAt : List ℕ → Data → Option (List ℕ) → Type 0
IsTextAt name body = IsGiven (λ d text. as_str d ≡ Some text) (present name body)

-- the intervals and the offset of a date source: each may stand there, and null stands for none
abbrev pub AreIntervals : Data → Dates → Type 0
AreIntervals body source =
    IsTextAt (codes "fixed_interval") body source.fixed_interval
    × IsGiven (λ d unit. as_str d ≡ Some (unit_word unit))
    (present (codes "calendar_interval") body) source.calendar_interval
    × IsTextAt (codes "offset") body source.offset

-- what a body says that a source divides values by
abbrev pub IsDividedBy : Bool → Data → CompositeAggregationSource → Type 0
IsDividedBy lenient body (Terms source) = ⊤
IsDividedBy lenient body (Histogram source) = IsIntervalOf lenient body source.interval
IsDividedBy lenient body (DateHistogram source) = AreIntervals body source

-- the name of the kind of a source
abbrev pub source_word : CompositeAggregationSource → List ℕ
source_word (Terms source) = codes "terms"
source_word (Histogram source) = codes "histogram"
source_word (DateHistogram source) = codes "date_histogram"

-- the body of a source of a name
abbrev pub IsSourceBody : Bool → List ℕ → Data → CompositeAggregationSource → Type 0
IsSourceBody lenient name body source =
    IsSharedBody lenient name body source × IsDividedBy lenient body source

-- the body of a source of a name, by the name of its kind
abbrev pub IsSourceOfKind
    : Bool → List ℕ → List ℕ → Data → CompositeAggregationSource → Type 0
IsSourceOfKind lenient name kind body source =
    (kind ≡ source_word source) × IsSourceBody lenient name body source

-- a source: its name with its kind, of which there is one
abbrev pub IsSourceJson : Bool → Data → CompositeAggregationSource → Type 0
IsSourceJson lenient d source =
    (name : List ℕ) × (kind : List ℕ) × (named : Data) × (body : Data)
    × (only_member d ≡ Some (name, named)) × (only_member named ≡ Some (kind, body))
    × IsSourceOfKind lenient name kind body source

-- the sources of a body, in an array
abbrev pub AreSources : Bool → Data → Sources → Type 0
AreSources lenient body sources =
    (items : Items) × (option_and_then as_array (get (codes "sources") body) ≡ Some items)
    × EachIs (IsSourceJson lenient) items sources

-- ---- the size

-- the size of a body, a whole number within u32
abbrev pub IsSizeOf : Bool → Data → ℕ → Type 0
IsSizeOf = IsWholeAt small_number (codes "size")

-- ---- the after key

-- a value is a text that says a key
abbrev pub IsKeyJson : Bool → Data → AfterKey → Type 0
IsKeyJson lenient d after =
    (text : List ℕ) × (as_str d ≡ Some text) × SaysKey lenient text after.0

-- an object of keys by the names of sources
abbrev pub AreKeys : Bool → Data → Named AfterKey → Type 0
AreKeys lenient d after =
    (members : Members) × (as_object d ≡ Some members)
    × EachNamedIs (IsKeyJson lenient) members after

-- what may stand at a member is such an object; where it is absent there are no keys
abbrev pub IsAfter : Bool → Option Data → Named AfterKey → Type 0
IsAfter lenient = IsOr [] (AreKeys lenient)

-- ---- composites

-- the body of a composite; other members don't count
pub record IsCompositeJson (lenient : Bool) (body : Data) (composite : CompositeAggregation)
    : Type 0 where
  pub sources : AreSources lenient body composite.sources
  pub size : IsSizeOf lenient body composite.size
  pub after : IsAfter lenient (get (codes "after") body) composite.after
