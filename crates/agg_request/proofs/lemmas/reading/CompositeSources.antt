-- The sources of a composite: the source of a name, by the name of its kind.
use Rattle.std.proofs.Common.{◌≡◌, ℕ, List, Bool, Option, Some, Result, codes, get_or}
use Rattle.std.proofs.Common.{option_and_then, refl, sym, ap, ◌∙◌, subst, arith}
use Rattle.std.specs.Option.{unwrap_or}
use Rattle.serde_json.specs.Data.{Data, Items}
use Rattle.serde_json.specs.Find.{as_array, get}
use Rattle.agg_calendar.specs.declared.interval.CalendarInterval.{CalendarInterval}
use Rattle.agg_calendar.specs.declared.interval.CalendarInterval.TheVariants.{Year, Month, Week}
use Rattle.agg_request.specs.reading.CompositeJson.{AreSources}
use Rattle.agg_request.specs.reading.Unsupported.{HasUnsupportedInterval, HasUnsupportedKind}
use Rattle.agg_request.specs.reading.Unsupported.{HasUnsupportedSource}
use Rattle.agg_request.specs.reading.CompositeJson.{IsSourceBody, IsSourceJson, IsSourceOfKind}
use Rattle.agg_request.specs.reading.CompositeJson.{unit_word}
use Rattle.agg_request.specs.json_values.Json.{EachIs, only_member}
use Rattle.agg_request.specs.json_values.Unsupported.{HasUnsupportedItem}
use Rattle.agg_request.specs.json_values.Reading.{IsReading}
use Rattle.agg_request_tree.specs.Source.{Sources}
use Rattle.agg_request.specs.declared.json_values.read_error.ReadError.{ReadError}
use Rattle.agg_request_tree.specs.declared.source.CompositeAggregationSource as any_source
use any_source.{CompositeAggregationSource}
use any_source.TheVariants.{Terms, Histogram, DateHistogram}
use Rattle.agg_request_tree.specs.declared.source.TermCompositeAggregationSource as term
use term.{TermCompositeAggregationSource as Term}
use Rattle.agg_request_tree.specs.declared.source.HistogramCompositeAggregationSource as numbers
use numbers.{HistogramCompositeAggregationSource as Numbers}
use Rattle.agg_request_tree.specs.declared.source.DateHistogramCompositeAggregationSource as dates
use dates.{DateHistogramCompositeAggregationSource as Dates}
use Rattle.agg_request.proofs.lemmas.json_values.Readings.{read_as}

-- ---- kinds

-- words with different first letters are two
by_letter : {A : Type 0} (text other : List ℕ) → text ≡ other
    → (get_or text 0 0 ≡ get_or other 0 0 → ⊥) → A
by_letter text other same apart = absurd (apart (ap (λ l. get_or l 0 0) same))

-- the terms of a source of this kind
pub terms_of : (name kind : List ℕ) (body : Data) → kind ≡ codes "terms" → (lenient : Bool)
    (source : CompositeAggregationSource) → IsSourceOfKind lenient name kind body source
    → (terms : Term) × IsSourceBody lenient name body (Terms terms)
terms_of name kind body is lenient (Terms source) h = (source, h.1)
terms_of name kind body is lenient (Histogram source) h =
    by_letter (codes "terms") (codes "histogram") (sym is ∙ h.0) (λ l. omega (arith, l))
terms_of name kind body is lenient (DateHistogram source) h =
    by_letter (codes "terms") (codes "date_histogram") (sym is ∙ h.0) (λ l. omega (arith, l))

-- the numbers of a source of this kind
pub numbers_of : (name kind : List ℕ) (body : Data) → kind ≡ codes "histogram" → (lenient : Bool)
    (source : CompositeAggregationSource) → IsSourceOfKind lenient name kind body source
    → (numbers : Numbers) × IsSourceBody lenient name body (Histogram numbers)
numbers_of name kind body is lenient (Terms source) h =
    by_letter (codes "histogram") (codes "terms") (sym is ∙ h.0) (λ l. omega (arith, l))
numbers_of name kind body is lenient (Histogram source) h = (source, h.1)
numbers_of name kind body is lenient (DateHistogram source) h =
    by_letter (codes "histogram") (codes "date_histogram") (sym is ∙ h.0) (λ l. omega (arith, l))

-- the dates of a source of this kind
pub dates_of : (name kind : List ℕ) (body : Data) → kind ≡ codes "date_histogram"
    → (lenient : Bool) (source : CompositeAggregationSource)
    → IsSourceOfKind lenient name kind body source
    → (dates : Dates) × IsSourceBody lenient name body (DateHistogram dates)
dates_of name kind body is lenient (Terms source) h =
    by_letter (codes "date_histogram") (codes "terms") (sym is ∙ h.0) (λ l. omega (arith, l))
dates_of name kind body is lenient (Histogram source) h =
    by_letter (codes "date_histogram") (codes "histogram") (sym is ∙ h.0) (λ l. omega (arith, l))
dates_of name kind body is lenient (DateHistogram source) h = (source, h.1)

-- ---- units of the calendar

-- a word is that of one unit
pub unit_word-one : (unit other : CalendarInterval) → unit_word unit ≡ unit_word other
    → unit ≡ other
unit_word-one Year Year e = refl
unit_word-one Year Month e = by_letter (codes "year") (codes "month") e (λ l. omega (arith, l))
unit_word-one Year Week e = by_letter (codes "year") (codes "week") e (λ l. omega (arith, l))
unit_word-one Month Year e = by_letter (codes "month") (codes "year") e (λ l. omega (arith, l))
unit_word-one Month Month e = refl
unit_word-one Month Week e = by_letter (codes "month") (codes "week") e (λ l. omega (arith, l))
unit_word-one Week Year e = by_letter (codes "week") (codes "year") e (λ l. omega (arith, l))
unit_word-one Week Month e = by_letter (codes "week") (codes "month") e (λ l. omega (arith, l))
unit_word-one Week Week e = refl

-- ---- names

-- two pairs that stand in one place are one
one_pair : {A B : Type 0} (o : Option (A × B)) (a c : A) (b d : B) → o ≡ Some (a, b)
    → o ≡ Some (c, d) → (a ≡ c) × (b ≡ d)
one_pair {A = A} {B = B} o a c b d first second =
    let same : Some (a, b) ≡ Some (c, d) = sym first ∙ second in
    let pair : Option (A × B) → A × B = λ p. unwrap_or p (a, b) in
    (ap (λ p. (pair p).0) same, ap (λ p. (pair p).1) same)

-- a source is one of the name, the kind and the body that were found
of_kind : (lenient : Bool) (d : Data) (name kind : List ℕ) (named body : Data)
    (source : CompositeAggregationSource) → only_member d ≡ Some (name, named)
    → only_member named ≡ Some (kind, body) → IsSourceJson lenient d source
    → IsSourceOfKind lenient name kind body source
of_kind lenient d name kind named body source found inner h =
    let outer = one_pair (only_member d) h.0 name h.2 named h.4 found in
    let next = one_pair (only_member named) h.1 kind h.3 body
    (subst (λ e. only_member e ≡ Some (h.1, h.3)) outer.1 h.5) inner in
    subst (λ n. IsSourceOfKind lenient n kind body source) outer.0
    (subst (λ k. IsSourceOfKind lenient h.0 k body source) next.0
    (subst (λ b. IsSourceOfKind lenient h.0 h.1 b source) next.1 h.6))

-- what is read of a body is read of the value that names it
pub read_named : (d : Data) (name kind : List ℕ) (named body : Data)
    (result : Result CompositeAggregationSource ReadError) → only_member d ≡ Some (name, named)
    → only_member named ≡ Some (kind, body)
    → IsReading (λ lenient. IsSourceOfKind lenient name kind body)
    (HasUnsupportedInterval kind body) result
    → IsReading (λ lenient. IsSourceJson lenient d) (HasUnsupportedKind d) result
read_named d name kind named body result found inner told =
    read_as (λ lenient. IsSourceOfKind lenient name kind body) (HasUnsupportedInterval kind body)
    (λ lenient. IsSourceJson lenient d) (HasUnsupportedKind d) result told
    (λ source h. (name, kind, named, body, found, inner, h))
    (λ h. (name, kind, named, body, found, inner, h))
    (λ lenient source h. of_kind lenient d name kind named body source found inner h)

-- what is read of the items is read of the body
pub read_array : (body : Data) (items : Items) (result : Result Sources ReadError)
    → option_and_then as_array (get (codes "sources") body) ≡ Some items
    → IsReading (λ lenient. EachIs (IsSourceJson lenient) items)
    (HasUnsupportedItem HasUnsupportedKind items) result
    → IsReading (λ lenient. AreSources lenient body) (HasUnsupportedSource body) result
read_array body items result found told =
    read_as (λ lenient. EachIs (IsSourceJson lenient) items)
    (HasUnsupportedItem HasUnsupportedKind items) (λ lenient. AreSources lenient body)
    (HasUnsupportedSource body) result told (λ sources h. (items, found, h))
    (λ h. (items, found, h))
    (λ lenient sources (others, there, h).
    let same : others ≡ items = cc in subst (λ ds. EachIs (IsSourceJson lenient) ds sources) same h)
