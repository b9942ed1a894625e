-- Numbers of a column that stand for the keys of a query.
use Rattle.std.specs.Prelude.{◌≡◌, ◌<◌, ◌^◌, ◌&&◌, ℕ, Bool, false, Option, Some, None}
use Rattle.std.specs.Prelude.{nat_le, nat_lt, if◌then◌else◌}
use Rattle.std.specs.Ordering.{nat_cmp}
use Rattle.std.specs.declared.cmp.Ordering.{Ordering}
use Rattle.std.specs.declared.cmp.Ordering.TheVariants.{Less, Greater}
use Rattle.agg_values.specs.KeyOrder.{ascending_order}
use Rattle.agg_values.specs.TypedKey.{CompositeIntermediateKey}
use Rattle.agg_segment.specs.storage.Document.{key_of}
use Rattle.agg_segment.specs.storage.Columns.{encoded_key, StandsForKey}
use Rattle.agg_segment.specs.declared.storage.document.FieldValue.{FieldValue}
use Rattle.agg_segment.specs.declared.storage.hit.OrdHit.{OrdHit}
use Rattle.agg_segment.specs.declared.storage.hit.OrdHit.TheVariants.{Exact, Next, AfterLast}
use Rattle.agg_segment.specs.declared.storage.keys.ColumnKeys.{ColumnKeys}
use Rattle.agg_segment.specs.declared.query.span.Span.{Span}

-- how a number compares with a value that has a hit
abbrev pub hit_cmp : OrdHit → ℕ → Ordering
hit_cmp (Exact place) n = nat_cmp n place
hit_cmp (Next place) n = if nat_lt n place then Less else Greater
hit_cmp AfterLast n = Less

-- a number of a column
abbrev pub IsColumnNumber : ColumnKeys → ℕ → Type 0
IsColumnNumber keys n = (n < 2 ^ 64) × StandsForKey keys n

-- the numbers of a column compare with a hit as their keys do with the value
abbrev pub IsHitOf : ColumnKeys → FieldValue → OrdHit → Type 0
IsHitOf keys value hit =
    (n : ℕ) → IsColumnNumber keys n
    → ascending_order (encoded_key keys n) (key_of value) ≡ hit_cmp hit n

-- whether a number is in a span
abbrev pub is_in : Span → ℕ → Bool
is_in span n = nat_le span.first n && nat_le n span.last

-- a span has those numbers of a column whose keys are such; where there is none no key is such
abbrev pub IsSpanOf : ColumnKeys → (CompositeIntermediateKey → Bool) → Option Span → Type 0
IsSpanOf keys is_such None = (n : ℕ) → is_such (encoded_key keys n) ≡ false
IsSpanOf keys is_such (Some span) =
    (n : ℕ) → IsColumnNumber keys n → is_in span n ≡ is_such (encoded_key keys n)
