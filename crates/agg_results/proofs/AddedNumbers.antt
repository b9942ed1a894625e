-- The numbers that the sums of a request add.
use Rattle.std.proofs.Common.{ℕ, List, [], ◌∷◌, sym, subst}
use Rattle.std.specs.List.{All, AllByRecursion, filter_map}
use Rattle.std.proofs.lemmas.List.Elements.{All-head, All-tail, filter_map-append}
use Rattle.std.proofs.lemmas.List.Elements.{All-from_recursion}
use Rattle.agg_values.specs.TypedKey.{CompositeIntermediateKey}
use Rattle.agg_values.specs.declared.typed_key.CompositeIntermediateKey.TheVariants as key
use Rattle.agg_segment.specs.storage.Document.{Fields, HasNumbersOf64Bits, IsOf64Bits}
use Rattle.agg_request_tree.specs.Metrics.{number_of, numbers_of, values_of_field}
use Rattle.agg_request_tree.specs.Request.{Request, listed_of}
use Rattle.agg_request_tree.specs.declared.aggregation.AggregationVariants.{AggregationVariants}
use Rattle.agg_request_tree.specs.declared.aggregation.AggregationVariants.TheVariants as asks
use Rattle.agg_request_tree.proofs.Lists.{AllByRecursion-append}
use Rattle.agg_results.proofs.SmallSums.{IsSmall}

-- the field whose numbers an aggregation adds
abbrev pub own_added_field : {B : Type 0} → AggregationVariants B → List (List ℕ)
own_added_field (asks.Sum a) = a.field ∷ []
own_added_field _ = []

-- each number and date that a sum of a request adds, at any depth, is one of 64 bits, with or
-- without a sign
abbrev pub AddsSmallNumbers : {B : Type 0} → Request B → List Fields → Type 0
AddsSmallNumbers request documents =
    All (λ field. All IsSmall (numbers_of field documents)) (listed_of own_added_field request)

small-numbers : (keys : List CompositeIntermediateKey) → All IsOf64Bits keys
    → AllByRecursion IsSmall (filter_map number_of keys)
small-numbers [] small = tt
small-numbers (key.Null ∷ keys) small = small-numbers keys (All-tail IsOf64Bits key.Null keys small)
small-numbers (key.Bool b ∷ keys) small =
    small-numbers keys (All-tail IsOf64Bits (key.Bool b) keys small)
small-numbers (key.Str text ∷ keys) small =
    small-numbers keys (All-tail IsOf64Bits (key.Str text) keys small)
small-numbers (key.IpAddr address ∷ keys) small =
    small-numbers keys (All-tail IsOf64Bits (key.IpAddr address) keys small)
small-numbers (key.I64 n ∷ keys) small = (
  All-head IsOf64Bits (key.I64 n) keys small,
  small-numbers keys (All-tail IsOf64Bits (key.I64 n) keys small),
)
small-numbers (key.U64 n ∷ keys) small = (
  All-head IsOf64Bits (key.U64 n) keys small,
  small-numbers keys (All-tail IsOf64Bits (key.U64 n) keys small),
)
small-numbers (key.DateTime ns ∷ keys) small = (
  All-head IsOf64Bits (key.DateTime ns) keys small,
  small-numbers keys (All-tail IsOf64Bits (key.DateTime ns) keys small),
)

-- the numbers of a field are small where those of each document are of 64 bits
pub small-field : (field : List ℕ) (documents : List Fields) → All HasNumbersOf64Bits documents
    → AllByRecursion IsSmall (numbers_of field documents)
small-field field [] small = tt
small-field field (d ∷ documents) small =
    subst (AllByRecursion IsSmall)
    (sym (filter_map-append number_of (d field) (values_of_field field documents)))
    (AllByRecursion-append IsSmall (filter_map number_of (d field)) (numbers_of field documents)
    (small-numbers (d field) (All-head HasNumbersOf64Bits d documents small field))
    (small-field field documents (All-tail HasNumbersOf64Bits d documents small)))

-- sums of any request add small numbers of such documents
pub adds-small : {B : Type 0} (request : Request B) (documents : List Fields)
    → All HasNumbersOf64Bits documents → AddsSmallNumbers request documents
adds-small request documents small k field within =
    All-from_recursion IsSmall _ (small-field _ documents small)
