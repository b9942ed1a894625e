-- Numbers of 64 bits: only where there are many does a sum lie outside its type.
use Rattle.std.proofs.Common.{◌≤◌, ◌^◌, ℕ, List, length, length-append, subst, ap, ◌∙◌, arith}
use Rattle.std.specs.List.{All, AllByRecursion, Contains, filter_map}
use Rattle.std.proofs.Math.Seq.{take-append_seam}
use Rattle.std.proofs.lemmas.List.Elements.{All-contains, All-map, filter_map-append}
use Rattle.agg_segment.specs.storage.Document.{Fields, HasNumbersOf64Bits}
use Rattle.agg_segment.specs.Segment.{Stored, document_at, documents_at}
use Rattle.agg_request_tree.specs.Metrics.{number_of, values_of_field}
use Rattle.agg_request_tree.proofs.Lists.{AllByRecursion-take, All-from_Contains, All-from_map}
use Rattle.agg_results.proofs.AddedNumbers.{small-field}
use Rattle.agg_results.proofs.SmallSums.{IsSmall, many-summed}
use Rattle.agg_metric.specs.Metric.{IsTooMany}
use Rattle.agg_metric.specs.declared.request_data.StatsType.TheVariants.{Sum}

-- what is so of documents is so of those among them
pub all-part : (P : Fields → Type 0) (segment : Stored) (docs others : List ℕ)
    → ((d : ℕ) → Contains docs d → Contains others d) → All P (documents_at segment others)
    → All P (documents_at segment docs)
all-part P segment docs others part all =
    let Q = λ (d : ℕ). P (document_at segment d) in
    All-map P (document_at segment) docs
    (All-from_Contains Q docs (λ d c. All-contains Q others d
    (All-from_map P (document_at segment) others all) (part d c)))

-- a sum of a field is too large only where the documents have many numbers
pub many-numbers : (field : List ℕ) (documents : List Fields) → All HasNumbersOf64Bits documents
    → IsTooMany Sum (values_of_field field documents)
    → 2 ^ 32 ≤ length (filter_map number_of (values_of_field field documents))
many-numbers field documents small (first, rest, split, passes) =
    let front = filter_map number_of first in
    let back = filter_map number_of rest in
    let whole = ap (filter_map number_of) split ∙ filter_map-append number_of first rest in
    let few = subst (AllByRecursion IsSmall) (take-append_seam front back)
    (AllByRecursion-take IsSmall (length front) _
    (subst (AllByRecursion IsSmall) whole (small-field field documents small))) in
    omega (arith, many-summed front few passes, ap length whole, length-append front back)
