-- Generated documents have few occurrences, which start no buckets.
use Rattle.std.proofs.Common.{◌≡◌, ◌≤◌, ◌<◌, ◌^◌, ℕ, List, [], ◌∷◌, None, Bool, true, false}
use Rattle.std.proofs.Common.{ap, arith, codes, filter, length, map, refl, subst}
use Rattle.std.specs.List.{All, AllByRecursion, Any}
use Rattle.std.proofs.lemmas.List.{length-map}
use Rattle.std.proofs.lemmas.List.Elements.{All-from_recursion}
use Rattle.agg_values.specs.Names.{Named}
use Rattle.agg_values.specs.TypedKey.{CompositeIntermediateKey, canonical_key}
use Rattle.agg_values.specs.declared.after_key.AfterKey.{AfterKey}
use Rattle.agg_segment.specs.storage.Document.{Fields}
use Rattle.agg_request_tree.specs.Occurrences.{occurrences}
use Rattle.agg_request_tree.specs.Ranges.{AreInRange, HasOwnStartOutOfRange, HasStartOutOfRange}
use Rattle.agg_request_tree.specs.Ranges.{IsInRange}
use Rattle.agg_request_tree.specs.Request.{own_composite}
use Rattle.agg_request_tree.specs.Source.{Sources, is_from, or_missing, source_values, values_at}
use Rattle.agg_request_tree.specs.Source.{values_from}
use Rattle.agg_request_tree.specs.Uncut.{CountsTooMany, counted, once_each}
use Rattle.agg_request_tree.specs.declared.aggregation.CompositeAggregation.{CompositeAggregation}
use Rattle.agg_request_tree.proofs.Lists.{AllByRecursion-always, AllByRecursion-weaker}
use Rattle.agg_request_tree.proofs.Lists.{none_of_all}
use Rattle.agg_request_tree.proofs.UncutLength.{length-each}
use Rattle.agg_pages.specs.generator.Request.{generated_composite}
use Rattle.agg_pages.proofs.lemmas.generated_walks.FewValues.{HasFewValues}
use Rattle.agg_pages.proofs.lemmas.generated_walks.GeneratedRequests.{composite_after, listed}
use Rattle.agg_pages.proofs.lemmas.generated_walks.GeneratedRequests.{request_of}
use Rattle.agg_pages.proofs.lemmas.generated_walks.GeneratedRequests.{uncut_lists-request}
use Rattle.agg_pages.proofs.lemmas.generated_walks.Ones.{all-once_each, length-ones}

-- the sources of a generated composite
abbrev sources : Sources
sources = generated_composite.sources

-- ---- occurrences

-- one key at most, or Null in its place
or_missing-few : (missing : Bool) (keys : List CompositeIntermediateKey) → length keys ≤ 1
    → length (or_missing missing keys) ≤ 1
or_missing-few true [] few = omega arith
or_missing-few false [] few = omega arith
or_missing-few missing (k ∷ keys) few = few

-- where each source gives one key at most, there is one occurrence at most
occurrences-few : (document : Fields) (sources : Sources)
    → AllByRecursion (λ source. length (source_values source document) ≤ 1) sources
    → length (occurrences sources document) ≤ 1
occurrences-few document [] each = omega arith
occurrences-few document (source ∷ sources) each =
    let tuples = occurrences sources document in
    let rest = occurrences-few document sources each.1 in
    let first = each.0 in
    omega (
      arith,
      length-ones (λ k. map (λ t. k ∷ t) tuples) (source_values source document)
          (AllByRecursion-always (λ k. length (map (λ t. k ∷ t) tuples) ≤ 1)
          (λ k. omega (arith, length-map tuples (λ t. k ∷ t)))
          (source_values source document)),
    )

-- where a source has no least value, it reads all values
all-read : (ks : List CompositeIntermediateKey) → filter (is_from None) ks ≡ ks
all-read [] = refl
all-read (k ∷ ks) = ap (λ xs. k ∷ xs) (all-read ks)

-- so it reads at most one of a field that has at most one
read-few : (field : List ℕ) (document : Fields) → length (document field) ≤ 1
    → length (filter (is_from None) (values_at field document)) ≤ 1
read-few field document few =
    omega (
      arith,
      ap length (all-read (values_at field document)),
      length-map (document field) canonical_key,
    )

-- a document of few values has one occurrence at most
occurrences-one : (document : Fields) → HasFewValues document
    → length (occurrences sources document) ≤ 1
occurrences-one document few =
    let number = few.number in
    let text = few.text in
    occurrences-few document sources (
      or_missing-few false (filter (is_from None) (values_at (codes "a") document))
          (read-few (codes "a") document number),
      (
        or_missing-few true (filter (is_from None) (values_at (codes "b") document))
            (read-few (codes "b") document text),
        tt,
      ),
    )

module _ {B : Type 0} (is_match : B → Fields → Bool) (after : Named AfterKey)
    (documents : List Fields) (few : AllByRecursion HasFewValues documents) where
  -- a generated composite counts each document once at most
  counted-few : length (counted (composite_after after) documents) ≤ length documents
  counted-few = omega (
    arith,
    length-each (occurrences sources) documents,
    length-ones (occurrences sources) documents
        (AllByRecursion-weaker HasFewValues (λ d. length (occurrences sources d) ≤ 1)
        occurrences-one documents few),
  )

  -- the count below a generated composite counts each of its documents once at most
  dates-few : length (once_each (λ d. d (codes "d")) (counted (composite_after after) documents))
      ≤ length documents
  dates-few =
      let counts = counted (composite_after after) documents in
      omega (
        arith,
        counted-few,
        length-each (λ d. d (codes "d")) counts,
        length-ones (λ d. d (codes "d")) counts
            (AllByRecursion-weaker HasFewValues (λ d. length (d (codes "d")) ≤ 1)
            (λ d has. has.date) counts
            (all-once_each HasFewValues (occurrences sources) documents few)),
      )

  -- the documents that are counted aren't too many
  pub not-many : length documents < 2 ^ 32
      → ¬ (CountsTooMany is_match (request_of (composite_after after)) documents)
  not-many short many =
      let IsLong : List Fields → Type 0 = λ list. 2 ^ 32 ≤ length list in
      let counts = counted (composite_after after) documents in
      let lists = counts ∷ once_each (λ d. d (codes "d")) counts ∷ [] in
      none_of_all IsLong lists
      (All-from_recursion (λ list. ¬ (IsLong list)) lists (
        (λ long. omega (arith, long, counted-few)),
        ((λ long. omega (arith, long, dates-few)), tt),
      ))
      (subst (Any IsLong) (uncut_lists-request is_match (composite_after after) documents) many)

-- ---- starts

-- generated sources start no buckets
in-range : (documents : List Fields) → All (AreInRange sources) documents
in-range documents =
    All-from_recursion (AreInRange sources) documents
    (AllByRecursion-always (AreInRange sources)
    (λ d.
    All-from_recursion (λ source. All (IsInRange source) (values_from source d)) sources
    ((λ k e within. tt), ((λ k e within. tt), tt)))
    documents)

-- so none starts out of range
pub not-out : (B : Type 0) (after : Named AfterKey) (documents : List Fields)
    → ¬ (HasStartOutOfRange {B = B} (request_of (composite_after after)) documents)
not-out B after documents out =
    let composite = composite_after after in
    let IsOut : CompositeAggregation → Type 0 = λ c. HasOwnStartOutOfRange c documents in
    none_of_all IsOut (composite ∷ [])
    (All-from_recursion (λ c. ¬ (IsOut c)) (composite ∷ [])
    ((λ is. is (in-range documents)), tt))
    (subst (Any IsOut) (listed {B = B} own_composite composite) out)
