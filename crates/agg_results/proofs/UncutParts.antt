-- What an aggregation lists of a part of documents, and of documents of which something is so.
use Rattle.std.proofs.Common.{◌≡◌, ℕ, List, [], ◌∷◌, ◌++◌, Bool, length, map, refl, sym, ap, ◌∙◌}
use Rattle.std.specs.List.{AllByRecursion, filter_map, flat_map}
use Rattle.std.proofs.lemmas.List.Elements.{filter_map-append}
use Rattle.agg_segment.specs.storage.Document.{Fields}
use Rattle.agg_request_tree.specs.Matching.{filter_matches}
use Rattle.agg_request_tree.specs.Metrics.{number_of, numbers_of, values_of_field}
use Rattle.agg_request_tree.specs.Occurrences.{occurrences}
use Rattle.agg_request_tree.specs.Uncut.{once_each, uncut}
use Rattle.agg_request_tree.specs.declared.aggregation.AggregationVariants.{AggregationVariants}
use Rattle.agg_request_tree.specs.declared.aggregation.AggregationVariants.TheVariants as asks
use Rattle.agg_request_tree.proofs.Lists.{AllByRecursion-always, AllByRecursion-flat_map}
use Rattle.agg_request_tree.proofs.Lists.{AllByRecursion-map, AllByRecursion-weaker}
use Rattle.agg_request_tree.proofs.UncutLength.{length-each}
use Rattle.agg_results.specs.StandsFor.{IsPart}
use Rattle.agg_results.proofs.PartLists.{filter-all, part-filter}
use Rattle.agg_results.proofs.Parts.{part-flat_map}

-- ---- documents, each once for each element

module _ {X : Type 0} (elements : Fields → List X) where
  pub each-part : (xs ys : List Fields) → IsPart xs ys
      → IsPart (once_each elements xs) (once_each elements ys)
  each-part = part-flat_map (λ (d : Fields). map (λ x. d) (elements d))

  pub each-all : (P : Fields → Type 0) (documents : List Fields) → AllByRecursion P documents
      → AllByRecursion P (once_each elements documents)
  each-all P documents all =
      AllByRecursion-flat_map P (λ (d : Fields). map (λ x. d) (elements d)) documents
      (AllByRecursion-weaker P (λ d. AllByRecursion P (map (λ x. d) (elements d)))
      (λ d p. AllByRecursion-map P (λ x. d) (elements d)
      (AllByRecursion-always (λ x. P d) (λ x. p) (elements d))) documents all)

numbers-joined : (field : List ℕ) (documents : List Fields)
    → flat_map (λ (d : Fields). filter_map number_of (d field)) documents
    ≡ numbers_of field documents
numbers-joined field [] = refl
numbers-joined field (d ∷ documents) =
    ap (λ ns. filter_map number_of (d field) ++ ns) (numbers-joined field documents)
    ∙ sym (filter_map-append number_of (d field) (values_of_field field documents))

-- a document for each of its numbers: as many as there are numbers
pub length-numbers : (field : List ℕ) (documents : List Fields)
    → length (once_each (λ d. filter_map number_of (d field)) documents)
    ≡ length (numbers_of field documents)
length-numbers field documents =
    length-each (λ d. filter_map number_of (d field)) documents
    ∙ ap length (numbers-joined field documents)

-- ---- what an aggregation lists

module _ {B : Type 0} (is_match : B → Fields → Bool) where
  -- of a part it lists a part
  pub uncut-part : (agg : AggregationVariants B) (xs ys : List Fields) → IsPart xs ys
      → IsPart (uncut is_match agg xs) (uncut is_match agg ys)
  uncut-part (asks.Filter a) = part-filter (filter_matches is_match a.query)
  uncut-part (asks.Composite a) = each-part (occurrences a.sources)
  uncut-part (asks.Count a) = each-part (λ d. d a.field)
  uncut-part (asks.Max a) = each-part (λ d. filter_map number_of (d a.field))
  uncut-part (asks.Min a) = each-part (λ d. filter_map number_of (d a.field))
  uncut-part (asks.Sum a) = each-part (λ d. filter_map number_of (d a.field))

  -- what holds of each document holds of each that it lists
  pub uncut-all : (agg : AggregationVariants B) (P : Fields → Type 0) (documents : List Fields)
      → AllByRecursion P documents → AllByRecursion P (uncut is_match agg documents)
  uncut-all (asks.Filter a) = filter-all (filter_matches is_match a.query)
  uncut-all (asks.Composite a) = each-all (occurrences a.sources)
  uncut-all (asks.Count a) = each-all (λ d. d a.field)
  uncut-all (asks.Max a) = each-all (λ d. filter_map number_of (d a.field))
  uncut-all (asks.Min a) = each-all (λ d. filter_map number_of (d a.field))
  uncut-all (asks.Sum a) = each-all (λ d. filter_map number_of (d a.field))
