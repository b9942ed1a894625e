-- What is counted of documents with the same keys by class.
use Rattle.std.proofs.Common.{◌≡◌, ◌∙◌, ℕ, List, [], ◌∷◌, length, map, sym}
use Rattle.std.specs.List.Sorted.{IsPermutation}
use Rattle.std.proofs.lemmas.List.Sorted.{Contains-permutation}
use Rattle.std.proofs.lemmas.List.Sorted.{length_permutation, sum_by-IsPermutation}
use Rattle.agg_values.specs.Tuple.{KeyTuple}
use Rattle.agg_segment.specs.storage.Document.{Fields}
use Rattle.agg_request_tree.specs.Alike.{AreAlikeByClass, AreAllAlikeByClass}
use Rattle.agg_request_tree.specs.Occurrences.{occurrences_in}
use Rattle.agg_request_tree.specs.Page.{Entry, IsPage, count_in, group_of}
use Rattle.agg_request_tree.specs.Source.{Sources}
use Rattle.agg_request_tree.specs.Uncut.{counted}
use Rattle.agg_request_tree.specs.declared.aggregation.CompositeAggregation.{CompositeAggregation}
use Rattle.agg_request_tree.proofs.AlikeOccurrences.{occurrences-reordering}
use Rattle.agg_request_tree.proofs.PageCounts.{HoldsTuplesOf, counts-same}
use Rattle.agg_request_tree.proofs.PairedLists.{AllZip-turned}
use Rattle.agg_request_tree.proofs.Reorderings.{IsReordering, same}
use Rattle.agg_request_tree.proofs.Reorderings.{IsPermutation-from_reordering, IsReordering-append}
use Rattle.agg_request_tree.proofs.UncutLength.{length-counted}

-- the other way round
pub alike-turned : (documents others : List Fields) → AreAllAlikeByClass documents others
    → AreAllAlikeByClass others documents
alike-turned = AllZip-turned AreAlikeByClass AreAlikeByClass (λ d e alike field. sym (alike field))

-- ---- occurrences

-- the occurrences of all documents
occurrences_in-reordering : (sources : Sources) (documents others : List Fields)
    → AreAllAlikeByClass documents others
    → IsReordering (occurrences_in sources documents) (occurrences_in sources others)
occurrences_in-reordering sources [] [] alike = same
occurrences_in-reordering sources [] (e ∷ others) alike = absurd alike
occurrences_in-reordering sources (d ∷ documents) [] alike = absurd alike
occurrences_in-reordering sources (d ∷ documents) (e ∷ others) alike =
    IsReordering-append (occurrences-reordering d e alike.0 sources)
    (occurrences_in-reordering sources documents others alike.1)

module _ (sources : Sources) (documents others : List Fields)
    (alike : AreAllAlikeByClass documents others) where
  occurrences_in-permutation :
      IsPermutation (occurrences_in sources documents) (occurrences_in sources others)
  occurrences_in-permutation =
      IsPermutation-from_reordering (occurrences_in-reordering sources documents others alike)

  -- each tuple of the one is a tuple of the other
  occurring-alike : HoldsTuplesOf sources documents others
  occurring-alike tuple = Contains-permutation (occurrences_in sources documents)
      (occurrences_in sources others) tuple occurrences_in-permutation

  -- each tuple occurs as often
  count_in-alike : (tuple : KeyTuple)
      → count_in sources documents tuple ≡ count_in sources others tuple
  count_in-alike tuple =
      sym (sum_by-IsPermutation _ (occurrences_in sources documents)
      (occurrences_in sources others) occurrences_in-permutation)

-- their pages have the same tuples and counts
pub counts-alike : (sources : Sources) (size : ℕ) (bound : KeyTuple)
    → (documents others : List Fields) (page other : List Entry)
    → AreAllAlikeByClass documents others
    → IsPage sources size bound documents page → IsPage sources size bound others other
    → map group_of page ≡ map group_of other
counts-alike sources size bound documents others page other alike =
    counts-same sources size bound documents others page other
    (occurring-alike sources documents others alike)
    (occurring-alike sources others documents (alike-turned documents others alike))
    (count_in-alike sources documents others alike)

-- ---- what is counted

-- a composite counts as many documents
pub length-alike : (composite : CompositeAggregation) (documents others : List Fields)
    → AreAllAlikeByClass documents others
    → length (counted composite documents) ≡ length (counted composite others)
length-alike composite documents others alike =
    length-counted composite documents
    ∙ sym (length_permutation (occurrences_in composite.sources documents)
    (occurrences_in composite.sources others)
    (occurrences_in-permutation composite.sources documents others alike))
    ∙ sym (length-counted composite others)
