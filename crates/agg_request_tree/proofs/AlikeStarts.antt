-- Starts of buckets over documents with the same keys by class.
use Rattle.std.proofs.Common.{◌↔◌, List}
use Rattle.std.specs.List.{All}
use Rattle.std.proofs.lemmas.List.Elements.{All-from_recursion, All-weaker, recursion_from_All}
use Rattle.std.proofs.lemmas.List.Sorted.{All-permutation}
use Rattle.agg_segment.specs.storage.Document.{Fields}
use Rattle.agg_request_tree.specs.Alike.{AreAlikeByClass, AreAllAlikeByClass}
use Rattle.agg_request_tree.specs.Ranges.{AreInRange, HasStartOutOfRange, IsInRange}
use Rattle.agg_request_tree.specs.Request.{Request}
use Rattle.agg_request_tree.specs.Source.{Sources, values_from}
use Rattle.agg_request_tree.proofs.AlikeCounts.{alike-turned}
use Rattle.agg_request_tree.proofs.AlikeOccurrences.{values_from-reordering}
use Rattle.agg_request_tree.proofs.PairedLists.{all_across}
use Rattle.agg_request_tree.proofs.Reorderings.{IsPermutation-from_reordering}

-- starts that lie within the range in the one do in the other
in_range-alike : (sources : Sources) (document other : Fields) → AreAlikeByClass document other
    → AreInRange sources document → AreInRange sources other
in_range-alike sources document other alike =
    All-weaker (λ s. All (IsInRange s) (values_from s document))
    (λ s. All (IsInRange s) (values_from s other))
    (λ s. All-permutation (IsInRange s) (values_from s document) (values_from s other)
    (IsPermutation-from_reordering (values_from-reordering document other alike s)))
    sources

all_in_range-alike : (sources : Sources) (documents others : List Fields)
    → AreAllAlikeByClass documents others
    → All (AreInRange sources) documents → All (AreInRange sources) others
all_in_range-alike sources documents others alike all =
    All-from_recursion (AreInRange sources) others
    (all_across AreAlikeByClass (AreInRange sources) (AreInRange sources) (in_range-alike sources)
    documents others alike (recursion_from_All (AreInRange sources) documents all))

-- a start lies out of range in the one where one does in the other
out_of_range-alike : {B : Type 0} (request : Request B) (documents others : List Fields)
    → AreAllAlikeByClass documents others
    → HasStartOutOfRange request documents → HasStartOutOfRange request others
out_of_range-alike request documents others alike (k, composite, within, at, out) = (
  k,
  composite,
  within,
  at,
  λ all. out (all_in_range-alike composite.sources others documents
      (alike-turned documents others alike) all),
)

pub starts-alike : {B : Type 0} (request : Request B) (documents others : List Fields)
    → AreAllAlikeByClass documents others
    → HasStartOutOfRange request documents ↔ HasStartOutOfRange request others
starts-alike request documents others alike = (
  out_of_range-alike request documents others alike,
  out_of_range-alike request others documents (alike-turned documents others alike),
)
