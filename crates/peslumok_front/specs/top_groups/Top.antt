-- The groups with the most documents.
use Rattle.std.specs.Prelude.{◌≡◌, ℕ, List, Bool, nat_lt, take}
use Rattle.std.specs.List.Sorted.{IsSortedBy, IsStableBy}
use Rattle.agg_results.specs.declared.final_results.types.CompositeBucketEntry.{
  CompositeBucketEntry,
}

-- whether a group has more documents than another
abbrev pub has_more : CompositeBucketEntry → CompositeBucketEntry → Bool
has_more group other = nat_lt other.doc_count group.doc_count

-- groups in order: those with more documents first, and those with as many as they stood
pub record AreRanked (groups ranked : List CompositeBucketEntry) : Type 0 where
  pub sorted : IsSortedBy has_more ranked
  pub stable : IsStableBy has_more groups ranked

-- the first so many of groups in order
pub record AreTop (count : ℕ) (groups top : List CompositeBucketEntry) : Type 0 where
  pub ranked : List CompositeBucketEntry
  pub are_ranked : AreRanked groups ranked
  pub first : top ≡ take count ranked
