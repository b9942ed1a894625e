-- What contracts see of the entries that are still to come.
use Rattle.std.specs.Prelude.{ℕ, List, map}
use Rattle.agg_composite.specs.accessor.Encoding.{EncodedTuple}
use Rattle.agg_composite.specs.buckets.Page.{Page}
use Rattle.agg_composite.specs.declared.page_entries.EncodedEntries.{EncodedEntries}
use Rattle.agg_composite.specs.declared.page_entries.EncodedEntries.TheVariants.{Eight, Four, One}
use Rattle.agg_composite.specs.declared.page_entries.EncodedEntries.TheVariants.{Listed, Sixteen}
use Rattle.agg_composite.specs.declared.page_entries.EncodedEntries.TheVariants.{Two}

-- tuples by their counts as buckets, which have no ids of their own
abbrev pub listed_of : List (EncodedTuple × ℕ) → Page EncodedTuple
listed_of counts = map (λ e. (e.0, record { count = e.1; id = 0 })) counts

-- the buckets, whatever the room in their tuples
abbrev pub encoded_of : EncodedEntries → Page EncodedTuple
encoded_of (One buckets) = buckets
encoded_of (Two buckets) = buckets
encoded_of (Four buckets) = buckets
encoded_of (Eight buckets) = buckets
encoded_of (Sixteen buckets) = buckets
encoded_of (Listed counts) = listed_of counts
