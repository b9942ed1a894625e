-- What contracts see of the buckets by tuple.
use Rattle.std.specs.Prelude.{ℕ}
use Rattle.agg_composite.specs.accessor.Encoding.{EncodedTuple}
use Rattle.agg_composite.specs.buckets.Node.{Node}
use Rattle.agg_composite.specs.declared.tuple_buckets.TupleBuckets.{TupleBuckets}
use Rattle.agg_composite.specs.declared.tuple_buckets.TupleBuckets.TheVariants.{Eight, Four, One}
use Rattle.agg_composite.specs.declared.tuple_buckets.TupleBuckets.TheVariants.{Sixteen, Two}

-- how many keys a tuple may have
abbrev pub room_of : TupleBuckets → ℕ
room_of (One buckets) = 1
room_of (Two buckets) = 2
room_of (Four buckets) = 4
room_of (Eight buckets) = 8
room_of (Sixteen buckets) = 16

-- the buckets, whatever the room in their tuples
abbrev pub node_of : TupleBuckets → Node EncodedTuple
node_of (One buckets) = buckets
node_of (Two buckets) = buckets
node_of (Four buckets) = buckets
node_of (Eight buckets) = buckets
node_of (Sixteen buckets) = buckets
