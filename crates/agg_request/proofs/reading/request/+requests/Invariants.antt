use Rattle.std.proofs.Common.{◌<◌, ◌+◌, ◌*◌, ℕ}
use Rattle.serde_json.specs.Data.{depth, members_depth}
use Rattle.serde_json.specs.View.{view, members_view}
use Rattle.agg_request.specs.reading.Builders.{left_behind}
use Rattle.agg_request.specs.reading.RequestJson.{IsAggregation}
use Rattle.agg_request.specs.reading.Unsupported.{HasUnsupportedAggregation}
use Rattle.agg_request.proofs.lemmas.reading.PoolMembers.{IsInOrder, IsPartRead}
use Rattle.agg_request.proofs.reading.request.+requests.Given as goal

abbrev pub decreases-read_members : goal.decreases-read_members
decreases-read_members g l = 2 * members_depth (members_view l.members.now.entries) + 2

abbrev pub decreases-read_aggregation : goal.decreases-read_aggregation
decreases-read_aggregation g l = 2 * depth (view l.value.now) + 1

abbrev pub decreases-read_below : goal.decreases-read_below
decreases-read_below g l = 2 * depth (view l.value.now)

-- the members so far are read, whatever the levels
abbrev pub invariant-read_members-loop-name : goal.invariant-read_members-loop-name
invariant-read_members-loop-name g l =
    (goal.iterator-read_members-loop-name g).can_next l.name-iterator
    × (goal.iterator-read_members-loop-name g).is_finite l.name-iterator
    × IsInOrder (members_view l.members.entries) l.request l.name-iterator
    × ((n : ℕ) → members_depth (members_view l.members.entries) < n
    → IsPartRead (left_behind g.B.HasName.name_of n)
    (λ lenient. IsAggregation lenient g.B.HasName.name_of n) (HasUnsupportedAggregation n)
    (members_view l.members.entries) l.fn.pool.items l.request l.pool.items l.name-iterator)
