use Rattle.std.proofs.Common.{◌≡◌, map}
use Rattle.serde_json.specs.View.{view, members_view}
use Rattle.agg_request.specs.json_values.Json.{all_among, has_only}
use Rattle.agg_request.proofs.json_values.members.has_only.Given as goal

abbrev pub invariant-loop-name : goal.invariant-loop-name
invariant-loop-name l =
    (goal.iterator-loop-name).can_next l.name-iterator
    × (goal.iterator-loop-name).is_finite l.name-iterator
    × (has_only (map (λ n. n.now) l.fn.names) (view l.fn.value)
    ≡ all_among (map (λ n. n.now) l.fn.names) (members_view l.name-iterator))
