use Rattle.std.proofs.Common.{◌≡◌}
use Rattle.serde_json.specs.View.{view, members_view}
use Rattle.agg_request.specs.json_values.Json.{only_other}
use Rattle.agg_request.proofs.lemmas.json_values.Others.{other_onward, seen}
use Rattle.agg_request.proofs.json_values.json_value.only_other.Given as goal

-- the member of another name so far, before those that are to come
abbrev pub invariant-loop-other : goal.invariant-loop-other
invariant-loop-other l =
    (goal.iterator-loop-other).can_next l.other-iterator
    × (goal.iterator-loop-other).is_finite l.other-iterator
    × (only_other l.fn.name (view l.fn.value)
    ≡ other_onward l.fn.name (seen l.found) (members_view l.other-iterator))
