use Rattle.serde_json.specs.View.{members_view}
use Rattle.agg_request.proofs.lemmas.reading.AfterKeys.{IsReadUpTo}
use Rattle.agg_request.proofs.reading.composite.after.read_members.Given as goal

-- the members so far are read
abbrev pub invariant-loop-name : goal.invariant-loop-name
invariant-loop-name l =
    (goal.iterator-loop-name).can_next l.name-iterator
    × (goal.iterator-loop-name).is_finite l.name-iterator
    × IsReadUpTo (members_view l.members.entries) l.after l.name-iterator
