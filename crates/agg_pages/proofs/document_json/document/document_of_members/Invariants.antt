use Rattle.agg_pages.proofs.lemmas.document_json.DocumentMembers.{HasRead}
use Rattle.agg_pages.proofs.document_json.document.document_of_members.Given as goal

-- the members so far were put into the document
abbrev pub invariant-loop-name : goal.invariant-loop-name
invariant-loop-name l =
    (goal.iterator-loop-name).can_next l.name-iterator ×
    (goal.iterator-loop-name).is_finite l.name-iterator ×
    HasRead l.fn.members.entries l.document l.name-iterator
