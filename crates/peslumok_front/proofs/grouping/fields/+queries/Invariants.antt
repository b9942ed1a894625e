use Rattle.std.proofs.Common.{take}
use Rattle.std.specs.List.{flat_map}
use Rattle.peslumok_front.specs.grouping.Fields.{AreAdded, fields_in}
use Rattle.peslumok_front.proofs.grouping.fields.+queries.Given as goal

-- the fields of the queries so far are asked for
abbrev pub invariant-ask_all-loop-query : goal.invariant-ask_all-loop-query
invariant-ask_all-loop-query l =
    AreAdded l.types (flat_map fields_in (take l.query-index l.query-items)) l.fn.fields l.fields
