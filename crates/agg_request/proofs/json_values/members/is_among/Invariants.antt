use Rattle.std.proofs.Common.{◌≡◌, map, drop}
use Rattle.agg_request.specs.json_values.Json.{is_among}
use Rattle.agg_request.proofs.json_values.members.is_among.Given as goal

abbrev pub invariant-loop-other : goal.invariant-loop-other
invariant-loop-other l =
    is_among l.fn.name (map (λ n. n.now) l.fn.names)
    ≡ is_among l.fn.name (map (λ n. n.now) (drop l.other-index l.fn.names))
