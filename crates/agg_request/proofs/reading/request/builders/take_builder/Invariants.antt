use Rattle.std.proofs.Common.{◌≡◌, take, drop}
use Rattle.agg_request.specs.reading.Builders.{taken}
use Rattle.agg_request.proofs.lemmas.reading.BuildersTaken.{before}
use Rattle.agg_request.proofs.reading.request.builders.take_builder.Given as goal

-- none so far has the name
abbrev pub invariant-loop-i : goal.invariant-loop-i
invariant-loop-i g l =
    (l.pool.items ≡ l.fn.pool.items)
    × (taken g.B.HasName.name_of l.name l.pool.items
    ≡ before (take l.i l.pool.items) (taken g.B.HasName.name_of l.name (drop l.i l.pool.items)))
