use Rattle.std.proofs.Common.{◌≡◌, Some, true, bytes_eq, ap, ◌∙◌, arith, rules}
use Rattle.agg_request.specs.reading.Builders.{taken}
use Rattle.agg_request.proofs.lemmas.reading.BuildersTaken.{taken_at, taken_nowhere}
use Rattle.agg_request.proofs.reading.request.builders.take_builder.Goals as goal

pub returns-then-eq : goal.returns-then-eq
returns-then-eq g c =
    let l = c.loop-i in
    let name_of = g.B.HasName.name_of in
    let is : bytes_eq (name_of c.index.result.now) c.args.name.now ≡ true = search rules in
    ap (λ ys. Some (c.remove.result, ys)) c.remove.ensures.items
    ∙ taken_at name_of c.args.name.now l.pool.items l.i c.remove.result c.index.result.now
    (omega arith) c.remove.ensures.value c.index.ensures is l.invariant.1
    ∙ ap (taken name_of c.args.name.now) l.invariant.0

pub returns : goal.returns
returns g c =
    let l = c.loop-i in
    taken_nowhere g.B.HasName.name_of c.args.name.now l.pool.items l.i (omega arith) l.invariant.1
    ∙ ap (taken g.B.HasName.name_of c.args.name.now) l.invariant.0
