use Rattle.std.proofs.Common.{IfOk, length, subst, ap, ◌∙◌, arith}
use Rattle.std.specs.Vec.Iter.{into_iter_items}
use Rattle.std.proofs.lemmas.List.{take_all}
use Rattle.agg_engine.proofs.lemmas.collectors.Halves.{Stands}
use Rattle.agg_engine.proofs.collectors.merging.merged.Goals as goal

pub returns-clause-ok : goal.returns-clause-ok
returns-clause-ok c =
    subst (λ fruits. IfOk c.merged_next.result (Stands fruits))
    (take_all c.len-count.result (into_iter_items c.into_iter.result)
    (omega (arith, ap length c.into_iter.ensures.rest))
    ∙ c.into_iter.ensures.rest ∙ c.into_vec-fruits.ensures)
    c.merged_next.ensures.ok
