use Rattle.std.proofs.Common.{ℕ, List, Bor}
use Rattle.std.proofs.lemmas.Iterator.Consumers.{YieldsList-from_first, map_from_collect}
use Rattle.agg_request_tree.specs.declared.aggregation.Aggregation.{Aggregation}
use Rattle.agg_results.proofs.intermediate_results.final_results.by_name.entries_of.Goals as goal

pub returns-clause-entries : goal.returns-clause-entries
returns-clause-entries g c =
    rw c.in_ok-collect.was
    at (map_from_collect c.collect.result c.collect.ensures.ran
    (YieldsList-from_first
    (λ (e : Bor (List ℕ) × Bor (Aggregation g.row.B.Denot)). (e.0.now, e.1.now))
    (λ entries. entries) c.args.req.now c.iter.ensures.entries))
