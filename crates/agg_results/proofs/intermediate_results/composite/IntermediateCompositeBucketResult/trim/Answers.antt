use Rattle.std.proofs.Common.{◌*◌, ◌≤◌, length, sym, ap, ◌∙◌, arith}
use Rattle.agg_results.specs.intermediate_results.Intermediate.{composite_of, entries_of, orders_of}
use Rattle.agg_results.specs.intermediate_results.Intermediate.{target_size_of}
use Rattle.agg_results.proofs.lemmas.intermediate_results.Composites.{trimmed-up_to, closed}
use Rattle.agg_results.proofs.intermediate_results as intermediate
use intermediate.composite.IntermediateCompositeBucketResult.trim.Goals as goal

pub returns-else-len-from : goal.returns-else-len-from
returns-else-len-from c =
    let held = c.args.self.now in
    let few : length (entries_of held) ≤ 2 * target_size_of held
    = omega (arith, c.len.ensures, c.from.ensures) in
    sym (closed held)
    ∙ ap (composite_of (orders_of held) (target_size_of held))
    (sym (trimmed-up_to (target_size_of held) (entries_of held) few))
