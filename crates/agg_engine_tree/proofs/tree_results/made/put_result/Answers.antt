use Rattle.std.proofs.Common.{Err, ap, ◌∙◌}
use Rattle.agg_values.specs.Names.{value_of}
use Rattle.agg_results.specs.intermediate_results.Merging.{CountsPass, ShapesDiffer}
use Rattle.agg_engine_tree.proofs.lemmas.tree_results.UnheldNames.{is_out_of_memory, unheld}
use Rattle.agg_engine_tree.proofs.tree_results.made.put_result.Goals as goal

pub out_of_memory-requires : goal.out_of_memory-requires
out_of_memory-requires c =
    let held = c.args.results.now.results in
    let name = c.in_ok-try_clone.field-0 in
    let none = ap (λ n. value_of n held) c.in_ok-try_clone.ensures ∙ c.requires in
    is_out_of_memory c.in-Err.error
    (λ was. unheld ShapesDiffer held name c.args.value none
    (c.in-Err.ensures.mismatch (ap Err was)))
    (λ was. unheld CountsPass held name c.args.value none
    (c.in-Err.ensures.too_many (ap Err was)).1)
