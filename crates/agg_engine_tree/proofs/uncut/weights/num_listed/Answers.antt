use Rattle.std.proofs.Common.{◌≡◌, ◌∙◌, ap, length, map, subst, sym}
use Rattle.std.specs.Io.Iter.{u64_saturate}
use Rattle.agg_segment.specs.Query.{matches}
use Rattle.agg_request_tree.specs.Uncut.{uncut}
use Rattle.agg_engine_tree.specs.uncut.NodeData.{IsDataOf}
use Rattle.agg_engine_tree.specs.uncut.Weights.{weights_of}
use Rattle.agg_engine_tree.proofs.lemmas.uncut.NodeData.{composite-lists}
use Rattle.agg_engine_tree.proofs.lemmas.uncut.WeighedLists.{repeated-ones}
use Rattle.agg_engine_tree.proofs.uncut.weights.num_listed.Goals as goal

pub returns-in-Composite-Ones : goal.returns-in-Composite-Ones
returns-in-Composite-Ones c segment asks exact weighed =
    let docs = c.args.docs.now in
    let ones = repeated-ones segment docs exact
    (subst (λ w. weights_of w (length docs) ≡ map u64_saturate exact) c.in-Composite-Ones.is-1
    weighed.weights_cut) in
    composite-lists segment docs asks c.in-Composite-Ones.req c.count_occurrences.result
    (subst (IsDataOf segment asks) c.in-Composite-Ones.is-0 weighed.node_data)
    c.count_occurrences.ensures
    ∙ ap (λ ds. u64_saturate (length (uncut matches asks ds))) (sym ones)
