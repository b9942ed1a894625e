use Rattle.std.proofs.Common.{refl, ◌∙◌, ap, get_or, length}
use Rattle.std.specs.Prelude.{sum}
use Rattle.std.specs.Io.Iter.{u64_saturate}
use Rattle.agg_engine_tree.specs.uncut.Weights.{weights_of}
use Rattle.agg_engine_tree.proofs.lemmas.uncut.WeighedLists.{first-all, sum-more, sum-weights}
use Rattle.agg_engine_tree.proofs.lemmas.uncut.WeighedLists.{weight-cut}
use Rattle.agg_engine_tree.proofs.uncut.weights.num_weighed.Goals as goal

pub loop-index-init : goal.loop-index-init
loop-index-init c segment asks exact weighed = refl

pub loop-index-preserved : goal.loop-index-preserved
loop-index-preserved c segment asks exact weighed =
    let docs = c.args.docs.now in
    let i = c.loop-index.index in
    let l = c.loop-index-test.true in
    let weight = weight-cut segment asks docs exact weighed.as_many
    (weights_of c.args.weights.now (length docs)) i c.weight_at.result l weighed.weights_cut
    (c.weight_at.ensures (length docs) l) in
    let own = c.own_weight.ensures segment asks (get_or exact i 0) weighed.node_data
    (weighed.within i 0 l) weight in
    c.saturating_add-count.ensures
    ∙ sum-more segment asks docs exact weighed.as_many i c.loop-index.count c.own_weight.result l
    (c.loop-index.invariant segment asks exact weighed) own

pub returns : goal.returns
returns c segment asks exact weighed =
    let docs = c.args.docs.now in
    c.loop-index.invariant segment asks exact weighed
    ∙ ap (λ ns. u64_saturate (sum ns))
    (first-all segment asks docs exact weighed.as_many c.loop-index.index c.loop-index-test.false)
    ∙ ap u64_saturate (sum-weights segment asks docs exact weighed.as_many)
