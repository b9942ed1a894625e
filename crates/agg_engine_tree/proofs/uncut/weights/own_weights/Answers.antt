use Rattle.std.proofs.Common.{◌∙◌, ◌++◌, ◌∷◌, [], ap, get_or, length, map}
use Rattle.std.specs.Io.Iter.{u64_saturate}
use Rattle.agg_engine_tree.specs.uncut.Weights.{weights_of}
use Rattle.agg_engine_tree.proofs.lemmas.uncut.WeighedLists.{cut-more, first-all, weight-cut}
use Rattle.agg_engine_tree.proofs.uncut.weights.own_weights.Goals as goal

pub loop-index-init : goal.loop-index-init
loop-index-init c segment asks exact weighed = c.in_ok-own.ensures.items

pub loop-index-preserved : goal.loop-index-preserved
loop-index-preserved c segment asks exact weighed =
    let docs = c.args.docs.now in
    let i = c.loop-index.index in
    let l = c.loop-index-test.true in
    let weight = weight-cut segment asks docs exact weighed.as_many
    (weights_of c.args.weights.now (length docs)) i c.weight_at.result l weighed.weights_cut
    (c.weight_at.ensures (length docs) l) in
    let own = c.own_weight.ensures segment asks (get_or exact i 0) weighed.node_data
    (weighed.within i 0 l) weight in
    c.in_ok-push.ensures.items
    ∙ ap (λ ns. ns ++ c.own_weight.result ∷ []) (c.loop-index.invariant segment asks exact weighed)
    ∙ cut-more segment asks docs exact weighed.as_many i c.own_weight.result l own

pub returns : goal.returns
returns c segment asks exact weighed =
    c.loop-index.invariant segment asks exact weighed
    ∙ ap (map u64_saturate)
    (first-all segment asks c.args.docs.now exact weighed.as_many c.loop-index.index
    c.loop-index-test.false)
