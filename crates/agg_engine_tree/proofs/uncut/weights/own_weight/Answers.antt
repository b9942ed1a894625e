use Rattle.std.proofs.Common.{◌∙◌, ◌-◌, ◌^◌, ◌*◌}
use Rattle.std.specs.Io.Iter.{u64_saturate}
use Rattle.agg_segment.specs.Segment.{document_at}
use Rattle.agg_engine_tree.specs.uncut.Uncut.{times}
use Rattle.agg_engine_tree.proofs.lemmas.uncut.CutNumbers.{cut-factors}
use Rattle.agg_engine_tree.proofs.uncut.weights.own_weight.Goals as goal

pub returns : goal.returns
returns c segment asks exact of within cut =
    let own = times asks (document_at segment c.args.doc) in
    c.saturating_mul.ensures
    ∙ (λ j. u64_saturate (cut j * c.times.ensures segment asks of within j))
    ∙ cut-factors exact own (2 ^ 64 - 1)
