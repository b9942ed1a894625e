use Rattle.std.proofs.Common.{◌∙◌, length, sym, ap, arith}
use Rattle.agg_filter.specs.Filter.{id_of}
use Rattle.agg_filter.proofs.PreparedParents.{no_id, range-at}
use Rattle.agg_filter.proofs.collector.SegmentFilterCollector.bucket_id.Goals as goal

pub returns-then-len-parent_bucket_id-clause-id : goal.returns-then-len-parent_bucket_id-clause-id
returns-then-len-parent_bucket_id-clause-id g c =
    let parent = c.args.parent_bucket_id in
    sym (ap (λ collector. id_of collector parent) (sym c.self.view_is)
    ∙ no_id (length c.self.inside.counts.items) parent
    (omega (arith, c.len.ensures, c.if-len-parent_bucket_id.true)))

pub returns-clause-id : goal.returns-clause-id
returns-clause-id g c =
    let parent = c.args.parent_bucket_id in
    sym (ap (λ collector. id_of collector parent) (sym c.self.view_is)
    ∙ range-at (length c.self.inside.counts.items) parent
    (omega (arith, c.len.ensures, c.if-len-parent_bucket_id.false)))
