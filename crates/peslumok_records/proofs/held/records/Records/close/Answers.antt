use Rattle.std.proofs.Common.{subst}
use Rattle.agg_segment.specs.Segment.{gathered_documents, open_document}
use Rattle.agg_segment.specs.SegmentLimits.{IsMixed}
use Rattle.peslumok_records.proofs.lemmas.held.SingleDocuments.{fits_alone}
use Rattle.peslumok_records.proofs.held.records.Records.close.Goals as goal

pub returns-in-Ok-clause-fits : goal.returns-in-Ok-clause-fits
returns-in-Ok-clause-fits c = λ _.
    let builder = c.args.self.now.builder in
    fits_alone (gathered_documents builder) (open_document builder)
    (subst (λ ds. ¬ (IsMixed ds)) c.in-Ok.ensures.ok c.in-Ok.ensures.fits)
