use Rattle.std.proofs.Common.{[], All, arith, false, subst, sym}
use Rattle.agg_segment.specs.Segment.{document_at}
use Rattle.agg_composite.specs.accessor.Decoded.{IsEncoded}
use Rattle.agg_composite.specs.HeldTuples.{AreTuplesOf}
use Rattle.agg_composite.specs.Walk.{parts, walked}
use Rattle.agg_composite.proofs.ChoicePairs.{past-document}
use Rattle.agg_composite.proofs.DocumentsInRow.{document-answers, gathered-from, walked-answers}
use Rattle.agg_composite.proofs.KeptTuples.{all-encoded}
use Rattle.agg_composite.proofs.walk.visit_document.Goals as goal

pub returns-clause-answers : goal.returns-clause-answers
returns-clause-answers g c = λ segment after fit range typed is.
    let req = c.args.req.now in
    let sources = req.req.now.sources in
    let accessors = req.composite_accessors in
    let doc = c.args.doc in
    let old = c.args.buckets.now in
    let rows = parts c.as_slice-2.result.now c.as_slice.result.now in
    let read = gathered-from c.as_slice-sources.result.now sources
    c.as_slice-accessors.result.now accessors doc c.gather.new.self.sizes.items
    c.as_slice-2.result.now c.gather.new.self.choices.items c.as_slice.result.now
    c.as_slice-sources.ensures c.as_slice-accessors.ensures c.as_slice-2.ensures.value
    c.as_slice.ensures.value c.in_ok-gather.ensures.read in
    document-answers req segment after doc old c.walk_from.new.buckets c.args.steps.now
    c.walk_from.new.steps c.walk_from.result (walked rows [] false)
    (past-document segment after sources accessors doc rows fit
    (range 0 (document_at segment doc) (omega arith)) read)
    (walked-answers rows c.new.result c.begin_document.new.self (record old { doc = doc })
    c.walk_from.new.buckets c.args.steps.now c.walk_from.new.steps c.walk_from.result
    c.new.ensures c.begin_document.ensures c.walk_from.ensures.answers)
    typed is

pub returns-clause-held : goal.returns-clause-held
returns-clause-held g c = λ segment after fit range held.
    let req = c.args.req.now in
    let sources = req.req.now.sources in
    let accessors = req.composite_accessors in
    let doc = c.args.doc in
    let rows = parts c.as_slice-2.result.now c.as_slice.result.now in
    let read = gathered-from c.as_slice-sources.result.now sources
    c.as_slice-accessors.result.now accessors doc c.gather.new.self.sizes.items
    c.as_slice-2.result.now c.gather.new.self.choices.items c.as_slice.result.now
    c.as_slice-sources.ensures c.as_slice-accessors.ensures c.as_slice-2.ensures.value
    c.as_slice.ensures.value c.in_ok-gather.ensures.read in
    let tuples = all-encoded req (walked rows [] false) _
    (past-document segment after sources accessors doc rows fit
    (range 0 (document_at segment doc) (omega arith)) read) in
    c.walk_from.ensures.held req
    (subst (λ front. All (IsEncoded req) (walked rows front false)) (sym c.new.ensures) tuples)
    (subst (AreTuplesOf req) (sym c.begin_document.ensures) held)
