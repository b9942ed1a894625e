use Rattle.std.proofs.Common.{◌≡◌, ◌<◌, IfOk, length, subst, sym, ◌∙◌}
use Rattle.std.specs.List.{All}
use Rattle.agg_segment.specs.Segment.{documents_at, documents_of}
use Rattle.agg_engine_tree.specs.uncut.Uncut as uncut
use Rattle.agg_engine.proofs.lemmas.snapshot_results.Contexts.{data-here, documents-one}
use Rattle.agg_engine.proofs.snapshot_results.checks.counts_of.Goals as goal

pub uncut_lengths-requires-clause-docs : goal.uncut_lengths-requires-clause-docs
uncut_lengths-requires-clause-docs c =
    let is = c.requires.3 in
    subst (λ segment. All (λ doc. doc < length (documents_of segment)) c.deref.result.now)
    (sym is.reader)
    (subst (All (λ doc. doc < length (documents_of c.requires.2))) (sym c.deref.ensures.value)
    is.within)

pub uncut_lengths-requires-clause-context : goal.uncut_lengths-requires-clause-context
uncut_lengths-requires-clause-context c =
    data-here c.requires.0 c.requires.1 c.requires.2 c.args.context.now c.requires.3

pub returns : goal.returns
returns c = λ request query segment is.
    let same : documents_at c.args.context.now.reader.now c.deref.result.now
    ≡ documents_at segment c.args.context.now.docs.items =
    λ i. documents_at (is.reader i) (c.deref.ensures.value i) in
    subst (λ ds. IfOk c.uncut_lengths.result
    (λ counts. counts.items ≡ uncut.uncut_lengths request ds))
    (same ∙ documents-one request query segment c.args.context.now is)
    (c.uncut_lengths.ensures is.meaning request (is.means.same ∙ sym is.reader)
    is.means.aggregations)
