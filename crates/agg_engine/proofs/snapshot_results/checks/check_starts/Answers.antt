use Rattle.std.proofs.Common.{subst, arith}
use Rattle.std.proofs.lemmas.List.{take_all}
use Rattle.std.proofs.lemmas.Slice.Zip.{AllZip-long}
use Rattle.agg_request_tree.specs.Ranges.{HasStartOutOfRange}
use Rattle.agg_engine.specs.snapshot_results.Contexts.{IsContextOf}
use Rattle.agg_engine.specs.snapshot_results.Documents.{matching_in}
use Rattle.agg_engine.proofs.lemmas.snapshot_results.Contexts.{at, documents-here, range-more}
use Rattle.agg_engine.proofs.lemmas.snapshot_results.Contexts.{range-refused}
use Rattle.agg_engine.proofs.lemmas.snapshot_results.StartRanges.{none-of_none}
use Rattle.agg_engine.proofs.snapshot_results.checks.check_starts.Goals as goal

pub loop-context-init : goal.loop-context-init
loop-context-init c = λ request query segments are. none-of_none request

pub are_starts_in_range-requires : goal.are_starts_in_range-requires
are_starts_in_range-requires c =
    let request = c.requires.0 in
    let here = at request c.requires.1 c.requires.2 c.args.contexts.now c.requires.3
    c.loop-context.context-index c.context-item.result (omega arith) c.context-item.is in
    (here.2.meaning, request, here.2.means.aggregations)

pub returns-then-not-are_starts_in_range-clause-err :
    goal.returns-then-not-are_starts_in_range-clause-err
returns-then-not-are_starts_in_range-clause-err c = λ request query segments are.
    let i = c.loop-context.context-index in
    let given = c.context-item.result in
    let here = at request query segments c.args.contexts.now are i given (omega arith)
    c.context-item.is in
    range-refused request query segments c.args.contexts.now are i given (omega arith)
    c.context-item.is
    (subst (HasStartOutOfRange request)
    (documents-here request query here.0 given here.2 here.2.meaning here.2.means.same
    c.deref.result.now c.deref.ensures.value)
    (c.if-not-are_starts_in_range.ensures here.2.meaning request here.2.means.aggregations))

pub loop-context-preserved : goal.loop-context-preserved
loop-context-preserved c = λ request query segments are.
    let i = c.loop-context.context-index in
    let given = c.context-item.result in
    let here = at request query segments c.args.contexts.now are i given (omega arith)
    c.context-item.is in
    range-more request query segments c.args.contexts.now are i given (omega arith)
    c.context-item.is (c.loop-context.invariant request query segments are)
    (subst (λ ds. ¬ (HasStartOutOfRange request ds))
    (documents-here request query here.0 given here.2 here.2.meaning here.2.means.same
    c.deref.result.now c.deref.ensures.value)
    (c.if-not-are_starts_in_range.ensures here.2.meaning request here.2.means.aggregations))

pub returns-clause-ok : goal.returns-clause-ok
returns-clause-ok c = λ request query segments are.
    let long = AllZip-long (IsContextOf request query) segments c.args.contexts.now are in
    subst (λ ss. ¬ (HasStartOutOfRange request (matching_in query ss)))
    (take_all c.loop-context.context-index segments (omega arith))
    (c.loop-context.invariant request query segments are)
