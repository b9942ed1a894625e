use Rattle.std.proofs.Common.{sym, ap, ◌∙◌, inl, inr, subst}
use Rattle.std.specs.Bool.{MatchBool}
use Rattle.std.specs.List.{Any}
use Rattle.agg_request_tree.proofs.Checks.{All-next, All-whole}
use Rattle.agg_request_tree.proofs.Lists.{none_of_all}
use Rattle.agg_results.specs.intermediate_results.Intermediate.{Entries, TupleEntry, below_entry}
use Rattle.agg_results.specs.intermediate_results.Intermediate.{helds_below, parts_of}
use Rattle.agg_results.specs.intermediate_results.Refusals.{HoldsUnknown}
use Rattle.agg_results.proofs.lemmas.intermediate_results.AskedNames.{match-mapped}
use Rattle.agg_results.proofs.lemmas.intermediate_results.LeftOver.{IsLeft-all, IsLeft-found}
use Rattle.agg_results.proofs.lemmas.intermediate_results.LeftOver.{IsLeft-more, IsLeft-none}
use Rattle.agg_results.proofs.lemmas.intermediate_results.Refusals.{IsUnknownAt, asked-known}
use Rattle.agg_results.proofs.lemmas.intermediate_results.Refusals.{unknown-entry, unknown-name}
use Rattle.agg_results.proofs.lemmas.intermediate_results.ResultParts.{parts-composite}
use Rattle.agg_results.proofs.intermediate_results.final_results.unknown_names.+unknown_names.Goals
    as goal

pub entries_hold_unknown-loop-entry-preserved : goal.entries_hold_unknown-loop-entry-preserved
entries_hold_unknown-loop-entry-preserved g t c =
    All-next (λ (e : TupleEntry). ¬ (HoldsUnknown c.args.req.now (below_entry e.1)))
    c.args.entries.now c.loop-entry.entry-index c.loop-entry-item.result c.loop-entry-test.true
    c.loop-entry-item.is c.loop-entry.invariant c.if-holds_unknown.ensures

pub entries_hold_unknown-returns : goal.entries_hold_unknown-returns
entries_hold_unknown-returns g t c =
    let P = λ (e : TupleEntry). HoldsUnknown c.args.req.now (below_entry e.1) in
    none_of_all P c.args.entries.now (All-whole (λ (e : TupleEntry). ¬ (P e)) c.args.entries.now
    c.loop-entry.entry-index c.loop-entry-test.false c.loop-entry.invariant)

pub holds_unknown-loop-name-init : goal.holds_unknown-loop-name-init
holds_unknown-loop-name-init g t c =
    IsLeft-all (IsUnknownAt c.args.req.now) c.args.held.now.results
    c.into_iter-name-iterator.result
    (c.into_iter-name-iterator.ensures.into_iter_gives ∙ c.iter-name-items.ensures.entries)

pub holds_unknown-returns-in_default : goal.holds_unknown-returns-in_default
holds_unknown-returns-in_default g t c =
    unknown-name c.args.req.now c.args.held.now.results c.iter-name-items.ensures.ascending
    (IsLeft-found (IsUnknownAt c.args.req.now) c.args.held.now.results c.loop-name.name-iterator
    (c.in-Some.name.now, c.in-Some.found.now) c.next.new.self c.loop-name.invariant
    c.in-Some.ensures.steps (inl (sym c.in_default.ensures.value)))

pub holds_unknown-returns-then-result_holds_unknown :
    goal.holds_unknown-returns-then-result_holds_unknown
holds_unknown-returns-then-result_holds_unknown g t c =
    unknown-name c.args.req.now c.args.held.now.results c.iter-name-items.ensures.ascending
    (IsLeft-found (IsUnknownAt c.args.req.now) c.args.held.now.results c.loop-name.name-iterator
    (c.in-Some.name.now, c.in-Some.found.now) c.next.new.self c.loop-name.invariant
    c.in-Some.ensures.steps
    (inr (
      c.in-Some-get.aggregation.now,
      sym c.in-Some-get.ensures.value,
      c.if-result_holds_unknown.ensures,
    )))

pub holds_unknown-loop-name-preserved : goal.holds_unknown-loop-name-preserved
holds_unknown-loop-name-preserved g t c =
    IsLeft-more (IsUnknownAt c.args.req.now) c.args.held.now.results c.loop-name.name-iterator
    (c.in-Some.name.now, c.in-Some.found.now) c.next.new.self c.loop-name.invariant
    c.in-Some.ensures.steps
    (asked-known c.args.req.now (c.in-Some.name.now, c.in-Some.found.now)
    c.in-Some-get.aggregation.now (sym c.in-Some-get.ensures.value)
    c.if-result_holds_unknown.ensures)

pub holds_unknown-returns : goal.holds_unknown-returns
holds_unknown-returns g t c = λ holds.
    IsLeft-none (IsUnknownAt c.args.req.now) c.args.held.now.results c.loop-name.name-iterator
    c.loop-name.invariant c.in-None.ensures.steps.0
    (unknown-entry c.args.req.now c.args.held.now.results holds)

pub result_holds_unknown-returns-in-Composite : goal.result_holds_unknown-returns-in-Composite
result_holds_unknown-returns-in-Composite g t c =
    let P = HoldsUnknown c.args.req.now in
    subst (λ parts. MatchBool c.entries_hold_unknown.result (Any P (helds_below parts))
    (¬ (Any P (helds_below parts))))
    (sym (ap parts_of c.in-Bucket.is
    ∙ parts-composite c.in-Bucket.bucket c.in-Composite.buckets c.in-Composite.is))
    (match-mapped P (λ (e : TupleEntry). below_entry e.1) c.entries_hold_unknown.result _
    (subst (λ (es : Entries). MatchBool c.entries_hold_unknown.result
    (Any (λ e. P (below_entry e.1)) es) (¬ (Any (λ e. P (below_entry e.1)) es)))
    c.entries.ensures c.entries_hold_unknown.ensures))
