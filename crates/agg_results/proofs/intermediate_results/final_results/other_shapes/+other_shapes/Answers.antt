use Rattle.std.proofs.Common.{sym, ap, ◌∙◌, inl, inr, subst}
use Rattle.std.specs.Bool.{MatchBool}
use Rattle.std.specs.List.{Any}
use Rattle.agg_request_tree.proofs.Checks.{All-next, All-whole}
use Rattle.agg_request_tree.proofs.Lists.{none_of_all}
use Rattle.agg_results.specs.intermediate_results.Intermediate.{Entries, TupleEntry, below_entry}
use Rattle.agg_results.specs.intermediate_results.Intermediate.{helds_below, parts_of}
use Rattle.agg_results.specs.intermediate_results.Refusals.{HoldsOther}
use Rattle.agg_results.proofs.lemmas.intermediate_results.AskedNames.{IsToldAt, match-mapped}
use Rattle.agg_results.proofs.lemmas.intermediate_results.LeftOver.{IsLeft-all, IsLeft-found}
use Rattle.agg_results.proofs.lemmas.intermediate_results.LeftOver.{IsLeft-more, IsLeft-none}
use Rattle.agg_results.proofs.lemmas.intermediate_results.Refusals.{OtherHere, asked-alike}
use Rattle.agg_results.proofs.lemmas.intermediate_results.Refusals.{other-entry, other-name}
use Rattle.agg_results.proofs.lemmas.intermediate_results.Refusals.{unasked-alike}
use Rattle.agg_results.proofs.lemmas.intermediate_results.ResultParts.{parts-composite}
use Rattle.agg_results.proofs.intermediate_results.final_results.other_shapes.+other_shapes.Goals
    as goal
use goal.{holds_other-then-is_other-via-then-is_other}
use goal.{holds_other-then-is_other-via-else-is_other+then-result_holds_other}

pub entries_hold_other-loop-entry-preserved : goal.entries_hold_other-loop-entry-preserved
entries_hold_other-loop-entry-preserved g t c =
    All-next (λ (e : TupleEntry). ¬ (HoldsOther c.args.req.now (below_entry e.1)))
    c.args.entries.now c.loop-entry.entry-index c.loop-entry-item.result c.loop-entry-test.true
    c.loop-entry-item.is c.loop-entry.invariant c.if-holds_other.ensures

pub entries_hold_other-returns : goal.entries_hold_other-returns
entries_hold_other-returns g t c =
    let P = λ (e : TupleEntry). HoldsOther c.args.req.now (below_entry e.1) in
    none_of_all P c.args.entries.now (All-whole (λ (e : TupleEntry). ¬ (P e)) c.args.entries.now
    c.loop-entry.entry-index c.loop-entry-test.false c.loop-entry.invariant)

pub holds_other-loop-name-init : goal.holds_other-loop-name-init
holds_other-loop-name-init g t c =
    IsLeft-all (IsToldAt (OtherHere c.args.req.now) c.args.req.now) c.args.held.now.results
    c.into_iter-name-iterator.result
    (c.into_iter-name-iterator.ensures.into_iter_gives ∙ c.iter-name-items.ensures.entries)

pub holds_other-returns-then-is_other : goal.holds_other-returns-then-is_other
holds_other-returns-then-is_other g t c =
    let request = c.args.req.now in
    other-name request c.args.held.now.results c.iter-name-items.ensures.ascending
    (IsLeft-found (IsToldAt (OtherHere request) request) c.args.held.now.results
    c.loop-name.name-iterator (c.in-Some.name.now, c.in-Some.found.now) c.next.new.self
    c.loop-name.invariant c.in-Some.ensures.steps (
      c.in-Some-get.aggregation.now,
      sym c.in-Some-get.ensures.value,
      elim c.then-is_other.branch [
        | holds_other-then-is_other-via-then-is_other w ↦ inl w.if-is_other.ensures
        | holds_other-then-is_other-via-else-is_other+then-result_holds_other w ↦
            inr w.if-result_holds_other.ensures
      ],
    ))

pub holds_other-loop-name-preserved-in-Some-get : goal.holds_other-loop-name-preserved-in-Some-get
holds_other-loop-name-preserved-in-Some-get g t c =
    let request = c.args.req.now in
    IsLeft-more (IsToldAt (OtherHere request) request) c.args.held.now.results
    c.loop-name.name-iterator (c.in-Some.name.now, c.in-Some.found.now) c.next.new.self
    c.loop-name.invariant c.in-Some.ensures.steps
    (asked-alike request (c.in-Some.name.now, c.in-Some.found.now) c.in-Some-get.aggregation.now
    (sym c.in-Some-get.ensures.value) c.if-is_other.ensures c.if-result_holds_other.ensures)

pub holds_other-loop-name-preserved : goal.holds_other-loop-name-preserved
holds_other-loop-name-preserved g t c =
    let request = c.args.req.now in
    IsLeft-more (IsToldAt (OtherHere request) request) c.args.held.now.results
    c.loop-name.name-iterator (c.in-Some.name.now, c.in-Some.found.now) c.next.new.self
    c.loop-name.invariant c.in-Some.ensures.steps
    (unasked-alike request (c.in-Some.name.now, c.in-Some.found.now) c.in_default.ensures.value)

pub holds_other-returns : goal.holds_other-returns
holds_other-returns g t c = λ holds.
    IsLeft-none (IsToldAt (OtherHere c.args.req.now) c.args.req.now) c.args.held.now.results
    c.loop-name.name-iterator c.loop-name.invariant c.in-None.ensures.steps.0
    (other-entry c.args.req.now c.args.held.now.results holds)

pub result_holds_other-returns-in-Composite : goal.result_holds_other-returns-in-Composite
result_holds_other-returns-in-Composite g t c =
    let P = HoldsOther c.args.req.now in
    subst (λ parts. MatchBool c.entries_hold_other.result (Any P (helds_below parts))
    (¬ (Any P (helds_below parts))))
    (sym (ap parts_of c.in-Bucket.is
    ∙ parts-composite c.in-Bucket.bucket c.in-Composite.buckets c.in-Composite.is))
    (match-mapped P (λ (e : TupleEntry). below_entry e.1) c.entries_hold_other.result _
    (subst (λ (es : Entries). MatchBool c.entries_hold_other.result
    (Any (λ e. P (below_entry e.1)) es) (¬ (Any (λ e. P (below_entry e.1)) es)))
    c.entries.ensures c.entries_hold_other.ensures))
