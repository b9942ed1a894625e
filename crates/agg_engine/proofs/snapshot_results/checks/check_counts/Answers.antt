use Rattle.std.proofs.Common.{◌≡◌, ℕ, suc, ◌<◌, ◌+◌, ◌^◌, [], ◌∷◌, List, length, get_or, subst}
use Rattle.std.proofs.Common.{sym, ap, ◌∙◌}
use Rattle.std.proofs.Common.{arith, take}
use Rattle.std.proofs.lemmas.List.{take_all}
use Rattle.std.proofs.lemmas.Slice.Zip.{AllZip-long}
use Rattle.agg_segment.specs.Query.{matches}
use Rattle.agg_segment.specs.Segment.{Stored}
use Rattle.agg_segment.specs.declared.query.QueryTree.{QueryTree}
use Rattle.agg_request_tree.specs.Request.{Request}
use Rattle.agg_request_tree.specs.Uncut.{CountsTooMany}
use Rattle.agg_engine_tree.specs.uncut.Uncut as uncut
use Rattle.agg_engine.specs.snapshot_results.Contexts.{AreContextsOf, IsContextOf}
use Rattle.agg_engine.specs.snapshot_results.Documents.{matching_in}
use Rattle.agg_engine.proofs.lemmas.snapshot_results.Contexts.{at, first-of, no-item, no-segment}
use Rattle.agg_engine.proofs.lemmas.snapshot_results.Contexts.{one_more}
use Rattle.agg_engine.proofs.lemmas.snapshot_results.PartCounts.{as_many-none}
use Rattle.agg_engine.proofs.snapshot_results.checks.check_counts.Goals as goal
use Rattle.agg_engine.proofs.snapshot_results.checks.check_counts.Goals.{After-is_too_many as Whole}

-- the context at an index of the others is the one at the next index
next-item : {A : Type 0} (xs ys : List A) (x y : A) (i : ℕ) → xs ≡ x ∷ ys → y ≡ get_or ys i y
    → y ≡ get_or xs (i + 1) y
next-item xs ys x y i is item =
    let step : suc i ≡ i + 1 = omega arith in
    item
    ∙ ap (λ n. get_or (x ∷ ys) n y) step
    ∙ sym (ap (λ zs. get_or zs (i + 1) y) is)

pub returns-in_default-clause-few : goal.returns-in_default-clause-few
returns-in_default-clause-few c = λ request query segments are.
    let none = no-item c.args.contexts.now (omega (arith, c.in_default.ensures.cases)) in
    let no_segment = no-segment request query segments
    (subst (AreContextsOf request query segments) none are) in
    subst (λ ss. ¬ (CountsTooMany matches request (matching_in query ss))) (sym no_segment)
    (as_many-none matches (2 ^ 32) request (omega arith))

pub counts_of-requires : goal.counts_of-requires
counts_of-requires c =
    let request = c.requires.0 in
    let query = c.requires.1 in
    let own = first-of request query c.requires.2 c.in-Some.first.now c.in-Some.others.now
    (subst (AreContextsOf request query c.requires.2) c.in-Some.ensures.cases.0 c.requires.3) in
    (request, query, own.0, own.2)

pub loop-context-init : goal.loop-context-init
loop-context-init c = λ request query segments are.
    let own = first-of request query segments c.in-Some.first.now c.in-Some.others.now
    (subst (AreContextsOf request query segments) c.in-Some.ensures.cases.0 are) in
    c.new-counts.ensures
    ∙ c.in_ok-counts_of.ensures request query own.0 own.2
    ∙ ap (λ ss. uncut.uncut_lengths request (matching_in query ss)) (sym own.1)

pub counts_of-requires-in-loop-context : goal.counts_of-requires-in-loop-context
counts_of-requires-in-loop-context c =
    let request = c.requires.0 in
    let query = c.requires.1 in
    let i = c.loop-context.context-index in
    let given = c.context-item.result in
    let item = next-item c.args.contexts.now c.in-Some.others.now c.in-Some.first.now given i
    c.in-Some.ensures.cases.0 c.context-item.is in
    let here = at request query c.requires.2 c.args.contexts.now c.requires.3 (i + 1) given
    (omega (arith, c.in-Some.ensures.cases.1)) item in
    (request, query, here.0, here.2)

pub loop-context-preserved : goal.loop-context-preserved
loop-context-preserved c = λ request query segments are.
    let i = c.loop-context.context-index in
    let given = c.context-item.result in
    let item = next-item c.args.contexts.now c.in-Some.others.now c.in-Some.first.now given i
    c.in-Some.ensures.cases.0 c.context-item.is in
    let within : i + 1 < length c.args.contexts.now =
    omega (arith, c.in-Some.ensures.cases.1) in
    let here = at request query segments c.args.contexts.now are (i + 1) given within item in
    c.add.ensures.documents request (matching_in query (take (i + 1) segments))
    (matching_in query (here.0 ∷ [])) (c.loop-context.invariant request query segments are)
    (c.deref.ensures.value ∙ c.in_ok-counts_of-2.ensures request query here.0 here.2)
    ∙ ap (uncut.uncut_lengths request)
    (sym (one_more request query segments c.args.contexts.now are (i + 1) given within item))

-- the counts of all segments
all : (c : Whole) → (request : Request QueryTree) (query : QueryTree) (segments : List Stored)
    → AreContextsOf request query segments c.args.contexts.now
    → c.loop-context.counts ≡ uncut.uncut_lengths request (matching_in query segments)
all c request query segments are =
    let long = AllZip-long (IsContextOf request query) segments c.args.contexts.now are in
    c.loop-context.invariant request query segments are
    ∙ ap (λ ss. uncut.uncut_lengths request (matching_in query ss))
    (take_all (c.loop-context.context-index + 1) segments
    (omega (arith, c.in-Some.ensures.cases.1)))

pub returns-then-is_too_many-clause-err : goal.returns-then-is_too_many-clause-err
returns-then-is_too_many-clause-err c = λ request query segments are.
    let whole = (goal.at.returns-then-is_too_many-clause-err c).After-is_too_many in
    (c.is_too_many.ensures.documents request (matching_in query segments)
    (all whole request query segments are)).0 c.if-is_too_many.true

pub returns-clause-few : goal.returns-clause-few
returns-clause-few c = λ request query segments are many.
    let whole = (goal.at.returns-clause-few c).After-is_too_many in
    let test = (c.is_too_many.ensures.documents request (matching_in query segments)
    (all whole request query segments are)).1 many in
    cc (test, c.if-is_too_many.false)
