use Rattle.std.proofs.Common.{◌<◌, ◌∙◌, ◌++◌, length, ap, sym, refl, arith}
use Rattle.std.proofs.Math.ListN.{set}
use Rattle.std.proofs.lemmas.Result.{err_from_is_err_and}
use Rattle.agg_cache.specs.Waiting.{docs_of, is_id, under}
use Rattle.agg_filter.specs.Matching.{is_matching}
use Rattle.agg_filter.proofs.MatchingDocuments.{counted-in, counted-matches, filter-matches}
use Rattle.agg_filter.proofs.VisitsTaken.{visits-taken}
use Rattle.agg_filter.proofs.collector.SegmentFilterCollector.collect.Goals as goal

pub returns-in_default-clause-too_many : goal.returns-in_default-clause-too_many
returns-in_default-clause-too_many g c tree segment are =
    let total = counted-matches tree segment c.args.req.now.evaluator are c.args.docs.now _ _
    c.self.view_is c.args.parent_bucket_id c.index.result.now c.count_matching-matching.result
    c.requires.parent c.index.ensures c.count_matching-matching.ensures in
    (λ e. omega (arith, total, c.in_default.ensures), λ many. refl)

pub returns-then-not-self-clause-too_many : goal.returns-then-not-self-clause-too_many
returns-then-not-self-clause-too_many g c tree segment are =
    let total = counted-matches tree segment c.args.req.now.evaluator are c.args.docs.now _ _
    c.self.view_is c.args.parent_bucket_id c.index.result.now c.count_matching-matching.result
    c.requires.parent c.index.ensures c.count_matching-matching.ensures in
    (λ e. absurd (cc e), λ many. absurd (omega (arith, total, many, c.in-Some.ensures.0)))

pub returns-clause-too_many : goal.returns-clause-too_many
returns-clause-too_many g c tree segment are =
    let total = counted-matches tree segment c.args.req.now.evaluator are c.args.docs.now _ _
    c.self.view_is c.args.parent_bucket_id c.index.result.now c.count_matching-matching.result
    c.requires.parent c.index.ensures c.count_matching-matching.ensures in
    (λ e. absurd (cc e), λ many. absurd (omega (arith, total, many, c.in-Some.ensures.0)))

pub returns-in_err-push_matching-clause-too_many : goal.returns-in_err-push_matching-clause-too_many
returns-in_err-push_matching-clause-too_many g c tree segment are =
    let total = counted-matches tree segment c.args.req.now.evaluator are c.args.docs.now _ _
    c.self.view_is c.args.parent_bucket_id c.index.result.now c.count_matching-matching.result
    c.requires.parent c.index.ensures c.count_matching-matching.ensures in
    let given = err_from_is_err_and c.from_residual.result c.from_residual.ensures.1 in (
      λ e. absurd (cc (given.1, given.2, e)),
      λ many. absurd (omega (arith, total, many, c.in-Some.ensures.0)),
    )

pub returns-then-not-self-clause-visits : goal.returns-then-not-self-clause-visits
returns-then-not-self-clause-visits g c tree segment are =
    let items = c.self.inside.counts.items in
    let parent = c.args.parent_bucket_id in
    let within : parent < length items =
    omega (arith, ap (λ o. length o.counts) c.self.view_is, c.requires.parent) in
    let total = counted-in tree segment c.args.req.now.evaluator are c.args.docs.now items
    parent c.index.result.now c.count_matching-matching.result
    within c.index.ensures c.count_matching-matching.ensures in
    visits-taken g.C.SubAggCache.waiting (is_matching tree segment) parent c.args.docs.now _ _
    (record {
      own = refl;
      own_new = refl;
      within = within;
      counts = ap (λ n. set items parent n) (c.in-Some.ensures.1 ∙ total);
      hands_on = refl;
      waits = λ hands id. absurd (cc (sym c.if-not-self.true ∙ hands));
      unpushed = λ none. refl;
    }) c.args.self.now c.self.view_is

pub returns-clause-visits : goal.returns-clause-visits
returns-clause-visits g c tree segment are =
    let items = c.self.inside.counts.items in
    let parent = c.args.parent_bucket_id in
    let marks = c.args.req.now.evaluator in
    let within : parent < length items =
    omega (arith, ap (λ o. length o.counts) c.self.view_is, c.requires.parent) in
    let total = counted-in tree segment marks are c.args.docs.now items
    parent c.index.result.now c.count_matching-matching.result
    within c.index.ensures c.count_matching-matching.ensures in
    visits-taken g.C.SubAggCache.waiting (is_matching tree segment) parent c.args.docs.now _ _
    (record {
      own = refl;
      own_new = refl;
      within = within;
      counts = ap (λ n. set items parent n) (c.in-Some.ensures.1 ∙ total);
      hands_on = refl;
      waits = λ hands id. c.in_ok-push_matching.ensures id
          ∙ ap (λ ds. g.C.SubAggCache.waiting c.self.inside.cache.0 id
          ++ docs_of (is_id id) (under parent ds))
          (filter-matches tree segment marks are c.args.docs.now);
      unpushed = λ none. absurd (cc (sym none ∙ c.if-not-self.false));
    }) c.args.self.now c.self.view_is
