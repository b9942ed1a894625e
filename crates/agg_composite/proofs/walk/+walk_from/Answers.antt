use Rattle.std.proofs.Common.{rules, ◌≡◌, ◌≤◌, ◌+◌, List, [], ◌∷◌, Ok, Err, length, sum, arith}
use Rattle.std.proofs.Common.{length-append, sym, ap, ◌∙◌, subst}
use Rattle.std.proofs.lemmas.List.Sums.{sum_by-cons}
use Rattle.agg_composite.specs.accessor.Encoding.{EncodedTuple}
use Rattle.agg_composite.specs.Answers.{AnswersEncoded}
use Rattle.agg_composite.specs.HeldTuples.{KeepTuples}
use Rattle.agg_composite.specs.Walk.{parts, walked}
use Rattle.agg_composite.specs.declared.walk.choice.Choice.{Choice}
use Rattle.agg_composite.proofs.KeptTuples.{choice-keeps}
use Rattle.agg_composite.proofs.TuplesInRow.{TooMany, Visited, encoded-visits}
use Rattle.agg_composite.proofs.VisitsInRow.{error-visited, none-visited, one-visited, same-so_far}
use Rattle.agg_composite.proofs.WalkSteps.{choices-append, last-row, none-left, rows-split}
use Rattle.agg_composite.proofs.WalkSteps.{taken-away, walked-after, walked-below}
use Rattle.agg_composite.proofs.walk.+walk_from.Goals as goal
use Rattle.agg_composite.proofs.walk.+walk_from.Goals.{in-Some-standing_with+in_ok-walk_from}
use Rattle.agg_composite.proofs.walk.+walk_from.Goals.{in_default-standing_with}

pub walk_from-requires : goal.walk_from-requires
walk_from-requires g t c κs within =
    let long = ap length c.push.ensures
    ∙ length-append c.loop-choice.tuple (_ ∷ []) in
    let same = ap length c.loop-choice.invariant.same in
    let sizes : c.in-Some.size.now ∷ c.in-Some.sizes.now ≡ c.args.rest.now.sizes.now =
    search rules in
    let all = ap length sizes in
    let fits : length c.push.new.self + length c.in-Some.sizes.now ≤ g.row.N =
    omega (arith, long, same, all, c.requires.room) in
    let total = sum_by-cons (λ n. n) c.in-Some.size.now c.in-Some.sizes.now in
    let whole = ap sum sizes in
    let enough : sum c.in-Some.sizes.now ≤ length c.split_at.result.1.now =
    omega (arith, total, whole, c.requires.sizes, c.split_at.ensures.back_len) in
    (search rules, (search rules, (search rules, (search rules, (enough, (search rules, fits))))))

pub returns-then-is_empty-clause-answers : goal.returns-then-is_empty-clause-answers
returns-then-is_empty-clause-answers g t c =
    let own = c.split_at.result.0.now in
    let front = c.args.tuple.now in
    let above = c.args.rest.now.is_above in
    let sizes : c.in-Some.size.now ∷ c.in-Some.sizes.now ≡ c.args.rest.now.sizes.now =
    search rules in
    subst (λ (rs : List (List Choice)). AnswersEncoded (walked rs front above) c.args.buckets.now
    c.visit_each.new.buckets c.args.steps.now c.visit_each.new.steps c.visit_each.result)
    (last-row c.in-Some.size.now c.in-Some.sizes.now c.args.rest.now.sizes.now own
    c.args.rest.now.choices.now sizes (sym c.is_empty.ensures ∙ c.if-is_empty.true)
    c.split_at.ensures.front)
    c.visit_each.ensures.answers

pub returns-in_err-walk_from-clause-answers :
    goal.returns-in_err-walk_from-clause-answers
returns-in_err-walk_from-clause-answers g t c =
    let own = c.split_at.result.0.now in
    let rest = parts c.in-Some.sizes.now c.split_at.result.1.now in
    let front = c.args.tuple.now in
    let above = c.args.rest.now.is_above in
    let standing = c.in-Some-standing_with.is_above in
    let i = c.loop-choice.choice-index in
    let now = c.loop-choice.buckets in
    let after = c.walk_from.new.buckets in
    let visited : List Choice → List EncodedTuple = λ cs. walked (cs ∷ rest) front above in
    let error = c.in_err-walk_from.field-0.0 in
    let sizes : c.in-Some.size.now ∷ c.in-Some.sizes.now ≡ c.args.rest.now.sizes.now =
    search rules in
    let rows : own ∷ rest ≡ parts c.args.rest.now.sizes.now c.args.rest.now.choices.now =
    rows-split c.in-Some.size.now c.in-Some.sizes.now c.args.rest.now.sizes.now own
    c.split_at.result.1.now c.args.rest.now.choices.now sizes c.split_at.ensures.front
    c.split_at.ensures.back in
    subst (λ (rs : List (List Choice)). AnswersEncoded (walked rs front above) c.args.buckets.now
    after c.args.steps.now c.walk_from.new.steps c.from_residual.result) rows
    (error-visited Visited TooMany encoded-visits visited (choices-append rest front above)
    own i c.args.buckets.now now c.args.steps.now c.loop-choice.steps
    c.loop-choice.invariant.answers _ c.loop-choice-test.true after c.walk_from.new.steps error
    c.from_residual.result
    (subst (λ ts. AnswersEncoded ts now after c.loop-choice.steps c.walk_from.new.steps (Err error))
    (walked-after _ rest front c.loop-choice.tuple c.push.new.self above standing c.push.ensures
    c.loop-choice.invariant.same c.in-Some-standing_with.ensures)
    c.in_err-walk_from.ensures.answers)
    c.from_residual.ensures.1)

pub returns-in_err-walk_from-clause-held : goal.returns-in_err-walk_from-clause-held
returns-in_err-walk_from-clause-held g t c =
    let own = c.split_at.result.0.now in
    let rest = parts c.in-Some.sizes.now c.split_at.result.1.now in
    let front = c.args.tuple.now in
    let above = c.args.rest.now.is_above in
    let sizes : c.in-Some.size.now ∷ c.in-Some.sizes.now ≡ c.args.rest.now.sizes.now =
    search rules in
    let rows : own ∷ rest ≡ parts c.args.rest.now.sizes.now c.args.rest.now.choices.now =
    rows-split c.in-Some.size.now c.in-Some.sizes.now c.args.rest.now.sizes.now own
    c.split_at.result.1.now c.args.rest.now.choices.now sizes c.split_at.ensures.front
    c.split_at.ensures.back in
    subst (λ (rs : List (List Choice)). KeepTuples (walked rs front above) c.args.buckets.now
    c.walk_from.new.buckets) rows
    (choice-keeps rest front above own c.loop-choice.choice-index _ c.loop-choice-test.true
    c.args.buckets.now c.loop-choice.buckets c.walk_from.new.buckets c.loop-choice.invariant.held _
    (walked-after _ rest front c.loop-choice.tuple c.push.new.self above
    c.in-Some-standing_with.is_above c.push.ensures c.loop-choice.invariant.same
    c.in-Some-standing_with.ensures) c.walk_from.ensures.held)

pub returns-then-is_empty-clause-held : goal.returns-then-is_empty-clause-held
returns-then-is_empty-clause-held g t c =
    let sizes : c.in-Some.size.now ∷ c.in-Some.sizes.now ≡ c.args.rest.now.sizes.now =
    search rules in
    subst (λ (rs : List (List Choice)). KeepTuples (walked rs c.args.tuple.now
    c.args.rest.now.is_above) c.args.buckets.now c.visit_each.new.buckets)
    (last-row c.in-Some.size.now c.in-Some.sizes.now c.args.rest.now.sizes.now
    c.split_at.result.0.now c.args.rest.now.choices.now sizes
    (sym c.is_empty.ensures ∙ c.if-is_empty.true) c.split_at.ensures.front)
    c.visit_each.ensures.held

pub returns-clause-held : goal.returns-clause-held
returns-clause-held g t c =
    let sizes : c.in-Some.size.now ∷ c.in-Some.sizes.now ≡ c.args.rest.now.sizes.now =
    search rules in
    subst (λ (rs : List (List Choice)). KeepTuples (walked rs c.args.tuple.now
    c.args.rest.now.is_above) c.args.buckets.now c.loop-choice.buckets)
    (rows-split c.in-Some.size.now c.in-Some.sizes.now c.args.rest.now.sizes.now
    c.split_at.result.0.now c.split_at.result.1.now c.args.rest.now.choices.now sizes
    c.split_at.ensures.front c.split_at.ensures.back)
    c.loop-choice.invariant.held

pub loop-choice-preserved : goal.loop-choice-preserved
loop-choice-preserved g t c =
    let own = c.split_at.result.0.now in
    let rest = parts c.in-Some.sizes.now c.split_at.result.1.now in
    let front = c.args.tuple.now in
    let above = c.args.rest.now.is_above in
    let i = c.loop-choice.choice-index in
    let now = c.loop-choice.buckets in
    let visited : List Choice → List EncodedTuple = λ cs. walked (cs ∷ rest) front above in
    elim c.match-standing_with.branch [
      | in-Some-standing_with+in_ok-walk_from w ↦
          let after = w.walk_from.new.buckets in
          let standing = w.in-Some-standing_with.is_above in
          record {
            answers =
                same-so_far Visited visited own (i + 1) c.args.buckets.now after
                c.match-standing_with.buckets c.args.steps.now w.walk_from.new.steps
                c.match-standing_with.steps w.buckets-is w.steps-is
                (one-visited Visited TooMany encoded-visits visited
                (choices-append rest front above) own i c.args.buckets.now now c.args.steps.now
                c.loop-choice.steps c.loop-choice.invariant.answers _ c.loop-choice-test.true after
                w.walk_from.new.steps
                (subst (λ ts. AnswersEncoded ts now after c.loop-choice.steps w.walk_from.new.steps
                (Ok tt))
                (walked-after _ rest front c.loop-choice.tuple w.push.new.self above standing
                w.push.ensures c.loop-choice.invariant.same w.in-Some-standing_with.ensures)
                w.in_ok-walk_from.ensures.answers));
            held =
                subst (KeepTuples (visited own) c.args.buckets.now) (sym w.buckets-is)
                (choice-keeps rest front above own i _ c.loop-choice-test.true c.args.buckets.now
                now after c.loop-choice.invariant.held _
                (walked-after _ rest front c.loop-choice.tuple w.push.new.self above standing
                w.push.ensures c.loop-choice.invariant.same w.in-Some-standing_with.ensures)
                w.walk_from.ensures.held);
            same = w.tuple-is ∙ w.pop.ensures
                ∙ taken-away front c.loop-choice.tuple w.push.new.self w.walk_from.new.tuple _
                w.push.ensures c.loop-choice.invariant.same w.in_ok-walk_from.ensures.same;
          }
      | in_default-standing_with w ↦ record {
        answers =
            same-so_far Visited visited own (i + 1) c.args.buckets.now now
            c.match-standing_with.buckets c.args.steps.now c.loop-choice.steps
            c.match-standing_with.steps w.buckets-is w.steps-is
            (one-visited Visited TooMany encoded-visits visited (choices-append rest front above)
            own i c.args.buckets.now now c.args.steps.now c.loop-choice.steps
            c.loop-choice.invariant.answers _ c.loop-choice-test.true now c.loop-choice.steps
            (subst (λ ts. AnswersEncoded ts now now c.loop-choice.steps c.loop-choice.steps (Ok tt))
            (walked-below _ rest front above w.in_default-standing_with.ensures)
            (none-visited Visited TooMany encoded-visits now c.loop-choice.steps)));
        held = subst (KeepTuples (visited own) c.args.buckets.now) (sym w.buckets-is)
            c.loop-choice.invariant.held;
        same = w.tuple-is ∙ c.loop-choice.invariant.same;
      }
    ]

pub returns-in_default-clause-held : goal.returns-in_default-clause-held
returns-in_default-clause-held g t c =
    let empty : length c.args.rest.now.sizes.now ≡ 0 = search rules in
    let none = none-left c.args.rest.now.sizes.now empty in
    subst (λ sizes. KeepTuples
    (walked (parts sizes c.args.rest.now.choices.now) c.args.tuple.now c.args.rest.now.is_above)
    c.args.buckets.now c.visit_above.new.buckets) (sym none) c.visit_above.ensures.held
