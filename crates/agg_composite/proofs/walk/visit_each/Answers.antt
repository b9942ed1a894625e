use Rattle.std.proofs.Common.{◌+◌, List, [], ◌∷◌, Ok, Err, refl, sym, ◌∙◌, subst}
use Rattle.agg_composite.specs.accessor.Encoding.{EncodedTuple}
use Rattle.agg_composite.specs.Answers.{AnswersEncoded}
use Rattle.agg_composite.specs.HeldTuples.{KeepTuples}
use Rattle.agg_composite.specs.Walk.{walked}
use Rattle.agg_composite.specs.declared.walk.choice.Choice.{Choice}
use Rattle.agg_composite.proofs.KeptTuples.{choice-keeps}
use Rattle.agg_composite.proofs.TuplesInRow.{TooMany, Visited, encoded-visits}
use Rattle.agg_composite.proofs.VisitsInRow.{error-visited, none-visited, one-visited, same-so_far}
use Rattle.agg_composite.proofs.WalkSteps.{choices-append, taken-away, walked-after, walked-below}
use Rattle.agg_composite.proofs.walk.visit_each.Goals as goal
use Rattle.agg_composite.proofs.walk.visit_each.Goals.{in-Some+in_ok-visit_above, in_default}

pub returns-in_err-visit_above-clause-answers : goal.returns-in_err-visit_above-clause-answers
returns-in_err-visit_above-clause-answers g c =
    let own = c.args.choices.now in
    let front = c.args.tuple.now in
    let above = c.args.was_above in
    let now = c.loop-choice.buckets in
    let after = c.visit_above.new.buckets in
    let visited : List Choice → List EncodedTuple = λ cs. walked (cs ∷ []) front above in
    let error = c.in_err-visit_above.field-0.0 in
    error-visited Visited TooMany encoded-visits visited (choices-append [] front above)
    own c.loop-choice.choice-index c.args.buckets.now now c.args.steps.now c.loop-choice.steps
    c.loop-choice.invariant.answers _ c.loop-choice-test.true after c.visit_above.new.steps error
    c.from_residual.result
    (subst (λ ts. AnswersEncoded ts now after c.loop-choice.steps c.visit_above.new.steps
    (Err error))
    (walked-after _ [] front c.loop-choice.tuple c.push.new.self above c.in-Some.is_above
    c.push.ensures c.loop-choice.invariant.same c.in-Some.ensures)
    c.in_err-visit_above.ensures.answers)
    c.from_residual.ensures.1

pub returns-in_err-visit_above-clause-held : goal.returns-in_err-visit_above-clause-held
returns-in_err-visit_above-clause-held g c =
    let front = c.args.tuple.now in
    choice-keeps [] front c.args.was_above c.args.choices.now c.loop-choice.choice-index _
    c.loop-choice-test.true c.args.buckets.now c.loop-choice.buckets c.visit_above.new.buckets
    c.loop-choice.invariant.held _
    (walked-after _ [] front c.loop-choice.tuple c.push.new.self c.args.was_above
    c.in-Some.is_above c.push.ensures c.loop-choice.invariant.same c.in-Some.ensures)
    c.visit_above.ensures.held

pub loop-choice-preserved : goal.loop-choice-preserved
loop-choice-preserved g c =
    let own = c.args.choices.now in
    let front = c.args.tuple.now in
    let above = c.args.was_above in
    let i = c.loop-choice.choice-index in
    let now = c.loop-choice.buckets in
    let visited : List Choice → List EncodedTuple = λ cs. walked (cs ∷ []) front above in
    elim c.match-standing_with.branch [
      | in-Some+in_ok-visit_above w ↦
          let after = w.visit_above.new.buckets in
          record {
            answers =
                same-so_far Visited visited own (i + 1) c.args.buckets.now after
                c.match-standing_with.buckets c.args.steps.now w.visit_above.new.steps
                c.match-standing_with.steps w.buckets-is w.steps-is
                (one-visited Visited TooMany encoded-visits visited
                (choices-append [] front above) own i c.args.buckets.now now c.args.steps.now
                c.loop-choice.steps c.loop-choice.invariant.answers _ c.loop-choice-test.true after
                w.visit_above.new.steps
                (subst (λ ts. AnswersEncoded ts now after c.loop-choice.steps
                w.visit_above.new.steps (Ok tt))
                (walked-after _ [] front c.loop-choice.tuple w.push.new.self above
                w.in-Some.is_above w.push.ensures c.loop-choice.invariant.same w.in-Some.ensures)
                w.in_ok-visit_above.ensures.answers));
            held =
                subst (KeepTuples (visited own) c.args.buckets.now) (sym w.buckets-is)
                (choice-keeps [] front above own i _ c.loop-choice-test.true c.args.buckets.now now
                after c.loop-choice.invariant.held _
                (walked-after _ [] front c.loop-choice.tuple w.push.new.self above
                w.in-Some.is_above w.push.ensures c.loop-choice.invariant.same w.in-Some.ensures)
                w.visit_above.ensures.held);
            same = w.tuple-is ∙ w.pop.ensures
                ∙ taken-away front c.loop-choice.tuple w.push.new.self w.push.new.self _
                w.push.ensures c.loop-choice.invariant.same refl;
          }
      | in_default w ↦ record {
        answers =
            same-so_far Visited visited own (i + 1) c.args.buckets.now now
            c.match-standing_with.buckets c.args.steps.now c.loop-choice.steps
            c.match-standing_with.steps w.buckets-is w.steps-is
            (one-visited Visited TooMany encoded-visits visited (choices-append [] front above)
            own i c.args.buckets.now now c.args.steps.now c.loop-choice.steps
            c.loop-choice.invariant.answers _ c.loop-choice-test.true now c.loop-choice.steps
            (subst (λ ts. AnswersEncoded ts now now c.loop-choice.steps c.loop-choice.steps (Ok tt))
            (walked-below _ [] front above w.in_default.ensures)
            (none-visited Visited TooMany encoded-visits now c.loop-choice.steps)));
        held = subst (KeepTuples (visited own) c.args.buckets.now) (sym w.buckets-is)
            c.loop-choice.invariant.held;
        same = w.tuple-is ∙ c.loop-choice.invariant.same;
      }
    ]
