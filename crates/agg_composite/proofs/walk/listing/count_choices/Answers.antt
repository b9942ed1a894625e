use Rattle.std.proofs.Common.{[], ◌∷◌, ◌+◌, ◌∙◌, Ok, Err, ap, false, refl, subst}
use Rattle.agg_composite.proofs.lemmas.accessor.EncodedOrder.{tuple-exact}
use Rattle.agg_composite.specs.Listing.{AnswersTuples, CountsTuples}
use Rattle.agg_composite.proofs.ListedTuples.{Pass, above-none, above-one, above_of, counted-tuples}
use Rattle.agg_composite.proofs.ListedTuples.{tuple-counted, tuple-refused}
use Rattle.agg_composite.proofs.VisitsInRow.{error-visited, none-visited, nothing-visited}
use Rattle.agg_composite.proofs.VisitsInRow.{one-visited, same-so_far}
use Rattle.agg_composite.proofs.WalkSteps.{choices-append}
use Rattle.agg_composite.proofs.walk.listing.count_choices.Goals as goal
use goal.{in-Greater+in_ok-count, in_default}

pub loop-choice-init : goal.loop-choice-init
loop-choice-init g c =
    nothing-visited CountsTuples Pass counted-tuples above_of refl c.args.choices.now
    c.args.counts.now c.args.steps.now

pub count-requires : goal.count-requires
count-requires g c = record { exact = tuple-exact }

pub returns-in_err-count : goal.returns-in_err-count
returns-in_err-count g c =
    let here = c.loop-choice in
    let then = c.count.new.self in
    let error = c.in_err-count.field-0.0 in
    let tuple = c.tuple_of.result in
    error-visited CountsTuples Pass counted-tuples above_of (choices-append [] [] false)
    c.args.choices.now here.choice-index c.args.counts.now here.counts c.args.steps.now here.steps
    here.invariant _ c.loop-choice-test.true then c.tick.new.self error c.from_residual.result
    (subst (λ ts. AnswersTuples ts here.counts then here.steps c.tick.new.self (Err error))
    (ap (λ t. t ∷ []) c.tuple_of.ensures ∙ above-one _ c.in-Greater.is)
    (tuple-refused tuple here.counts then here.steps c.tick.new.self error
    (λ e. c.in_err-count.ensures.too_many e) c.tick.ensures))
    c.from_residual.ensures.1

pub loop-choice-preserved : goal.loop-choice-preserved
loop-choice-preserved g c =
    let here = c.loop-choice in
    let all = c.args.choices.now in
    let i = here.choice-index in
    elim c.match-choice.branch [
      | in-Greater+in_ok-count w ↦
          same-so_far CountsTuples above_of all (i + 1) c.args.counts.now w.count.new.self
          c.match-choice.counts c.args.steps.now w.tick.new.self c.match-choice.steps w.counts-is
          w.steps-is
          (one-visited CountsTuples Pass counted-tuples above_of (choices-append [] [] false) all i
          c.args.counts.now here.counts c.args.steps.now here.steps here.invariant _
          c.loop-choice-test.true w.count.new.self w.tick.new.self
          (subst (λ ts. AnswersTuples ts here.counts w.count.new.self here.steps w.tick.new.self
          (Ok tt))
          (ap (λ t. t ∷ []) w.tuple_of.ensures ∙ above-one _ w.in-Greater.is)
          (tuple-counted w.tuple_of.result here.counts w.count.new.self here.steps w.tick.new.self
          w.in_ok-count.ensures.ok w.tick.ensures)))
      | in_default w ↦
          same-so_far CountsTuples above_of all (i + 1) c.args.counts.now here.counts
          c.match-choice.counts c.args.steps.now here.steps c.match-choice.steps w.counts-is
          w.steps-is
          (one-visited CountsTuples Pass counted-tuples above_of (choices-append [] [] false) all i
          c.args.counts.now here.counts c.args.steps.now here.steps here.invariant _
          c.loop-choice-test.true here.counts here.steps
          (subst (λ ts. AnswersTuples ts here.counts here.counts here.steps here.steps (Ok tt))
          (above-none _ w.in_default.not-Greater)
          (none-visited CountsTuples Pass counted-tuples here.counts here.steps)))
    ]
