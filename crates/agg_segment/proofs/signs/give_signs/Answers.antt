use Rattle.std.proofs.Common.{◌≡◌, Err, ◌∷◌, ◌++◌, [], ◌+◌, ℕ, List, get_or, take, drop, map}
use Rattle.std.proofs.Common.{ap, subst, ◌∙◌, arith}
use Rattle.std.proofs.lemmas.List.{take_all}
use Rattle.agg_values.specs.declared.column.ColumnPaginationOrder.TheVariants as class
use Rattle.agg_segment.specs.storage.Signs.{run_mark, HasBoth, AreSigns}
use Rattle.agg_segment.specs.declared.builder.BuildError.TheVariants.{MixedNumbers}
use Rattle.agg_segment.specs.declared.storage.sign.Sign.{Sign}
use Rattle.agg_segment.specs.declared.storage.sign.Sign.TheVariants.{Small}
use Rattle.agg_segment.specs.declared.storage.run.Run.{Run}
use Rattle.agg_segment.proofs.FieldSigns.{both_more, marks_next, marks_all}
use Rattle.agg_segment.proofs.signs.give_signs.Goals as goal

abbrev none : Run
none = record { kind = record { field = 0; class = class.Bool; sign = Small }; count = 0 }

pub returns-in-Err-clause-mixed : goal.returns-in-Err-clause-mixed
returns-in-Err-clause-mixed c is before are =
    let l = c.loop-run in
    let runs = c.args.runs.now in
    let one : Run = get_or runs l.run-index none in
    let marks : List (ℕ × Sign) = before ++ map run_mark (take l.run-index runs) in
    let error : c.in-Err.error ≡ MixedNumbers = cc in
    let both : HasBoth (marks ++ run_mark one ∷ []) =
    c.in-Err.ensures.mixed (ap Err error) marks (l.invariant.so_far before are) in
    let here : HasBoth (before ++ map run_mark (take (l.run-index + 1) runs)) =
    subst HasBoth (marks_next before runs l.run-index none c.loop-run-test.true) both in
    subst HasBoth (marks_all before runs (l.run-index + 1))
    (both_more (before ++ map run_mark (take (l.run-index + 1) runs))
    (map run_mark (drop (l.run-index + 1) runs)) here)

pub loop-run-preserved : goal.loop-run-preserved
loop-run-preserved c =
    let l = c.loop-run in
    let runs = c.args.runs.now in
    let one : Run = get_or runs l.run-index none in
    record {
      so_far = λ before are.
          let marks : List (ℕ × Sign) = before ++ map run_mark (take l.run-index runs) in
          let given : AreSigns c.give_sign.new.signs (marks ++ run_mark one ∷ []) =
          c.in_default.ensures.ok marks (l.invariant.so_far before are) in
          subst (AreSigns c.give_sign.new.signs) (marks_next before runs l.run-index none
          c.loop-run-test.true) given;
      undone = c.in_default.ensures.undone ∙ l.invariant.undone;
      within = λ k d low. omega (
        arith,
        c.in_default.ensures.within (λ i e il.
            omega (arith, l.invariant.within i e il, l.auto.signs)) k d low,
        l.auto.signs,
      );
    }

pub returns-clause-ok : goal.returns-clause-ok
returns-clause-ok c before are =
    let l = c.loop-run in
    subst (λ runs. AreSigns l.signs (before ++ map run_mark runs)) (take_all l.run-index
    c.args.runs.now (omega (arith, c.loop-run-test.false))) (l.invariant.so_far before are)
