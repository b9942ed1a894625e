use Rattle.std.proofs.Common.{IfErr, MatchResult, ◌≡◌, ◌-◌, [], Some, ap, arith, drop}
use Rattle.std.proofs.Common.{option_map, subst, sym, ◌∙◌}
use Rattle.csv.specs.Records.{field_at, fields_of}
use Rattle.peslumok_front.proofs.lemmas.after_text.NamedKeys.{ReadFrom, field-some, none-from}
use Rattle.peslumok_front.proofs.lemmas.after_text.NamedKeys.{read-step, unread-there, drop-all}
use Rattle.peslumok_front.proofs.lemmas.after_text.NamedKeys.{read-there}
use Rattle.peslumok_front.proofs.lemmas.after_text.Passed.{error-passed}
use Rattle.peslumok_front.specs.after_text.After.{IsUnreadValue}
use Rattle.agg_values.specs.Names.{put}
use Rattle.peslumok_front.specs.declared.grouping.error.GroupingError.TheVariants as error
use Rattle.peslumok_front.proofs.after_text.read.keys_of.Goals as goal
use Rattle.peslumok_front.proofs.after_text.read.keys_of.Goals.{After-drop-after-inside}
use Rattle.peslumok_front.proofs.after_text.read.keys_of.Goals.{In_ok-insert}

pub loop-place-init : goal.loop-place-init
loop-place-init c =
    let none : drop c.len-place.result (fields_of c.args.values.now) ≡ [] =
    drop-all (fields_of c.args.values.now) c.len-place.result (omega arith) in
    subst (λ vs. ReadFrom c.args.types.now (drop c.len-place.result c.args.sources.now) vs
    c.new-after.result) (sym none)
    (subst (ReadFrom c.args.types.now (drop c.len-place.result c.args.sources.now) [])
    (sym c.new-after.ensures)
    (none-from c.args.types.now (drop c.len-place.result c.args.sources.now)))

pub unwrap-value-requires : goal.unwrap-value-requires
unwrap-value-requires c =
    field-some (fields_of c.args.values.now) (c.loop-place.place - 1) c.get.result
    c.get.ensures.value (omega arith)

-- the value at the place
at-error : (c : After-drop-after-inside)
    → field_at (fields_of c.args.values.now) (c.loop-place.place - 1)
    ≡ Some c.unwrap-value.result.now
at-error c = sym c.get.ensures.value ∙ ap (option_map (λ s. s.now)) c.unwrap-value.ensures

pub returns-in_err-key-clause-each : goal.returns-in_err-key-clause-each
returns-in_err-key-clause-each c after is =
    error-passed (λ r. MatchResult r (λ read. read ≡ after) (λ e. e ≡ error.OutOfMemory))
    c.from_residual.result c.in_err-key.field-0.0 c.from_residual.ensures.1
    (let found = read-there c.args.types.now c.args.sources.now (fields_of c.args.values.now) is.0
    (c.loop-place.place - 1) _ c.unwrap-value.result.now is.1 (at-error c) in
    c.in_err-key.ensures.each found.0 found.1)

pub returns-in_err-key-clause-cause : goal.returns-in_err-key-clause-cause
returns-in_err-key-clause-cause c =
    error-passed (λ r. IfErr r
    (IsUnreadValue c.args.types.now c.args.sources.now (fields_of c.args.values.now)))
    c.from_residual.result c.in_err-key.field-0.0 c.from_residual.ensures.1
    (unread-there c.args.types.now c.args.sources.now (fields_of c.args.values.now)
    (c.loop-place.place - 1) _ c.unwrap-value.result.now c.in_err-key.field-0.0 (omega arith)
    (at-error c) c.in_err-key.ensures.cause)

-- the value at the place
there : (c : In_ok-insert)
    → field_at (fields_of c.args.values.now) (c.loop-place.place - 1)
    ≡ Some c.unwrap-value.result.now
there c = sym c.get.ensures.value ∙ ap (option_map (λ s. s.now)) c.unwrap-value.ensures

-- one value more is read
more : (c : In_ok-insert) → ReadFrom c.args.types.now
    (drop (c.loop-place.place - 1) c.args.sources.now)
    (drop (c.loop-place.place - 1) (fields_of c.args.values.now)) c.insert.new.self
more c =
    read-step c.args.types.now c.args.sources.now (fields_of c.args.values.now) c.loop-place.place
    (c.loop-place.place - 1) _ c.unwrap-value.result.now c.in_ok-key.key c.loop-place.after
    c.insert.new.self (omega arith) (omega arith) (there c) c.in_ok-key.ensures.ok
    c.in_ok-key.ensures.each c.loop-place.invariant
    (c.in_ok-insert.ensures.ok
    ∙ ap (λ n. put n c.in_ok-key.key c.loop-place.after)
    (c.in_ok-name.ensures ∙ c.column_of.ensures))

pub loop-place-preserved-in_ok-insert : goal.loop-place-preserved-in_ok-insert
loop-place-preserved-in_ok-insert c =
    more (goal.at.loop-place-preserved-in_ok-insert c).In_ok-insert

pub loop-place-preserved-in_ok-insert-2 : goal.loop-place-preserved-in_ok-insert-2
loop-place-preserved-in_ok-insert-2 c =
    more (goal.at.loop-place-preserved-in_ok-insert-2 c).In_ok-insert

pub loop-place-preserved : goal.loop-place-preserved
loop-place-preserved c = more (goal.at.loop-place-preserved c).In_ok-insert
