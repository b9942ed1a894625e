use Rattle.std.proofs.Common.{◌≡◌, ◌∙◌, ℕ, List, sym, subst, arith}
use Rattle.std.proofs.lemmas.Str.Pattern.{split_parts}
use Rattle.agg_values.specs.KeyText.{IsKeyText, IsRefusedAs}
use Rattle.agg_values.specs.declared.error.KeyTextError.TheVariants.{NoColon, OutOfMemory}
use Rattle.agg_values.proofs.KeyTexts.{passed_on, error_of_none, refusal_told, refused_key}
use Rattle.agg_values.proofs.KeyTexts.{not_contained_by_place, IsKeyText-unique}
use Rattle.agg_values.proofs.after_key.AfterKey.read.Goals as goal
use Rattle.agg_values.proofs.after_key.AfterKey.read.Goals.{In_ok-read_value}
use Rattle.agg_values.proofs.after_key.AfterKey.read.Goals.{After-from_residual-in_err-read_value}

pub returns-in_err-kind-clause-err : goal.returns-in_err-kind-clause-err
returns-in_err-kind-clause-err c =
    let parts = split_parts 58 c.as_str.result.now c.split_once.result c.split_once.ensures.cases
    (omega arith) in
    let none = rw c.in_err-kind.ensures.ok_part at parts in
    let refused = error_of_none c.split_once.result NoColon c.in_err-kind.field-0.0
    c.in_err-kind.ensures.ok_part c.in_err-kind.ensures.value in
    let free = subst (λ (text : List ℕ). IsRefusedAs text NoColon) c.as_str.ensures
    (not_contained_by_place 58 c.as_str.result.now none) in
    passed_on c.from_residual.result c.in_err-kind.field-0.0 (IsRefusedAs c.args.text.now)
    c.from_residual.ensures.1 (subst (IsRefusedAs c.args.text.now) (sym refused) free)

pub read_value-requires : goal.read_value-requires
read_value-requires c =
    let parts = split_parts 58 c.as_str.result.now c.split_once.result c.split_once.ensures.cases
    (omega arith) in
    let some = rw c.in_ok-kind.ensures.ok_part at parts in
    record { first_colon = not_contained_by_place 58 c.in_ok-kind.kind.now some.1 }

refused : (c : After-from_residual-in_err-read_value)
    → IsRefusedAs c.args.text.now c.in_err-read_value.field-0.0
refused c =
    let parts = split_parts 58 c.as_str.result.now c.split_once.result c.split_once.ensures.cases
    (omega arith) in
    let some = rw c.in_ok-kind.ensures.ok_part at parts in
    subst (λ (text : List ℕ). IsRefusedAs text c.in_err-read_value.field-0.0)
    (sym some.0 ∙ c.as_str.ensures) c.in_err-read_value.ensures.err

pub returns-in_err-read_value-clause-err : goal.returns-in_err-read_value-clause-err
returns-in_err-read_value-clause-err c =
    passed_on c.from_residual-in_err-read_value.result c.in_err-read_value.field-0.0
    (IsRefusedAs c.args.text.now) c.from_residual-in_err-read_value.ensures.1 (refused c)

pub returns-in_err-read_value-clause-each : goal.returns-in_err-read_value-clause-each
returns-in_err-read_value-clause-each c = λ key known.
    refusal_told c.from_residual-in_err-read_value.result c.in_err-read_value.field-0.0 _
    (λ error. error ≡ OutOfMemory) c.from_residual-in_err-read_value.ensures.1
    (refused_key c.args.text.now key c.in_err-read_value.field-0.0 known (refused c))

known : (c : In_ok-read_value) → IsKeyText c.args.text.now c.in_ok-read_value.field-0
known c =
    let parts = split_parts 58 c.as_str.result.now c.split_once.result c.split_once.ensures.cases
    (omega arith) in
    let some = rw c.in_ok-kind.ensures.ok_part at parts in
    subst (λ (text : List ℕ). IsKeyText text c.in_ok-read_value.field-0)
    (sym some.0 ∙ c.as_str.ensures) c.in_ok-read_value.ensures.ok

pub returns-clause-ok : goal.returns-clause-ok
returns-clause-ok c = known c

pub returns-clause-each : goal.returns-clause-each
returns-clause-each c = λ key other. IsKeyText-unique c.args.text.now c.in_ok-read_value.field-0 key
    (known c) other
