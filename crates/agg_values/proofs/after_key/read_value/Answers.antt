use Rattle.std.proofs.Common.{◌∷◌, ◌++◌, ℕ, List, ap}
use Rattle.std.specs.Prelude.{codes}
use Rattle.agg_values.specs.KeyText.{colon, IsRefusedAs}
use Rattle.agg_values.specs.TypedKey.key.{Null}
use Rattle.agg_values.proofs.KeyTexts.{bad_value, error_of_none, some_is_not_none, refused_truth}
use Rattle.agg_values.proofs.KeyTexts.{refused_signed, refused_unsigned, refused_date}
use Rattle.agg_values.proofs.KeyTexts.{passed_on, refused_address, text_of_parts}
use Rattle.agg_values.specs.declared.error.KeyTextError.TheVariants.{BadValue, OutOfMemory}
use Rattle.agg_values.proofs.after_key.read_value.Goals as goal

pub returns-in_err-read_truth-in-bool-clause-err : goal.returns-in_err-read_truth-in-bool-clause-err
returns-in_err-read_truth-in-bool-clause-err c =
    let told = c.in_err-read_truth-in-bool.ensures in
    bad_value c.from_residual.result c.in_err-read_truth-in-bool.field-0.0 c.args.kind.now
    (codes "bool") c.args.value.now c.from_residual.ensures.1 told.0 c.in-bool.is
    (refused_truth c.args.value.now told.1)

pub returns-in_err-read_signed-in-i64-clause-err : goal.returns-in_err-read_signed-in-i64-clause-err
returns-in_err-read_signed-in-i64-clause-err c =
    let told = c.in_err-read_signed-in-i64.ensures in
    bad_value c.from_residual-in_err-read_signed-in-i64.result c.in_err-read_signed-in-i64.field-0.0
    c.args.kind.now (codes "i64") c.args.value.now
    c.from_residual-in_err-read_signed-in-i64.ensures.1 told.0 c.in-i64.is
    (refused_signed c.args.value.now told.1)

pub returns-in_err-read_unsigned-in-u64-clause-err
    : goal.returns-in_err-read_unsigned-in-u64-clause-err
returns-in_err-read_unsigned-in-u64-clause-err c =
    let told = c.in_err-read_unsigned-in-u64.ensures in
    bad_value c.from_residual-in_err-read_unsigned-in-u64.result
    c.in_err-read_unsigned-in-u64.field-0.0 c.args.kind.now (codes "u64") c.args.value.now
    c.from_residual-in_err-read_unsigned-in-u64.ensures.1 told.0 c.in-u64.is
    (refused_unsigned c.args.value.now told.1)

pub returns-in_err-read_signed-in-dt-clause-err : goal.returns-in_err-read_signed-in-dt-clause-err
returns-in_err-read_signed-in-dt-clause-err c =
    let told = c.in_err-read_signed-in-dt.ensures in
    bad_value c.from_residual-in_err-read_signed-in-dt.result c.in_err-read_signed-in-dt.field-0.0
    c.args.kind.now (codes "dt") c.args.value.now
    c.from_residual-in_err-read_signed-in-dt.ensures.1 told.0 c.in-dt.is
    (refused_date c.args.value.now told.1)

pub returns-in_err-ok_or-in-ip-clause-err : goal.returns-in_err-ok_or-in-ip-clause-err
returns-in_err-ok_or-in-ip-clause-err c =
    let none = c.in_err-ok_or-in-ip.ensures.ok_part in
    let bad = error_of_none c.read_address.result BadValue c.in_err-ok_or-in-ip.field-0.0 none
    c.in_err-ok_or-in-ip.ensures.value in
    bad_value c.from_residual-in_err-ok_or-in-ip.result c.in_err-ok_or-in-ip.field-0.0
    c.args.kind.now (codes "ip") c.args.value.now c.from_residual-in_err-ok_or-in-ip.ensures.1
    bad c.in-ip.is
    (refused_address c.args.value.now (λ a h. some_is_not_none _ _ none (c.read_address.ensures.each
    a h)))

pub returns-in_err-copy_of-in-str-clause-err : goal.returns-in_err-copy_of-in-str-clause-err
returns-in_err-copy_of-in-str-clause-err c =
    passed_on c.from_residual-in_err-copy_of-in-str.result OutOfMemory
    (IsRefusedAs (c.args.kind.now ++ colon ∷ c.args.value.now))
    c.from_residual-in_err-copy_of-in-str.ensures.1
    (c.args.value.now, ap (λ (kind : List ℕ). kind ++ colon ∷ c.args.value.now) c.in-str.is)

pub returns-in-null-clause-ok : goal.returns-in-null-clause-ok
returns-in-null-clause-ok c = text_of_parts c.args.kind.now c.args.value.now Null c.in-null.is tt

pub returns-in-f64-clause-err : goal.returns-in-f64-clause-err
returns-in-f64-clause-err c =
    (c.args.value.now, ap (λ (kind : List ℕ). kind ++ colon ∷ c.args.value.now) c.in-f64.is)
