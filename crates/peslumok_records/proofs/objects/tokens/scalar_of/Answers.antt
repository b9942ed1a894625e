use Rattle.std.proofs.Common.{sym, subst}
use Rattle.json.specs.Json.{boolean, null, number, string}
use Rattle.json.specs.Reads.{token_of}
use Rattle.peslumok_records.specs.objects.Tokens.{IsScalar}
use Rattle.peslumok_records.proofs.lemmas.objects.TakenValues.{scalar_boolean, scalar_null}
use Rattle.peslumok_records.proofs.lemmas.objects.TakenValues.{scalar_number, scalar_string}
use Rattle.peslumok_records.proofs.lemmas.objects.TakenValues.{view-Bool, view-Null, view-Number}
use Rattle.peslumok_records.proofs.lemmas.objects.TakenValues.{view-String}
use Rattle.peslumok_records.proofs.objects.tokens.scalar_of.Goals as goal

pub returns-in-String : goal.returns-in-String
returns-in-String c =
    let text = c.in-String.text in
    subst (IsScalar (token_of c.args.token)) (sym (view-String _ text))
    (subst (λ t. IsScalar (token_of t) (string text.now)) (sym c.in-String.is)
    (scalar_string text.now))

pub returns-in-Number : goal.returns-in-Number
returns-in-Number c =
    let text = c.in-Number.text in
    subst (IsScalar (token_of c.args.token)) (sym (view-Number _ text))
    (subst (λ t. IsScalar (token_of t) (number text.now)) (sym c.in-Number.is)
    (scalar_number text.now))

pub returns-in-Bool : goal.returns-in-Bool
returns-in-Bool c =
    let b = c.in-Bool.b in
    subst (IsScalar (token_of c.args.token)) (sym (view-Bool _ b))
    (subst (λ t. IsScalar (token_of t) (boolean b)) (sym c.in-Bool.is) (scalar_boolean b))

pub returns-in-Null : goal.returns-in-Null
returns-in-Null c =
    subst (IsScalar (token_of c.args.token)) (sym (view-Null _))
    (subst (λ t. IsScalar (token_of t) null) (sym c.in-Null.is) scalar_null)
