use Rattle.std.proofs.Common.{◌≡◌, ◌<◌, ◌-◌, ◌^◌, ◌∷◌, suc, Some, decimal, sym, ap, ◌∙◌, subst}
use Rattle.std.proofs.Common.{arith}
use Rattle.json.specs.Print.{IsNumber}
use Rattle.serde_json.specs.Read.{number_of}
use Rattle.agg_pages.specs.document_json.Plain.{text_of}
use Rattle.agg_pages.specs.document_json.Tokens.{num_of}
use Rattle.agg_pages.proofs.lemmas.document_json.PlainNumbers.{negative_number}
use Rattle.agg_pages.proofs.document_json.plain.digits.negative.Goals as goal

pub returns-clause-text : goal.returns-clause-text
returns-clause-text c =
    let next : suc (c.args.n - 1) ≡ c.args.n = grind arith in
    ap text_of c.negated.ensures ∙ ap (λ k. 45 ∷ decimal k) next

pub returns-clause-number : goal.returns-clause-number
returns-clause-number c =
    let fits : c.args.n - 1 < 2 ^ 63 = grind arith in
    subst (λ w. IsNumber (text_of w)) (sym c.negated.ensures)
    (negative_number (c.args.n - 1) fits).0

pub returns-clause-reads : goal.returns-clause-reads
returns-clause-reads c =
    let fits : c.args.n - 1 < 2 ^ 63 = grind arith in
    subst (λ w. number_of (text_of w) ≡ Some (num_of w)) (sym c.negated.ensures)
    (negative_number (c.args.n - 1) fits).1
