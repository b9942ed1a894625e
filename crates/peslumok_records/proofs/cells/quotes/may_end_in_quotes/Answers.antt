use Rattle.std.proofs.Common.{◌≡◌, ◌==◌, ◌∙◌, false, rules, subst, sym}
use Rattle.std.specs.List.{list_any}
use Rattle.std.specs.Prelude.{None, Some}
use Rattle.peslumok_records.specs.cells.Quotes.{MayBeOpenIn}
use Rattle.peslumok_records.proofs.lemmas.cells.LastCells.{Strips, no_quote_before, no_suffix}
use Rattle.peslumok_records.proofs.cells.quotes.may_end_in_quotes.Goals as goal

pub returns-in-Some : goal.returns-in-Some
returns-in-Some c = λ no_quote.
    let cell = c.args.cell.now in
    let text = c.without_mark.result.now in
    let plain : list_any (λ b. b == 34) cell ≡ false = search rules in
    let strips : Strips text cell (Some c.in-Some.front) = search rules in
    subst (λ t. ¬ (MayBeOpenIn t cell)) c.without_mark.ensures
    (no_quote_before text cell c.in-Some.front plain strips
    (sym c.ends_with.ensures.value ∙ no_quote))

pub returns-in-None : goal.returns-in-None
returns-in-None c = λ _.
    let cell = c.args.cell.now in
    let text = c.without_mark.result.now in
    let plain : list_any (λ b. b == 34) cell ≡ false = search rules in
    let strips : Strips text cell None = search rules in
    subst (λ t. ¬ (MayBeOpenIn t cell)) c.without_mark.ensures
    (no_suffix text cell plain strips)
