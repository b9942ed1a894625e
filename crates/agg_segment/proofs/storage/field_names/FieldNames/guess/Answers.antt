use Rattle.std.proofs.Common.{◌≡◌, ◌<◌, List, ℕ, length, get_or, ap, sym, subst, ◌∙◌}
use Rattle.std.specs.Str.{bytes_eq}
use Rattle.agg_segment.specs.storage.Cells.{number_of}
use Rattle.agg_segment.specs.storage.Names.{numbered_names}
use Rattle.agg_segment.proofs.lemmas.storage.FirstNames.{guessed}
use Rattle.agg_segment.proofs.storage.field_names.FieldNames.guess.Goals as goal

pub returns-then-eq : goal.returns-then-eq
returns-then-eq c =
    let s = c.self.inside in
    let guess = c.in_ok-guess.guess.now in
    let k = c.next_of_first-number.result in
    let found = c.in_ok-guess.ensures.lookup in
    ap (λ names. number_of names c.args.name.now) (sym c.self.view_is)
    ∙ guessed s.first.items (numbered_names s.numbers) c.args.name.now guess k c.self.invariant
    (subst (λ (xs : List (List ℕ)). k < length xs) c.deref.ensures.value found.3.0)
    (subst (λ (xs : List (List ℕ)). guess ≡ get_or xs k guess) c.deref.ensures.value found.1)
    (ap (λ text. bytes_eq text c.args.name.now) (sym c.as_str.ensures) ∙ sym c.eq.ensures
    ∙ c.if-eq.true)
