use Rattle.std.proofs.Common.{rules, subst, sym}
use Rattle.std.specs.Prelude.{option_and_then}
use Rattle.json.specs.Json.{object}
use Rattle.peslumok_records.specs.held.Held.{Holds}
use Rattle.peslumok_records.specs.held.Values.{values_of_fields}
use Rattle.peslumok_records.proofs.lemmas.held.Appended.{holds_closed}
use Rattle.peslumok_records.specs.objects.Objects.{field_values, object_document}
use Rattle.peslumok_records.specs.objects.Tokens.{TakesText}
use Rattle.peslumok_records.proofs.objects.lines.add_tokens.Goals as goal

pub returns-clause-taken : goal.returns-clause-taken
returns-clause-taken c = λ taken.
    let asked = c.args.asked.now in
    let line = c.args.line.now in
    let old = c.args.into.now in
    let start = c.forget_open.new.self in
    let made = c.push_text.new.builder in
    let took : TakesText asked line start.builder made =
    subst (λ fields. TakesText fields line start.builder made) c.cut.ensures.same
    (c.push_text.ensures.taken (search rules)) in
    subst (λ d. Holds (option_and_then (object_document asked) d) old c.close.new.self)
    (sym took.is)
    (holds_closed (values_of_fields (field_values (object took.seen)) asked) old c.close.new.self
    start made c.forget_open.ensures.held c.forget_open.ensures.opened
    took.gains c.push_text.ensures.documents (c.in_ok-close.ensures.closed taken)
    (c.in_ok-close.ensures.fits taken))
