use Rattle.std.proofs.Common.{◌≡◌, ◌∙◌, [], subst}
use Rattle.json.specs.Value.{value_view}
use Rattle.agg_segment.specs.Segment.{gathered_documents}
use Rattle.peslumok_records.specs.held.Values.{Gains, values_of_fields}
use Rattle.peslumok_records.proofs.lemmas.held.Appended.{holds_closed, mixed_closed}
use Rattle.peslumok_records.specs.objects.Objects.{field_values}
use Rattle.peslumok_records.proofs.objects.objects.try_object.Goals as goal

pub returns-clause-taken : goal.returns-clause-taken
returns-clause-taken c = λ taken.
    let values = field_values (value_view c.args.object.now) in
    let start = c.forget_open.new.self in
    holds_closed (values_of_fields values c.args.asked.now) c.args.records.now c.close.new.self
    start c.push_object.new.builder
    c.forget_open.ensures.held c.forget_open.ensures.opened
    (subst (λ asked. Gains (values_of_fields values asked) start.builder
    c.push_object.new.builder) c.cut.ensures.same c.in_ok-push_object.ensures.ok)
    c.in_ok-push_object.ensures.documents (c.in_ok-close.ensures.closed taken)
    (c.in_ok-close.ensures.fits taken)

pub returns-clause-mixed : goal.returns-clause-mixed
returns-clause-mixed c = λ left empty.
    let values = field_values (value_view c.args.object.now) in
    let start = c.forget_open.new.self in
    let made = c.push_object.new.builder in
    let closed : gathered_documents made ≡ [] =
    c.in_ok-push_object.ensures.documents ∙ c.forget_open.ensures.closed ∙ empty in
    mixed_closed (values_of_fields values c.args.asked.now) start.builder made
    c.forget_open.ensures.opened
    (subst (λ asked. Gains (values_of_fields values asked) start.builder made) c.cut.ensures.same
    c.in_ok-push_object.ensures.ok) (c.in_ok-close.ensures.mixed left closed)
