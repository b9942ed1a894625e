use Rattle.std.proofs.Common.{◌≡◌, ◌∙◌, [], subst}
use Rattle.csv.specs.Records.{fields_of}
use Rattle.agg_segment.specs.Segment.{gathered_documents}
use Rattle.peslumok_records.specs.held.Values.{Gains}
use Rattle.peslumok_records.proofs.lemmas.held.Appended.{holds_closed, mixed_closed}
use Rattle.peslumok_records.specs.cells.Cells.{values_of_row}
use Rattle.peslumok_records.proofs.cells.cells.try_row.Goals as goal

pub returns-clause-taken : goal.returns-clause-taken
returns-clause-taken c = λ taken.
    let start = c.forget_open.new.self in
    let cells = fields_of c.args.row.now in
    holds_closed (values_of_row c.args.asked.now c.args.places.now cells) c.args.records.now
    c.close.new.self start c.push_row.new.builder
    c.forget_open.ensures.held c.forget_open.ensures.opened
    (subst (λ asked. Gains (values_of_row asked c.args.places.now cells) start.builder
    c.push_row.new.builder) c.as_slice.ensures c.in_ok-push_row.ensures.ok)
    c.in_ok-push_row.ensures.documents (c.in_ok-close.ensures.closed taken)
    (c.in_ok-close.ensures.fits taken)

pub returns-clause-mixed : goal.returns-clause-mixed
returns-clause-mixed c = λ left empty.
    let cells = fields_of c.args.row.now in
    let start = c.forget_open.new.self in
    let made = c.push_row.new.builder in
    let closed : gathered_documents made ≡ [] =
    c.in_ok-push_row.ensures.documents ∙ c.forget_open.ensures.closed ∙ empty in
    mixed_closed (values_of_row c.args.asked.now c.args.places.now cells) start.builder made
    c.forget_open.ensures.opened
    (subst (λ asked. Gains (values_of_row asked c.args.places.now cells) start.builder made)
    c.as_slice.ensures c.in_ok-push_row.ensures.ok) (c.in_ok-close.ensures.mixed left closed)
