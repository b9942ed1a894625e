use Rattle.std.proofs.Common.{◌≡◌, true, subst, rules}
use Rattle.std.specs.Result.{is_ok}
use Rattle.csv.specs.Records.{fields_of}
use Rattle.peslumok_records.specs.cells.Table.{IsPlaceOf}
use Rattle.agg_values.specs.Nothing.{NoneIs}
use Rattle.peslumok_records.proofs.lemmas.cells.HeaderPlaces.{places_more}
use Rattle.peslumok_records.proofs.lemmas.cells.RefusedRows.{no_places}
use Rattle.peslumok_records.proofs.cells.cells.places_of.Goals as goal

pub loop-field-preserved : goal.loop-field-preserved
loop-field-preserved c =
    let l = c.loop-field in
    let header = fields_of c.args.header.now in
    let good : is_ok c.push.result ≡ true = search rules in
    let items = rw good at c.push.ensures.items in
    places_more header c.args.asked.now l.field-index c.field-item.result l.places.items
    c.in-Ok.place c.push.new.self.items c.loop-field-test.true c.field-item.is items l.invariant
    (subst (λ name. IsPlaceOf header name c.in-Ok.place)
    c.as_str.ensures c.in-Ok.ensures.ok)

pub returns-in-Err-clause-none : goal.returns-in-Err-clause-none
returns-in-Err-clause-none c = λ fault.
    let header = fields_of c.args.header.now in
    no_places header c.args.asked.now c.loop-field.field-index c.field-item.result
    c.loop-field-test.true c.field-item.is
    (subst (λ name. NoneIs (IsPlaceOf header name)) c.as_str.ensures
    (c.in-Err.ensures.none (c.of_field.ensures.fault fault)))
