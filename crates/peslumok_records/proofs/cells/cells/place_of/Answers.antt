use Rattle.std.proofs.Common.{◌≡◌, length, subst, arith, rules}
use Rattle.csv.specs.Records.{fields_of}
use Rattle.peslumok_records.proofs.lemmas.cells.HeaderPlaces.{IsPlaceBefore, no_one_place}
use Rattle.peslumok_records.proofs.lemmas.cells.HeaderPlaces.{place_of_all}
use Rattle.peslumok_records.proofs.cells.cells.place_of.Goals as goal

pub returns-clause-ok : goal.returns-clause-ok
returns-clause-ok c =
    let header = fields_of c.args.header.now in
    let l = c.loop-place in
    let whole : l.place ≡ length header =
    omega (arith, c.loop-place-test.false, l.auto.place-end, c.len-place-end.ensures) in
    place_of_all header c.args.name.now l.found
    (subst (λ n. IsPlaceBefore header c.args.name.now n l.found) whole l.invariant)

pub returns-then-is_some-clause-none : goal.returns-then-is_some-clause-none
returns-then-is_some-clause-none c = λ fault.
    let l = c.loop-place in
    no_one_place (fields_of c.args.header.now) c.args.name.now l.place l.found l.invariant
    (search rules) (c.is_at.ensures.0 (search rules))
