use Rattle.std.proofs.Common.{◌≡◌, ◌∙◌, rules, sym}
use Rattle.std.specs.Prelude.{Some, slice_get}
use Rattle.peslumok_records.proofs.lemmas.objects.MemberPlaces.{first_part}
use Rattle.peslumok_records.proofs.objects.tokens.may_hold.Goals as goal

pub returns-in-Some : goal.returns-in-Some
returns-in-Some c = λ apart.
    let path = c.args.field.now.path.items in
    let first = c.in-Some.first.now in
    let at : Some first ≡ slice_get path 0 = search rules in
    let (rest, is) = first_part path first at in
    record {
      whole = search rules;
      first = first;
      rest = rest;
      path = sym c.requires ∙ is;
      begins = search rules;
    }
