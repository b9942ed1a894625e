use Rattle.std.proofs.Common.{◌≡◌, ◌∷◌, arith}
use Rattle.json.specs.Token.{Token}
use Rattle.peslumok_records.proofs.lemmas.objects.TakenValues.{value_of_array}
use Rattle.peslumok_records.proofs.objects.tokens.push_value.Goals as goal

pub returns-in-Some-BeginArray-clause-taken : goal.returns-in-Some-BeginArray-clause-taken
returns-in-Some-BeginArray-clause-taken c = λ taken.
    let opens : c.args.reader.now ≡ Token.begin_array ∷ c.next.new.self = grind arith in
    value_of_array c.args.field.now c.args.reader.now c.next.new.self c.push_array.new.reader
    c.args.builder.now c.field.new.self c.push_array.new.builder opens
    (c.push_array.ensures.taken taken) c.in-Ok.ensures.opened
