use Rattle.std.proofs.Common.{ap, Some}
use Rattle.agg_values.proofs.AddressTexts.{IsAddressText-from_ip, IsAddressText-unique}
use Rattle.agg_values.proofs.AddressTexts.{IsAddressText-none}
use Rattle.agg_values.proofs.address.read_address.Goals as goal

pub returns-in-Ok-clause-each : goal.returns-in-Ok-clause-each
returns-in-Ok-clause-each c = λ address spelled.
    let read = IsAddressText-from_ip c.args.text.now c.in-Ok.ip c.number_of.result
    c.number_of.type_inv c.number_of.ensures c.in-Ok.ensures.value in
    ap (λ n. Some (record { 0 = n })) (IsAddressText-unique c.args.text.now c.number_of.result
    address read spelled)

pub returns-in-Err-clause-each : goal.returns-in-Err-clause-each
returns-in-Err-clause-each c = λ address spelled.
    absurd (IsAddressText-none c.args.text.now c.in-Err.ensures.value address spelled)
