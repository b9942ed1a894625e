use Rattle.std.proofs.Common.{subst, ◌≡◌, ℕ, List, Some}
use Rattle.std.specs.Option.{IfSome}
use Rattle.agg_values.specs.AddressGrammar.{IsAddressText}
use Rattle.agg_values.proofs.address.Address.read.Goals as goal

pub returns-clause-read : goal.returns-clause-read
returns-clause-read c = subst (λ (text : List ℕ). IfSome c.read_address.result (λ address.
    IsAddressText text address.0)) c.as_str.ensures c.read_address.ensures.read

pub returns-clause-each : goal.returns-clause-each
returns-clause-each c = subst (λ (text : List ℕ). (address : ℕ) → IsAddressText text address
    → c.read_address.result ≡ Some (record { 0 = address })) c.as_str.ensures
    c.read_address.ensures.each
