use Rattle.std.proofs.Common.{subst}
use Rattle.agg_values.specs.AddressGrammar.{IsAddressText}
use Rattle.agg_pages.proofs.lemmas.document_json.TokenValues.{address_member}
use Rattle.agg_pages.proofs.document_json.tokens.value.read_address.Goals as goal

pub returns : goal.returns
returns c = rw c.in-Text.is (λ first is. rw is (address_member c.in-Text.text.now c.in-Some.address
    (subst (λ s. IsAddressText s c.in-Some.address.0) c.in_ok-copy_of.ensures
    c.in-Some.ensures.read)))
