use Rattle.std.proofs.Common.{◌≡◌, ◌∙◌, ℕ, List, IfOk, Ok, Err, Result, string_bytes, ap, subst}
use Rattle.std.proofs.Common.{rules}
use Rattle.std.specs.Net.Addr.{ipv6_segments}
use Rattle.std.specs.Net.Text.{ipv6_text}
use Rattle.agg_values.specs.Address.{address_text}
use Rattle.agg_values.specs.AddressGrammar.{IsAddressText}
use Rattle.agg_values.proofs.AddressTexts.{address_text-same, IsAddressText-address_text}
use Rattle.agg_values.proofs.address.Address.write.Goals as goal

shown : (c : goal.After-from_string)
    → IfOk c.from_string.result (λ text. text ≡ address_text c.args.self.now.0)
shown c =
    let read : string_bytes c.in_ok-text.text ≡ ipv6_text (ipv6_segments c.ipv6_of.result) =
    search rules in
    subst (λ (bytes : List ℕ). IfOk c.from_string.result (λ text. text ≡ bytes))
    (read ∙ ap ipv6_text c.ipv6_of.ensures.groups ∙ address_text-same c.args.self.now.0
    c.ipv6_of.ensures.fits) c.from_string.ensures

-- a text that is written reads back
reads_back : {E : Type 0} (a : ℕ) (result : Result (List ℕ) E) → IsAddressText (address_text a) a
    → IfOk result (λ text. text ≡ address_text a) → IfOk result (λ text. IsAddressText text a)
reads_back a (Ok text) reads is = rw is reads
reads_back a (Err e) reads is = tt

pub returns-clause-text : goal.returns-clause-text
returns-clause-text c = shown c

pub returns-clause-reads_back : goal.returns-clause-reads_back
returns-clause-reads_back c =
    let a = c.args.self.now.0 in
    reads_back a c.from_string.result (IsAddressText-address_text a c.ipv6_of.ensures.fits)
    (shown c)
