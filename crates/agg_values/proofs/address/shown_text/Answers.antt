use Rattle.std.proofs.Common.{◌≡◌, ◌∙◌, ℕ, List, IfOk, string_bytes, subst, rules}
use Rattle.std.specs.Net.Text.{ip_text}
use Rattle.agg_values.proofs.AddressTexts.{ip_text-canonical}
use Rattle.agg_values.proofs.address.shown_text.Goals as goal

pub returns : goal.returns
returns c =
    let shown : string_bytes c.in_ok-text.text ≡ ip_text c.to_canonical.result = search rules in
    subst (λ (bytes : List ℕ). IfOk c.from_string.result (λ text. text ≡ bytes))
    (shown ∙ ip_text-canonical c.args.address.0 c.ipv6_of.result c.to_canonical.result
    c.ipv6_of.ensures.fits c.ipv6_of.ensures.groups c.to_canonical.ensures) c.from_string.ensures
