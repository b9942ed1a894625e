use Rattle.std.proofs.Common.{◌∙◌, List, ℕ, ap, subst}
use Rattle.std.specs.Fmt.{HasWritten}
use Rattle.std.specs.Net.Text.{ipv6_text}
use Rattle.agg_values.proofs.AddressTexts.{address_text-same}
use Rattle.agg_values.proofs.address.AddressDisplay.fmt.Goals as goal

pub returns-clause-writes : goal.returns-clause-writes
returns-clause-writes g c = λ plain ok.
    let text = ap ipv6_text c.ipv6_of.ensures.groups ∙ address_text-same c.args.self.now.0
    c.ipv6_of.ensures.fits in
    subst (λ (bs : List ℕ). HasWritten g.W.Write.write_str_gives c.args.f.now bs c.write.new.self)
    text (c.write.ensures.writes plain ok)
