use Rattle.std.proofs.Common.{◌∙◌}
use Rattle.std.specs.Net.Addr.{IsIpv6OfBits}
use Rattle.agg_values.proofs.Groups.{segments_of-to_be_bytes}
use Rattle.agg_values.proofs.address.ipv6_of.Goals as goal

pub returns-clause-groups : goal.returns-clause-groups
unfolding IsIpv6OfBits
returns-clause-groups c = c.from_bits.ensures ∙ segments_of-to_be_bytes c.args.address.0
