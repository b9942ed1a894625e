use Rattle.std.proofs.Common.{◌≡◌, ◌∙◌, ◌<◌, ◌^◌, ℕ, ap, length, get_or, rules}
use Rattle.std.specs.Net.Addr.{ipv6_bits, ipv6_segments}
use Rattle.agg_values.specs.Address.{groups_of}
use Rattle.agg_values.proofs.Groups.{groups_of-from_be_bytes}
use Rattle.agg_values.proofs.address.ipv6_number.Goals as goal

pub returns : goal.returns
unfolding ipv6_bits
returns c =
    let segments = ipv6_segments c.args.ip in
    let eight : length segments ≡ 8 = search rules in
    let fits : (k : ℕ) → get_or segments k 0 < 2 ^ 16 = search rules in
    ap groups_of c.to_bits.ensures ∙ groups_of-from_be_bytes segments eight fits
