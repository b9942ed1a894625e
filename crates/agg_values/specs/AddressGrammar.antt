-- The texts that are read as an address: the text forms of RFC 4291, and IPv4 texts.
use Rattle.std.specs.Prelude.{◌≡◌, ℕ, ◌^◌, ◌<◌, ◌⊎◌, List, ◌∷◌}
use Rattle.std.specs.Net.Addr.{embedded_segments, ipv6_segments, segments_of}
use Rattle.std.specs.declared.net.ip_addr.IpAddr.{IpAddr}
use Rattle.std.specs.declared.net.ip_addr.IpAddr.TheVariants.{V4, V6}
use Rattle.std.specs.Net.Grammar.{IsDotted, IsColonHex}
use Rattle.agg_values.specs.Address.{groups_of}

-- an IPv4 text, four decimal parts from 0 to 255 without leading zeros, which stands for the mapped
-- address
abbrev pub IsMappedText : List ℕ → ℕ → Type 0
IsMappedText text address =
    (parts : List ℕ) × IsDotted text parts
    × (groups_of address ≡ 0 ∷ 0 ∷ 0 ∷ 0 ∷ 0 ∷ 65535 ∷ segments_of parts)

-- an IPv6 text: eight groups of one to four hexadecimal digits of either case, of which `::` may
-- leave out one or more zero groups, and the last two may be an IPv4 text
abbrev pub IsIpv6Text : List ℕ → ℕ → Type 0
IsIpv6Text text address = IsColonHex text (groups_of address)

-- the text is one of this address
abbrev pub IsAddressText : List ℕ → ℕ → Type 0
IsAddressText text address =
    (address < 2 ^ 128) × (IsMappedText text address ⊎ IsIpv6Text text address)

-- the groups of an IP address, of an IPv4 address the mapped one's
abbrev pub ip_groups : IpAddr → List ℕ
ip_groups (V4 ip) = embedded_segments 65535 ip
ip_groups (V6 ip) = ipv6_segments ip
