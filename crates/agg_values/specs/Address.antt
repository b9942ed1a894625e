-- The text of an address: RFC 5952, sections 4 and 5.
use Rattle.std.specs.Prelude.{ℕ, ◌+◌, ◌-◌, ◌*◌, ◌/◌, ◌%◌, ◌^◌, List, ◌++◌, Bool, false, ◌==◌}
use Rattle.std.specs.Prelude.{if◌then◌else◌, map, take, drop, fold, max, unwrap_or}
use Rattle.std.specs.Prelude.{position, codes, nat_lt, decimal}
use Rattle.std.specs.Fmt.{radix_digits}
use Rattle.std.specs.List.{range_with_len, join_with_byte}
use Rattle.std.specs.Net.Text.{zero_run}

-- the eight groups of sixteen bits, the highest first
abbrev pub groups_of : ℕ → List ℕ
groups_of address = map (λ k. (address / 2 ^ (112 - 16 * k)) % 2 ^ 16) (range_with_len 0 8)

-- how many zero groups stand from a place on
abbrev pub zeros_from : List ℕ → ℕ → ℕ
zeros_from groups at = zero_run (drop at groups)

-- the length of the longest run of zero groups
abbrev pub longest_run : List ℕ → ℕ
longest_run groups = fold max 0 (map (zeros_from groups) (range_with_len 0 8))

-- the first place of a run of that length
abbrev pub first_run : List ℕ → ℕ
first_run groups =
    unwrap_or (position (λ at. zeros_from groups at == longest_run groups) (range_with_len 0 8)) 0

-- groups in lower-case hexadecimal without leading zeros, with a colon between each two
abbrev pub hex_groups : List ℕ → List ℕ
hex_groups groups = join_with_byte 58 (map (radix_digits 16 false) groups)

-- an address as an IPv6 text: the first longest run of at least two zero groups is written `::`
abbrev pub ipv6_text : ℕ → List ℕ
ipv6_text address =
    let groups = groups_of address in
    let at = first_run groups in
    let run = longest_run groups in
    if nat_lt run 2 then hex_groups groups
    else hex_groups (take at groups) ++ codes "::" ++ hex_groups (drop (at + run) groups)

-- the last 32 bits in decimal, as an IPv4 text
abbrev pub ipv4_text : ℕ → List ℕ
ipv4_text address =
    join_with_byte 46
    (map (λ k. decimal ((address / 2 ^ (24 - 8 * k)) % 2 ^ 8)) (range_with_len 0 4))

-- whether an address is an IPv4-mapped one
abbrev pub is_mapped : ℕ → Bool
is_mapped address = address / 2 ^ 32 == 65535

-- the text of an address
abbrev pub address_text : ℕ → List ℕ
address_text address =
    if is_mapped address then codes "::ffff:" ++ ipv4_text address else ipv6_text address

-- the text that is shown: a mapped address is its IPv4 text
abbrev pub shown_address : ℕ → List ℕ
shown_address address = if is_mapped address then ipv4_text address else ipv6_text address
