-- The text of an address is the one that std writes, and it reads back.
use Rattle.std.proofs.Common.{◌≡◌, ℕ, zero, suc, ◌/◌, ◌%◌, ◌^◌, ◌<◌, Bool, true, false, cond, List}
use Rattle.std.proofs.Common.{[], ◌∷◌, ◌++◌, get_or, take, drop, refl, sym, ap, ◌∙◌, subst, arith}
use Rattle.std.proofs.Common.{inl, inr, append_assoc, eq-eqb}
use Rattle.std.proofs.Math.Nat.{div-div-eq-div-mul}
use Rattle.std.proofs.lemmas.Bool.{eqb-true}
use Rattle.std.proofs.lemmas.Slice.Eq.{bytes_eq-Decides}
use Rattle.std.proofs.NetLemmas.Texts.{AllSegments, IsColonHex-ipv6_text}
use Rattle.std.specs.Cmp.{both_ways}
use Rattle.std.specs.Prelude.{bytes_eq}
use Rattle.std.proofs.NetLemmas.Theorems.{IsIpv4Text_unique, IsIpv6Text_unique}
use Rattle.std.proofs.NetLemmas.Ipv6.{IsDotted-not_colon_hex}
use Rattle.std.specs.Int.{w128, from_be_bytes}
use Rattle.std.specs.Net.Addr.{octets_of, segments_of, ipv6_segments, IsCanonicalOf}
use Rattle.std.specs.Net.Grammar.{IsColonHex, IsIpText}
use Rattle.std.specs.declared.net.ip_addr.IpAddr.{IpAddr}
use Rattle.std.specs.declared.net.ip_addr.IpAddr.TheVariants.{V4, V6}
use Rattle.std.specs.declared.net.ipv6_addr.Ipv6Addr.{Ipv6Addr}
use Rattle.std.specs.Net.Text as Text
use Rattle.agg_values.specs.Address.{groups_of, ipv6_text, ipv4_text, is_mapped, address_text}
use Rattle.agg_values.specs.Address.{shown_address}
use Rattle.agg_values.specs.AddressGrammar.{IsAddressText, ip_groups}
use Rattle.agg_values.proofs.Groups.{step, from_be_bytes-groups_of}
use Rattle.agg_values.proofs.GroupTexts.{hex_groups_text-same}

pub AllSegments-groups_of : (a : ℕ) → AllSegments (groups_of a)
AllSegments-groups_of a zero = omega arith
AllSegments-groups_of a (suc zero) = omega arith
AllSegments-groups_of a (suc (suc zero)) = omega arith
AllSegments-groups_of a (suc (suc (suc zero))) = omega arith
AllSegments-groups_of a (suc (suc (suc (suc zero)))) = omega arith
AllSegments-groups_of a (suc (suc (suc (suc (suc zero))))) = omega arith
AllSegments-groups_of a (suc (suc (suc (suc (suc (suc zero)))))) = omega arith
AllSegments-groups_of a (suc (suc (suc (suc (suc (suc (suc zero))))))) = omega arith
AllSegments-groups_of a (suc (suc (suc (suc (suc (suc (suc (suc k)))))))) = omega arith

-- the groups before the last two of an IPv4-mapped address
abbrev mark : List ℕ
mark = 0 ∷ 0 ∷ 0 ∷ 0 ∷ 0 ∷ 65535 ∷ []

pub marked : (a : ℕ) → a / 2 ^ 32 ≡ 65535 → take 6 (groups_of a) ≡ mark
marked a mapped =
    let d5 = div-div-eq-div-mul a (2 ^ 32) (2 ^ 16) in
    let d4 = div-div-eq-div-mul a (2 ^ 32) (2 ^ 32) in
    let d3 = div-div-eq-div-mul a (2 ^ 32) (2 ^ 48) in
    let d2 = div-div-eq-div-mul a (2 ^ 32) (2 ^ 64) in
    let d1 = div-div-eq-div-mul a (2 ^ 32) (2 ^ 80) in
    let g5 : a / 2 ^ 32 % 65536 ≡ 65535 = omega arith in
    let g4 : a / 2 ^ 48 % 65536 ≡ 0 = omega (arith, d5) in
    let g3 : a / 2 ^ 64 % 65536 ≡ 0 = omega (arith, d4) in
    let g2 : a / 2 ^ 80 % 65536 ≡ 0 = omega (arith, d3) in
    let g1 : a / 2 ^ 96 % 65536 ≡ 0 = omega (arith, d2) in
    let g0 : a / 2 ^ 112 % 65536 ≡ 0 = omega (arith, d1) in
    λ i. g0 i ∷ g1 i ∷ g2 i ∷ g3 i ∷ g4 i ∷ g5 i ∷ []

pub mapped_from_mark : (a : ℕ) → a < 2 ^ 128 → take 6 (groups_of a) ≡ mark → a / 2 ^ 32 ≡ 65535
mapped_from_mark a small e =
    let g0 : a / 2 ^ 112 % 65536 ≡ 0 = ap (λ t. get_or t 0 0) e in
    let g1 : a / 2 ^ 96 % 65536 ≡ 0 = ap (λ t. get_or t 1 0) e in
    let g2 : a / 2 ^ 80 % 65536 ≡ 0 = ap (λ t. get_or t 2 0) e in
    let g3 : a / 2 ^ 64 % 65536 ≡ 0 = ap (λ t. get_or t 3 0) e in
    let g4 : a / 2 ^ 48 % 65536 ≡ 0 = ap (λ t. get_or t 4 0) e in
    let g5 : a / 2 ^ 32 % 65536 ≡ 65535 = ap (λ t. get_or t 5 0) e in
    let q0 : a / 2 ^ 112 ≡ 0 = omega arith in
    let q1 : a / 2 ^ 96 ≡ 0 = omega (arith, step a (2 ^ 96)) in
    let q2 : a / 2 ^ 80 ≡ 0 = omega (arith, step a (2 ^ 80)) in
    let q3 : a / 2 ^ 64 ≡ 0 = omega (arith, step a (2 ^ 64)) in
    let q4 : a / 2 ^ 48 ≡ 0 = omega (arith, step a (2 ^ 48)) in
    omega (arith, step a (2 ^ 32))

mapped_test : (a : ℕ) → a < 2 ^ 128 → bytes_eq (take 6 (groups_of a)) mark ≡ is_mapped a
mapped_test a small =
    let decides = bytes_eq-Decides (take 6 (groups_of a)) mark in
    both_ways _ _ (λ e. eq-eqb _ _ (mapped_from_mark a small (decides.0 e))) (λ e.
    decides.1 (marked a (eqb-true _ _ e)))

-- the dotted part
dotted-same : (a : ℕ) → Text.ipv4_text (octets_of (drop 6 (groups_of a))) ≡ ipv4_text a
dotted-same a =
    let o0 : a / 2 ^ 16 % 65536 / 256 ≡ a / 2 ^ 24 % 256 = rw (← div-div-eq-div-mul a (2 ^ 16) 256)
    (omega arith) in
    let o1 : a / 2 ^ 16 % 65536 % 256 ≡ a / 2 ^ 16 % 256 = omega arith in
    let o2 : a / 1 % 65536 / 256 ≡ a / 2 ^ 8 % 256 = omega arith in
    let o3 : a / 1 % 65536 % 256 ≡ a / 1 % 256 = omega arith in
    rw (o0, o1, o2, o3) (simp append_assoc)

-- the whole text
pub address_text-same : (a : ℕ) → a < 2 ^ 128 → Text.ipv6_text (groups_of a) ≡ address_text a
unfolding Text.ipv6_text
address_text-same a small =
    λ i. cond (mapped_test a small i) ((58 ∷ 58 ∷ 102 ∷ 102 ∷ 102 ∷ 102 ∷ 58 ∷ []) ++ dotted-same a
    i) (hex_groups_text-same (groups_of a) refl (AllSegments-groups_of a) i)

-- where it is not mapped, the text has no dots
pub ipv6_text-same : (a : ℕ) → a < 2 ^ 128 → (¬ (take 6 (groups_of a) ≡ mark))
    → Text.ipv6_text (groups_of a) ≡ shown_address a
unfolding Text.ipv6_text
ipv6_text-same a small other =
    let no : bytes_eq (take 6 (groups_of a)) mark ≡ false = ne_is_false _ (λ e.
    other ((bytes_eq-Decides (take 6 (groups_of a)) mark).0 e)) in
    (λ i. cond (no i) ((58 ∷ 58 ∷ 102 ∷ 102 ∷ 102 ∷ 102 ∷ 58 ∷ []) ++ Text.ipv4_text
    (octets_of (drop 6 (groups_of a)))) (hex_groups_text-same (groups_of a) refl
    (AllSegments-groups_of a) i))
    ∙ (λ i. cond ((sym no ∙ mapped_test a small) i) (ipv4_text a) (ipv6_text a))
  where
    ne_is_false : (b : Bool) → (¬ (b ≡ true)) → b ≡ false
    ne_is_false true n = absurd (n refl)
    ne_is_false false n = refl

pub ipv4_text-same : (a : ℕ) → take 6 (groups_of a) ≡ mark → a < 2 ^ 128
    → Text.ipv4_text (octets_of (drop 6 (groups_of a))) ≡ shown_address a
ipv4_text-same a marked small =
    dotted-same a ∙ (λ i. cond (sym (eq-eqb _ _ (mapped_from_mark a small marked)) i) (ipv4_text a)
    (ipv6_text a))

-- what is written reads back
pub IsAddressText-address_text : (a : ℕ) → a < 2 ^ 128 → IsAddressText (address_text a) a
IsAddressText-address_text a small = (
  small,
  inr (subst (λ text. IsColonHex text (groups_of a)) (address_text-same a small)
      (IsColonHex-ipv6_text (groups_of a) refl (AllSegments-groups_of a))),
)

-- an address is told by its groups
pub same_from_groups : (a b : ℕ) → a < 2 ^ 128 → b < 2 ^ 128 → groups_of a ≡ groups_of b → a ≡ b
same_from_groups a b small_a small_b e =
    sym (from_be_bytes-groups_of a small_a) ∙ ap (λ groups. from_be_bytes w128 (octets_of groups)) e
    ∙ from_be_bytes-groups_of b small_b

-- a text is of one address at most
pub IsAddressText-unique : (text : List ℕ) (a b : ℕ) → IsAddressText text a → IsAddressText text b
    → a ≡ b
IsAddressText-unique text a b (small_a, inl p) (small_b, inl q) =
    let octets = IsIpv4Text_unique text (record { octets = p.0 }) (record { octets = q.0 }) p.1 q.1
    in
    same_from_groups a b small_a small_b (p.2 ∙ (λ i. 0 ∷ 0 ∷ 0 ∷ 0 ∷ 0 ∷ 65535
    ∷ segments_of (octets i).octets) ∙ sym q.2)
IsAddressText-unique text a b (small_a, inl p) (small_b, inr q) =
    absurd (IsDotted-not_colon_hex text _ _ p.1 q)
IsAddressText-unique text a b (small_a, inr p) (small_b, inl q) =
    absurd (IsDotted-not_colon_hex text _ _ q.1 p)
IsAddressText-unique text a b (small_a, inr p) (small_b, inr q) =
    let groups = IsIpv6Text_unique text (record { segments = groups_of a }) (record {
      segments =
          groups_of b;
    }) p q in
    same_from_groups a b small_a small_b (λ i. (groups i).segments)

-- the texts of IP addresses are those of addresses
pub IsAddressText-from_ip : (text : List ℕ) (ip : IpAddr) (address : ℕ) → address < 2 ^ 128
    → groups_of address ≡ ip_groups ip → IsIpText text ip → IsAddressText text address
IsAddressText-from_ip text (V4 ip) address small groups spelled =
    (small, inl (ip.octets, spelled, groups))
IsAddressText-from_ip text (V6 ip) address small groups spelled =
    (small, inr (subst (IsColonHex text) (sym groups) spelled))

pub IsAddressText-none : (text : List ℕ) → ((ip : IpAddr) → ¬ (IsIpText text ip)) → (address : ℕ)
    → ¬ (IsAddressText text address)
IsAddressText-none text none address (small, inl p) = none (V4 (record { octets = p.0 })) p.1
IsAddressText-none text none address (small, inr p) =
    none (V6 (record { segments = groups_of address })) p

-- what std writes of the canonical address is what is shown
pub ip_text-canonical : (a : ℕ) (ip : Ipv6Addr) (c : IpAddr) → a < 2 ^ 128
    → ipv6_segments ip ≡ groups_of a → IsCanonicalOf ip c → Text.ip_text c ≡ shown_address a
ip_text-canonical a ip (V4 inner) small groups (mapped, octets) =
    ap Text.ipv4_text (octets ∙ ap (λ s. octets_of (drop 6 s)) groups)
    ∙ ipv4_text-same a (ap (take 6) (sym groups) ∙ mapped) small
ip_text-canonical a ip (V6 other) small groups (unmapped, same) =
    ap (λ x. Text.ipv6_text (ipv6_segments x)) same ∙ ap Text.ipv6_text groups
    ∙ ipv6_text-same a small (λ e. unmapped (ap (take 6) groups ∙ e))
