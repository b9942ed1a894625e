-- The eight groups of an address, and the number that they make.
use Rattle.std.proofs.Common.{◌≡◌, ℕ, ◌+◌, ◌*◌, ◌/◌, ◌%◌, ◌^◌, ◌<◌, List, [], ◌∷◌, length, get_or}
use Rattle.std.proofs.Common.{sym, ap, ◌∙◌, arith}
use Rattle.std.proofs.Math.Nat.{div-div-eq-div-mul}
use Rattle.std.proofs.NetLemmas.Arrays.{eight_items}
use Rattle.std.specs.Int.{w128, to_be_bytes, from_be_bytes}
use Rattle.std.specs.Net.Addr.{segments_of, octets_of}
use Rattle.agg_values.specs.Address.{groups_of}

-- two bytes are one group
pair : (a w : ℕ) → a / (w * 256) % 256 * 256 + a / w % 256 ≡ a / w % 65536
pair a w = rw (← div-div-eq-div-mul a w 256) (omega arith)

last_pair : (a : ℕ) → a / 256 % 256 * 256 + a % 256 ≡ a / 1 % 65536
last_pair a = omega arith

pub segments_of-to_be_bytes : (a : ℕ) → segments_of (to_be_bytes w128 a) ≡ groups_of a
segments_of-to_be_bytes a =
    λ i. pair a (256 ^ 14) i ∷ pair a (256 ^ 12) i ∷ pair a (256 ^ 10) i ∷ pair a (256 ^ 8) i
    ∷ pair a (256 ^ 6) i ∷ pair a (256 ^ 4) i ∷ pair a (256 ^ 2) i ∷ last_pair a i ∷ []

-- a number with one more group
abbrev joined : ℕ → ℕ → ℕ
joined n g = n * 65536 + g

abbrev number_from : ℕ → ℕ → ℕ → ℕ → ℕ → ℕ → ℕ → ℕ → ℕ
number_from a b c d e f g h = joined (joined (joined (joined (joined (joined (joined a b) c) d) e)
    f) g) h

from_be_bytes-octets_of : (a b c d e f g h : ℕ)
    → from_be_bytes w128 (octets_of (a ∷ b ∷ c ∷ d ∷ e ∷ f ∷ g ∷ h ∷ [])) ≡ number_from a b c d e f
    g h
from_be_bytes-octets_of a b c d e f g h = omega arith

top : (n g : ℕ) → g < 65536 → joined n g / 65536 ≡ n
top n g fits = omega arith

last : (n g : ℕ) → g < 65536 → joined n g % 65536 ≡ g
last n g fits = omega arith

-- one more group is taken off
off : (m n g w : ℕ) → m / w ≡ joined n g → g < 65536 → m / (w * 65536) ≡ n
off m n g w e fits = sym (div-div-eq-div-mul m w 65536) ∙ ap (λ x. x / 65536) e ∙ top n g fits

group_at : (m n g w : ℕ) → m / w ≡ joined n g → g < 65536 → m / w % 65536 ≡ g
group_at m n g w e fits = ap (λ x. x % 65536) e ∙ last n g fits

by_one : (m : ℕ) → m / 1 ≡ m
by_one m = omega arith

groups_of-number_from : (a b c d e f g h : ℕ) → (a < 65536) × (b < 65536) × (c < 65536)
    × (d < 65536) × (e < 65536) × (f < 65536) × (g < 65536) × (h < 65536)
    → groups_of (number_from a b c d e f g h) ≡ a ∷ b ∷ c ∷ d ∷ e ∷ f ∷ g ∷ h ∷ []
groups_of-number_from a b c d e f g h fits =
    let m = number_from a b c d e f g h in
    let six = joined (joined (joined (joined (joined a b) c) d) e) f in
    let five = joined (joined (joined (joined a b) c) d) e in
    let four = joined (joined (joined a b) c) d in
    let three = joined (joined a b) c in
    let m0 : m / 1 ≡ joined (joined six g) h = by_one m in
    let m1 = off m (joined six g) h 1 m0 fits.7 in
    let m2 = off m six g (2 ^ 16) m1 fits.6 in
    let m3 = off m five f (2 ^ 32) m2 fits.5 in
    let m4 = off m four e (2 ^ 48) m3 fits.4 in
    let m5 = off m three d (2 ^ 64) m4 fits.3 in
    let m6 = off m (joined a b) c (2 ^ 80) m5 fits.2 in
    let m7 = off m a b (2 ^ 96) m6 fits.1 in
    let g0 = group_at m (joined six g) h 1 m0 fits.7 in
    let g1 = group_at m six g (2 ^ 16) m1 fits.6 in
    let g2 = group_at m five f (2 ^ 32) m2 fits.5 in
    let g3 = group_at m four e (2 ^ 48) m3 fits.4 in
    let g4 = group_at m three d (2 ^ 64) m4 fits.3 in
    let g5 = group_at m (joined a b) c (2 ^ 80) m5 fits.2 in
    let g6 = group_at m a b (2 ^ 96) m6 fits.1 in
    let g7 : m / 2 ^ 112 % 65536 ≡ a = ap (λ x. x % 65536) m7 ∙ (let small : a % 65536 ≡ a =
    omega (arith, fits.0) in small) in
    λ i. g7 i ∷ g6 i ∷ g5 i ∷ g4 i ∷ g3 i ∷ g2 i ∷ g1 i ∷ g0 i ∷ []

pub step : (a w : ℕ) → joined (a / (w * 65536)) (a / w % 65536) ≡ a / w
step a w = rw (← div-div-eq-div-mul a w 65536) (omega arith)

highest : (a : ℕ) → a < 2 ^ 128 → a / 2 ^ 112 % 65536 ≡ a / 2 ^ 112
highest a small = omega arith

-- the number of the groups of a number
number_from-groups_of : (a : ℕ) → a < 2 ^ 128
    → number_from (a / 2 ^ 112 % 65536) (a / 2 ^ 96 % 65536) (a / 2 ^ 80 % 65536)
    (a / 2 ^ 64 % 65536) (a / 2 ^ 48 % 65536) (a / 2 ^ 32 % 65536) (a / 2 ^ 16 % 65536)
    (a / 1 % 65536) ≡ a
number_from-groups_of a small =
    let s0 = highest a small in
    let s1 = ap (λ n. joined n (a / 2 ^ 96 % 65536)) s0 ∙ step a (2 ^ 96) in
    let s2 = ap (λ n. joined n (a / 2 ^ 80 % 65536)) s1 ∙ step a (2 ^ 80) in
    let s3 = ap (λ n. joined n (a / 2 ^ 64 % 65536)) s2 ∙ step a (2 ^ 64) in
    let s4 = ap (λ n. joined n (a / 2 ^ 48 % 65536)) s3 ∙ step a (2 ^ 48) in
    let s5 = ap (λ n. joined n (a / 2 ^ 32 % 65536)) s4 ∙ step a (2 ^ 32) in
    let s6 = ap (λ n. joined n (a / 2 ^ 16 % 65536)) s5 ∙ step a (2 ^ 16) in
    ap (λ n. joined n (a / 1 % 65536)) s6 ∙ step a 1 ∙ by_one a

-- the number of the address with these groups
pub groups_of-from_be_bytes : (groups : List ℕ) → length groups ≡ 8
    → ((k : ℕ) → get_or groups k 0 < 2 ^ 16) → groups_of (from_be_bytes w128 (octets_of groups))
    ≡ groups
groups_of-from_be_bytes groups eight fits =
    let e = eight_items groups eight in
    rw e (ap groups_of (from_be_bytes-octets_of _ _ _ _ _ _ _ _) ∙ groups_of-number_from _ _ _ _ _ _
    _ _ (fits 0, fits 1, fits 2, fits 3, fits 4, fits 5, fits 6, fits 7))

pub from_be_bytes-groups_of : (a : ℕ) → a < 2 ^ 128 → from_be_bytes w128 (octets_of (groups_of a))
    ≡ a
from_be_bytes-groups_of a small = from_be_bytes-octets_of _ _ _ _ _ _ _ _ ∙ number_from-groups_of a
    small
