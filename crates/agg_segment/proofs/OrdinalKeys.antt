-- The keys of gathered numbers, with texts by their ordinals in a dictionary.
use Rattle.std.proofs.Common.{◌≡◌, ◌<◌, ℕ, zero, suc, List, [], ◌∷◌, length, get_or, map}
use Rattle.std.proofs.Common.{refl, sym, ap, ◌∙◌, arith}
use Rattle.std.specs.List.{All}
use Rattle.std.proofs.lemmas.List.{get_or-map}
use Rattle.std.proofs.lemmas.List.Elements.{All-head, All-tail}
use Rattle.agg_values.specs.declared.address.Address.{Address}
use Rattle.agg_values.specs.TypedKey.{CompositeIntermediateKey}
use Rattle.agg_values.specs.declared.typed_key.CompositeIntermediateKey.TheVariants as key
use Rattle.agg_segment.specs.storage.Columns.{type_of}
use Rattle.agg_segment.specs.storage.Columns.{named_texts}
use Rattle.agg_segment.specs.storage.Dictionary.{text_at}
use Rattle.agg_segment.specs.storage.GatheredNumbers.{raw_key, keyed_rows}
use Rattle.agg_segment.specs.storage.GatheredNumbers.{IsEncodable}
use Rattle.agg_segment.specs.declared.storage.keys.ColumnKeys.{ColumnKeys}
use Rattle.agg_segment.specs.declared.storage.keys.ColumnKeys.TheVariants.{Bools, Texts, Signed}
use Rattle.agg_segment.specs.declared.storage.keys.ColumnKeys.TheVariants.{Unsigned, Addresses}
use Rattle.agg_segment.specs.declared.storage.keys.ColumnKeys.TheVariants.{Dates}

text_is : (texts : List (List ℕ)) (ordinals : List ℕ) (n : ℕ) → n < length ordinals
    → text_at (map (text_at texts) ordinals) n ≡ text_at texts (get_or ordinals n 0)
text_is texts ordinals n l = get_or-map (text_at texts) ordinals n 0 [] l

pub encodable_itself : (texts : List (List ℕ)) (ordinals : List ℕ) (addresses : List Address)
    (keys : ColumnKeys) (n : ℕ) → IsEncodable texts ordinals addresses keys n
    → IsEncodable (named_texts keys ordinals) ordinals addresses keys n
encodable_itself texts ordinals addresses Bools n is = is
encodable_itself texts ordinals addresses (Texts dictionary) n (l, has) =
    (l, (has.0, sym (text_is dictionary ordinals n l)))
encodable_itself texts ordinals addresses Signed n is = is
encodable_itself texts ordinals addresses Unsigned n is = is
encodable_itself texts ordinals addresses (Addresses list) n is = is
encodable_itself texts ordinals addresses Dates n is = is

named_key : (texts : List (List ℕ)) (ordinals : List ℕ) (addresses : List Address)
    (keys : ColumnKeys) (n : ℕ) → IsEncodable texts ordinals addresses keys n
    → raw_key (named_texts keys ordinals) addresses (type_of keys) n
    ≡ raw_key texts addresses (type_of keys) n
named_key texts ordinals addresses Bools n is = refl
named_key texts ordinals addresses (Texts dictionary) n (l, has) =
    ap (λ t. key.Str t) (text_is dictionary ordinals n l ∙ has.1)
named_key texts ordinals addresses Signed n is = refl
named_key texts ordinals addresses Unsigned n is = refl
named_key texts ordinals addresses (Addresses list) n is = refl
named_key texts ordinals addresses Dates n is = refl

-- ---- rows

pub numbers_all : (P : ℕ → Type 0) (rows : List (ℕ × ℕ)) → All (λ r. P r.1) rows
    → All P (map (λ r. r.1) rows)
numbers_all P [] all k d l = absurd (omega (arith, l))
numbers_all P (r ∷ rows) all zero d l = all 0 r (omega arith)
numbers_all P (r ∷ rows) all (suc k) d l =
    numbers_all P rows (All-tail (λ (s : ℕ × ℕ). P s.1) r rows all) k d (omega (arith, l))

pub all_numbers : (P : ℕ → Type 0) (rows : List (ℕ × ℕ)) → All P (map (λ r. r.1) rows)
    → All (λ r. P r.1) rows
all_numbers P [] all k d l = absurd (omega (arith, l))
all_numbers P (r ∷ rows) all zero d l = all 0 0 (omega arith)
all_numbers P (r ∷ rows) all (suc k) d l =
    all_numbers P rows (All-tail P r.1 (map (λ (s : ℕ × ℕ). s.1) rows) all) k d (omega (arith, l))

pub named_rows : (texts : List (List ℕ)) (ordinals : List ℕ) (addresses : List Address)
    (keys : ColumnKeys) (rows : List (ℕ × ℕ))
    → All (λ r. IsEncodable texts ordinals addresses keys r.1) rows
    → keyed_rows (raw_key (named_texts keys ordinals) addresses (type_of keys)) rows
    ≡ keyed_rows (raw_key texts addresses (type_of keys)) rows
named_rows texts ordinals addresses keys [] all = refl
named_rows texts ordinals addresses keys (r ∷ rows) all =
    let P : ℕ × ℕ → Type 0 = λ s. IsEncodable texts ordinals addresses keys s.1 in
    ap (λ k. let s : ℕ × CompositeIntermediateKey = (r.0, k) in
    s ∷ keyed_rows (raw_key (named_texts keys ordinals) addresses (type_of keys)) rows)
    (named_key texts ordinals addresses keys r.1 (All-head P r rows all))
    ∙ ap (λ rs. let s : ℕ × CompositeIntermediateKey =
    (r.0, raw_key texts addresses (type_of keys) r.1) in s ∷ rs)
    (named_rows texts ordinals addresses keys rows (All-tail P r rows all))
