-- The texts of after keys: a kind, a colon and a value.
use Rattle.std.specs.Prelude.{◌≡◌, ◌≢◌, ℕ, ℤ, ◌^◌, ◌<◌, List, [], ◌∷◌, ◌++◌, ⊤, codes, decimal}
use Rattle.std.specs.Prelude.{FitsSigned, if◌then◌else◌}
use Rattle.std.specs.Int.{w64}
use Rattle.std.specs.Fmt.{signed_decimal}
use Rattle.std.specs.Str.Parse.{IsNumeral, digits_value, signed_digits_value, without_leading_plus}
use Rattle.std.specs.Str.Parse.{without_leading_sign}
use Rattle.std.specs.List.{Contains}
use Rattle.agg_values.specs.Address.{address_text}
use Rattle.agg_values.specs.AddressGrammar.{IsAddressText}
use Rattle.agg_values.specs.Nothing.{NoneIs}
use Rattle.agg_values.specs.declared.error.KeyTextError.{KeyTextError}
use Rattle.agg_values.specs.declared.error.KeyTextError.TheVariants.{NoColon, UnknownType, BadValue}
use Rattle.agg_values.specs.declared.error.KeyTextError.TheVariants.{Unsupported, OutOfMemory}
use Rattle.agg_values.specs.TypedKey.{CompositeIntermediateKey}
use Rattle.agg_values.specs.TypedKey.key.{Bool as Truth, Str, I64, U64, DateTime, IpAddr, Null}

-- the byte `:`
abbrev pub colon : ℕ
colon = 58

-- the kind of a key, as it is written
abbrev pub kind_text : CompositeIntermediateKey → List ℕ
kind_text (Truth b) = codes "bool"
kind_text (Str text) = codes "str"
kind_text (I64 n) = codes "i64"
kind_text (U64 n) = codes "u64"
kind_text (DateTime ns) = codes "dt"
kind_text (IpAddr address) = codes "ip"
kind_text Null = codes "null"

-- the value of a key, as it is written
abbrev pub value_text : CompositeIntermediateKey → List ℕ
value_text (Truth b) = if b then codes "true" else codes "false"
value_text (Str text) = text
value_text (I64 n) = signed_decimal n
value_text (U64 n) = decimal n
value_text (DateTime ns) = signed_decimal ns
value_text (IpAddr address) = address_text address.0
value_text Null = []

-- the text that is written of a key
abbrev pub key_text : CompositeIntermediateKey → List ℕ
key_text key = kind_text key ++ colon ∷ value_text key

-- decimal digits after a plus, a minus or no sign, that write a signed number of 64 bits
abbrev pub IsSignedText : List ℕ → ℤ → Type 0
IsSignedText text n =
    IsNumeral 10 (without_leading_sign text) × FitsSigned w64 n × (n ≡ signed_digits_value 10 text)

-- decimal digits after a plus or no sign, that write an unsigned number of 64 bits
abbrev pub IsUnsignedText : List ℕ → ℕ → Type 0
IsUnsignedText text n =
    IsNumeral 10 (without_leading_plus text) × (n < 2 ^ 64)
    × (n ≡ digits_value 10 (without_leading_plus text))

-- the texts that are read as the value of a key; Null takes any
abbrev pub IsValueText : List ℕ → CompositeIntermediateKey → Type 0
IsValueText value (Truth b) = value ≡ value_text (Truth b)
IsValueText value (Str text) = text ≡ value
IsValueText value (I64 n) = IsSignedText value n
IsValueText value (U64 n) = IsUnsignedText value n
IsValueText value (DateTime ns) = IsSignedText value ns
IsValueText value (IpAddr address) = IsAddressText value address.0
IsValueText value Null = ⊤

-- the texts that are read as a key
abbrev pub IsKeyText : List ℕ → CompositeIntermediateKey → Type 0
IsKeyText text key =
    (value : List ℕ) × (text ≡ kind_text key ++ colon ∷ value) × IsValueText value key

-- the kind is of no key
abbrev pub IsUnknownKind : List ℕ → Type 0
IsUnknownKind kind = NoneIs (λ key. kind ≡ kind_text key)

-- what the refusals say of a text; memory is taken for a `str` alone
abbrev pub IsRefusedAs : List ℕ → KeyTextError → Type 0
IsRefusedAs text NoColon = ¬ (Contains text colon)
IsRefusedAs text Unsupported = (value : List ℕ) × (text ≡ codes "f64:" ++ value)
IsRefusedAs text UnknownType =
    (kind value : List ℕ) × (text ≡ kind ++ colon ∷ value) × (¬ (Contains kind colon))
    × (kind ≢ codes "f64") × IsUnknownKind kind
IsRefusedAs text BadValue =
    (key : CompositeIntermediateKey) × (value : List ℕ) × (text ≡ kind_text key ++ colon ∷ value)
    × NoneIs (IsKeyText text)
IsRefusedAs text OutOfMemory = (value : List ℕ) × (text ≡ codes "str:" ++ value)
