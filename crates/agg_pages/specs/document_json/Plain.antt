-- Plain texts, words and whole numbers as they are written, and the tokens from a place on.
use Rattle.std.specs.Prelude.{◌≡◌, ◌⊎◌, ℕ, List, decimal, length}
use Rattle.std.specs.Fmt.{signed_decimal}
use Rattle.std.specs.List.{prefix_len}
use Rattle.json.specs.Lex as lexed
use Rattle.json.specs.Lex.{punctuate}
use Rattle.json.specs.Print.{token_text}
use Rattle.json.specs.Run.{is_plain}
use Rattle.json.specs.Token as spec
use Rattle.json.specs.Token.{Token}
use Rattle.json.specs.Word.{head}
use Rattle.agg_pages.specs.declared.document_json.plain.reader.Place.{Place}
use Rattle.agg_pages.specs.declared.document_json.plain.reader.Place.TheVariants.{
  Begun,
  AfterValue,
  AfterComma,
}
use Rattle.agg_pages.specs.declared.document_json.tokens.number.WholeNumber.{WholeNumber}
use Rattle.agg_pages.specs.declared.document_json.tokens.number.WholeNumber.TheVariants.{
  Unsigned,
  Negative,
}

-- a text that is written as it is
abbrev pub IsPlain : List ℕ → Type 0
IsPlain text = prefix_len is_plain text ≡ length text

-- a token that is written as this word
abbrev pub IsWord : Token → List ℕ → Type 0
IsWord (spec.boolean b) word = token_text (spec.boolean b) ≡ word
IsWord spec.null word = token_text spec.null ≡ word
IsWord _ _ = ⊥

-- how a whole number is written
abbrev pub text_of : WholeNumber → List ℕ
text_of (Unsigned n) = decimal n
text_of (Negative z) = signed_decimal z

-- a comma, a brace or a bracket comes first
abbrev pub EndsValue : List ℕ → Type 0
EndsValue bytes = (head bytes ≡ 44) ⊎ ((head bytes ≡ 125) ⊎ (head bytes ≡ 93))

-- the place as the grammar of JSON has it
abbrev pub place_of : Place → lexed.Place
place_of Begun = lexed.fresh
place_of AfterValue = lexed.after_value
place_of AfterComma = lexed.after_comma

-- the tokens of the bytes from a place on
abbrev pub tokens_from : Place → List ℕ → List Token
tokens_from place bytes = punctuate (place_of place) (lexed.lex lexed.between bytes)
