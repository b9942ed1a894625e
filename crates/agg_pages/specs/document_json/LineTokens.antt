-- The tokens of a line that begin a value, and those of JSON.
use Rattle.std.specs.Prelude.{◌≡◌, List, ℕ, Some}
use Rattle.json.specs.Token as spec
use Rattle.json.specs.Token.{Token}
use Rattle.serde_json.specs.Read.{number_of}
use Rattle.agg_pages.specs.declared.document_json.token_reader.LineToken.{LineToken}
use Rattle.agg_pages.specs.declared.document_json.token_reader.LineToken.TheVariants as line
use Rattle.agg_pages.specs.document_json.Tokens.{num_of}

-- the token of JSON; of a number, one whose text writes it
abbrev pub StandsFor : LineToken → Token → Type 0
StandsFor line.BeginObject token = token ≡ spec.begin_object
StandsFor line.BeginArray token = token ≡ spec.begin_array
StandsFor line.Null token = token ≡ spec.null
StandsFor (line.Bool b) token = token ≡ spec.boolean b
StandsFor (line.Text text) token = token ≡ spec.string text.now
StandsFor (line.Number n) token =
    (text : List ℕ) × (token ≡ spec.number text) × (number_of text ≡ Some (num_of n))
