-- Words that are values, as tokens of a line.
use Rattle.std.proofs.Common.{◌≡◌, ◌∷◌, List, ℕ, Bool, true, false, IfSome, IsTrue, refl}
use Rattle.std.specs.Bool.{then_some}
use Rattle.json.specs.Token.{Token}
use Rattle.agg_pages.specs.declared.document_json.token_reader.LineToken.{LineToken}
use Rattle.agg_pages.specs.document_json.LineTokens.{StandsFor}
use Rattle.agg_pages.specs.document_json.Plain.{IsWord}

pub if_word : (taken : Bool) (token : LineToken) (value : Token) (word : List ℕ)
    (old new : List Token) → StandsFor token value → IsWord value word
    → (IsTrue taken → (v : Token) → IsWord v word → old ≡ v ∷ new)
    → IfSome (then_some taken token)
    (λ t. (first : Token) × StandsFor t first × (old ≡ first ∷ new))
if_word true token value word old new stands is all = (value, stands, all refl value is)
if_word false token value word old new stands is all = tt
