-- The least value of a source, as it is read.
use Rattle.std.proofs.Common.{◌≡◌, ◌≢◌, ℕ, Bool, false, List, Option, None, Some, Result, IsErrAnd}
use Rattle.std.proofs.Common.{codes, inl, inr, sym, subst}
use Rattle.serde_json.specs.Data.{Data}
use Rattle.agg_values.specs.KeyText.{IsKeyText}
use Rattle.agg_values.specs.Nothing.{NoneIs}
use Rattle.agg_values.specs.TypedKey.{CompositeIntermediateKey}
use Rattle.agg_values.specs.declared.typed_key.CompositeIntermediateKey.TheVariants.{Null}
use Rattle.agg_values.specs.declared.after_key.AfterKey.{AfterKey}
use Rattle.agg_values.proofs.KeyTexts.{IsKeyText-unique}
use Rattle.agg_request.specs.json_values.Json.{IsGiven, present}
use Rattle.agg_request.specs.json_values.Query.{SaysKey}
use Rattle.agg_request.specs.json_values.Reading.{IsReading, IsRefusal}
use Rattle.agg_request.specs.reading.CompositeJson.{IsKeyJson, IsLeastOf}
use Rattle.agg_request.specs.reading.CompositeJson.{SaysValue}
use Rattle.agg_request.specs.reading.Unsupported.{HasUnsupportedLeast, IsUnsupportedKey}
use Rattle.agg_request.specs.declared.json_values.read_error.ReadError.{ReadError}
use Rattle.agg_request.proofs.lemmas.json_values.Readings.{refused_by}
use Rattle.agg_request.proofs.lemmas.json_values.ValueTexts.{said_strictly, supported}

-- what stands there says the value that is given
said-at : (lenient : Bool) (o : Option Data) (d : Data) (x : Option AfterKey) → o ≡ Some d
    → IsGiven (SaysValue lenient) o x → (key : AfterKey) × SaysValue lenient d key
said-at lenient None d x there h = absurd (cc)
said-at lenient (Some e) d None there h = absurd h
said-at lenient (Some e) d (Some key) there h =
    let same : e ≡ d = cc in (key, subst (λ v. SaysValue lenient v key) same h)

-- a text that says Null says no other key
says-null : (lenient : Bool) (text : List ℕ) (key : CompositeIntermediateKey)
    → IsKeyText text Null → SaysKey lenient text key → key ≡ Null
says-null lenient text key null (inl h) = IsKeyText-unique text key Null h null
says-null lenient text key null (inr h) = absurd (supported text Null null.0 null.1 h.1)

-- a refusal of the key is one of the least value
pub refused_least : (body d : Data) (error : ReadError)
    (result : Result (Option AfterKey) ReadError) → present (codes "min") body ≡ Some d
    → IsErrAnd result (λ e. e ≡ error)
    → IsRefusal (λ lenient. IsKeyJson lenient d) (IsUnsupportedKey d) error
    → IsReading (λ lenient. IsLeastOf lenient body) (HasUnsupportedLeast body) result
refused_least body d error result there is told =
    refused_by (λ lenient. IsKeyJson lenient d) (IsUnsupportedKey d)
    (λ lenient. IsLeastOf lenient body) (HasUnsupportedLeast body) error result is told
    (λ h. (d, there, h))
    (λ lenient x h.
    let said = said-at lenient (present (codes "min") body) d x there h in
    (said.0, (said.1.0, said.1.1, said.1.2)))

-- Null is no least value
pub null_least : (body d : Data) (key : AfterKey) → present (codes "min") body ≡ Some d
    → IsKeyJson false d key → key.0 ≡ Null → (lenient : Bool) → NoneIs (IsLeastOf lenient body)
null_least body d key there read null lenient x h =
    let said = said-at lenient (present (codes "min") body) d x there h in
    let same : said.1.0 ≡ read.0 = cc (said.1.1, read.1) in
    let text : IsKeyText read.0 Null =
    subst (IsKeyText read.0) null (said_strictly read.0 key.0 read.2) in
    said.1.3 (says-null lenient read.0 said.0.0 text
    (subst (λ t. SaysKey lenient t said.0.0) same said.1.2))

-- any other key is one
pub least_read : (body d : Data) (key : AfterKey) → present (codes "min") body ≡ Some d
    → IsKeyJson false d key → key.0 ≢ Null → IsLeastOf false body (Some key)
least_read body d key there read other =
    subst (λ o. IsGiven (SaysValue false) o (Some key)) (sym there)
    (read.0, read.1, read.2, other)
