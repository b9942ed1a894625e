-- Texts of values: what a key's text says, and which refusal another gets.
use Rattle.std.proofs.Common.{◌≡◌, ◌≢◌, ℕ, Bool, false, List, [], ◌∷◌}
use Rattle.std.proofs.Common.{◌++◌, Option, Some, None, Result, Ok, Err, IfNone, IfSome, get_or}
use Rattle.std.proofs.Common.{codes, refl, sym, ap, ◌∙◌, subst, arith, inl, inr, IsErrAnd}
use Rattle.std.specs.List.{Contains}
use Rattle.std.proofs.lemmas.Bool.{false≢true}
use Rattle.std.specs.Option.{ok_or}
use Rattle.agg_values.specs.KeyText.{colon, kind_text, IsKeyText, IsRefusedAs}
use Rattle.agg_values.specs.TypedKey.{CompositeIntermediateKey}
use Rattle.agg_values.specs.declared.typed_key.CompositeIntermediateKey.TheVariants as key
use Rattle.agg_values.specs.declared.error.KeyTextError.{KeyTextError}
use Rattle.agg_values.specs.declared.error.KeyTextError.TheVariants as key_text
use Rattle.agg_segment.specs.storage.Document.{said_key}
use Rattle.agg_segment.specs.declared.storage.document.FieldValue.{FieldValue}
use Rattle.agg_request.specs.json_values.Query.{Says, SaysKey}
use Rattle.agg_request.specs.json_values.Unsupported.{IsUnsupportedText}
use Rattle.agg_request.specs.json_values.Reading.{IsReading, IsRefusal, refusal_of}
use Rattle.agg_request.specs.declared.json_values.read_error.ReadError.{ReadError}
use Rattle.agg_request.specs.declared.json_values.read_error.ReadError.TheVariants.{Grammar}
use Rattle.agg_request.proofs.lemmas.json_values.Readings.{refused}

-- a text that begins as a key's is not of the type that isn't supported
pub supported : (text : List ℕ) (k : CompositeIntermediateKey) (rest : List ℕ)
    → text ≡ kind_text k ++ colon ∷ rest → ¬ (IsUnsupportedText text)
supported text (key.Bool b) rest e (more, f) =
    omega (arith, ap (λ t. get_or t 0 0) (sym e ∙ f))
supported text (key.Str s) rest e (more, f) =
    omega (arith, ap (λ t. get_or t 0 0) (sym e ∙ f))
supported text (key.I64 n) rest e (more, f) =
    omega (arith, ap (λ t. get_or t 0 0) (sym e ∙ f))
supported text (key.U64 n) rest e (more, f) =
    omega (arith, ap (λ t. get_or t 0 0) (sym e ∙ f))
supported text (key.DateTime ns) rest e (more, f) =
    omega (arith, ap (λ t. get_or t 0 0) (sym e ∙ f))
supported text (key.IpAddr a) rest e (more, f) =
    omega (arith, ap (λ t. get_or t 0 0) (sym e ∙ f))
supported text key.Null rest e (more, f) =
    omega (arith, ap (λ t. get_or t 0 0) (sym e ∙ f))

-- a text that is no key's and isn't supported says no key
says_nothing : (text : List ℕ)
    → ((k : CompositeIntermediateKey) → ¬ (IsKeyText text k)) → (¬ (IsUnsupportedText text))
    → (lenient : Bool) (k : CompositeIntermediateKey) → ¬ (SaysKey lenient text k)
says_nothing text none supports lenient k (inl h) = none k h
says_nothing text none supports lenient k (inr h) = supports h.1

-- a kind without a colon before a text that isn't supported
cut_f64 : (kind value rest : List ℕ) → kind ++ colon ∷ value ≡ codes "f64:" ++ rest
    → (¬ (Contains kind colon)) → kind ≡ codes "f64"
cut_f64 [] value rest e bare = absurd (omega (arith, ap (λ t. get_or t 0 0) e))
cut_f64 (a ∷ []) value rest e bare = absurd (omega (arith, ap (λ t. get_or t 1 0) e))
cut_f64 (a ∷ b ∷ []) value rest e bare = absurd (omega (arith, ap (λ t. get_or t 2 0) e))
cut_f64 (a ∷ b ∷ c ∷ []) value rest e bare =
    let first : a ≡ 102 = ap (λ t. get_or t 0 0) e in
    let second : b ≡ 54 = ap (λ t. get_or t 1 0) e in
    let third : c ≡ 52 = ap (λ t. get_or t 2 0) e in
    rw (first, second, third) refl
cut_f64 (a ∷ b ∷ c ∷ d ∷ kind) value rest e bare =
    absurd (bare (3, omega arith, ap (λ t. get_or t 3 0) e))

-- what a strict reading takes as a key is a key's text
pub said_strictly : (text : List ℕ) (k : CompositeIntermediateKey) → SaysKey false text k
    → IsKeyText text k
said_strictly text k (inl h) = h
said_strictly text k (inr h) = absurd (false≢true h.0)

-- a refusal of a text as a key's
pub refused_key : (text : List ℕ) (error : KeyTextError) → IsRefusedAs text error
    → ((k : CompositeIntermediateKey) → IsKeyText text k → error ≡ key_text.OutOfMemory)
    → IsRefusal (λ lenient. SaysKey lenient text) (IsUnsupportedText text) (refusal_of error)
refused_key text key_text.Unsupported told only =
    (told, λ k h. absurd (cc (only k (said_strictly text k h))))
refused_key text key_text.NoColon told only =
    says_nothing text (λ k h. cc (only k h)) (λ (rest, e). told (rw e (3, omega arith, refl)))
refused_key text key_text.UnknownType (kind, value, e, bare, other, unknown) only =
    says_nothing text (λ k h. cc (only k h))
    (λ (rest, f). other (cut_f64 kind value rest (sym e ∙ f) bare))
refused_key text key_text.BadValue (k, value, e, none) only =
    says_nothing text none (supported text k value e)
refused_key text key_text.OutOfMemory told only = tt

-- a refusal of a text as a key's is one of it as a value's
refused_text : (text : List ℕ) (error : KeyTextError) → IsRefusedAs text error
    → ((k : CompositeIntermediateKey) → IsKeyText text k → error ≡ key_text.OutOfMemory)
    → IsRefusal (λ lenient. Says lenient text) (IsUnsupportedText text) (refusal_of error)
refused_text text error told only =
    refused (λ lenient. SaysKey lenient text) (IsUnsupportedText text)
    (λ lenient. Says lenient text) (IsUnsupportedText text) (refusal_of error)
    (refused_key text error told only) (λ h. h) (λ lenient value h. (said_key value, h))

-- what is read of a key's text
pub read_text : (text : List ℕ) (k : CompositeIntermediateKey) (found : Option FieldValue)
    (result : Result FieldValue ReadError) → result ≡ ok_or found Grammar → IsKeyText text k
    → ((other : CompositeIntermediateKey) → IsKeyText text other → k ≡ other)
    → IfSome found (λ value. said_key value ≡ k)
    → IfNone found ((value : FieldValue) → said_key value ≢ k)
    → IsReading (λ lenient. Says lenient text) (IsUnsupportedText text) result
read_text text k (Some value) result is known only some none =
    rw is (rw some (inl known))
read_text text k None result is known only some none =
    rw is (λ lenient value. said lenient value)
  where
    said : (lenient : Bool) (value : FieldValue) → ¬ (Says lenient text value)
    said lenient value (inl h) = none value (sym (only (said_key value) h))
    said lenient value (inr h) = supported text k known.0 known.1 h.1

-- what is read of a copy of a key's text, where the refusal is passed on
pub refused_copy : (text copy : List ℕ) (error : KeyTextError)
    (result : Result FieldValue ReadError)
    → copy ≡ text → IsErrAnd result (λ refusal. refusal ≡ refusal_of error) → IsRefusedAs copy error
    → ((k : CompositeIntermediateKey) → IsKeyText copy k → error ≡ key_text.OutOfMemory)
    → IsReading (λ lenient. Says lenient text) (IsUnsupportedText text) result
refused_copy text copy error (Ok value) same is told only = absurd is
refused_copy text copy error (Err refusal) same is told only =
    subst (λ t. IsRefusal (λ lenient. Says lenient t) (IsUnsupportedText t) refusal) same
    (rw is (refused_text copy error told only))

-- what is read of a copy of the text is read of the text
pub read_copy : (text copy : List ℕ) (k into : CompositeIntermediateKey) (found : Option FieldValue)
    (result : Result FieldValue ReadError) → copy ≡ text → into ≡ k → result ≡ ok_or found Grammar
    → IsKeyText copy k → ((other : CompositeIntermediateKey) → IsKeyText copy other → k ≡ other)
    → IfSome found (λ value. said_key value ≡ into)
    → IfNone found ((value : FieldValue) → said_key value ≢ into)
    → IsReading (λ lenient. Says lenient text) (IsUnsupportedText text) result
read_copy text copy k into found result same turned is known only some none =
    subst (λ t. IsReading (λ lenient. Says lenient t) (IsUnsupportedText t) result) same
    (read_text copy k found result is known only
    (subst (λ y. IfSome found (λ value. said_key value ≡ y)) turned some)
    (subst (λ y. IfNone found ((value : FieldValue) → said_key value ≢ y)) turned none))
