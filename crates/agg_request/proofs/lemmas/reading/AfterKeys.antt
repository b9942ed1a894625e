-- The after key of a composite: a key for each member of an object.
use Rattle.std.proofs.Common.{◌≡◌, ℕ, Bool, false, List, [], ◌∷◌, ◌++◌, Some, Result, IsErrAnd}
use Rattle.std.proofs.Common.{String, Global, string_bytes, string_cmp, refl, sym, ◌∙◌, subst}
use Rattle.std.proofs.Common.{append_assoc, append-nil, inl, inr}
use Rattle.std.specs.List.Sorted.{IsStrictlySortedBy}
use Rattle.std.specs.Map.{keys_of}
use Rattle.serde_json.specs.Data.{Data, Members}
use Rattle.serde_json.specs.Find.{as_str}
use Rattle.serde_json.specs.View.{view, members_view}
use Rattle.serde_json.specs.declared.value.Value.{Value}
use Rattle.serde_json.proofs.Views.{Entry}
use Rattle.agg_values.specs.KeyText.{IsKeyText, IsRefusedAs}
use Rattle.agg_values.specs.Names.{Named, put}
use Rattle.agg_values.specs.TypedKey.{CompositeIntermediateKey}
use Rattle.agg_values.specs.declared.after_key.AfterKey.{AfterKey}
use Rattle.agg_values.specs.declared.error.KeyTextError.{KeyTextError}
use Rattle.agg_values.specs.declared.error.KeyTextError.TheVariants.{OutOfMemory}
use Rattle.agg_request.specs.reading.CompositeJson.{IsKeyJson}
use Rattle.agg_request.specs.reading.Unsupported.{IsUnsupportedKey}
use Rattle.agg_request.specs.json_values.Json.{EachNamedIs}
use Rattle.agg_request.specs.json_values.Query.{SaysKey}
use Rattle.agg_request.specs.json_values.Unsupported.{HasUnsupportedMember, IsUnsupportedText}
use Rattle.agg_request.specs.json_values.Reading.{IsReading, IsRefusal, refusal_of}
use Rattle.agg_request.specs.declared.json_values.read_error.ReadError.{ReadError}
use Rattle.agg_request.proofs.lemmas.json_values.JsonLemmas.{Ascends, Ascends-none, Ascends-more}
use Rattle.agg_request.proofs.lemmas.json_values.JsonLemmas.{put_next}
use Rattle.agg_request.proofs.lemmas.json_values.Readings.{refused_by}
use Rattle.agg_request.proofs.lemmas.json_values.ValueTexts.{refused_key}

-- ---- a key

-- a refused copy of a text refuses the value that is the text
pub refused_json : (d : Data) (text copy : List ℕ) (error : KeyTextError)
    (result : Result AfterKey ReadError) → as_str d ≡ Some text → copy ≡ text
    → IsErrAnd result (λ refusal. refusal ≡ refusal_of error) → IsRefusedAs copy error
    → ((k : CompositeIntermediateKey) → IsKeyText copy k → error ≡ OutOfMemory)
    → IsReading (λ lenient. IsKeyJson lenient d) (IsUnsupportedKey d) result
refused_json d text copy error result found same is told only =
    refused_by (λ lenient. SaysKey lenient copy) (IsUnsupportedText copy)
    (λ lenient. IsKeyJson lenient d) (IsUnsupportedKey d) (refusal_of error) result is
    (refused_key copy error told only) (λ h. (copy, found ∙ sym (Some-same same), h))
    (λ lenient after (other, there, h).
    let one : other ≡ copy = cc in (after.0, subst (λ t. SaysKey lenient t after.0) one h))
  where
    Some-same : copy ≡ text → Some copy ≡ Some text
    Some-same e i = Some (e i)

-- ---- the members, one by one

-- the members before those that are left have these keys
pub record IsReadUpTo (all : Members) (done : Named AfterKey) (left : List Entry) : Type 0 where
  pub whole : (more : Named AfterKey) → EachNamedIs (IsKeyJson false) (members_view left) more
      → EachNamedIs (IsKeyJson false) all (done ++ more)
  pub part : (lenient : Bool) (after : Named AfterKey) → EachNamedIs (IsKeyJson lenient) all after
      → (more : Named AfterKey) × EachNamedIs (IsKeyJson lenient) (members_view left) more
  pub up : HasUnsupportedMember IsUnsupportedKey (members_view left)
      → HasUnsupportedMember IsUnsupportedKey all
  pub ascends : Ascends done left

-- no member is read yet
pub IsReadUpTo-none : (es : List Entry) (done : Named AfterKey) (left : List Entry) → done ≡ []
    → left ≡ es → IsStrictlySortedBy string_cmp (keys_of es)
    → IsReadUpTo (members_view es) done left
IsReadUpTo-none es done left none all sorted =
    subst (λ ks. IsReadUpTo (members_view es) ks left) (sym none)
    (subst (IsReadUpTo (members_view es) []) (sym all)
    (record {
      whole = λ more h. h;
      part = λ lenient after h. (after, h);
      up = λ h. h;
      ascends = Ascends-none es sorted;
    }))

-- the keys of a member and of those after it
first_of : (Is : Data → AfterKey → Type 0) (name : String Global) (d : Value) (later : List Entry)
    (more : Named AfterKey) → EachNamedIs Is (members_view ((name, d) ∷ later)) more
    → ((after : AfterKey) × Is (view d) after)
    × ((rest : Named AfterKey) × EachNamedIs Is (members_view later) rest)
first_of Is name d later [] h = absurd h
first_of Is name d later (x ∷ rest) h = ((x.1, h.1), (rest, h.2))

-- one more member is read
pub IsReadUpTo-more : (all : Members) (done new : Named AfterKey) (left : List Entry)
    (name : String Global) (d : Value) (later : List Entry) (key : AfterKey)
    → IsReadUpTo all done left → left ≡ (name, d) ∷ later → IsKeyJson false (view d) key
    → new ≡ put (string_bytes name) key done → IsReadUpTo all new later
IsReadUpTo-more all done new left name d later key h e is put_is =
    let here : IsReadUpTo all done ((name, d) ∷ later) = subst (IsReadUpTo all done) e h in
    let last : new ≡ done ++ (string_bytes name, key) ∷ [] =
    put_is ∙ put_next done name d later key here.ascends in
    record {
      whole = λ more rest.
          subst (EachNamedIs (IsKeyJson false) all)
          (sym (append_assoc done ((string_bytes name, key) ∷ []) more)
          ∙ (λ i. sym last i ++ more))
          (here.whole ((string_bytes name, key) ∷ more) (refl, is, rest));
      part = λ lenient after all_are.
          let found = here.part lenient after all_are in
          (first_of (IsKeyJson lenient) name d later found.0 found.1).1;
      up = λ some. here.up (inr some);
      ascends = subst (λ ks. Ascends ks later) (sym last)
          (Ascends-more done name d later key here.ascends);
    }

-- a refused member refuses the object
pub IsReadUpTo-refused : (all : Members) (done : Named AfterKey) (left : List Entry)
    (name : String Global) (d : Value) (later : List Entry) (error : ReadError)
    (result : Result (Named AfterKey) ReadError) → IsReadUpTo all done left
    → left ≡ (name, d) ∷ later → IsErrAnd result (λ e. e ≡ error)
    → IsRefusal (λ lenient. IsKeyJson lenient (view d)) (IsUnsupportedKey (view d)) error
    → IsReading (λ lenient. EachNamedIs (IsKeyJson lenient) all)
    (HasUnsupportedMember IsUnsupportedKey all) result
IsReadUpTo-refused all done left name d later error result h e is told =
    let here : IsReadUpTo all done ((name, d) ∷ later) = subst (IsReadUpTo all done) e h in
    refused_by (λ lenient. IsKeyJson lenient (view d)) (IsUnsupportedKey (view d))
    (λ lenient. EachNamedIs (IsKeyJson lenient) all)
    (HasUnsupportedMember IsUnsupportedKey all) error result is told
    (λ some. here.up (inl some))
    (λ lenient after all_are.
    let found = here.part lenient after all_are in
    (first_of (IsKeyJson lenient) name d later found.0 found.1).0)

-- every member is read
pub IsReadUpTo-all : (all : Members) (done : Named AfterKey) (left : List Entry)
    → IsReadUpTo all done left → left ≡ [] → EachNamedIs (IsKeyJson false) all done
IsReadUpTo-all all done left h e =
    let here : IsReadUpTo all done [] = subst (IsReadUpTo all done) e h in
    subst (EachNamedIs (IsKeyJson false) all) (append-nil done) (here.whole [] tt)
