-- The keys that values are read as.
use Rattle.std.proofs.Common.{◌≡◌, ◌≢◌, ◌⊎◌, ℕ, List, Option, None, Some, Result, Ok, Err}
use Rattle.std.proofs.Common.{[], ◌∷◌, ◌+◌, ◌==◌, Bool, Bor, IsTrue, MatchOption, drop, eqb, false}
use Rattle.std.proofs.Common.{is_some, length, rules, take, true}
use Rattle.std.proofs.Common.{IfOk, IfSome, OnOk, option_map, inl, inr, refl, sym, ap, ◌∙◌, subst}
use Rattle.std.specs.Prelude.{not}
use Rattle.std.specs.Cmp.Lexicographic.{pointwise}
use Rattle.agg_values.specs.KeyText.{IsKeyText}
use Rattle.agg_values.specs.Names.{Named}
use Rattle.agg_values.specs.Nothing.{NoneIs}
use Rattle.agg_values.specs.TypedKey.{CompositeIntermediateKey}
use Rattle.agg_values.specs.declared.after_key.AfterKey.{AfterKey}
use Rattle.agg_values.specs.declared.error.KeyTextError.{KeyTextError}
use Rattle.agg_values.specs.declared.error.KeyTextError.TheVariants as key_error
use Rattle.agg_values.specs.declared.error.OutOfMemory.{OutOfMemory}
use Rattle.agg_segment.specs.storage.Document.{said_key}
use Rattle.agg_segment.specs.declared.storage.document.FieldValue.{FieldValue}
use Rattle.peslumok_texts.specs.fields.Types.{type_of}
use Rattle.peslumok_texts.specs.fields.Values.{text_value}
use Rattle.peslumok_texts.specs.declared.fields.error.ValueError.{ValueError}
use Rattle.peslumok_texts.specs.declared.fields.error.ValueError.TheVariants as why
use Rattle.peslumok_texts.specs.declared.fields.field_type.FieldType.{FieldType}
use Rattle.peslumok_texts.specs.declared.words.by.BySpec.{BySpec}
use Rattle.peslumok_front.specs.declared.grouping.error.GroupingError.TheVariants as refusal
use Rattle.peslumok_records.proofs.lemmas.cells.Marks.{mark, unmarked}
use Rattle.peslumok_front.specs.after_text.AfterCells.{IsCell}
use Rattle.peslumok_front.specs.after_text.After.{IsUnreadKey, IsValueKey, ReadsAs, refusal_of}

-- a reading finds each key that a text has with its kind in front
abbrev pub FindsEach : List ℕ → Option AfterKey → Type 0
FindsEach text found =
    (key : CompositeIntermediateKey) → IsKeyText text key → option_map (λ k. k.0) found ≡ Some key

-- where nothing is found, there is no such key
pub none-found : (text : List ℕ) (found : Option AfterKey) → FindsEach text found → found ≡ None
    → NoneIs (IsKeyText text)
none-found text found each none key is =
    let some = each key is in
    let nothing : None ≡ Some key = sym (ap (option_map (λ k. k.0)) none) ∙ some in
    cc

-- what is found is the key
pub found-only : (text : List ℕ) (type : FieldType) (found : Option AfterKey) (own : AfterKey)
    → IfSome found (λ k. IsKeyText text k.0) → FindsEach text found → found ≡ Some own
    → (key : CompositeIntermediateKey) → ReadsAs type text key → own.0 ≡ key
found-only text type found own some each is key (inl has) =
    let one : Some own.0 ≡ Some key = sym (ap (option_map (λ k. k.0)) is) ∙ each key has in
    cc
found-only text type found own some each is key (inr other) =
    absurd (other.0 own.0 (subst (λ f. IfSome f (λ k. IsKeyText text k.0)) is some))

pub found-reads : (text : List ℕ) (type : FieldType) (found : Option AfterKey) (own : AfterKey)
    → IfSome found (λ k. IsKeyText text k.0) → found ≡ Some own → ReadsAs type text own.0
found-reads text type found own some is =
    inl (subst (λ f. IfSome f (λ k. IsKeyText text k.0)) is some)

-- a value is the key, where the text has no kind in front
pub value-only : (text : List ℕ) (type : FieldType) (value : FieldValue)
    (own : CompositeIntermediateKey) → NoneIs (IsKeyText text) → text_value type text ≡ Ok value
    → own ≡ said_key value → (key : CompositeIntermediateKey) → ReadsAs type text key → own ≡ key
value-only text type value own none read is key (inl has) = absurd (none key has)
value-only text type value own none read is key (inr other) =
    let one : Ok value ≡ Ok other.1.0 = sym read ∙ other.1.1 in
    let also : key ≡ said_key other.1.0 = other.1.2 in
    cc

-- what is no value is read as no key
pub refused-none : (text : List ℕ) (type : FieldType) (error : ValueError)
    → NoneIs (IsKeyText text) → text_value type text ≡ Err error
    → (key : CompositeIntermediateKey) → ¬ (ReadsAs type text key)
refused-none text type error none refused key (inl has) = none key has
refused-none text type error none refused key (inr other) =
    let one : Err error ≡ Ok other.1.0 = sym refused ∙ other.1.1 in
    absurd (cc one)

-- ---- refusals

-- the refusal of a value has its cause
pub refusal-cause : (types : Named FieldType) (by : BySpec) (text : List ℕ) (error : ValueError)
    → NoneIs (IsKeyText text)
    → (error ≡ why.OutOfMemory) ⊎ (text_value (type_of types by.field.now) text ≡ Err error)
    → IsUnreadKey types by text (refusal_of by.field.now error)
refusal-cause types by text why.OutOfMemory none cause = tt
refusal-cause types by text why.NotWhole none (inl is) = absurd (cc is)
refusal-cause types by text why.NotWhole none (inr is) =
    record { of_field = refl; no_key = none; refused = is }
refusal-cause types by text (why.NotADate e) none (inl is) = absurd (cc is)
refusal-cause types by text (why.NotADate e) none (inr is) =
    record { of_field = refl; no_key = none; refused = is }
refusal-cause types by text why.NotANumberOfUnit none (inl is) = absurd (cc is)
refusal-cause types by text why.NotANumberOfUnit none (inr is) =
    record { of_field = refl; no_key = none; refused = is }
refusal-cause types by text why.DateTooLarge none (inl is) = absurd (cc is)
refusal-cause types by text why.DateTooLarge none (inr is) =
    record { of_field = refl; no_key = none; refused = is }
refusal-cause types by text (why.NotADecimal e p) none (inl is) = absurd (cc is)
refusal-cause types by text (why.NotADecimal e p) none (inr is) =
    record { of_field = refl; no_key = none; refused = is }

-- ---- a reading that found no key

-- it found none
pub nothing-found : (text : List ℕ) (result : Result (Option AfterKey) OutOfMemory)
    → IfOk result (λ found. found ≡ None)
    → IfOk result (λ found. IfSome found (λ k. IsKeyText text k.0))
nothing-found text (Ok found) is =
    subst (λ f. IfSome f (λ k. IsKeyText text k.0)) (sym is) tt
nothing-found text (Err error) is = tt

-- it had memory, so there is none
pub not-found : (result : Result (Option AfterKey) OutOfMemory) (error : KeyTextError)
    (Found : Option AfterKey → Type 0) → OnOk result (error ≢ key_error.OutOfMemory)
    → error ≡ key_error.OutOfMemory → IfOk result Found
not-found (Ok found) error Found had is = absurd (had is)
not-found (Err none) error Found had is = tt

-- a value is what its text is read as
pub value-reads : (text : List ℕ) (type : FieldType) (value : FieldValue)
    (own : CompositeIntermediateKey) → NoneIs (IsKeyText text) → text_value type text ≡ Ok value
    → own ≡ said_key value → ReadsAs type text own
value-reads text type value own none read is = inr (none, (value, read, is))

-- the refusal of what may be a value is that memory ran out
pub refused-only : (field : List ℕ) (text : List ℕ) (type : FieldType) (error : ValueError)
    → NoneIs (IsKeyText text)
    → (error ≡ why.OutOfMemory) ⊎ (text_value type text ≡ Err error)
    → (key : CompositeIntermediateKey) → ReadsAs type text key
    → refusal_of field error ≡ refusal.OutOfMemory
refused-only field text type error none (inl is) key reads = ap (refusal_of field) is
refused-only field text type error none (inr is) key reads =
    absurd (refused-none text type error none is key reads)

-- what isn't some is none
pub not-some : (found : Option AfterKey) → is_some found ≡ false → found ≡ None
not-some None is = refl
not-some (Some key) is = absurd (cc is)

-- ---- texts that stand for themselves

-- a text that a value is read from, with no kind in front, is read as the key
pub value-stands : (text : List ℕ) (type : FieldType) (key : CompositeIntermediateKey)
    (result : Result Bool OutOfMemory) → NoneIs (IsKeyText text)
    → IfOk result (λ is. IsTrue is → IsValueKey type text key)
    → IfOk result (λ stands. IsTrue stands → ReadsAs type text key)
value-stands text type key (Ok stands) none is = λ so. inr (none, is so)
value-stands text type key (Err error) none is = tt

-- a text with characters, of which no mark was taken off, is a cell
pub unmarked-cell : (text : List ℕ) (left : Option (Bor (List ℕ))) (none : Bool)
    → MatchOption left (pointwise eqb (take 3 text) mark ≡ false)
    (λ rest. (pointwise eqb (take 3 text) mark ≡ true) × (rest.now ≡ drop 3 text)
    × (length rest.now + 3 ≡ length text))
    → (length text == 0) ≡ false → is_some left ≡ not none → IsTrue none → IsCell text
unmarked-cell text left false is some isnt none = absurd (search rules)
unmarked-cell text (Some rest) true is some isnt none = absurd (cc isnt)
unmarked-cell [] None true is some isnt none = absurd (cc some)
unmarked-cell (b ∷ text) None true is some isnt none =
    ((λ e. cc e), sym (unmarked (b ∷ text) is))
