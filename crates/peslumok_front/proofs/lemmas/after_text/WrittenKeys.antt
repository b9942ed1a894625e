-- The text of an after key.
use Rattle.std.proofs.Common.{◌≡◌, ◌<◌, ◌++◌, ℕ, suc, List, [], ◌∷◌, None, Some}
use Rattle.std.proofs.Common.{append_assoc, ap, get_or, inl, inr, length, refl, subst}
use Rattle.std.proofs.Common.{add-one, drop, IfOk, OnOk, Ok, Err, Result, sym, ◌+◌}
use Rattle.std.proofs.Common.{◌≤◌, ◌∙◌}
use Rattle.std.specs.Prelude.{slice_get}
use Rattle.std.proofs.Math.Seq.{drop-cons}
use Rattle.csv.specs.Reading.{strip_bom}
use Rattle.csv.specs.Writing.{default_writer, row_body}
use Rattle.agg_values.specs.KeyText.{key_text}
use Rattle.agg_values.specs.Names.{Named, value_of}
use Rattle.agg_values.specs.TypedKey.{CompositeIntermediateKey}
use Rattle.agg_values.specs.TypedKey.key.{Bool as Truth, Str, I64, U64, DateTime, IpAddr, Null}
use Rattle.agg_values.specs.declared.after_key.AfterKey.{AfterKey}
use Rattle.agg_values.specs.declared.error.OutOfMemory.{OutOfMemory}
use Rattle.peslumok_texts.specs.fields.Types.{type_of}
use Rattle.peslumok_texts.specs.declared.fields.field_type.FieldType.{FieldType}
use Rattle.peslumok_texts.specs.words.By.{parts}
use Rattle.peslumok_texts.specs.declared.words.by.BySpec.{BySpec}
use Rattle.peslumok_front.specs.grouping.Sources.{column_name}
use Rattle.peslumok_front.specs.declared.grouping.grouping.Grouping.{Grouping}
use Rattle.peslumok_front.specs.after_text.After.{HaveOwnColumns, IsAfterText, NamesFirst, ReadsAs}
use Rattle.peslumok_front.specs.after_text.After.{keys_by_name}
use Rattle.peslumok_front.specs.after_text.AfterCells.{AreTextsOf, IsCell}
use Rattle.peslumok_front.proofs.lemmas.after_text.CsvLine.{line-reads}
use Rattle.peslumok_front.proofs.lemmas.after_text.NamedKeys.{drop-all, drop-get, drop-none}
use Rattle.peslumok_front.proofs.lemmas.after_text.NamedKeys.{key-there, texts-cells, texts-end}
use Rattle.peslumok_front.proofs.lemmas.after_text.NamedKeys.{texts-read}

-- a text with its kind in front is a cell
pub kind-first : (key : CompositeIntermediateKey) → IsCell (key_text key)
unfolding strip_bom
kind-first (Truth b) = ((λ e. cc e), refl)
kind-first (Str text) = ((λ e. cc e), refl)
kind-first (I64 n) = ((λ e. cc e), refl)
kind-first (U64 n) = ((λ e. cc e), refl)
kind-first (DateTime ns) = ((λ e. cc e), refl)
kind-first (IpAddr address) = ((λ e. cc e), refl)
kind-first Null = ((λ e. cc e), refl)

-- the line of the texts of keys is read back
pub line-back : (grouping : Grouping) (after : Named AfterKey) (texts : List (List ℕ))
    → ((keys : List AfterKey) → HaveOwnColumns grouping.by.items
    → after ≡ keys_by_name grouping.by.items keys
    → AreTextsOf grouping.types grouping.by.items keys texts)
    → HaveOwnColumns grouping.by.items → NamesFirst grouping.by.items after
    → IsAfterText grouping (row_body default_writer texts) after
line-back grouping after texts are apart (keys, named) =
    let these = are keys apart named in
    let read = texts-read grouping.types grouping.by.items keys texts these in (
      texts,
      line-reads texts (texts-cells grouping.types grouping.by.items keys texts these),
      (read.0, read.1, named ∙ read.2),
    )

module _ (types : Named FieldType) (sources : List BySpec) (after : Named AfterKey) where
  -- texts so far begin those of the keys
  abbrev pub BeginTexts : ℕ → List (List ℕ) → Type 0
  BeginTexts i texts =
      (keys : List AfterKey) → HaveOwnColumns sources → after ≡ keys_by_name sources keys
      → (more : List (List ℕ)) → AreTextsOf types (drop i sources) (drop i keys) more
      → AreTextsOf types sources keys (texts ++ more)

  -- the key of a source that is looked up
  looked-up : (keys : List AfterKey) (i : ℕ) (d : BySpec) (name : List ℕ)
      → HaveOwnColumns sources → after ≡ keys_by_name sources keys → i < length sources
      → name ≡ column_name (parts (get_or sources i d))
      → value_of name after ≡ slice_get keys i
  looked-up keys i d name apart named within is =
      ap (λ n. value_of n after) is
      ∙ ap (value_of (column_name (parts (get_or sources i d)))) named
      ∙ key-there sources keys i d apart within

  -- one text more
  begin-next : (i : ℕ) (d : BySpec) (name text : List ℕ) (texts new : List (List ℕ))
      (key : AfterKey) → i < length sources
      → name ≡ column_name (parts (get_or sources i d)) → value_of name after ≡ Some key
      → IsCell text → ReadsAs (type_of types (get_or sources i d).field.now) text key.0
      → new ≡ texts ++ text ∷ [] → BeginTexts i texts → BeginTexts (suc i) new
  begin-next i d name text texts new key within is found cell reads added so_far keys apart named
      more are =
      let at : slice_get keys i ≡ Some key =
      sym (looked-up keys i d name apart named within is) ∙ found in
      let first : AreTextsOf types (get_or sources i d ∷ drop (suc i) sources)
      (key ∷ drop (suc i) keys) (text ∷ more) = (cell, reads, are) in
      let here : AreTextsOf types (drop i sources) (drop i keys) (text ∷ more) =
      subst (λ bs. AreTextsOf types bs (drop i keys) (text ∷ more))
      (sym (drop-cons sources i d within))
      (subst (λ ks. AreTextsOf types (get_or sources i d ∷ drop (suc i) sources) ks (text ∷ more))
      (sym (drop-get keys i key at)) first) in
      subst (λ ts. AreTextsOf types sources keys ts)
      (sym (append_assoc texts (text ∷ []) more) ∙ ap (λ ts. ts ++ more) (sym added))
      (so_far keys apart named (text ∷ more) here)

  pub begin-more : (i : ℕ) (d : BySpec) (name text : List ℕ) (texts new : List (List ℕ))
      (key : AfterKey) → i < length sources
      → name ≡ column_name (parts (get_or sources i d)) → value_of name after ≡ Some key
      → IsCell text → ReadsAs (type_of types (get_or sources i d).field.now) text key.0
      → new ≡ texts ++ text ∷ [] → BeginTexts i texts → BeginTexts (i + 1) new
  begin-more i d name text texts new key within is found cell reads added so_far =
      subst (λ n. BeginTexts n new) (sym (add-one i))
      (begin-next i d name text texts new key within is found cell reads added so_far)

  -- a source that isn't named ends them
  pub begin-none : (i : ℕ) (d : BySpec) (name : List ℕ) (texts : List (List ℕ))
      → i < length sources → name ≡ column_name (parts (get_or sources i d))
      → value_of name after ≡ None → BeginTexts i texts
      → (keys : List AfterKey) → HaveOwnColumns sources → after ≡ keys_by_name sources keys
      → AreTextsOf types sources keys texts
  begin-none i d name texts within is none so_far keys apart named =
      texts-end types sources (drop i sources) keys (drop i keys) texts
      (so_far keys apart named)
      (inl (drop-none keys i (sym (looked-up keys i d name apart named within is) ∙ none)))

  -- all sources are named
  pub begin-all : (i : ℕ) (texts : List (List ℕ)) → length sources ≤ i → BeginTexts i texts
      → (keys : List AfterKey) → HaveOwnColumns sources → after ≡ keys_by_name sources keys
      → AreTextsOf types sources keys texts
  begin-all i texts over so_far keys apart named =
      texts-end types sources (drop i sources) keys (drop i keys) texts
      (so_far keys apart named) (inr (drop-all sources i over))

-- ---- results

-- a written key is a cell
pub written-cell : (key : CompositeIntermediateKey) (result : Result (List ℕ) OutOfMemory)
    → IfOk result (λ text. text ≡ key_text key) → IfOk result IsCell
written-cell key (Ok text) is = subst IsCell (sym is) (kind-first key)
written-cell key (Err error) is = tt

-- what is appended is read back, if so
pub written-back : (result : Result (Unit {0}) OutOfMemory) (new old text : List ℕ)
    (IsBack : List ℕ → Type 0) → OnOk result (new ≡ old ++ text) → IsBack text
    → OnOk result ((t : List ℕ) × (new ≡ old ++ t) × IsBack t)
written-back (Ok value) new old text IsBack added back = (text, added, back)
written-back (Err error) new old text IsBack added back = tt

-- ---- the same sources, told of otherwise

-- a name of one of them
pub named-same : (sources others : List BySpec) (i : ℕ) (d : BySpec) (name : List ℕ)
    → sources ≡ others → name ≡ column_name (parts (get_or sources i d))
    → name ≡ column_name (parts (get_or others i d))
named-same sources others i d name same is =
    subst (λ bs. name ≡ column_name (parts (get_or bs i d))) same is

-- a text of one of them
pub reads-same : (types : Named FieldType) (sources others : List BySpec) (i : ℕ) (d : BySpec)
    (type : FieldType) (field text : List ℕ) (key : CompositeIntermediateKey)
    → sources ≡ others → type ≡ type_of types field → field ≡ (get_or sources i d).field.now
    → ReadsAs type text key → ReadsAs (type_of types (get_or others i d).field.now) text key
reads-same types sources others i d type field text key same typed named reads =
    subst (λ bs. ReadsAs (type_of types (get_or bs i d).field.now) text key) same
    (subst (λ t. ReadsAs t text key) (typed ∙ ap (type_of types) named) reads)
