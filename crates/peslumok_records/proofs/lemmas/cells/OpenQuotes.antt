-- A quote that is open where a text ends is in the last cell, which tells that it may be open.
use Rattle.std.proofs.Common.{◌≡◌, ℕ, Bool, true, false, List, [], ◌∷◌, ◌++◌, refl, sym, ap, ◌∙◌}
use Rattle.std.proofs.Common.{append-nil, append_assoc}
use Rattle.std.proofs.Common.{inl, inr, subst}
use Rattle.std.specs.Prelude.{◌==◌, ◌||◌, ◌⊎◌, ⊤, Option, Some, None, if◌then◌else◌}
use Rattle.std.proofs.lemmas.Bool.{eqb-true, or_right}
use Rattle.std.proofs.lemmas.List.Folds.{list_any-append}
use Rattle.std.proofs.lemmas.Option.{none-some}
use Rattle.csv.specs.Machine.{Read, ends_at_end, field_after, fields_after, in_field, is_end}
use Rattle.csv.specs.Machine.{next_record, start_field, start_record, step}
use Rattle.csv.specs.Reading.{AreRecords, Reached}
use Rattle.csv.specs.declared.parser.Action.{Action}
use Rattle.csv.specs.declared.parser.Action.TheVariants as act
use Rattle.csv.specs.declared.parser.Config.{Config}
use Rattle.csv.specs.declared.parser.State.{State}
use Rattle.csv.specs.declared.parser.State.TheVariants as st
use Rattle.peslumok_records.proofs.lemmas.held.SoleDocuments.{some_is}
use Rattle.peslumok_records.specs.cells.Csv.{cells_config, state_after}
use Rattle.peslumok_records.specs.cells.Quotes.{MayBeOpenAfter, MayBeOpenIn}

-- what a state tells of the field at hand and the bytes so far
abbrev Tells : State → List ℕ → List ℕ → Type 0
Tells st.StartRecord field done = field ≡ []
Tells st.StartField field done = field ≡ []
Tells st.AfterCr field done = field ≡ []
Tells st.InField field done = ⊤
Tells st.InQuoted field done = MayBeOpenIn done field
Tells st.AfterQuote field done = ⊤
Tells st.InEscape field done = ⊥
Tells st.InComment field done = ⊥

-- ---- one byte more

module _ (d c : ℕ) (field done : List ℕ) where
  -- what it tells after a state and an action
  abbrev TellsNext : State × Action → Type 0
  TellsNext next = Tells next.0 (field_after next.1 c field) (done ++ c ∷ [])

  unquoted : (a b e : Bool)
      → TellsNext (if a then (st.StartField, act.EndField)
      else if b then (if e then st.AfterCr else st.StartRecord, act.EndRecord)
      else (st.InField, act.Copy))
  unquoted true b e = refl
  unquoted false true true = refl
  unquoted false true false = refl
  unquoted false false e = tt

  skipped : (a : Bool) (other : State × Action) → field ≡ [] → TellsNext other
      → TellsNext (if a then (st.StartRecord, act.Skip) else other)
  skipped true other none tells = none
  skipped false other none tells = tells

  bare : TellsNext (in_field (cells_config d) c)
  bare = unquoted (c == d) ((c == 13) || (c == 10)) (c == 13)

  opened : (a : Bool) → (c == 34) ≡ a → field ≡ []
      → TellsNext (if a then (st.InQuoted, act.Skip) else in_field (cells_config d) c)
  opened true is none =
      inr (
        done,
        ap (λ b. done ++ b ∷ []) (eqb-true c 34 is)
            ∙ ap (λ f. done ++ 34 ∷ f) (sym none),
      )
  opened false is none = bare

  begun : field ≡ [] → TellsNext (start_record (cells_config d) c)
  begun none =
      skipped ((c == 13) || (c == 10)) (start_field (cells_config d) c) none
      (opened (c == 34) refl none)

  longer : MayBeOpenIn done field → MayBeOpenIn (done ++ c ∷ []) (field ++ c ∷ [])
  longer (inl has) =
      inl (list_any-append (λ b. b == 34) field (c ∷ [])
      ∙ ap (λ b. b || ((c == 34) || false)) has)
  longer (inr (front, is)) =
      inr (front, ap (λ bytes. bytes ++ c ∷ []) is ∙ append_assoc front (34 ∷ field) (c ∷ []))

  quoted : (a : Bool) → MayBeOpenIn done field
      → TellsNext (if a then (st.AfterQuote, act.Skip) else (st.InQuoted, act.Copy))
  quoted true may = tt
  quoted false may = longer may

  doubled : (a : Bool) → (c == 34) ≡ a
      → TellsNext (if a then (st.InQuoted, act.Copy) else in_field (cells_config d) c)
  doubled true is =
      inl (list_any-append (λ b. b == 34) field (c ∷ [])
      ∙ or_right _ ((c == 34) || false) (ap (λ b. b || false) is))
  doubled false is = bare

  tells_next : (s : State) → Tells s field done → TellsNext (step (cells_config d) s c)
  tells_next st.StartRecord tells = begun tells
  tells_next st.StartField tells = opened (c == 34) refl tells
  tells_next st.AfterCr tells =
      skipped (c == 10) (start_record (cells_config d) c) tells (begun tells)
  tells_next st.InField tells = bare
  tells_next st.InQuoted tells = quoted (c == 34) tells
  tells_next st.AfterQuote tells = doubled (c == 34) refl
  tells_next st.InEscape tells = absurd tells
  tells_next st.InComment tells = absurd tells

-- ---- a record

no_field : (a : Action) (c : ℕ) (field : List ℕ) → is_end a ≡ true → field_after a c field ≡ []
no_field act.EndRecord c field is = refl
no_field act.EndField c field is = absurd (cc is)
no_field act.Skip c field is = absurd (cc is)
no_field act.Copy c field is = absurd (cc is)

-- the record that the end of a text makes
abbrev at_end : List (List ℕ) → List ℕ → State → Option Read
at_end fields field s =
    if ends_at_end s then Some (fields ++ (field ∷ []), st.StartRecord, []) else None

module _ (d : ℕ) (s : State) (fields : List (List ℕ)) (field : List ℕ) (c : ℕ)
    (rest : List ℕ) where
  -- what a byte does
  abbrev does : State × Action
  does = step (cells_config d) s c

  -- the record that ends with it
  abbrev ended : Read
  ended = (fields_after does.1 fields field, does.0, rest)

  -- the record that ends later
  abbrev ends_later : Option Read
  ends_later =
      next_record (cells_config d) does.0 (fields_after does.1 fields field)
      (field_after does.1 c field) rest

  -- the record, where the byte ends it and where not
  abbrev ends_by : Bool → Option Read
  ends_by b = if b then Some ended else ends_later

-- a record ends with the text, and a quote may be open in its last cell
abbrev EndsOpen : List ℕ → Read → Type 0
EndsOpen text p = (p.1 ≡ st.StartRecord) × (p.2 ≡ []) × MayBeOpenAfter text p.0

-- a record ends before bytes after which a quote is open
abbrev GoesOn : ℕ → List ℕ → List ℕ → Read → Type 0
GoesOn d done text p =
    (used : List ℕ) × (text ≡ used ++ p.2) × Tells p.1 [] (done ++ used)
    × (state_after (cells_config d) p.1 p.2 ≡ st.InQuoted)

open_record : (d : ℕ) (text : List ℕ) (s : State) (fields : List (List ℕ)) (field done : List ℕ)
    (p : Read) → Tells s field done → next_record (cells_config d) s fields field text ≡ Some p
    → state_after (cells_config d) s text ≡ st.InQuoted
    → EndsOpen (done ++ text) p ⊎ GoesOn d done text p
unfolding next_record
open_record d [] s fields field done p tells next unclosed =
    let made : at_end fields field st.InQuoted ≡ Some p =
    subst (λ q. at_end fields field q ≡ Some p) unclosed next in
    let same = some_is _ p made in
    inl (
      sym (ap (λ (r : Read). r.1) same),
      sym (ap (λ (r : Read). r.2) same),
      (
        fields,
        field,
        sym (ap (λ (r : Read). r.0) same),
        subst (λ bytes. MayBeOpenIn bytes field) (sym (append-nil done))
            (subst (λ q. Tells q field done) unclosed tells),
      ),
    )
open_record d (c ∷ rest) s fields field done p tells next unclosed =
    by (is_end (step (cells_config d) s c).1) refl next
    (open_record d rest (step (cells_config d) s c).0
    (fields_after (step (cells_config d) s c).1 fields field)
    (field_after (step (cells_config d) s c).1 c field) (done ++ c ∷ []) p
    (tells_next d c field done s tells))
  where
    by : (b : Bool) → is_end (does d s fields field c rest).1 ≡ b
        → ends_by d s fields field c rest b ≡ Some p
        → (ends_later d s fields field c rest ≡ Some p
        → state_after (cells_config d) (does d s fields field c rest).0 rest ≡ st.InQuoted
        → EndsOpen ((done ++ c ∷ []) ++ rest) p ⊎ GoesOn d (done ++ c ∷ []) rest p)
        → EndsOpen (done ++ c ∷ rest) p ⊎ GoesOn d done (c ∷ rest) p
    by true over is later =
        let q = step (cells_config d) s c in
        let same = some_is (ended d s fields field c rest) p is in
        let state : q.0 ≡ p.1 = ap (λ (r : Read). r.1) same in
        let left : rest ≡ p.2 = ap (λ (r : Read). r.2) same in
        inr (
          c ∷ [],
          ap (λ bytes. c ∷ bytes) left,
          subst (λ t. Tells t [] (done ++ c ∷ [])) state
              (subst (λ f. Tells q.0 f (done ++ c ∷ [])) (no_field q.1 c field over)
              (tells_next d c field done s tells)),
          subst (λ t. state_after (cells_config d) t p.2 ≡ st.InQuoted) state
              (subst (λ bytes. state_after (cells_config d) q.0 bytes ≡ st.InQuoted) left
              unclosed),
        )
    by false over is later = elim (later is unclosed) [
      | inl (state, left, may) ↦ inl (
        state,
        left,
        subst (λ bytes. MayBeOpenAfter bytes p.0) (append_assoc done (c ∷ []) rest) may,
      )
      | inr (used, split, goes, still) ↦ inr (
        c ∷ used,
        ap (λ bytes. c ∷ bytes) split,
        subst (λ bytes. Tells p.1 [] bytes) (append_assoc done (c ∷ []) used) goes,
        still,
      )
    ]

-- where no record is left, no quote is open
closed_end : (d : ℕ) (text : List ℕ) (s : State) (fields : List (List ℕ)) (field : List ℕ)
    → next_record (cells_config d) s fields field text ≡ None
    → state_after (cells_config d) s text ≡ st.InQuoted → ⊥
unfolding next_record
closed_end d [] s fields field none unclosed =
    none-some _ (sym (subst (λ q. at_end fields field q ≡ None) unclosed none))
closed_end d (c ∷ rest) s fields field none unclosed =
    by (is_end (step (cells_config d) s c).1) none
    (λ later. closed_end d rest (step (cells_config d) s c).0
    (fields_after (step (cells_config d) s c).1 fields field)
    (field_after (step (cells_config d) s c).1 c field) later unclosed)
  where
    by : (b : Bool) → ends_by d s fields field c rest b ≡ None
        → (ends_later d s fields field c rest ≡ None → ⊥) → ⊥
    by true is later = none-some _ (sym is)
    by false is later = later is

-- ---- all records

no_more : (config : Config) (rows : List (List (List ℕ))) (t : State) (left : List ℕ)
    → Reached config st.StartRecord [] rows t left → rows ≡ []
unfolding Reached next_record
no_more config [] t left reached = refl
no_more config (row ∷ rows) t left (p, next, is, rest) = absurd (none-some p next)

-- a row stands last, and a quote may be open after it
abbrev LastIsOpen : List ℕ → List (List (List ℕ)) → Type 0
LastIsOpen text rows =
    (before : List (List (List ℕ))) × (row : List (List ℕ)) × (rows ≡ before ++ row ∷ [])
    × MayBeOpenAfter text row

last_row : (d : ℕ) (rows : List (List (List ℕ))) (s : State) (text done : List ℕ)
    → Tells s [] done → AreRecords (cells_config d) s text rows
    → state_after (cells_config d) s text ≡ st.InQuoted → LastIsOpen (done ++ text) rows
unfolding Reached
last_row d [] s text done tells (t, left, (at, is), over) unclosed =
    absurd (closed_end d text s [] [] (subst (λ q. next_record (cells_config d) q [] [] text
    ≡ None) (sym at) (subst (λ bytes. next_record (cells_config d) t [] [] bytes ≡ None) (sym is)
    over)) unclosed)
last_row d (row ∷ rows) s text done tells (t, left, (p, next, is, rest), over) unclosed =
    elim (open_record d text s [] [] done p tells next unclosed) [
      | inl (state, none, may) ↦
          let last : rows ≡ [] = no_more (cells_config d) rows t left
          (subst (λ q. Reached (cells_config d) q [] rows t left) state
          (subst (λ bytes. Reached (cells_config d) p.1 bytes rows t left) none rest)) in (
            [],
            row,
            ap (λ rs. row ∷ rs) last,
            subst (λ r. MayBeOpenAfter (done ++ text) r) (sym is) may,
          )
      | inr (used, split, goes, still) ↦
          let (before, other, whole, may) = last_row d rows p.1 p.2 (done ++ used) goes
          (t, left, rest, over) still in (
            row ∷ before,
            other,
            ap (λ rs. row ∷ rs) whole,
            subst (λ bytes. MayBeOpenAfter bytes other)
                (append_assoc done used p.2 ∙ ap (λ bytes. done ++ bytes) (sym split)) may,
          )
    ]

pub open_after : (d : ℕ) (text : List ℕ) (rows : List (List (List ℕ)))
    → AreRecords (cells_config d) st.StartRecord text rows
    → state_after (cells_config d) st.StartRecord text ≡ st.InQuoted → LastIsOpen text rows
open_after d text rows are unclosed = last_row d rows st.StartRecord text [] refl are unclosed
