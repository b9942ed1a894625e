-- Texts of cells that have no documents, by their rows.
use Rattle.std.proofs.Common.{◌≡◌, ◌<◌, ℕ, zero, suc, true, List, [], ◌∷◌, ◌++◌}
use Rattle.std.proofs.Common.{get_or, length, map, refl, sym, ap, ◌∙◌, subst, append_assoc}
use Rattle.std.proofs.Common.{arith, inl, inr}
use Rattle.std.specs.Prelude.{Option, Some, None, Result, Ok, Err, IfErr, IfSome, IsErrAnd}
use Rattle.std.specs.List.{All}
use Rattle.std.proofs.lemmas.List.Elements.{All-head, All-nil, All-push, All-tail}
use Rattle.std.proofs.lemmas.Option.{none-some}
use mathlib.Core.Bool.{true≢false}
use Rattle.csv.specs.Machine.{Read, next_record}
use Rattle.csv.specs.Reading.{ExplainsRead, NextIs, ReadsNext, source_of}
use Rattle.csv.specs.Reading.{strip_bom}
use Rattle.csv.specs.Records.{AllText}
use Rattle.csv.specs.declared.error.ErrorKind.{ErrorKind}
use Rattle.csv.specs.declared.error.ErrorKind.TheVariants as kind
use Rattle.csv.specs.declared.parser.Config.{Config}
use Rattle.csv.specs.declared.parser.State.{State}
use Rattle.csv.specs.declared.parser.State.TheVariants as st
use Rattle.csv.specs.declared.reader.Reader.{Reader}
use Rattle.csv.proofs.ReadFacts.{reached-more}
use Rattle.agg_values.specs.Nothing.{NoneIs}
use Rattle.peslumok_records.specs.held.Documents.{AreRead, IsRead}
use Rattle.peslumok_records.specs.declared.held.asked.AskedField.{AskedField}
use Rattle.peslumok_records.proofs.lemmas.held.NoDocuments.{none_among}
use Rattle.peslumok_records.proofs.lemmas.held.SoleDocuments.{some_is}
use Rattle.peslumok_records.specs.cells.Cells.{row_document}
use Rattle.peslumok_records.specs.cells.Csv.{AreEven, AreRowsOf, cells_config}
use Rattle.peslumok_records.specs.cells.Rows.{HasRead, refuses_row, width_of}
use Rattle.peslumok_records.specs.cells.Table.{ArePlaces, AreTableDocuments, IsPlaceOf}
use Rattle.peslumok_records.specs.declared.cells.rows.CellRows.{CellRows}
use Rattle.peslumok_records.proofs.lemmas.cells.SoleRows.{first_row, places_once, rows_after}
use Rattle.peslumok_records.proofs.lemmas.cells.SoleRows.{rows_first}

-- an error that is passed on
pub error_passed : {A E : Type 0} (P : E → Type 0) (result : Result A E) (error : E)
    → IsErrAnd result (λ e. e ≡ error) → P error → IfErr result P
error_passed P (Ok x) error passed holds = tt
error_passed P (Err e) error passed holds = subst P (sym passed) holds

-- ---- rows that are as wide as the first one

-- what holds of all, of one among them
among : {A : Type 0} (P : A → Type 0) (xs : List A) (x : A) (rest : List A)
    → All P ((xs ++ x ∷ []) ++ rest) → P x
among P [] x rest all = All-head P x rest all
among P (y ∷ xs) x rest all = among P xs x rest (All-tail P y ((xs ++ x ∷ []) ++ rest) all)

width_among : (rows : List (List (List ℕ))) (row : List (List ℕ)) (rest : List (List (List ℕ)))
    (width : ℕ) → width_of rows ≡ Some width → AreEven ((rows ++ row ∷ []) ++ rest)
    → length row ≡ width
width_among [] row rest width is even = absurd (none-some width is)
width_among (header ∷ rows) row rest width is even =
    among (λ r. length r ≡ length header) rows row rest even ∙ some_is _ _ is

-- one row more
pub even_more : (rows : List (List (List ℕ))) (row : List (List ℕ)) (old new : Option ℕ)
    → old ≡ width_of rows → IfSome old (λ width. new ≡ Some width) → new ≡ Some (length row)
    → AreEven rows → AreEven (rows ++ row ∷ []) × (new ≡ width_of (rows ++ row ∷ []))
even_more [] row old new is kept found even =
    (All-nil (λ r. length r ≡ length row), found)
even_more (header ∷ rows) row old new is kept found even =
    let same : new ≡ Some (length header) =
    subst (λ o. IfSome o (λ width. new ≡ Some width)) is kept in (
      All-push (λ r. length r ≡ length header) rows row even
          (some_is _ _ (sym found ∙ same)),
      same,
    )

-- ---- the last row

abbrev last_of : {A : Type 0} → A → List A → A
last_of x [] = x
last_of x (y ∷ ys) = last_of y ys

last_of-push : {A : Type 0} (d : A) (xs : List A) (x : A) → last_of d (xs ++ x ∷ []) ≡ x
last_of-push d [] x = refl
last_of-push d (y ∷ xs) x = last_of-push y xs x

pub same_last : {A : Type 0} (xs ys : List A) (x y : A) → xs ++ x ∷ [] ≡ ys ++ y ∷ [] → y ≡ x
same_last xs ys x y is =
    sym (last_of-push x ys y) ∙ ap (last_of x) (sym is) ∙ last_of-push x xs x

pub no_last : {A : Type 0} (ys : List A) (y : A) → ◌≡◌ {A = List A} [] (ys ++ y ∷ []) → ⊥
no_last [] y is = cc is
no_last (x ∷ ys) y is = cc is

-- ---- rows that are refused

-- rows that none without fault begin with
pub no_table : (d : ℕ) (text : List ℕ) (asked : List AskedField)
    → ((all : List (List (List ℕ))) → AreRowsOf d text all → ⊥)
    → NoneIs (AreTableDocuments d text asked)
no_table d text asked none documents (inl are) = none (are.header ∷ are.rows) are.all
no_table d text asked none documents (inr (are, is)) = none [] are

taken : (config : Config) (s : State) (text : List ℕ) (left : Option (List ℕ))
    (fields : List (List ℕ)) (t : State) → ReadsNext config s (Some text) left true fields t
    → (p : Read) × (next_record config s [] [] text ≡ Some p) × (fields ≡ p.0)
taken config s text None fields t reads = absurd reads
taken config s text (Some rest) fields t reads =
    by (next_record config s [] [] text) refl reads
  where
    by : (o : Option Read) → next_record config s [] [] text ≡ o → NextIs o true fields t rest
        → (p : Read) × (next_record config s [] [] text ≡ Some p) × (fields ≡ p.0)
    by None is next = absurd (true≢false next)
    by (Some p) is next = (p, is, next.1)

module _ (d : ℕ) (text : List ℕ) (rows : List (List (List ℕ))) (at : CellRows)
    (has : HasRead d text rows at) where
  -- the rows of a text in which the next one is this
  next_among : (fields : List (List ℕ)) (left : Option (List ℕ)) (t : State)
      → ReadsNext at.reader.config at.reader.state (source_of (λ s. Some s.now) at.reader) left
      true fields t → (all : List (List (List ℕ))) → AreRowsOf d text all
      → (rest : List (List (List ℕ))) × (all ≡ (rows ++ fields ∷ []) ++ rest)
  next_among fields left t reads all are =
      let (p, next, is) = taken (cells_config d) at.reader.state has.left left fields t
      (subst (λ config. ReadsNext config at.reader.state (Some has.left) left true fields t)
      has.config (subst (λ source. ReadsNext at.reader.config at.reader.state source left true
      fields t) has.source reads)) in
      let reached = reached-more (cells_config d) st.StartRecord at.reader.state (strip_bom text)
      has.left rows p has.reached next in
      let (rest, whole, later) = rows_first (cells_config d) st.StartRecord (strip_bom text)
      (rows ++ p.0 ∷ []) p.1 p.2 all reached are.records in
      (rest, whole ∙ ap (λ f. (rows ++ f ∷ []) ++ rest) (sym is))

  pub none_refused : (new : Reader _) (why : ErrorKind) → refuses_row why ≡ true
      → ExplainsRead (λ s. Some s.now) at.reader new true why → (asked : List AskedField)
      → NoneIs (AreTableDocuments d text asked)
  none_refused new (kind.UnequalLengths place expected found) refuses
      (rigid, width, differs, fields, took, long) asked = no_table d text asked (λ all are.
      let (rest, whole) = next_among fields _ _ took all are in
      differs (sym (width_among rows fields rest expected (sym has.width ∙ width)
      (subst AreEven whole are.even)) ∙ long))
  none_refused new (kind.Utf8 place err) refuses (is, fields, took, no_text) asked =
      no_table d text asked (λ all are.
      let (rest, whole) = next_among fields _ _ took all are in
      no_text (among AllText rows fields rest (subst (All AllText) whole are.texts)))
  none_refused new (kind.Io why) refuses explains asked = absurd (true≢false (sym refuses))
  none_refused new kind.OutOfMemory refuses explains asked = absurd (true≢false (sym refuses))
  none_refused new (kind.Serialize why) refuses explains asked =
      absurd (true≢false (sym refuses))
  none_refused new (kind.Deserialize place why) refuses explains asked =
      absurd (true≢false (sym refuses))

-- ---- places

pub no_places : (header : List (List ℕ)) (asked : List AskedField) (at : ℕ) (field : AskedField)
    → at < length asked → field ≡ get_or asked at field
    → NoneIs (IsPlaceOf header field.name) → NoneIs (ArePlaces header asked)
no_places header [] at field within is none places are = omega (arith, within)
no_places header (first ∷ asked) at field within is none [] are = are
no_places header (first ∷ asked) zero field within is none (place ∷ places) are =
    none place (subst (λ (f : AskedField). IsPlaceOf header f.name place) (sym is) are.0)
no_places header (first ∷ asked) (suc at) field within is none (place ∷ places) are =
    no_places header asked at field (omega (arith, within)) is none places are.1

-- ---- rows under a header

module _ (d : ℕ) (text : List ℕ) (header : List (List ℕ)) (rows : List (List (List ℕ)))
    (at : CellRows) (has : HasRead d text (header ∷ rows) at) where
  all_under : (all : List (List (List ℕ))) → AreRowsOf d text all
      → (rest : List (List (List ℕ))) × (all ≡ header ∷ (rows ++ rest))
  all_under all are =
      let (rest, whole, later) = rows_first (cells_config d) st.StartRecord (strip_bom text)
      (header ∷ rows) at.reader.state has.left all has.reached are.records in (rest, whole)

  pub none_placed : (asked : List AskedField) → NoneIs (ArePlaces header asked)
      → NoneIs (AreTableDocuments d text asked)
  none_placed asked none documents (inl are) =
      let (rest, whole) = all_under (are.header ∷ are.rows) are.all in
      none are.places (subst (λ h. ArePlaces h asked are.places) (ap first_row whole) are.placed)
  none_placed asked none documents (inr (are, is)) =
      let (rest, whole) = all_under [] are in
      absurd (cc whole)

-- no documents are those of a text whose header has been read, with these places
abbrev pub NoneUnder : List AskedField → List (Option ℕ) → CellRows → Type 0
NoneUnder asked places at =
    (delimiter : ℕ) (text : List ℕ) (header : List (List ℕ)) (before : List (List (List ℕ)))
    → HasRead delimiter text (header ∷ before) at → ArePlaces header asked places
    → NoneIs (AreTableDocuments delimiter text asked)

-- a row has no document
pub none_with_row : (d : ℕ) (text : List ℕ) (header : List (List ℕ))
    (rows : List (List (List ℕ))) (row : List (List ℕ)) (at : CellRows)
    → HasRead d text (header ∷ (rows ++ row ∷ [])) at
    → (asked : List AskedField) (places : List (Option ℕ)) → ArePlaces header asked places
    → NoneIs (IsRead (row_document asked places row)) → NoneIs (AreTableDocuments d text asked)
none_with_row d text header rows row at has asked places placed none documents (inl are) =
    let (rest, whole) = all_under d text header (rows ++ row ∷ []) at has
    (are.header ∷ are.rows) are.all in
    let same : are.places ≡ places =
    places_once header asked are.places places
    (subst (λ h. ArePlaces h asked are.places) (ap first_row whole) are.placed) placed in
    none_among (row_document asked places) rows row rest none documents
    (subst (λ rs. AreRead (map (row_document asked places) rs) documents)
    (ap rows_after whole ∙ append_assoc rows (row ∷ []) rest)
    (subst (λ ps. AreRead (map (row_document asked ps) are.rows) documents) same are.read))
none_with_row d text header rows row at has asked places placed none documents (inr (are, is)) =
    let (rest, whole) = all_under d text header (rows ++ row ∷ []) at has [] are in
    absurd (cc whole)
