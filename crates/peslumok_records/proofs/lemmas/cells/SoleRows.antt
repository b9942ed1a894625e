-- A text of cells has at most one list of documents.
use Rattle.std.proofs.Common.{◌≡◌, ℕ, List, [], ◌∷◌, map, refl, sym, ap, ◌∙◌, subst}
use Rattle.std.proofs.Common.{◌++◌, append-nil, inl, inr}
use Rattle.std.specs.Prelude.{Option, Some, None}
use Rattle.std.proofs.lemmas.Option.{none-some}
use Rattle.csv.specs.Machine.{Read, next_record}
use Rattle.csv.specs.Reading.{AreRecords, Reached, strip_bom}
use Rattle.csv.specs.declared.parser.Config.{Config}
use Rattle.csv.specs.declared.parser.State.{State}
use Rattle.agg_segment.specs.storage.Document.{Fields}
use Rattle.peslumok_records.specs.held.Documents.{AreRead}
use Rattle.peslumok_records.specs.declared.held.asked.AskedField.{AskedField}
use Rattle.peslumok_records.proofs.lemmas.held.SoleDocuments.{read_once, some_is}
use Rattle.peslumok_records.specs.cells.Cells.{row_document}
use Rattle.peslumok_records.specs.cells.Table.{ArePlaces, AreTableDocuments, IsPlaceOf}

-- ---- rows

no_row : (config : Config) (s t : State) (text left : List ℕ) (row : Read) → s ≡ t → text ≡ left
    → next_record config t [] [] left ≡ None → next_record config s [] [] text ≡ Some row → ⊥
no_row config s t text left row at is over next =
    let none : next_record config s [] [] text ≡ None =
    subst (λ (q : State). next_record config q [] [] text ≡ None) (sym at)
    (subst (λ xs. next_record config t [] [] xs ≡ None) (sym is) over) in
    none-some row (sym none ∙ next)

-- rows that were read are the first ones of all
pub rows_first : (config : Config) (s : State) (text : List ℕ) (rows : List (List (List ℕ)))
    (t : State) (left : List ℕ) (all : List (List (List ℕ))) → Reached config s text rows t left
    → AreRecords config s text all
    → (rest : List (List (List ℕ))) × (all ≡ rows ++ rest) × AreRecords config t left rest
unfolding Reached
rows_first config s text [] t left all (at, is) are = (
  all,
  refl,
  subst (λ q. AreRecords config q left all) at
      (subst (λ bytes. AreRecords config s bytes all) is are),
)
rows_first config s text (row ∷ rows) t left [] first (u, more, (at, is), over) =
    absurd (no_row config s u text more first.0 at is over first.1)
rows_first config s text (row ∷ rows) t left (other ∷ others) (p, next, is, reached)
    (u, more, (q, second, has, later), over) =
    let same : p ≡ q = some_is p q (sym next ∙ second) in
    let here : other ≡ row = has ∙ ap (λ (r : Read). r.0) (sym same) ∙ sym is in
    let (rest, there, are) = rows_first config p.1 p.2 rows t left others reached
    (subst (λ (r : Read). AreRecords config r.1 r.2 others) (sym same) (u, more, later, over)) in
    (rest, ap (λ r. r ∷ others) here ∙ ap (λ rs. row ∷ rs) there, are)

rows_once : (config : Config) (s : State) (text : List ℕ) (first second : List (List (List ℕ)))
    → AreRecords config s text first → AreRecords config s text second → first ≡ second
unfolding Reached
rows_once config s text first second (t, left, reached, over) are =
    let (rest, whole, later) = rows_first config s text first t left second reached are in
    sym (whole ∙ ap (λ rs. first ++ rs) (none rest later) ∙ append-nil first)
  where
    none : (rest : List (List (List ℕ))) → AreRecords config t left rest → rest ≡ []
    none [] later = refl
    none (row ∷ rows) (u, more, later, end) = absurd (none-some later.0 (sym over ∙ later.1))

-- ---- places

place_once : (header : List (List ℕ)) (name : List ℕ) (first second : Option ℕ)
    → IsPlaceOf header name first → IsPlaceOf header name second → first ≡ second
place_once header name None None a b = refl
place_once header name None (Some i) a b = absurd (a i b.0)
place_once header name (Some i) None a b = absurd (b i a.0)
place_once header name (Some i) (Some j) a b = ap Some (b.1 i a.0)

pub places_once : (header : List (List ℕ)) (asked : List AskedField)
    (first second : List (Option ℕ)) → ArePlaces header asked first
    → ArePlaces header asked second → first ≡ second
places_once header [] [] [] a b = refl
places_once header [] [] (q ∷ qs) a b = absurd b
places_once header [] (p ∷ ps) second a b = absurd a
places_once header (field ∷ fields) [] second a b = absurd a
places_once header (field ∷ fields) (p ∷ ps) [] a b = absurd b
places_once header (field ∷ fields) (p ∷ ps) (q ∷ qs) a b =
    ap (λ r. r ∷ ps) (place_once header field.name p q a.0 b.0)
    ∙ ap (λ rs. q ∷ rs) (places_once header fields ps qs a.1 b.1)

-- ---- a table

abbrev pub first_row : List (List (List ℕ)) → List (List ℕ)
first_row [] = []
first_row (row ∷ rows) = row

abbrev pub rows_after : List (List (List ℕ)) → List (List (List ℕ))
rows_after [] = []
rows_after (row ∷ rows) = rows

abbrev is_some_row : List (List (List ℕ)) → Option ℕ
is_some_row [] = None
is_some_row (row ∷ rows) = Some 0

pub table_once : (delimiter : ℕ) (text : List ℕ) (asked : List AskedField)
    (first second : List Fields) → AreTableDocuments delimiter text asked first
    → AreTableDocuments delimiter text asked second → first ≡ second
table_once delimiter text asked first second (inl a) (inl b) =
    let rows : a.header ∷ a.rows ≡ b.header ∷ b.rows =
    rows_once _ _ (strip_bom text) (a.header ∷ a.rows) (b.header ∷ b.rows) a.all.records
    b.all.records in
    let headers : a.header ≡ b.header = ap first_row rows in
    let places : a.places ≡ b.places =
    places_once b.header asked a.places b.places
    (subst (λ h. ArePlaces h asked a.places) headers a.placed) b.placed in
    read_once (map (row_document asked b.places) b.rows) first second
    (subst (λ rs. AreRead (map (row_document asked b.places) rs) first) (ap rows_after rows)
    (subst (λ ps. AreRead (map (row_document asked ps) a.rows) first) places a.read)) b.read
table_once delimiter text asked first second (inl a) (inr (none, is)) =
    let rows = rows_once _ _ (strip_bom text) (a.header ∷ a.rows) [] a.all.records none.records in
    absurd (none-some 0 (sym (ap is_some_row rows)))
table_once delimiter text asked first second (inr (none, is)) (inl b) =
    let rows = rows_once _ _ (strip_bom text) (b.header ∷ b.rows) [] b.all.records none.records in
    absurd (none-some 0 (sym (ap is_some_row rows)))
table_once delimiter text asked first second (inr (none, is)) (inr (never, has)) = is ∙ sym has
