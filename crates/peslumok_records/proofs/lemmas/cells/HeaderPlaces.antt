-- The place of a name in a header, looked for from the left.
use Rattle.std.proofs.Common.{◌≡◌, ◌≢◌, ◌<◌, ◌+◌, ℕ, zero, suc, Bor, List, [], ◌∷◌, length}
use Rattle.std.proofs.Common.{arith}
use Rattle.std.specs.Prelude.{IfSome, Option, Some, None, is_some, option_map, true}
use mathlib.Core.Bool.{true≢false}
use Rattle.std.proofs.lemmas.Option.{none-some}
use Rattle.csv.specs.Records.{field_at}
use Rattle.agg_values.specs.Nothing.{NoneIs}
use Rattle.peslumok_records.specs.declared.held.asked.AskedField.{AskedField}
use Rattle.peslumok_records.proofs.lemmas.held.HeldDocuments.{zip_more}
use Rattle.peslumok_records.proofs.lemmas.held.SoleDocuments.{some_is}
use Rattle.peslumok_records.specs.cells.Table.{ArePlaces, IsPlaceOf}
use Rattle.std.proofs.Common.{◌++◌, take, get_or, refl, sym, ap, ◌∙◌, subst}
use Rattle.std.proofs.lemmas.List.{take_more}

-- the same for the cells before a place
abbrev pub IsPlaceBefore : List (List ℕ) → List ℕ → ℕ → Option ℕ → Type 0
IsPlaceBefore header name end None = (i : ℕ) → i < end → field_at header i ≢ Some name
IsPlaceBefore header name end (Some place) =
    (place < end) × (field_at header place ≡ Some name)
    × ((i : ℕ) → i < end → field_at header i ≡ Some name → i ≡ place)

-- a cell that is there is within the header
pub field_within : (header : List (List ℕ)) (i : ℕ) (cell : List ℕ)
    → field_at header i ≡ Some cell → i < length header
unfolding field_at
field_within [] i cell is = absurd (none-some cell is)
field_within (x ∷ xs) zero cell is = omega arith
field_within (x ∷ xs) (suc i) cell is = omega (arith, field_within xs i cell is)

pub place_of_all : (header : List (List ℕ)) (name : List ℕ) (place : Option ℕ)
    → IsPlaceBefore header name (length header) place → IsPlaceOf header name place
place_of_all header name None before = λ i is. before i (field_within header i name is) is
place_of_all header name (Some place) before =
    (before.1, λ i is. before.2 i (field_within header i name is) is)

-- a name at one place more
pub no_one_place : (header : List (List ℕ)) (name : List ℕ) (end : ℕ) (found : Option ℕ)
    → IsPlaceBefore header name end found → is_some found ≡ true
    → field_at header end ≡ Some name → NoneIs (IsPlaceOf header name)
no_one_place header name end None before is here place only = absurd (true≢false (sym is))
no_one_place header name end (Some place) before is here None none = none end here
no_one_place header name end (Some place) before is here (Some sole) only =
    absurd (omega (arith, before.0, only.1 place before.1, only.1 end here))

-- the last cell of a row
last_field : (row : List (List ℕ)) (at : ℕ) (cell : List ℕ) → length row ≡ at + 1
    → field_at row at ≡ Some cell → (cells : List (List ℕ)) × (row ≡ cells ++ cell ∷ [])
unfolding field_at
last_field [] at cell long is = absurd (none-some cell is)
last_field (f ∷ []) zero cell long is = ([], ap (λ c. c ∷ []) (some_is f cell is))
last_field (f ∷ g ∷ row) zero cell long is = absurd (omega (arith, long))
last_field (f ∷ row) (suc at) cell long is =
    let (cells, whole) = last_field row at cell (omega (arith, long)) is in
    (f ∷ cells, ap (λ cs. f ∷ cs) whole)

-- the same of the cell that a row gives
pub last_of_row : (row : List (List ℕ)) (at : ℕ) (cell : Option (Bor (List ℕ)))
    → length row ≡ at + 1 → option_map (λ c. c.now) cell ≡ field_at row at
    → IfSome cell (λ c. (cells : List (List ℕ)) × (row ≡ cells ++ c.now ∷ []))
last_of_row row at None long is = tt
last_of_row row at (Some cell) long is = last_field row at cell.now long (sym is)

pub no_cell_left : (row : List (List ℕ)) (at : ℕ) (cell : Option (Bor (List ℕ)))
    → length row ≡ at + 1 → option_map (λ c. c.now) cell ≡ field_at row at → cell ≡ None
    → row ≡ []
unfolding field_at
no_cell_left [] at cell long is none = refl
no_cell_left (f ∷ row) at (Some cell) long is none = absurd (none-some cell (sym none))
no_cell_left (f ∷ row) zero None long is none = absurd (none-some f is)
no_cell_left (f ∷ []) (suc at) None long is none = absurd (omega (arith, long))
no_cell_left (f ∷ g ∷ row) (suc at) None long is none =
    let rest : g ∷ row ≡ [] =
    no_cell_left (g ∷ row) at None (omega (arith, long)) is refl in
    absurd (cc rest)

-- one field more
pub places_more : (header : List (List ℕ)) (asked : List AskedField) (at : ℕ)
    (field : AskedField) (places : List (Option ℕ)) (place : Option ℕ) (new : List (Option ℕ))
    → at < length asked → field ≡ get_or asked at field → new ≡ places ++ place ∷ []
    → ArePlaces header (take at asked) places → IsPlaceOf header field.name place
    → ArePlaces header (take (at + 1) asked) new
places_more header asked at field places place new within is pushed before here =
    subst (λ ps. ArePlaces header (take (at + 1) asked) ps) (sym pushed)
    (subst (λ fields. ArePlaces header fields (places ++ place ∷ []))
    (sym (take_more asked at field within ∙ ap (λ f. take at asked ++ f ∷ []) (sym is)))
    (zip_more (λ (f : AskedField) p. IsPlaceOf header f.name p) (take at asked) places field place
    before here))
