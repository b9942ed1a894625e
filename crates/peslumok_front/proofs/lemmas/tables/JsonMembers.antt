-- Members of a line of JSON.
use Rattle.std.proofs.Common.{◌≡◌, ◌++◌, ◌⊎◌, ℕ, List, [], ◌∷◌, Bool, false, true, ap, inl, inr}
use Rattle.std.proofs.Common.{◌∙◌, append_assoc, map, refl, sym}
use Rattle.std.proofs.lemmas.List.{append-nil}
use Rattle.std.specs.Prelude.{codes, if◌then◌else◌, not}
use Rattle.agg_results.specs.final_results.Appending.{more_items}
use Rattle.agg_results.specs.final_results.ResultsText.{braced}
use Rattle.agg_results.proofs.lemmas.final_results.AppendedItems.{joined}
use Rattle.peslumok_front.specs.tables.Cells.{Shown, shown_by}
use Rattle.peslumok_front.specs.tables.JsonLines.{column_members, total_members}
use Rattle.peslumok_front.specs.declared.tables.columns.TableColumn.{TableColumn}
use Rattle.peslumok_front.specs.declared.tables.row.TableCell.{TableCell}

-- there is no member where there is no column or no cell
no-members : (total : Bool) (columns : List TableColumn) (cells : List TableCell)
    → (columns ≡ []) ⊎ (cells ≡ []) → column_members total columns (map shown_by cells) ≡ []
no-members total [] cells e = refl
no-members total (column ∷ columns) [] e = refl
no-members total (column ∷ columns) (cell ∷ cells) (inl e) = cc
no-members total (column ∷ columns) (cell ∷ cells) (inr e) = cc

-- all members are appended once no column or no cell is left
pub members-done : (before whole : List ℕ) (first total : Bool) (columns : List TableColumn)
    (cells : List TableCell)
    → (columns ≡ []) ⊎ (cells ≡ [])
    → before ++ more_items first (column_members total columns (map shown_by cells)) ≡ whole
    → before ≡ whole
members-done before whole first total columns cells none w =
    sym (append-nil before)
    ∙ ap (λ members. before ++ more_items first members) (sym (no-members total columns cells none))
    ∙ w

line-parts : (start label body : List ℕ)
    → (((start ++ 123 ∷ []) ++ label) ++ body) ++ 125 ∷ 10 ∷ []
    ≡ start ++ 123 ∷ (((label ++ body) ++ 125 ∷ []) ++ 10 ∷ [])
line-parts start label body = simp append_assoc

-- a line is written member by member
pub line-written : (start opened totalled listed closed : List ℕ) (total : Bool)
    (columns : List TableColumn) (cells : List Shown)
    → opened ≡ start ++ 123 ∷ []
    → totalled ≡ opened ++ (if total then codes "\"total\":true" else [])
    → listed ≡ totalled ++ more_items (not total) (column_members total columns cells)
    → closed ≡ listed ++ 125 ∷ 10 ∷ []
    → closed ≡ start
    ++ (braced (total_members total ++ column_members total columns cells) ++ 10 ∷ [])
line-written start opened totalled listed closed true columns cells o t l c =
    rw (joined (total_members true ++ column_members true columns cells), c, l, t, o)
    (line-parts start (codes "\"total\":true") (more_items false (column_members true columns
    cells)))
line-written start opened totalled listed closed false columns cells o t l c =
    rw (joined (column_members false columns cells), c, l, t, o)
    (line-parts start [] (more_items true (column_members false columns cells)))
