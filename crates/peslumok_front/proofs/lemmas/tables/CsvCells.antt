-- Lines of CSV, cell by cell.
use Rattle.std.proofs.Common.{◌≡◌, ◌+◌, ◌<◌, ◌≤◌, ◌++◌, ℕ, List, [], ◌∷◌, Bool, true, false, Bor}
use Rattle.std.proofs.Common.{ap, append_assoc, arith, get_or, length, map, refl, sym, take}
use Rattle.std.proofs.Common.{◌∙◌, ne_eqb, suc}
use Rattle.std.proofs.lemmas.List.{append-nil, map-append, take_more}
use Rattle.std.specs.Prelude.{◌==◌, if◌then◌else◌}
use Rattle.std.specs.List.{list_any}
use Rattle.csv.specs.Writing.{default_writer, field_text, fields_text, is_blank, needs_byte, quoted}
use Rattle.csv.proofs.WriteFacts.{fields-snoc}

-- the texts of cells
abbrev pub texts : List (Bor (List ℕ)) → List (List ℕ)
texts cells = map (λ cell. cell.now) cells

-- no cell is appended yet
pub no-cells : (text : List ℕ) → text ≡ text ++ fields_text default_writer []
unfolding fields_text
no-cells text = sym (append-nil text)

-- one more cell, after a comma
pub cell-appended : (start before spaced after : List ℕ) (cells : List (Bor (List ℕ))) (index : ℕ)
    (d : Bor (List ℕ))
    → index < length cells
    → before ≡ start ++ fields_text default_writer (texts (take index cells))
    → spaced ≡ before ++ 44 ∷ []
    → after ≡ spaced ++ field_text default_writer (get_or cells index d).now
    → after ≡ start ++ fields_text default_writer (texts (take (index + 1) cells))
cell-appended start before spaced after cells index d less b s a =
    let more : texts (take (index + 1) cells)
    ≡ texts (take index cells) ++ (get_or cells index d).now ∷ [] =
    ap texts (take_more cells index d less)
    ∙ map-append (λ cell. cell.now) (take index cells) (get_or cells index d ∷ []) in
    rw (
      more,
      fields-snoc default_writer (texts (take index cells)) (get_or cells index d).now,
      a,
      s,
      b,
    ) (simp append_assoc)

-- ---- whether a line is blank

nonzero : (n : ℕ) → (suc n == 0) ≡ false
nonzero n = ne_eqb (suc n) 0 (λ e. cc e)

-- quotes hide no empty cell
empty-shown : (needs : Bool) (b : ℕ) (cell : List ℕ)
    → (length (if needs then quoted default_writer (b ∷ cell) else b ∷ cell) == 0) ≡ false
empty-shown true b cell = nonzero _
empty-shown false b cell = nonzero (length cell)

shown-empty : (cell : List ℕ) → (length (field_text default_writer cell) == 0) ≡ (length cell == 0)
shown-empty [] = refl
shown-empty (b ∷ cell) =
    empty-shown (list_any (needs_byte default_writer) (b ∷ cell)) b cell
    ∙ sym (nonzero (length cell))

-- a line of no cells is blank
pub blank-none : (cells : List (Bor (List ℕ))) → length cells < 1
    → true ≡ is_blank default_writer (texts cells)
unfolding is_blank
blank-none [] l = refl
blank-none (x ∷ cells) l = absurd (omega arith)

-- a line of one cell is where the cell is empty
pub blank-one : (cells : List (Bor (List ℕ))) (d : Bor (List ℕ)) → 1 ≤ length cells
    → length cells < 2
    → (length (get_or cells 0 d).now == 0) ≡ is_blank default_writer (texts cells)
unfolding is_blank
blank-one [] d low high = absurd (omega arith)
blank-one (x ∷ []) d low high = sym (shown-empty x.now)
blank-one (x ∷ y ∷ cells) d low high = absurd (omega arith)

-- a line of more is not
pub blank-many : (cells : List (Bor (List ℕ))) → 2 ≤ length cells
    → false ≡ is_blank default_writer (texts cells)
unfolding is_blank
blank-many [] low = absurd (omega arith)
blank-many (x ∷ []) low = absurd (omega arith)
blank-many (x ∷ y ∷ cells) low = refl
