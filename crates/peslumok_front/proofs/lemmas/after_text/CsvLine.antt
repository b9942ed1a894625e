-- A line of cells that ends with its text reads as these cells.
use Rattle.std.proofs.Common.{◌≡◌, ◌≢◌, ◌⊎◌, ◌==◌, ◌++◌, ◌∷◌, ◌∙◌, [], ℕ, List, Bool, Some}
use Rattle.std.proofs.Common.{None, refl, ap, subst, true, false, append_assoc, inl, inr}
use Rattle.std.proofs.Common.{length, arith}
use Rattle.std.specs.Prelude.{◌||◌, ◌&&◌, if◌then◌else◌, ⊤}
use Rattle.std.specs.List.{list_any}
use Rattle.std.proofs.lemmas.List.{append-nil}
use Rattle.std.proofs.lemmas.Bool.{cases_Bool}
use Rattle.csv.specs.Machine.{next_record}
use Rattle.csv.specs.Reading.{default_config, is_bom, strip_bom}
use Rattle.csv.specs.Writing.{default_writer, field_text, fields_text, needs_byte}
use Rattle.csv.specs.Writing.{row_body}
use Rattle.csv.specs.declared.parser.State.TheVariants as st
use Rattle.csv.proofs.RoundTrip.{field-run, plain-run, quoted-run}
use Rattle.csv.proofs.RoundTrip.{record-same, start-same}
use Rattle.peslumok_front.specs.after_text.After.{values_in}
use Rattle.peslumok_front.specs.after_text.AfterCells.{IsCell}

-- each text is a cell
abbrev pub AreCells : List (List ℕ) → Type 0
AreCells [] = ⊤
AreCells (text ∷ texts) = IsCell text × AreCells texts

or-left : (a b : Bool) → (a || b) ≡ false → a ≡ false
or-left false b e = refl
or-left true b e = cc e

or-right : (a b : Bool) → (a || b) ≡ false → b ≡ false
or-right false b e = e
or-right true b e = cc e

not-true : (x : Bool) → (x ≡ true → ⊥) → x ≡ false
not-true true n = absurd (n refl)
not-true false n = refl

-- a byte that calls for no quotes is no mark of the format
plain-byte : (b : ℕ) → needs_byte default_writer b ≡ false
    → ((b == 34) ≡ false) × ((b == 13) ≡ false) × ((b == 10) ≡ false)
plain-byte b e =
    let a = not-true (b == 44) (λ t. cc (rw t at e)) in
    let q = not-true (b == 34) (λ t. cc (rw (a, t) at e)) in
    let r = not-true (b == 13) (λ t. cc (rw (a, q, t) at e)) in
    let n = not-true (b == 10) (λ t. cc (rw (a, q, r, t) at e)) in
    (q, r, n)

-- the end of the text ends a cell and the line
field-end : (fields : List (List ℕ)) (x : List ℕ)
    → next_record default_config st.InField fields x []
    ≡ Some (fields ++ (x ∷ []), st.StartRecord, [])
unfolding next_record
field-end fields x = refl

quote-end : (fields : List (List ℕ)) (x : List ℕ)
    → next_record default_config st.AfterQuote fields x []
    ≡ Some (fields ++ (x ∷ []), st.StartRecord, [])
unfolding next_record
quote-end fields x = refl

start-end : (fields : List (List ℕ))
    → next_record default_config st.StartField fields [] []
    ≡ Some (fields ++ ([] ∷ []), st.StartRecord, [])
unfolding next_record
start-end fields = refl

-- a cell with no mark in it, at the end
plain-last : (fields : List (List ℕ)) (x : List ℕ) → list_any (needs_byte default_writer) x ≡ false
    → next_record default_config st.StartField fields [] x
    ≡ Some (fields ++ (x ∷ []), st.StartRecord, [])
plain-last fields [] plain = start-end fields
plain-last fields (b ∷ rest) plain =
    let q = plain-byte b (or-left _ _ plain) in
    let run = plain-run fields [] (b ∷ rest) [] plain in
    start-same fields [] b rest q.0
    ∙ subst (λ t. next_record default_config st.InField fields [] t
    ≡ next_record default_config st.InField fields (b ∷ rest) []) (append-nil (b ∷ rest)) run
    ∙ field-end fields (b ∷ rest)

-- the first quote of a cell
open-quote : (fields : List (List ℕ)) (tail : List ℕ)
    → next_record default_config st.StartField fields [] (34 ∷ tail)
    ≡ next_record default_config st.InQuoted fields [] tail
unfolding next_record
open-quote fields tail = refl

-- the last cell
cell-last : (fields : List (List ℕ)) (x : List ℕ)
    → next_record default_config st.StartField fields [] (field_text default_writer x)
    ≡ Some (fields ++ (x ∷ []), st.StartRecord, [])
cell-last fields x = elim (cases_Bool (list_any (needs_byte default_writer) x)) [
  | inl needs ↦ rw needs (open-quote fields _ ∙ quoted-run fields [] x [] ∙ quote-end fields x)
  | inr plain ↦ rw plain (plain-last fields x plain)
]

-- a comma ends a cell
comma-ends : (fields : List (List ℕ)) (x u : List ℕ)
    → next_record default_config st.InField fields x (44 ∷ u)
    ≡ next_record default_config st.StartField (fields ++ (x ∷ [])) [] u
unfolding next_record
comma-ends fields x u = refl

-- the cells from one on
cells-run : (fields : List (List ℕ)) (x : List ℕ) (rest : List (List ℕ))
    → next_record default_config st.StartField fields []
    (field_text default_writer x ++ fields_text default_writer rest)
    ≡ Some (fields ++ (x ∷ rest), st.StartRecord, [])
unfolding fields_text
cells-run fields x [] =
    rw (append-nil (field_text default_writer x)) (cell-last fields x)
cells-run fields x (y ∷ ys) =
    let more = cells-run (fields ++ (x ∷ [])) y ys in
    field-run fields x 44 _ refl ∙ comma-ends fields x _
    ∙ subst (λ fs. next_record default_config st.StartField (fields ++ (x ∷ [])) []
    (field_text default_writer y ++ fields_text default_writer ys)
    ≡ Some (fs, st.StartRecord, [])) (append_assoc fields (x ∷ []) (y ∷ ys)) more

-- a line that begins with a byte that ends none begins as a cell does
begins : (b : ℕ) (tail : List ℕ) → (b == 13) ≡ false → (b == 10) ≡ false
    → next_record default_config st.StartRecord [] [] (b ∷ tail)
    ≡ next_record default_config st.StartField [] [] (b ∷ tail)
begins b tail r n = record-same [] [] b tail r n

-- the first cell isn't empty
row-begins : (x : List ℕ) (tail : List ℕ) → x ≢ []
    → next_record default_config st.StartRecord [] [] (field_text default_writer x ++ tail)
    ≡ next_record default_config st.StartField [] [] (field_text default_writer x ++ tail)
row-begins [] tail some = absurd (some refl)
row-begins (b ∷ rest) tail some =
    elim (cases_Bool (list_any (needs_byte default_writer) (b ∷ rest))) [
      | inl needs ↦ rw needs (begins 34 _ refl refl)
      | inr plain ↦
          let q = plain-byte b (or-left _ _ plain) in
          rw plain (begins b _ q.1 q.2)
    ]

-- ---- no byte order mark

-- a comma or nothing
abbrev Follows : List ℕ → Type 0
Follows tail = (tail ≡ []) ⊎ ((rest : List ℕ) × (tail ≡ 44 ∷ rest))

not-itself : (a b c : ℕ) (rest : List ℕ) → rest ≢ a ∷ b ∷ c ∷ rest
not-itself a b c rest same = absurd (omega (arith, ap length same))

no-mark : (a b c : ℕ) (rest : List ℕ) (test : Bool)
    → (if test then rest else a ∷ b ∷ c ∷ rest) ≡ a ∷ b ∷ c ∷ rest → test ≡ false
no-mark a b c rest true same = absurd (not-itself a b c rest same)
no-mark a b c rest false same = refl

third : (x y : Bool) → (x && y && false) ≡ false
third true true = refl
third true false = refl
third false y = refl

second : (x y : Bool) → (x && false && y) ≡ false
second true y = refl
second false y = refl

-- what begins with no mark still doesn't where a comma or nothing follows
unmarked : (x tail : List ℕ) → strip_bom x ≡ x → Follows tail → strip_bom (x ++ tail) ≡ x ++ tail
unfolding strip_bom
unmarked x tail none (inl end) = rw (end, append-nil x) none
unmarked [] tail none (inr (rest, is)) = rw is (comma-first rest)
  where
    comma-first : (rest : List ℕ) → strip_bom (44 ∷ rest) ≡ 44 ∷ rest
    comma-first [] = refl
    comma-first (b ∷ []) = refl
    comma-first (b ∷ c ∷ rest) = refl
unmarked (a ∷ []) tail none (inr (rest, is)) = rw is (comma-second rest)
  where
    comma-second : (rest : List ℕ) → strip_bom (a ∷ 44 ∷ rest) ≡ a ∷ 44 ∷ rest
    comma-second [] = refl
    comma-second (c ∷ rest) = rw (second (a == 0xEF) (c == 0xBF)) refl
unmarked (a ∷ b ∷ []) tail none (inr (rest, is)) =
    rw is (rw (third (a == 0xEF) (b == 0xBB)) refl)
unmarked (a ∷ b ∷ c ∷ x) tail none (inr more) =
    rw (no-mark a b c x (is_bom a b c) none) refl

-- the text of cells after the first
follows : (rest : List (List ℕ)) → Follows (fields_text default_writer rest)
unfolding fields_text
follows [] = inl refl
follows (x ∷ rest) = inr (field_text default_writer x ++ fields_text default_writer rest, refl)

-- a text that begins with a quote has no mark
quote-first : (rest : List ℕ) → strip_bom (34 ∷ rest) ≡ 34 ∷ rest
unfolding strip_bom
quote-first [] = refl
quote-first (b ∷ []) = refl
quote-first (b ∷ c ∷ rest) = refl

row-unmarked : (x : List ℕ) (rest : List (List ℕ)) → strip_bom x ≡ x
    → strip_bom (field_text default_writer x ++ fields_text default_writer rest)
    ≡ field_text default_writer x ++ fields_text default_writer rest
row-unmarked x rest none = elim (cases_Bool (list_any (needs_byte default_writer) x)) [
  | inl needs ↦ rw needs (quote-first _)
  | inr plain ↦ rw plain (unmarked x _ none (follows rest))
]

-- ---- the line

end-none : next_record default_config st.StartRecord [] [] [] ≡ None
unfolding next_record
end-none = refl

empty-unmarked : strip_bom [] ≡ []
unfolding strip_bom
empty-unmarked = refl

-- cells that are written as a line are read back
pub line-reads : (texts : List (List ℕ)) → AreCells texts
    → values_in (row_body default_writer texts) ≡ Some texts
line-reads [] cells = rw (empty-unmarked, end-none) refl
line-reads (x ∷ rest) cells =
    rw (row-unmarked x rest cells.0.1, row-begins x _ cells.0.0, cells-run [] x rest, end-none) refl
