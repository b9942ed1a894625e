-- Texts that no terminal takes for commands.
use Rattle.std.proofs.Common.{◌≡◌, ◌<◌, ◌≤◌, ◌++◌, ℕ, List, [], ◌∷◌, Bool, true, false, arith}
use Rattle.std.proofs.Common.{◌∙◌, ap, refl, suc, sym, zero}
use Rattle.std.proofs.lemmas.Bool.Decides.{nat_tests}
use Rattle.std.proofs.lemmas.Fmt.{digits_is_IsNumeral}
use Rattle.std.proofs.lemmas.List.{append-nil}
use Rattle.std.proofs.lemmas.List.Folds.{list_all-append}
use Rattle.std.proofs.lemmas.Str.{IsUtf8-append, IsUtf8-encode, IsUtf8-from_ascii, IsUtf8-nil}
use Rattle.std.proofs.lemmas.Str.{chars-IsAscii, chars-append, chars-nil, chars_past_char}
use Rattle.std.proofs.lemmas.Str.{scalars-chars}
use Rattle.std.proofs.Math.Utf8.{scalar, scalar_fits, scalars}
use Rattle.std.specs.Prelude.{codes, encode_utf8, flat_map, if◌then◌else◌, chars, not, ◌&&◌, ◌==◌}
use Rattle.std.specs.Char.{IsScalar, digit_value}
use Rattle.std.specs.Fmt.{digits}
use Rattle.std.specs.List.{list_all}
use Rattle.std.specs.Str.{IsAscii, IsUtf8}
use Rattle.std.specs.Str.Parse.{AllDigits}
use Rattle.peslumok_front.specs.tables.Visible.{IsHarmless, is_escaped, visible, visible_char}

-- printable ASCII
abbrev Printable : List ℕ → Type 0
Printable [] = Unit {0}
Printable (b ∷ bytes) = (32 ≤ b) × (b ≤ 126) × Printable bytes

printable-append : (xs ys : List ℕ) → Printable xs → Printable ys → Printable (xs ++ ys)
printable-append [] ys x y = y
printable-append (b ∷ xs) ys x y = (x.0, x.1, printable-append xs ys x.2 y)

hex-printable : (d : ℕ) → digit_value d < 16 → (32 ≤ d) × (d ≤ 126)
hex-printable d h = (grind (arith, nat_tests), grind (arith, nat_tests))

digits-printable : (ds : List ℕ) → AllDigits 16 ds → Printable ds
digits-printable [] h = tt
digits-printable (d ∷ ds) h =
    let here = hex-printable d h.0 in (here.0, here.1, digits-printable ds h.1)

printable-ascii : (bytes : List ℕ) → Printable bytes → IsAscii bytes
printable-ascii [] h i = omega arith
printable-ascii (b ∷ bytes) h zero = omega arith
printable-ascii (b ∷ bytes) h (suc i) = printable-ascii bytes h.2 i

kept : (b : ℕ) → 32 ≤ b → b ≤ 126 → not (is_escaped b) ≡ true
kept b low high = grind (arith, nat_tests)

printable-kept : (bytes : List ℕ) → Printable bytes
    → list_all (λ c. not (is_escaped c)) bytes ≡ true
printable-kept [] h = refl
printable-kept (b ∷ bytes) h = rw (kept b h.0 h.1) (printable-kept bytes h.2)

-- text that is harmless
abbrev Good : List ℕ → Type 0
Good bytes = IsUtf8 bytes × IsHarmless bytes

good-printable : (bytes : List ℕ) → Printable bytes → Good bytes
good-printable bytes h =
    let ascii = printable-ascii bytes h in (
      IsUtf8-from_ascii bytes ascii,
      ap (list_all (λ c. not (is_escaped c))) (chars-IsAscii bytes ascii) ∙ printable-kept bytes h,
    )

escape-printable : (c : ℕ) → IsScalar c
    → Printable (codes "\\u{" ++ (digits 16 false c ++ codes "}"))
escape-printable c h =
    let fits = scalar_fits c h in
    let hex = digits_is_IsNumeral 16 false (omega arith) (omega arith) c (omega arith) in
    let end : Printable (codes "}") = (omega arith, omega arith, tt) in
    let rest = printable-append (digits 16 false c) (codes "}") (digits-printable
    (digits 16 false c) hex.0.1) end in
    (omega arith, omega arith, (omega arith, omega arith, (omega arith, omega arith, rest)))

good-encode : (c : ℕ) → IsScalar c → is_escaped c ≡ false → Good (encode_utf8 c)
good-encode c h e =
    let utf8 = IsUtf8-encode c h in
    let one = chars_past_char (encode_utf8 c) [] c utf8 (sym (append-nil (encode_utf8 c))) in
    (utf8, ap (list_all (λ c. not (is_escaped c))) one ∙ rw (e, chars-nil) refl)

good-append : (xs ys : List ℕ) → Good xs → Good ys → Good (xs ++ ys)
good-append xs ys x y = (
  IsUtf8-append xs ys x.0 y.0,
  ap (list_all (λ c. not (is_escaped c))) (chars-append xs ys x.0)
      ∙ list_all-append (λ c. not (is_escaped c)) (chars xs) (chars ys) ∙ rw (x.1, y.1) refl,
)

chosen : (line return tab escaped : Bool) (c : ℕ) → IsScalar c → is_escaped c ≡ escaped
    → Good (if line then codes "\\n" else if return then codes "\\r" else if tab then codes "\\t"
    else if escaped then codes "\\u{" ++ (digits 16 false c ++ codes "}") else encode_utf8 c)
chosen true return tab escaped c h e =
    good-printable (codes "\\n") (omega arith, omega arith, (omega arith, omega arith, tt))
chosen false true tab escaped c h e =
    good-printable (codes "\\r") (omega arith, omega arith, (omega arith, omega arith, tt))
chosen false false true escaped c h e =
    good-printable (codes "\\t") (omega arith, omega arith, (omega arith, omega arith, tt))
chosen false false false true c h e =
    good-printable (codes "\\u{" ++ (digits 16 false c ++ codes "}")) (escape-printable c h)
chosen false false false false c h e = good-encode c h e

both : (a b : Bool) → (a && b) ≡ true → (a ≡ true) × (b ≡ true)
both true b h = (refl, h)
both false b h = cc h

good-all : (cs : List ℕ) → scalars cs ≡ true → Good (flat_map visible_char cs)
good-all [] h = (IsUtf8-nil, ap (list_all (λ c. not (is_escaped c))) chars-nil)
good-all (c ∷ cs) h =
    let parts = both (scalar c) (scalars cs) h in
    good-append (visible_char c) (flat_map visible_char cs)
    (chosen (c == 10) (c == 13) (c == 9) (is_escaped c) c parts.0 refl) (good-all cs parts.1)

-- what shows for a text is harmless
pub visible-harmless : (text : List ℕ) → IsUtf8 text → IsHarmless (visible text)
visible-harmless text utf8 = (good-all (chars text) (scalars-chars text utf8)).1
