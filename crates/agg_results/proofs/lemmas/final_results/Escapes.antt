-- A text of plain bytes is its own escape.
use Rattle.std.proofs.Common.{◌≡◌, ℕ, List, [], ◌∷◌, true, refl, arith}
use Rattle.std.specs.List.{list_all}
use Rattle.std.proofs.lemmas.Bool.{and_parts}
use Rattle.std.proofs.lemmas.Bool.Decides.{nat_tests}
use Rattle.json.specs.Print.{escape, escape_byte}
use Rattle.json.proofs.Printed.Strings.{escape_byte_plain}
use Rattle.agg_results.specs.final_results.PlainText.{is_plain}

byte-plain : (x : ℕ) → is_plain x ≡ true → escape_byte x ≡ x ∷ []
byte-plain x h = escape_byte_plain x (λ e. grind (arith, nat_tests, h))
    (λ e. grind (arith, nat_tests, h)) (grind (arith, nat_tests, h))

pub escape-plain : (s : List ℕ) → list_all is_plain s ≡ true → escape s ≡ s
escape-plain [] h = refl
escape-plain (x ∷ s) h =
    let p = and_parts (is_plain x) (list_all is_plain s) h in
    rw (byte-plain x p.0, escape-plain s p.1)
