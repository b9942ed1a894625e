-- Documents that are read once more are the same.
use Rattle.std.proofs.Common.{◌≡◌, List, [], ◌∷◌, refl, sym, ap, ◌∙◌}
use Rattle.std.specs.Prelude.{Option, Some}
use Rattle.agg_segment.specs.storage.Document.{Fields}
use Rattle.peslumok_records.specs.held.Documents.{AreRead}

pub some_is : {A : Type 0} (x y : A) → Some x ≡ Some y → x ≡ y
some_is x y e = cc e

pub read_once : (read : List (Option Fields)) (first second : List Fields)
    → AreRead read first → AreRead read second → first ≡ second
read_once [] [] [] a b = refl
read_once [] [] (e ∷ es) a b = absurd b
read_once [] (d ∷ ds) second a b = absurd a
read_once (o ∷ os) [] second a b = absurd a
read_once (o ∷ os) (d ∷ ds) [] a b = absurd b
read_once (o ∷ os) (d ∷ ds) (e ∷ es) a b =
    ap (λ x. x ∷ ds) (some_is d e (sym a.0.is ∙ b.0.is))
    ∙ ap (λ l. e ∷ l) (read_once os ds es a.1 b.1)
