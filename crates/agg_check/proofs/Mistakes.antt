-- Findings with one more.
use Rattle.std.proofs.Common.{◌≡◌, List, [], ◌∷◌, ◌++◌, Bool, true, false, refl, ◌∙◌}
use Rattle.std.specs.Prelude.{◌||◌}
use Rattle.std.proofs.lemmas.List.Folds.{list_any-append}
use Rattle.agg_check.specs.findings.Findings.{has_mistake, is_mistake}
use Rattle.agg_check.specs.declared.findings.finding.Finding.{Finding}

-- one is enough
or-last : (before last : Bool) → last ≡ true → (before || (last || false)) ≡ true
or-last true last is = refl
or-last false true is = refl
or-last false false is = cc is

-- none of two
or-none : (before last : Bool) → before ≡ false → last ≡ false → (before || (last || false)) ≡ false
or-none false false none is = refl
or-none true last none is = cc none
or-none false true none is = cc is

-- with a mistake there is one
pub has_mistake-last : (found : List Finding) (finding : Finding) → is_mistake finding ≡ true
    → has_mistake (found ++ finding ∷ []) ≡ true
has_mistake-last found finding is =
    list_any-append is_mistake found (finding ∷ [])
    ∙ or-last (has_mistake found) (is_mistake finding) is

-- with a warning there is none, if there was none
pub has_mistake-warning : (found : List Finding) (finding : Finding) → has_mistake found ≡ false
    → is_mistake finding ≡ false → has_mistake (found ++ finding ∷ []) ≡ false
has_mistake-warning found finding none is =
    list_any-append is_mistake found (finding ∷ [])
    ∙ or-none (has_mistake found) (is_mistake finding) none is
