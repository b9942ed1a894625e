-- Documents under ids.
use Rattle.std.proofs.Common.{◌≡◌, ◌≢◌, ◌∙◌, ◌==◌, refl, sym, ap, ℕ, List, [], ◌∷◌, ◌++◌, Bool}
use Rattle.std.proofs.Common.{true, false, if◌then◌else◌}
use Rattle.std.proofs.lemmas.Bool.{eq-eqb, ne_eqb}
use Rattle.std.proofs.lemmas.List.Concat.{flat_map-append}
use Rattle.agg_cache.specs.Waiting.{docs_of, is_id, under}

-- these if so, else none
abbrev pub if_so : Bool → List ℕ → List ℕ
if_so b docs = if b then docs else []

pub docs_of-append : (id : ℕ) (xs ys : List (ℕ × ℕ))
    → docs_of (is_id id) (xs ++ ys) ≡ docs_of (is_id id) xs ++ docs_of (is_id id) ys
docs_of-append id xs ys = flat_map-append _ xs ys

if_so-nil : (b : Bool) → if_so b [] ≡ []
if_so-nil true = refl
if_so-nil false = refl

if_so-cons : (b : Bool) (doc : ℕ) (docs : List ℕ)
    → if_so b (doc ∷ []) ++ if_so b docs ≡ if_so b (doc ∷ docs)
if_so-cons true doc docs = refl
if_so-cons false doc docs = refl

-- documents under an id are there for this id alone
pub docs_of-under : (id bucket : ℕ) (docs : List ℕ)
    → docs_of (is_id id) (under bucket docs) ≡ if_so (bucket == id) docs
docs_of-under id bucket [] = sym (if_so-nil (bucket == id))
docs_of-under id bucket (doc ∷ docs) =
    ap (λ ds. if_so (bucket == id) (doc ∷ []) ++ ds) (docs_of-under id bucket docs)
    ∙ if_so-cons (bucket == id) doc docs

pub docs_of-same : (id : ℕ) (docs : List ℕ) → docs_of (is_id id) (under id docs) ≡ docs
docs_of-same id docs =
    docs_of-under id id docs ∙ ap (λ b. if_so b docs) (eq-eqb id id refl)

pub docs_of-other : (id bucket : ℕ) (docs : List ℕ) → bucket ≢ id
    → docs_of (is_id id) (under bucket docs) ≡ []
docs_of-other id bucket docs other =
    docs_of-under id bucket docs ∙ ap (λ b. if_so b docs) (ne_eqb bucket id other)
