-- The documents that were given under the id of a parent's bucket.
use Rattle.std.proofs.Common.{◌≡◌, ◌++◌, sym, ap, ◌∙◌, append-nil, ℕ, List, Bool, Some}
use Rattle.agg_cache.specs.Waiting.{docs_of, is_id}
use Rattle.agg_filter.specs.Filter.{Filter, id_of, matching_under}
use Rattle.agg_filter.specs.SubResults.{HasHanded}

-- where nothing waits, they are those that match under the parent
pub documents-handed : {C : Type 0} (waiting : C → ℕ → List ℕ) (is_match : ℕ → Bool)
    (collector : Filter C) (visited given : List (ℕ × ℕ))
    → HasHanded waiting is_match collector visited given
    → (parent id : ℕ) → id_of collector parent ≡ Some id
    → docs_of (is_id id) given ≡ matching_under is_match parent visited
documents-handed waiting is_match collector visited given handed parent id is =
    sym (append-nil (docs_of (is_id id) given))
    ∙ ap (λ ds. docs_of (is_id id) given ++ ds) (sym (handed.2 id))
    ∙ handed.0.exact handed.1 parent id is
