-- Documents that are pushed in a row.
use Rattle.std.proofs.Common.{◌≡◌, ◌==◌, ◌+◌, ◌<◌, ◌∙◌, ◌++◌, ◌∷◌, [], ℕ, Bool, true, false, List}
use Rattle.std.proofs.Common.{append-nil, append_assoc, ap, arith, get_or, length, refl, sym, take}
use Rattle.std.specs.Prelude.{if◌then◌else◌}
use Rattle.std.proofs.lemmas.Bool.Decides.{nat_tests}
use Rattle.std.proofs.lemmas.List.{take_more}
use Rattle.agg_cache.specs.Waiting.{docs_of, is_id, one_more}
use Rattle.agg_composite.proofs.lemmas.buckets.Labels.{docs_of-append}

turned : (a b : ℕ) → (a == b) ≡ (b == a)
turned a b = grind (arith, nat_tests)

by_test : (b : Bool) (xs : List ℕ) (d : ℕ)
    → (if b then xs ++ d ∷ [] else xs) ≡ xs ++ ((if b then d ∷ [] else []) ++ [])
by_test true xs d = refl
by_test false xs d = sym (append-nil xs)

-- one document more
pub pushed-more : (id : ℕ) (waiting now later : ℕ → List ℕ) (pushes : List (ℕ × ℕ)) (i : ℕ)
    (d : ℕ × ℕ) → i < length pushes
    → now id ≡ waiting id ++ docs_of (is_id id) (take i pushes)
    → later id ≡ one_more (get_or pushes i d).0 (get_or pushes i d).1 now id
    → later id ≡ waiting id ++ docs_of (is_id id) (take (i + 1) pushes)
pushed-more id waiting now later pushes i d within so_far one =
    let e = get_or pushes i d in
    one
    ∙ by_test (id == e.0) (now id) e.1
    ∙ ap (λ b. now id ++ ((if b then e.1 ∷ [] else []) ++ [])) (turned id e.0)
    ∙ ap (λ ds. ds ++ docs_of (is_id id) (e ∷ [])) so_far
    ∙ append_assoc (waiting id) (docs_of (is_id id) (take i pushes)) (docs_of (is_id id) (e ∷ []))
    ∙ ap (λ ds. waiting id ++ ds) (sym (docs_of-append (is_id id) (take i pushes) (e ∷ [])))
    ∙ ap (λ ps. waiting id ++ docs_of (is_id id) ps) (sym (take_more pushes i d within))
