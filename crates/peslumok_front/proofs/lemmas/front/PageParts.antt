-- What is left of a page from which its groups are taken.
use Rattle.std.proofs.Common.{◌≡◌, ◌∷◌, [], ℕ, List, Bool, true, false, Some, ap, cond, inl, inr}
use Rattle.std.proofs.Common.{refl, subst, ◌∙◌}
use Rattle.std.specs.Prelude.{codes}
use Rattle.std.specs.BTreeMap.{is_at}
use Rattle.std.proofs.lemmas.Bool.{cases_Bool}
use Rattle.std.proofs.lemmas.Map.Lookups.{exact_bytes}
use Rattle.agg_values.specs.Names.{Named, name_cmp, value_of, without}
use Rattle.agg_request_tree.proofs.PageFromGroups.{equal-from_is_eq}
use Rattle.agg_results.specs.declared.final_results.types.AggregationResult.{AggregationResult}
use Rattle.peslumok_front.specs.front.Written.{filtered_of_result}

module _ {T : Type 0} (name other : List ℕ)
    (apart : (k : List ℕ) → is_at (name_cmp name) k ≡ true → is_at (name_cmp other) k ≡ false) where
  -- what stands under another name stands there without the name
  value-without : (entries : Named T)
      → value_of other (without name entries) ≡ value_of other entries
  value-without [] = refl
  value-without (entry ∷ entries) =
      elim (cases_Bool (is_at (name_cmp name) entry.0)) [
        | inl here ↦ rw (here, apart entry.0 here) refl
        | inr there ↦ rw there (by (is_at (name_cmp other) entry.0) (value-without entries))
      ]
    where
      by : (b : Bool) → value_of other (without name entries) ≡ value_of other entries
          → cond b (Some entry.1) (value_of other (without name entries))
          ≡ cond b (Some entry.1) (value_of other entries)
      by b same = ap (cond b (Some entry.1)) same

total-apart : (k : List ℕ) → is_at (name_cmp (codes "groups")) k ≡ true
    → is_at (name_cmp (codes "total")) k ≡ false
total-apart k is =
    subst (λ n. is_at (name_cmp (codes "total")) n ≡ false)
    (exact_bytes (codes "groups") k (equal-from_is_eq (name_cmp (codes "groups") k) is)) refl

-- results without those of the groups have the same total
pub same-total : (old new : Named AggregationResult) → new ≡ without (codes "groups") old
    → filtered_of_result (value_of (codes "total") new)
    ≡ filtered_of_result (value_of (codes "total") old)
same-total old new is =
    ap (λ entries. filtered_of_result (value_of (codes "total") entries)) is
    ∙ ap filtered_of_result (value-without (codes "groups") (codes "total") total-apart old)
