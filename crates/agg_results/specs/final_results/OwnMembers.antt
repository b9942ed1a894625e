-- The members of a bucket or of a filter beside its sub-results.
use Rattle.std.specs.Prelude.{◌++◌, ℕ, List, [], ◌∷◌, Option, None, Some, codes, decimal}
use Rattle.std.specs.Prelude.{option_map}
use Rattle.agg_results.specs.final_results.ResultsText.{Texts, object_text, shown_key_text}
use Rattle.agg_results.specs.declared.final_results.own_members.OwnMembers.{OwnMembers}

-- a member of this name, where there is one
abbrev pub member_of : {T : Type 0} → List ℕ → (T → List ℕ) → Option T → Texts
member_of name text None = []
member_of name text (Some value) = (name, text value) ∷ []

-- the members that are still to be written
abbrev pub own_members : OwnMembers → Texts
own_members own =
    member_of (codes "doc_count") decimal (option_map (λ n. n.now) own.doc_count)
    ++ member_of (codes "key") (object_text shown_key_text) (option_map (λ key. key.now) own.key)
