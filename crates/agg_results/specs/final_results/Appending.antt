-- What is appended to the text of an object or of an array, part by part.
use Rattle.std.specs.Prelude.{◌≡◌, ◌++◌, ℕ, List, [], ◌∷◌, Bool, false, map, codes}
use Rattle.std.specs.Prelude.{filter}
use Rattle.std.specs.Ordering.{is_gt, is_lt}
use Rattle.agg_values.specs.Names.{Named, name_cmp}
use Rattle.agg_values.specs.declared.after_key.AfterKey.{AfterKey}
use Rattle.agg_results.specs.final_results.JsonBytes.{comma}
use Rattle.agg_results.specs.final_results.ResultsText.{Texts, comma_unless, member_text}
use Rattle.agg_results.specs.final_results.ResultsText.{object_text, quoted_after_key}

-- items, each after a comma but the first
abbrev pub more_items : Bool → List (List ℕ) → List ℕ
more_items first [] = []
more_items first (item ∷ items) = comma_unless first ++ (item ++ more_items false items)

-- members, each after a comma but the first
abbrev pub more_members : Bool → Texts → List ℕ
more_members first members = more_items first (map (λ m. member_text m.0 m.1) members)

-- whether the next is still the first, after these members
abbrev pub still_first : Bool → Texts → Bool
still_first first [] = first
still_first first (m ∷ members) = false

-- these members are appended to a text, each after a comma but the first
abbrev pub AppendsMembers : Texts → Bool → Bool → List ℕ → List ℕ → Type 0
AppendsMembers members first next old new =
    (new ≡ old ++ more_members first members) × (next ≡ still_first first members)

-- the members whose names come before this one
abbrev pub below : List ℕ → Texts → Texts
below name members = filter (λ m. is_gt (name_cmp name m.0)) members

-- the members whose names come after this one
abbrev pub above : List ℕ → Texts → Texts
above name members = filter (λ m. is_lt (name_cmp name m.0)) members

-- the member of an after key with the comma after it, where the page is full
abbrev pub after_key_member : Named AfterKey → List ℕ
after_key_member [] = []
after_key_member (k ∷ ks) =
    codes "\"after_key\":" ++ (object_text quoted_after_key (k ∷ ks) ++ comma ∷ [])
