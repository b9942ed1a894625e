-- Successive pages of a composite, each past the last tuple of the one before. The documents may
-- change between them.
use Rattle.std.specs.Prelude.{ℕ, List, [], ◌∷◌, ⊤, map}
use Rattle.std.specs.List.{flat_map}
use Rattle.agg_segment.specs.storage.Document.{Fields}
use Rattle.agg_request_tree.specs.Page.{Entry, IsPage}
use Rattle.agg_values.specs.Tuple.{KeyTuple}
use Rattle.agg_request_tree.specs.Source.{Sources}

-- the tuple of the last entry, or the bound where there is none
abbrev pub last_tuple : KeyTuple → List Entry → KeyTuple
last_tuple bound [] = bound
last_tuple bound (entry ∷ entries) = last_tuple entry.tuple entries

-- one of successive pages: its size, and the documents as they are then
pub record Step : Type 0 where
  pub size : ℕ
  pub documents : List Fields
  pub page : List Entry

-- the entries of all pages
abbrev pub entries_of : List Step → List Entry
entries_of steps = flat_map (λ step. step.page) steps

-- the first page lies past the bound, and each other past the last tuple of the one before
abbrev pub AreSuccessive : Sources → KeyTuple → List Step → Type 0
AreSuccessive sources bound [] = ⊤
AreSuccessive sources bound (step ∷ steps) =
    IsPage sources step.size bound step.documents step.page
    × AreSuccessive sources (last_tuple bound step.page) steps

-- pages of one size, all over the same documents
abbrev pub steps_over : ℕ → List Fields → List (List Entry) → List Step
steps_over size documents pages =
    map (λ page. record { size = size; documents = documents; page = page }) pages
