-- Documents that differ only in the order of the classes inside a field.
use Rattle.std.specs.Prelude.{◌≡◌, Bool, ℕ, List}
use Rattle.std.specs.List.{AllZip}
use Rattle.agg_segment.specs.storage.Document.{Fields, by_class}

-- two documents have the same keys by class in each field
abbrev pub AreAlikeByClass : Fields → Fields → Type 0
AreAlikeByClass document other =
    (field : List ℕ) → by_class (document field) ≡ by_class (other field)

-- two lists of documents have the same keys by class in each field, place by place
abbrev pub AreAllAlikeByClass : List Fields → List Fields → Type 0
AreAllAlikeByClass = AllZip AreAlikeByClass

-- what builders match is told alike of documents that are alike
abbrev pub MatchAlike : {B : Type 0} → (B → Fields → Bool) → Type 0
MatchAlike {B = B} is_match =
    (builder : B) (document other : Fields)
    → AreAlikeByClass document other
    → is_match builder document ≡ is_match builder other
