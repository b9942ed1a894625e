-- Facts on each item of a list, or on each key of entries.
use Rattle.std.proofs.Common.{List, [], ◌∷◌}
use Rattle.std.specs.List.{AllByRecursion}
use Rattle.std.specs.List.Sorted.{IsPermutation}
use Rattle.std.specs.Map.{keys_of}
use Rattle.std.proofs.lemmas.List.Elements.{recursion_from_All, All-from_recursion}
use Rattle.std.proofs.lemmas.List.Sorted.{All-permutation}

-- in another order
pub moved : {X : Type 0} (P : X → Type 0) (xs ys : List X) → IsPermutation xs ys
    → AllByRecursion P xs → AllByRecursion P ys
moved P xs ys m all =
    recursion_from_All P ys (All-permutation P xs ys m (All-from_recursion P xs all))

-- what follows from one fact
pub weaker : {X : Type 0} (P Q : X → Type 0) → ((x : X) → P x → Q x) → (xs : List X)
    → AllByRecursion P xs → AllByRecursion Q xs
weaker P Q follows [] all = tt
weaker P Q follows (x ∷ xs) all = (follows x all.0, weaker P Q follows xs all.1)

-- what follows from two
pub both : {X : Type 0} (P Q S : X → Type 0) → ((x : X) → P x → Q x → S x) → (xs : List X)
    → AllByRecursion P xs → AllByRecursion Q xs → AllByRecursion S xs
both P Q S follows [] ps qs = tt
both P Q S follows (x ∷ xs) ps qs = (follows x ps.0 qs.0, both P Q S follows xs ps.1 qs.1)

-- a fact on each key is one on each entry
pub on_entries : {K X : Type 0} (P : K → Type 0) (es : List (K × X)) → AllByRecursion P (keys_of es)
    → AllByRecursion (λ e. P e.0) es
on_entries P [] all = tt
on_entries P (e ∷ es) all = (all.0, on_entries P es all.1)

pub on_keys : {K X : Type 0} (P : K → Type 0) (es : List (K × X)) → AllByRecursion (λ e. P e.0) es
    → AllByRecursion P (keys_of es)
on_keys P [] all = tt
on_keys P (e ∷ es) all = (all.0, on_keys P es all.1)
