-- Lists of which each element gives one at most.
use Rattle.std.proofs.Common.{◌≤◌, List, [], ◌∷◌, length, length-append, map, arith}
use Rattle.std.specs.List.{AllByRecursion, flat_map}
use Rattle.agg_segment.specs.storage.Document.{Fields}
use Rattle.agg_request_tree.specs.Uncut.{once_each}
use Rattle.agg_request_tree.proofs.Lists.{AllByRecursion-always, AllByRecursion-flat_map}
use Rattle.agg_request_tree.proofs.Lists.{AllByRecursion-map, AllByRecursion-weaker}

-- elements of which each gives one at most give no more than they are
pub length-ones : {X Y : Type 0} (f : X → List Y) (xs : List X)
    → AllByRecursion (λ x. length (f x) ≤ 1) xs → length (flat_map f xs) ≤ length xs
length-ones f [] each = omega arith
length-ones f (x ∷ xs) each =
    let first = each.0 in
    omega (arith, length-append (f x) (flat_map f xs), length-ones f xs each.1)

-- what holds of documents holds of them as often as they stand in a list
pub all-once_each : {X : Type 0} (P : Fields → Type 0) (elements : Fields → List X)
    (documents : List Fields) → AllByRecursion P documents
    → AllByRecursion P (once_each elements documents)
all-once_each P elements documents all =
    AllByRecursion-flat_map P (λ d. map (λ x. d) (elements d)) documents
    (AllByRecursion-weaker P (λ d. AllByRecursion P (map (λ x. d) (elements d)))
    (λ d holds.
    AllByRecursion-map P (λ x. d) (elements d)
    (AllByRecursion-always (λ x. P d) (λ x. holds) (elements d)))
    documents all)
