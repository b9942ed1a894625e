-- Entries in the order of their keys, and a heap of a map's keys.
use Rattle.std.specs.Prelude.{Bool, List, [], ◌∷◌}
use Rattle.std.specs.BinaryHeap.{IsHeap}
use Rattle.std.specs.BTreeMap.{insert_entry}
use Rattle.std.specs.List.{IsDistinct}
use Rattle.std.specs.List.Sorted.{IsPermutation}
use Rattle.std.specs.declared.cmp.Ordering.{Ordering}

-- the entries in the order of their keys
abbrev pub ascending : {K X : Type 0} → (K → K → Ordering) → List (K × X) → List (K × X)
ascending R [] = []
ascending R (e ∷ es) = insert_entry R (ascending R es) e.0 e.1

-- a map's keys and the items of a heap are the same, each once
pub record HaveSameKeys {K : Type 0} (R : K → K → Ordering) (eq : K → K → Bool)
    (keys items : List K) : Type 0 where
  pub same : IsPermutation keys items
  pub once : IsDistinct eq keys
  pub heap : IsHeap R items
