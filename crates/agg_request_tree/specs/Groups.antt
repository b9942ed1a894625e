-- Groups: the distinct tuples of a list, each with the number of its places.
use Rattle.std.specs.Prelude.{◌≡◌, ◌<◌, ℕ, List, count_by, All, Contains}
use Rattle.std.specs.Map.{keys_of}
use Rattle.std.specs.List.Sorted.{IsStrictlySortedBy}
use Rattle.agg_values.specs.KeyOrder.{SourceRules, tuple_order}
use Rattle.agg_values.specs.Tuple.{KeyTuple}
use Rattle.agg_request_tree.specs.Occurrences.{same_tuple}

-- a tuple with its number
abbrev pub Group : Type 0
Group = KeyTuple × ℕ

-- the groups of a list: its tuples, each once, ascending, with the number of its places
pub record Groups (rules : SourceRules) (tuples : List KeyTuple) (groups : List Group)
    : Type 0 where
  pub ascending : IsStrictlySortedBy (tuple_order rules) (keys_of groups)
  pub counted : All (λ g. (0 < g.1) × (g.1 ≡ count_by (same_tuple rules g.0) tuples)) groups
  pub occurring : All (Contains tuples) (keys_of groups)
  pub complete : All (Contains (keys_of groups)) tuples
