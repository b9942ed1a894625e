-- The names of a request.
use Rattle.std.specs.Prelude.{ℕ, zero, suc, All, ⊤}
use Rattle.std.specs.List.Sorted.{IsStrictlySortedBy}
use Rattle.std.specs.Map.{keys_of}
use Rattle.agg_values.specs.Names.{name_cmp}
use Rattle.agg_request_tree.specs.Request.{Request, below_of}

-- the names of a request ascend, down to a depth
abbrev pub NamesAscendTo : {B : Type 0} → ℕ → Request B → Type 0
NamesAscendTo zero request = ⊤
NamesAscendTo (suc depth) request =
    IsStrictlySortedBy name_cmp (keys_of request)
    × All (λ a. NamesAscendTo depth (below_of a.1)) request

-- the names of a request ascend at every depth, as those of every request in memory do
abbrev pub NamesAscend : {B : Type 0} → Request B → Type 0
NamesAscend request = (depth : ℕ) → NamesAscendTo depth request
