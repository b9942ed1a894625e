-- What a map has once a borrow of one of its values ends.
use Rattle.std.specs.Prelude.{◌≡◌, ℕ, Bool, Option, List}
use Rattle.std.specs.Borrow.{Fml, LendsSo, LendsSoOk, MutBor, RattleType}
use Rattle.std.specs.BTreeMap.{is_at}
use Rattle.std.specs.Map.{set_value}
use Rattle.std.specs.declared.cmp.Ordering.{Ordering}
use Rattle.std.specs.declared.result.Result.{Result}
use Rattle.agg_heap_map.specs.contracts.heap_map.HeapMap.{the_row}

-- what clauses have of the order of keys
abbrev pub OrdMembers : Type 0 → Type 0
OrdMembers S = record {
  partial_cmp : S → S → Option Ordering;
  eq : S → S → Bool;
  cmp : S → S → Ordering;
}

-- what clauses have of the hashes of keys
abbrev pub HashMembers : Type 0 → Type 0
HashMembers S = record { eq : S → S → Bool; hash_input : S → List (List ℕ) }

-- the row of a map
abbrev pub map_row : (S V : RattleType) → OrdMembers S.Denot → HashMembers S.Denot → RattleType
map_row S V o h =
    the_row S V (record { cmp = o.cmp }) (record { eq = o.eq })
    (record { partial_cmp = o.partial_cmp }) (record { hash_input = h.hash_input })

module _ (S V : RattleType) (o : OrdMembers S.Denot) (h : HashMembers S.Denot) where
  -- a borrowed map has the value that is written last at a key, and where nothing is lent it stays
  abbrev pub LendsValue : MutBor (List (S.Denot × V.Denot)) → S.Denot → Option (MutBor V.Denot)
      → Fml
  LendsValue m k r =
      LendsSo (map_row S V o h) V m r
      (λ n w. n ≡ set_value (is_at (o.cmp k)) m.now w) (λ n. n ≡ m.now)

  -- the same, where an error lends nothing
  abbrev pub LendsValueOk : {E : Type 0} → MutBor (List (S.Denot × V.Denot)) → S.Denot
      → Result (MutBor V.Denot) E → Fml
  LendsValueOk m k r =
      LendsSoOk (map_row S V o h) V m r
      (λ n w. n ≡ set_value (is_at (o.cmp k)) m.now w) (λ n. n ≡ m.now)
