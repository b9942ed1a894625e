-- What a map of one dimension has once a borrow of one of its values ends.
use Rattle.std.specs.Prelude.{◌≡◌, ℕ, Option, List}
use Rattle.std.specs.Borrow.{Fml, LendsSo, LendsSoOk, MutBor, RattleType}
use Rattle.std.specs.BTreeMap.{insert_entry, is_at}
use Rattle.std.specs.Cmp.Lexicographic.{slice_cmp}
use Rattle.std.specs.Map.{set_value}
use Rattle.std.specs.declared.result.Result.{Result}
use Rattle.agg_heap_map.specs.Borrows.{HashMembers, OrdMembers}
use Rattle.agg_heap_map.specs.contracts.dyn_array_heap_map.DynArrayHeapMap.{the_row}

-- the row of a map
abbrev pub map_row : (K V : RattleType) → OrdMembers K.Denot → HashMembers K.Denot → RattleType
map_row K V o h =
    the_row K V (record { cmp = o.cmp }) (record {}) (record { eq = o.eq })
    (record { partial_cmp = o.partial_cmp }) (record { hash_input = h.hash_input })

-- a dimension and entries
abbrev pub DimensionAndEntries : RattleType → RattleType → Type 0
DimensionAndEntries K V = ℕ × List (List K.Denot × V.Denot)

module _ (K V : RattleType) (o : OrdMembers K.Denot) (h : HashMembers K.Denot) where
  -- a borrowed map has the value that is written last at a key, and where nothing is lent it stays
  abbrev pub LendsValue : MutBor (DimensionAndEntries K V) → List K.Denot
      → Option (MutBor V.Denot) → Fml
  LendsValue m k r =
      LendsSo (map_row K V o h) V m r
      (λ n w. n ≡ (m.now.0, set_value (is_at (slice_cmp o.cmp k)) m.now.1 w)) (λ n. n ≡ m.now)

  -- a borrowed map has an entry of a key with the value that is written last, and where an error
  -- lends nothing it stays
  abbrev pub LendsInserted : {E : Type 0} → MutBor (DimensionAndEntries K V) → List K.Denot
      → Result (MutBor V.Denot) E → Fml
  LendsInserted m k r =
      LendsSoOk (map_row K V o h) V m r
      (λ n w. n ≡ (m.now.0, insert_entry (slice_cmp o.cmp) m.now.1 k w)) (λ n. n ≡ m.now)
