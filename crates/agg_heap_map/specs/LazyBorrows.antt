-- What a map has once a borrow of one of its values ends, where its heap is made later.
use Rattle.std.specs.Prelude.{◌≡◌, Option, List}
use Rattle.std.specs.Borrow.{Fml, LendsSo, MutBor, RattleType}
use Rattle.std.specs.BTreeMap.{is_at}
use Rattle.std.specs.Map.{set_value}
use Rattle.agg_heap_map.specs.Borrows.{HashMembers, OrdMembers}
use Rattle.agg_heap_map.specs.contracts.lazy_heap_map.LazyHeapMap.{the_row}

-- the row of a map
abbrev pub map_row : (S V : RattleType) → OrdMembers S.Denot → HashMembers S.Denot → RattleType
map_row S V o h =
    the_row S V (record { cmp = o.cmp }) (record { eq = o.eq })
    (record { partial_cmp = o.partial_cmp }) (record { hash_input = h.hash_input })

-- a borrowed map has the value that is written last at a key, and where nothing is lent it stays
abbrev pub LendsValue : (S V : RattleType) (o : OrdMembers S.Denot) (h : HashMembers S.Denot)
    → MutBor (List (S.Denot × V.Denot)) → S.Denot → Option (MutBor V.Denot) → Fml
LendsValue S V o h m k r =
    LendsSo (map_row S V o h) V m r
    (λ n w. n ≡ set_value (is_at (o.cmp k)) m.now w) (λ n. n ≡ m.now)
