-- A page with room lists every past tuple, and so do the pages of a walk of which one has room.
use Rattle.std.proofs.Common.{◌≡◌, ℕ, zero, suc, ◌*◌, ◌<◌, ◌≤◌, ◌⊎◌, inl, inr, List, [], ◌∷◌}
use Rattle.std.proofs.Common.{◌++◌, length, take, map, min, refl, sym, ap, ◌∙◌, subst, arith}
use Rattle.std.proofs.Common.{suc-mul}
use Rattle.std.specs.List.{All, Any, Contains, flat_map}
use Rattle.std.proofs.lemmas.Bool.{cases_lt}
use Rattle.std.proofs.lemmas.List.{length-append, length-map, length-take, take_all}
use Rattle.agg_values.specs.KeyOrder.{tuple_order}
use Rattle.agg_values.proofs.TupleOrder.{tuple_order-total}
use Rattle.agg_segment.specs.storage.Document.{Fields}
use Rattle.agg_request_tree.specs.Source.{rules_of, Sources}
use Rattle.agg_request_tree.specs.Occurrences.{past_occurrences}
use Rattle.agg_request_tree.specs.Page.{Entry, IsPage, entry_of}
use Rattle.agg_request_tree.specs.Successive.{AreSuccessive, last_tuple, steps_over}
use Rattle.agg_request_tree.proofs.Lists.{Has, Has-from_Contains, Contains-from_Has}
use Rattle.agg_request_tree.proofs.AscendingKeys.{ascending_keys, length-ascending_keys}
use Rattle.agg_request_tree.proofs.PageFromGroups.{tuples-lowest}
use Rattle.agg_request_tree.proofs.PageUnique.{IsPage-same}
use Rattle.agg_request_tree.proofs.PageExists.{groups_of, keys-groups, Groups-past, IsPage-past}
use Rattle.agg_request_tree.proofs.PageWalk.{IsPage-from_walk}
use Rattle.agg_values.specs.Tuple.{KeyTuple}

module _ (sources : Sources) (bound : KeyTuple) (documents : List Fields) where
  -- the tuples of a page are the lowest of those that occur past the bound
  tuples-page : (size : ℕ) (page : List Entry) → IsPage sources size bound documents page
      → map (λ e. e.tuple) page ≡ take size (ascending_keys (tuple_order (rules_of sources))
      (past_occurrences sources bound documents))
  tuples-page size page is =
      let past = past_occurrences sources bound documents in
      let groups = groups_of (rules_of sources) past in
      let same = IsPage-same sources size bound documents page (map (entry_of sources documents)
      (take size groups)) is (IsPage-past sources size bound documents) in
      ap (map (λ (e : Entry). e.tuple)) same ∙ tuples-lowest sources documents size groups
      ∙ ap (take size) (keys-groups (rules_of sources) past)

  -- how many entries a page has
  length-page : (size : ℕ) (page : List Entry) → IsPage sources size bound documents page
      → length page ≡ min size (length (ascending_keys (tuple_order (rules_of sources))
      (past_occurrences sources bound documents)))
  length-page size page is = sym (length-map page (λ e. e.tuple))
      ∙ ap length (tuples-page size page is) ∙ length-take size _

  -- a page has no more entries than there are past occurrences
  pub length-page-le : (size : ℕ) (page : List Entry) → IsPage sources size bound documents page
      → length page ≤ length (past_occurrences sources bound documents)
  length-page-le size page is =
      let e = length-page size page is in
      let h = length-ascending_keys (tuple_order (rules_of sources)) (tuple_order-total
      (rules_of sources)) (past_occurrences sources bound documents) in
      omega arith

  -- a page with room lists every past tuple
  pub with_room : (size : ℕ) (page : List Entry) → IsPage sources size bound documents page
      → length page < size
      → All (Contains (map (λ e. e.tuple) page)) (past_occurrences sources bound documents)
  with_room size page is room =
      let past = past_occurrences sources bound documents in
      let tuples = ascending_keys (tuple_order (rules_of sources)) past in
      let e = length-page size page is in
      let whole = take_all size tuples (omega arith) in
      subst (λ ts. All (Contains ts) past) (keys-groups (rules_of sources) past
      ∙ sym (tuples-page size page is ∙ whole)) (Groups-past sources bound documents).complete

-- so many pages with at least one entry each
at_least : (n m : ℕ) → 0 < m → n ≤ n * m
at_least zero m some = omega arith
at_least (suc n) m some = let rest = at_least n m some in rw (suc-mul n m) (omega arith)

-- some list has room
abbrev HasRoom : ℕ → List (List Entry) → Type 0
HasRoom size pages = (page : List Entry) × Has page pages × (length page < size)

-- between the two forms
Any-from_room : (size : ℕ) (pages : List (List Entry)) → HasRoom size pages
    → Any (λ page. length page < size) pages
Any-from_room size pages h = let c = Contains-from_Has pages h.0 h.1 in (c.0, h.0, c.1, c.2, h.2)

room-from_Any : (size : ℕ) (pages : List (List Entry)) → Any (λ page. length page < size) pages
    → HasRoom size pages
room-from_Any size pages h = (h.1, Has-from_Contains pages h.1 (h.0, h.2, h.3), h.4)

module _ (sources : Sources) (documents : List Fields) (size : ℕ) where
  -- the pages of a walk of which one has room have room in all
  room_in_all : (bound : KeyTuple) (pages : List (List Entry))
      → AreSuccessive sources bound (steps_over size documents pages) → (page : List Entry)
      → Has page pages → length page < size
      → length (flat_map (λ page. page) pages) < length pages * size
  room_in_all bound [] walk page h room = absurd h
  room_in_all bound (first ∷ pages) walk page (inl e) room =
      let same = ap length e in
      let rest = (IsPage-from_walk sources documents size (last_tuple bound first) pages
      walk.1).short in
      rw (length-append first (flat_map (λ page. page) pages), suc-mul (length pages) size)
      (omega arith)
  room_in_all bound (first ∷ pages) walk page (inr h) room =
      let short = walk.0.short in
      let rest = room_in_all (last_tuple bound first) pages walk.1 page h room in
      rw (length-append first (flat_map (λ page. page) pages), suc-mul (length pages) size)
      (omega arith)

  -- a walk of which one page has room lists every past tuple
  pub walk_with_room : (bound : KeyTuple) (pages : List (List Entry))
      → AreSuccessive sources bound (steps_over size documents pages)
      → Any (λ page. length page < size) pages
      → All (Contains (map (λ e. e.tuple) (flat_map (λ page. page) pages)))
      (past_occurrences sources bound documents)
  walk_with_room bound pages walk some =
      let h = room-from_Any size pages some in
      with_room sources bound documents (length pages * size) (flat_map (λ page. page) pages)
      (IsPage-from_walk sources documents size bound pages walk) (room_in_all bound pages walk
      h.0 h.1 h.2)

  -- some page of a walk has room, or all are full
  room_or_full : (bound : KeyTuple) (pages : List (List Entry))
      → AreSuccessive sources bound (steps_over size documents pages)
      → HasRoom size pages ⊎ (length (flat_map (λ page. page) pages) ≡ length pages * size)
  room_or_full bound [] walk = inr (omega arith)
  room_or_full bound (first ∷ pages) walk = by_first (cases_lt (length first) size)
      (room_or_full (last_tuple bound first) pages walk.1)
    where
      by_first : (length first < size) ⊎ (size ≤ length first)
          → HasRoom size pages ⊎ (length (flat_map (λ page. page) pages) ≡ length pages * size)
          → HasRoom size (first ∷ pages) ⊎ (length (first ++ flat_map (λ page. page) pages)
          ≡ suc (length pages) * size)
      by_first (inl room) rest = inl (first, inl refl, room)
      by_first (inr full) (inl h) = inl (h.0, inr h.1, h.2)
      by_first (inr full) (inr all) = inr (let short = walk.0.short in
          rw (length-append first (flat_map (λ page. page) pages), suc-mul (length pages) size)
          (omega arith))

  -- a walk of more pages than there are past occurrences has a page with room
  pub walk_ends : 0 < size → (bound : KeyTuple) (pages : List (List Entry))
      → AreSuccessive sources bound (steps_over size documents pages)
      → length (past_occurrences sources bound documents) < length pages
      → Any (λ page. length page < size) pages
  walk_ends some bound pages walk long = by_room (room_or_full bound pages walk)
    where
      by_room : HasRoom size pages ⊎ (length (flat_map (λ page. page) pages) ≡ length pages * size)
          → Any (λ page. length page < size) pages
      by_room (inl h) = Any-from_room size pages h
      by_room (inr full) =
          let within = length-page-le sources bound documents (length pages * size)
          (flat_map (λ page. page) pages) (IsPage-from_walk sources documents size bound pages
          walk) in
          let many = at_least (length pages) size some in
          absurd (omega arith)
