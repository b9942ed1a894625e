-- What a walk lists while the documents change between its steps.
use Rattle.std.proofs.Common.{◌≡◌, ◌≢◌, ◌<◌, ◌⊎◌, inl, inr, true, List, [], ◌∷◌, ◌++◌, length}
use Rattle.std.proofs.Common.{map, sym, ap, ◌∙◌, subst, arith, Ordering, Less, is_lt}
use Rattle.std.specs.List.{All, AllByRecursion, AllPairs, Any, Contains, flat_map}
use Rattle.std.specs.List.Sorted.{IsStrictlySortedBy}
use Rattle.std.proofs.lemmas.List.{length-map, map-append}
use Rattle.std.proofs.lemmas.List.Elements.{recursion_from_All}
use Rattle.agg_values.specs.KeyOrder.{tuple_order}
use Rattle.agg_values.specs.Laws.{IsCanonicalTuple}
use Rattle.agg_values.proofs.TupleOrder.{tuple_order-exact, tuple_order-total}
use Rattle.agg_segment.specs.storage.Document.{Fields}
use Rattle.agg_request_tree.specs.Source.{rules_of, Sources}
use Rattle.agg_request_tree.specs.Occurrences.{is_past, occurrences_in}
use Rattle.agg_request_tree.specs.Page.{Entry, MayList}
use Rattle.agg_request_tree.specs.Successive.{AreSuccessive, Step, last_tuple}
use Rattle.agg_request_tree.proofs.Lists.{Has, Has-from_Contains, Contains-from_Has}
use Rattle.agg_request_tree.proofs.Lists.{AllByRecursion-append, AllByRecursion-Has}
use Rattle.agg_request_tree.proofs.Lists.{AllByRecursion-weaker, Has-append_left, Has-append_right}
use Rattle.agg_request_tree.proofs.PageKeys.{AllPairs-from_sorted, Lowest, among_or_not}
use Rattle.agg_request_tree.proofs.PageKeys.{sorted_append}
use Rattle.agg_request_tree.proofs.PagePast.{is_past-above, is_past-whole, past-parts, past-whole}
use Rattle.agg_request_tree.proofs.PageTuples.{occurring-canonical}
use Rattle.agg_request_tree.proofs.PageUnique.{Lowest-from_page}
use Rattle.agg_request_tree.proofs.PageWalk.{all_below, at_last, less-from_is_lt}
use Rattle.agg_values.specs.Tuple.{KeyTuple}

-- the entries of the pages of a walk
abbrev pub entries_of : List Step → List Entry
entries_of steps = flat_map (λ s. s.page) steps

module _ (sources : Sources) where
  -- the order of the tuples
  abbrev order_here : KeyTuple → KeyTuple → Ordering
  order_here = tuple_order (rules_of sources)

  -- a canonical tuple past a bound
  abbrev LiesPast : KeyTuple → KeyTuple → Type 0
  LiesPast bound tuple = IsCanonicalTuple (rules_of sources) tuple
      × (is_past (rules_of sources) bound tuple ≡ true)

  -- a tuple that a page may list is canonical, and lies past the bound
  LiesPast-from_may : (bound : KeyTuple) (documents : List Fields) (tuple : KeyTuple)
      → MayList sources bound documents tuple → LiesPast bound tuple
  LiesPast-from_may bound documents tuple may =
      let parts = past-parts sources bound documents tuple may in
      (occurring-canonical sources documents tuple parts.0, parts.1)

  -- past a canonical tuple lies what is above it
  past_whole : (last tuple : KeyTuple) → IsCanonicalTuple (rules_of sources) last
      → IsCanonicalTuple (rules_of sources) tuple
      → is_past (rules_of sources) last tuple ≡ is_lt (order_here last tuple)
  past_whole last tuple in_last in_tuple = is_past-whole (rules_of sources) last tuple in_last.0
      in_tuple.0

  -- tuples past a bound ascend, and after them others that ascend past the last of them
  ascend_on : (bound : KeyTuple) (page : List Entry) (rest : List KeyTuple)
      → IsStrictlySortedBy order_here (map (λ e. e.tuple) page)
      → AllByRecursion (LiesPast bound) (map (λ e. e.tuple) page)
      → IsStrictlySortedBy order_here rest → AllByRecursion (LiesPast (last_tuple bound page)) rest
      → IsStrictlySortedBy order_here (map (λ e. e.tuple) page ++ rest)
      × AllByRecursion (LiesPast bound) (map (λ e. e.tuple) page ++ rest)
  ascend_on bound [] rest up past up_rest past_rest = (up_rest, past_rest)
  ascend_on bound (entry ∷ entries) rest up past up_rest past_rest = (
    sorted_append order_here (tuple_order-total (rules_of sources)) (map (λ e. e.tuple) (entry
        ∷ entries)) rest up up_rest
        (λ t u h_t h_u.
        AllByRecursion-Has (λ l. order_here l u ≡ Less) (map (λ e. e.tuple) (entry ∷ entries)) t
        (all_below sources entry entries up u (above u (AllByRecursion-Has (LiesPast last) rest
        u past_rest h_u))) h_t),
    AllByRecursion-append (LiesPast bound) (map (λ e. e.tuple) (entry ∷ entries)) rest past
        (AllByRecursion-weaker (LiesPast last) (LiesPast bound) (λ u past_u.
        (past_u.0, is_past-above (rules_of sources) bound last u listed.1 (above u past_u)))
        rest past_rest),
  )
    where
      last : KeyTuple
      last = last_tuple entry.tuple entries

      listed : LiesPast bound last
      listed = at_last (LiesPast bound) entry entries past

      above : (tuple : KeyTuple) → LiesPast last tuple → order_here last tuple ≡ Less
      above tuple past_tuple = less-from_is_lt (order_here last tuple)
          (sym (past_whole last tuple listed.0 past_tuple.0) ∙ past_tuple.1)

  -- what a walk lists ascends, past the bound
  ascends : (bound : KeyTuple) (steps : List Step) → AreSuccessive sources bound steps
      → IsStrictlySortedBy order_here (map (λ e. e.tuple) (entries_of steps))
      × AllByRecursion (LiesPast bound) (map (λ e. e.tuple) (entries_of steps))
  unfolding IsStrictlySortedBy
  ascends bound [] walk = (tt, tt)
  ascends bound (step ∷ steps) walk =
      let low = Lowest-from_page sources step.size bound step.documents step.page walk.0 in
      let past = AllByRecursion-weaker (MayList sources bound step.documents) (LiesPast bound)
      (LiesPast-from_may bound step.documents) (map (λ e. e.tuple) step.page) low.listed in
      let rest = ascends (last_tuple bound step.page) steps walk.1 in
      subst (λ ts. IsStrictlySortedBy order_here ts × AllByRecursion (LiesPast bound) ts)
      (sym (map-append (λ (e : Entry). e.tuple) step.page (entries_of steps)))
      (ascend_on bound step.page (map (λ e. e.tuple) (entries_of steps)) low.ascending past rest.0
      rest.1)

  -- what a walk lists ascends
  pub walk_ascends : (bound : KeyTuple) (steps : List Step) → AreSuccessive sources bound steps
      → IsStrictlySortedBy (tuple_order (rules_of sources)) (map (λ e. e.tuple) (entries_of steps))
  walk_ascends bound steps walk = (ascends bound steps walk).0

  -- a walk lists no tuple twice
  pub walk_distinct : (bound : KeyTuple) (steps : List Step) → AreSuccessive sources bound steps
      → AllPairs (λ e f. e.tuple ≢ f.tuple) (entries_of steps)
  walk_distinct bound steps walk = AllPairs-from_sorted (tuple_order (rules_of sources))
      (tuple_order-total (rules_of sources)) (λ e. e.tuple) (entries_of steps)
      (walk_ascends bound steps walk)

  -- what lies past the bound and above all of a page lies past its last tuple
  past_last : (bound : KeyTuple) (page : List Entry) (tuple : KeyTuple)
      → AllByRecursion (IsCanonicalTuple (rules_of sources)) (map (λ e. e.tuple) page)
      → AllByRecursion (λ t. order_here t tuple ≡ Less) (map (λ e. e.tuple) page)
      → LiesPast bound tuple
      → LiesPast (last_tuple bound page) tuple
  past_last bound [] tuple canonical below past = past
  past_last bound (entry ∷ entries) tuple canonical below past =
      let last = last_tuple entry.tuple entries in (
        past.0,
        past_whole last tuple (at_last (IsCanonicalTuple (rules_of sources)) entry entries
            canonical) past.0 ∙ ap is_lt (at_last (λ t. order_here t tuple ≡ Less) entry entries
            below),
      )

  -- some step's page has room
  abbrev SomeRoom : List Step → Type 0
  SomeRoom steps = (step : Step) × Has step steps × (length step.page < step.size)

  -- room, but not at the first step
  room_later : (step : Step) (steps : List Step) → length step.page ≡ step.size
      → SomeRoom (step ∷ steps) → SomeRoom steps
  room_later step steps full (s, inl e, room) = absurd (let same = ap (λ (z : Step). length z.page)
      e in let size = ap (λ (z : Step). z.size) e in omega arith)
  room_later step steps full (s, inr h, room) = (s, h, room)

  -- a tuple that every step's documents have is listed, where some page has room
  stays : (bound : KeyTuple) (steps : List Step) → AreSuccessive sources bound steps
      → (tuple : KeyTuple) → LiesPast bound tuple
      → AllByRecursion (λ s. Contains (occurrences_in sources s.documents) tuple) steps
      → SomeRoom steps
      → Has tuple (map (λ e. e.tuple) (entries_of steps))
  stays bound [] walk tuple past there room = absurd room.1
  stays bound (step ∷ steps) walk tuple past there room =
      subst (Has tuple) (sym (map-append (λ (e : Entry). e.tuple) step.page (entries_of steps)))
      (listed_or (among_or_not order_here (tuple_order-total (rules_of sources))
      (IsCanonicalTuple (rules_of sources)) (tuple_order-exact (rules_of sources)) tuple tuples
      past.0 canonical)
      (λ below full. stays (last_tuple bound step.page) steps walk.1 tuple
      (past_last bound step.page tuple canonical below past) there.1 (room_later step steps
      full room)))
    where
      tuples : List KeyTuple
      tuples = map (λ e. e.tuple) step.page

      low : Lowest order_here (MayList sources bound step.documents) step.size tuples
      low = Lowest-from_page sources step.size bound step.documents step.page walk.0

      canonical : AllByRecursion (IsCanonicalTuple (rules_of sources)) tuples
      canonical = AllByRecursion-weaker (MayList sources bound step.documents)
          (IsCanonicalTuple (rules_of sources)) (λ t may. occurring-canonical sources step.documents
          t (past-parts sources bound step.documents t may).0) tuples low.listed

      listed_or : Has tuple tuples ⊎ ¬ (Has tuple tuples)
          → (AllByRecursion (λ t. order_here t tuple ≡ Less) tuples → length step.page ≡ step.size
          → Has tuple (map (λ e. e.tuple) (entries_of steps)))
          → Has tuple (tuples ++ map (λ e. e.tuple) (entries_of steps))
      listed_or (inl h) rest = Has-append_left tuples (map (λ e. e.tuple) (entries_of steps)) tuple
          h
      listed_or (inr out) rest =
          let h = low.complete tuple (past-whole sources bound step.documents tuple there.0
          past.1) out in
          Has-append_right tuples (map (λ e. e.tuple) (entries_of steps)) tuple
          (rest h.0 (sym (length-map step.page (λ e. e.tuple)) ∙ h.1))

  -- a tuple past the bound that every step's documents have is listed, where some page has room
  pub walk_lists : (bound : KeyTuple) (steps : List Step) → AreSuccessive sources bound steps
      → (tuple : KeyTuple)
      → All (λ s. MayList sources bound s.documents tuple) steps
      → Any (λ s. length s.page < s.size) steps
      → Contains (map (λ e. e.tuple) (entries_of steps)) tuple
  walk_lists bound steps walk tuple may room =
      let all = recursion_from_All (λ s. MayList sources bound s.documents tuple) steps may in
      let step : SomeRoom steps = (
        room.1,
        Has-from_Contains steps room.1 (room.0, room.2, room.3),
        room.4,
      ) in
      let past = LiesPast-from_may bound room.1.documents tuple (AllByRecursion-Has (λ s.
      MayList sources bound s.documents tuple) steps room.1 all step.1) in
      Contains-from_Has (map (λ e. e.tuple) (entries_of steps)) tuple
      (stays bound steps walk tuple past (AllByRecursion-weaker (λ s.
      MayList sources bound s.documents tuple) (λ s.
      Contains (occurrences_in sources s.documents) tuple)
      (λ s m. (past-parts sources bound s.documents tuple m).0) steps all) step)
