-- Groups that stand for documents: those of a page, and their fronts.
use Rattle.std.proofs.Common.{◌≡◌, ℕ, ◌<◌, ◌≤◌, IsTrue, List, [], take}
use Rattle.std.proofs.Common.{drop, map, get_or, sym, subst, arith, Less}
use Rattle.std.specs.List.{All, Contains}
use Rattle.std.proofs.lemmas.List.{take-take, take_all}
use Rattle.std.proofs.lemmas.List.Elements.{All-take, All-weaker}
use Rattle.agg_values.specs.KeyOrder.{tuple_order}
use Rattle.agg_values.specs.Tuple.{KeyTuple}
use Rattle.agg_segment.specs.storage.Document.{Fields}
use Rattle.agg_request_tree.specs.Groups.{Group, Groups}
use Rattle.agg_request_tree.specs.Occurrences.{is_past, occurrences_in, past_occurrences}
use Rattle.agg_request_tree.specs.Page.{Entry, IsPage, count_in, entry_of, group_of}
use Rattle.agg_request_tree.specs.Source.{Sources, rules_of}
use Rattle.agg_request_tree.proofs.Lists.{All-from_map, Contains-from_filter}
use Rattle.agg_request_tree.proofs.PageFromGroups.{Groups-nothing, IsPage-from_groups}
use Rattle.agg_request_tree.proofs.PageFromGroups.{count_by-past}
use Rattle.agg_results.specs.StandsFor.{GroupsStandFor}
use Rattle.agg_results.proofs.Counts.{Ascend-take}
use Rattle.agg_results.proofs.LowestGroups.{Groups-past, groups-page}
use Rattle.agg_results.proofs.Fronts.{above-front}

-- a group counts one or more of its tuple's occurrences, but no more than there are
abbrev pub CountsSome : Sources → List Fields → Group → Type 0
CountsSome sources documents g = (0 < g.1) × (g.1 ≤ count_in sources documents g.0)

-- a group has a tuple past the bound
abbrev pub IsPast : Sources → KeyTuple → Group → Type 0
IsPast sources bound g = IsTrue (is_past (rules_of sources) bound g.0)

module _ (sources : Sources) (size : ℕ) (bound : KeyTuple) where
  -- the lowest groups of the occurrences past the bound stand for their documents
  pub stands-lowest : (documents : List Fields) (groups : List Group)
      → Groups (rules_of sources) (past_occurrences sources bound documents) groups
      → GroupsStandFor sources size bound documents (take size groups)
  stands-lowest documents groups are = record {
    ascending = Ascend-take (tuple_order (rules_of sources)) size groups are.ascending;
    page = subst (λ gs. IsPage sources size bound documents (map (entry_of sources documents) gs))
        (sym (take-take size size groups (omega arith)))
        (IsPage-from_groups sources documents size bound groups are);
    past = All-take (IsPast sources bound) size groups past;
    some = All-take (CountsSome sources documents) size groups some;
  }
    where
      past : All (IsPast sources bound) groups
      past =
          All-weaker (λ g. Contains (past_occurrences sources bound documents) g.0)
          (IsPast sources bound) (λ g c. (Contains-from_filter (is_past (rules_of sources) bound)
          (occurrences_in sources documents) g.0 c).1) groups
          (All-from_map (Contains (past_occurrences sources bound documents)) (λ g. g.0) groups
          are.occurring)

      some : All (CountsSome sources documents) groups
      some k d within =
          let exact = are.counted k d within in
          let first = exact.0 in
          let is = exact.1 in
          let same = count_by-past (rules_of sources) bound (get_or groups k d).0
          (occurrences_in sources documents) (past k d within) in
          (first, omega arith)

  -- the groups of a page stand for its documents
  pub stands-page : (documents : List Fields) (page : List Entry)
      → IsPage sources size bound documents page
      → GroupsStandFor sources size bound documents (map group_of page)
  stands-page documents page is =
      subst (GroupsStandFor sources size bound documents)
      (sym (groups-page sources size bound documents page is))
      (stands-lowest documents _ (Groups-past sources size bound documents))

  -- no groups stand for no documents
  pub stands-nothing : GroupsStandFor sources size bound [] []
  stands-nothing =
      subst (GroupsStandFor sources size bound []) (take_all size [] (omega arith))
      (stands-lowest [] [] (Groups-nothing (rules_of sources)))

  -- the front of groups that stand for documents
  pub stands-front : (documents : List Fields) (groups : List Group)
      → GroupsStandFor sources size bound documents groups
      → GroupsStandFor sources size bound documents (take size groups)
  stands-front documents groups stand = record {
    ascending = Ascend-take (tuple_order (rules_of sources)) size groups stand.ascending;
    page = subst (λ gs. IsPage sources size bound documents (map (entry_of sources documents) gs))
        (sym (take-take size size groups (omega arith))) stand.page;
    past = All-take (IsPast sources bound) size groups stand.past;
    some = All-take (CountsSome sources documents) size groups stand.some;
  }

  -- ---- what follows

  -- what comes after the page is above it
  pub above-page : (documents : List Fields) (groups : List Group)
      → GroupsStandFor sources size bound documents groups
      → All (λ g. All (λ p. tuple_order (rules_of sources) p.0 g.0 ≡ Less) (take size groups))
      (drop size groups)
  above-page documents groups stand = above-front (tuple_order (rules_of sources)) size groups
      stand.ascending
