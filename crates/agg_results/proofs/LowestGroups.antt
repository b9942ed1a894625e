-- The lowest counts of the past occurrences of documents are their page.
use Rattle.std.proofs.Common.{◌≡◌, ℕ, List, ◌++◌, filter, take, map, sym, ap, ◌∙◌}
use Rattle.std.proofs.lemmas.List.Concat.{flat_map-append}
use Rattle.std.proofs.lemmas.List.Elements.{All-filter, filter-append}
use Rattle.agg_values.specs.KeyOrder.{tuple_order}
use Rattle.agg_values.specs.Laws.{IsCanonicalTuple}
use Rattle.agg_values.specs.Tuple.{KeyTuple}
use Rattle.agg_segment.specs.storage.Document.{Fields}
use Rattle.agg_request_tree.specs.Groups.{Group, Groups}
use Rattle.agg_request_tree.specs.Occurrences.{is_past, occurrences, occurrences_in}
use Rattle.agg_request_tree.specs.Occurrences.{past_occurrences}
use Rattle.agg_request_tree.specs.Page.{Entry, IsPage, entry_of, group_of}
use Rattle.agg_request_tree.specs.Source.{Sources, rules_of}
use Rattle.agg_request_tree.proofs.PageFromGroups.{IsPage-from_groups, groups-entries}
use Rattle.agg_request_tree.proofs.PageTuples.{occurrences_in-canonical}
use Rattle.agg_request_tree.proofs.PageUnique.{IsPage-same}
use Rattle.agg_results.proofs.CountedKeys.{counted}
use Rattle.agg_results.proofs.CountedGroups.{Groups-counted}

-- the past occurrences of two lists of documents
pub past_occurrences-append : (sources : Sources) (bound : KeyTuple)
    (documents others : List Fields) → past_occurrences sources bound (documents ++ others)
    ≡ past_occurrences sources bound documents ++ past_occurrences sources bound others
past_occurrences-append sources bound documents others =
    ap (filter (is_past (rules_of sources) bound))
    (flat_map-append (occurrences sources) documents others)
    ∙ filter-append (is_past (rules_of sources) bound) (occurrences_in sources documents)
    (occurrences_in sources others)

module _ (sources : Sources) (size : ℕ) (bound : KeyTuple) (documents : List Fields) where
  -- the lowest counts of the past occurrences
  abbrev pub lowest_groups : List Group
  lowest_groups =
      take size
      (counted (tuple_order (rules_of sources)) (past_occurrences sources bound documents))

  -- the counts of the past occurrences are their groups
  pub Groups-past : Groups (rules_of sources) (past_occurrences sources bound documents)
      (counted (tuple_order (rules_of sources)) (past_occurrences sources bound documents))
  Groups-past =
      Groups-counted (rules_of sources) (past_occurrences sources bound documents)
      (All-filter (is_past (rules_of sources) bound) (IsCanonicalTuple (rules_of sources))
      (occurrences_in sources documents) (occurrences_in-canonical sources documents))

  -- the lowest of them are a page
  pub IsPage-lowest : IsPage sources size bound documents
      (map (entry_of sources documents) lowest_groups)
  IsPage-lowest =
      IsPage-from_groups sources documents size bound
      (counted (tuple_order (rules_of sources)) (past_occurrences sources bound documents))
      Groups-past

  -- the groups of a page are the lowest counts
  pub groups-page : (page : List Entry) → IsPage sources size bound documents page
      → map group_of page ≡ lowest_groups
  groups-page page is =
      ap (map group_of) (IsPage-same sources size bound documents page _ is IsPage-lowest)
      ∙ groups-entries sources documents lowest_groups

  -- groups whose entries are a page are the lowest counts
  pub lowest-page : (groups : List Group)
      → IsPage sources size bound documents (map (entry_of sources documents) groups)
      → groups ≡ lowest_groups
  lowest-page groups is =
      sym (groups-entries sources documents groups)
      ∙ groups-page (map (entry_of sources documents) groups) is
