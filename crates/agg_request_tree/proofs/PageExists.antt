-- There is a page of each request.
use Rattle.std.proofs.Common.{◌≡◌, ℕ, ◌<◌, List, [], ◌∷◌, take, map, refl, sym, ap, subst, Ordering}
use Rattle.std.specs.List.{All, Contains, count_by}
use Rattle.std.specs.List.Sorted.{IsStrictlySortedBy}
use Rattle.std.specs.Map.{keys_of}
use Rattle.std.proofs.lemmas.List.Elements.{All-map, All-from_recursion, All-filter}
use Rattle.std.proofs.lemmas.List.Elements.{All-contains_itself, All-weaker, recursion_from_All}
use Rattle.agg_values.specs.KeyOrder.{tuple_order, SourceRules}
use Rattle.agg_values.specs.Laws.{IsCanonicalTuple}
use Rattle.agg_values.proofs.TupleOrder.{tuple_order-total, tuple_order-exact}
use Rattle.agg_segment.specs.storage.Document.{Fields}
use Rattle.agg_request_tree.specs.Source.{rules_of, Sources}
use Rattle.agg_request_tree.specs.Occurrences.{occurrences_in, is_past, same_tuple}
use Rattle.agg_request_tree.specs.Occurrences.{past_occurrences}
use Rattle.agg_request_tree.specs.Groups.{Groups, Group}
use Rattle.agg_request_tree.specs.Page.{Entry, IsPage, entry_of}
use Rattle.agg_request_tree.proofs.Lists.{Has-from_Contains, Contains-from_Has}
use Rattle.agg_request_tree.proofs.AscendingKeys.{ascending_keys, ascending_keys-all}
use Rattle.agg_request_tree.proofs.AscendingKeys.{ascending_keys-hold, ascending_keys-sorted}
use Rattle.agg_request_tree.proofs.AscendingKeys.{counts_itself}
use Rattle.agg_request_tree.proofs.PageTuples.{occurrences_in-canonical}
use Rattle.agg_request_tree.proofs.PageFromGroups.{IsPage-from_groups}
use Rattle.agg_values.specs.Tuple.{KeyTuple}

-- the groups of visited tuples: each tuple once, ascending, with the number of its visits
abbrev pub groups_of : SourceRules → List KeyTuple → List Group
groups_of rules visited = map (λ t. (t, count_by (same_tuple rules t) visited))
    (ascending_keys (tuple_order rules) visited)

-- the keys of entries made from keys
keys-made : {K X : Type 0} (f : K → X) (ks : List K) → keys_of (map (λ k. (k, f k)) ks) ≡ ks
keys-made f [] = refl
keys-made f (k ∷ ks) = ap (λ t. k ∷ t) (keys-made f ks)

module _ (rules : SourceRules) (visited : List KeyTuple) where
  -- the tuples of the groups are the ascending ones
  pub keys-groups : keys_of (groups_of rules visited) ≡ ascending_keys (tuple_order rules) visited
  keys-groups = keys-made (λ t. count_by (same_tuple rules t) visited)
      (ascending_keys (tuple_order rules) visited)

  -- each of the ascending tuples was visited
  ascending-visited : All (Contains visited) (ascending_keys (tuple_order rules) visited)
  ascending-visited =
      All-from_recursion (Contains visited) (ascending_keys (tuple_order rules) visited)
      (ascending_keys-all (tuple_order rules) (tuple_order-total rules) (Contains visited) visited
      (recursion_from_All (Contains visited) visited (All-contains_itself visited)))

  -- visited tuples, of canonical keys and one for each rule, have groups
  pub Groups-groups_of : All (IsCanonicalTuple rules) visited
      → Groups rules visited (groups_of rules visited)
  Groups-groups_of canonical = record {
    ascending = subst (IsStrictlySortedBy R) (sym keys-groups) (ascending_keys-sorted R
        (tuple_order-total rules) visited);
    counted = All-map (λ e. (0 < e.1) × (e.1 ≡ count_by (same_tuple rules e.0) visited)) (λ t.
        (t, count_by (same_tuple rules t) visited)) tuples
        (All-weaker (Contains visited) (λ t. (0 < count_by (same_tuple rules t) visited)
        × (count_by (same_tuple rules t) visited ≡ count_by (same_tuple rules t) visited))
        (λ t c. (
          counts_itself R (tuple_order-total rules) t visited (Has-from_Contains visited t
              c),
          refl,
        ))
        tuples ascending-visited);
    occurring = subst (All (Contains visited)) (sym keys-groups) ascending-visited;
    complete = subst (λ ts. All (Contains ts) visited) (sym keys-groups)
        (All-weaker (Contains visited) (Contains tuples)
        (λ t c.
        Contains-from_Has tuples t
        (ascending_keys-hold R (tuple_order-total rules) (IsCanonicalTuple rules)
        (tuple_order-exact rules) visited t (recursion_from_All (IsCanonicalTuple rules) visited
        canonical)
        (Has-from_Contains visited t c)))
        visited (All-contains_itself visited));
  }
    where
      R : KeyTuple → KeyTuple → Ordering
      R = tuple_order rules

      tuples : List KeyTuple
      tuples = ascending_keys (tuple_order rules) visited

-- the past occurrences of all documents have groups
pub Groups-past : (sources : Sources) (bound : KeyTuple) (documents : List Fields)
    → Groups (rules_of sources) (past_occurrences sources bound documents)
    (groups_of (rules_of sources) (past_occurrences sources bound documents))
Groups-past sources bound documents =
    Groups-groups_of (rules_of sources) (past_occurrences sources bound documents)
    (All-filter (is_past (rules_of sources) bound) (IsCanonicalTuple (rules_of sources))
    (occurrences_in sources documents) (occurrences_in-canonical sources documents))

-- the lowest of these groups are a page
pub IsPage-past : (sources : Sources) (size : ℕ) (bound : KeyTuple) (documents : List Fields)
    → IsPage sources size bound documents (map (entry_of sources documents)
    (take size (groups_of (rules_of sources) (past_occurrences sources bound documents))))
IsPage-past sources size bound documents =
    IsPage-from_groups sources documents size bound (groups_of (rules_of sources)
    (past_occurrences sources bound documents)) (Groups-past sources bound documents)

-- there is a page of each size past each bound
pub page_exists : (sources : Sources) (size : ℕ) (bound : KeyTuple) (documents : List Fields)
    → (page : List Entry) × IsPage sources size bound documents page
page_exists sources size bound documents = (
  map (entry_of sources documents) (take size (groups_of (rules_of sources)
      (past_occurrences sources bound documents))),
  IsPage-past sources size bound documents,
)
