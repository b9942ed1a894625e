-- What the nodes of a request list of documents with the same keys by class.
use Rattle.std.proofs.Common.{◌≡◌, ◌∙◌, ap, sym, subst, arith, ℕ, zero, suc, ◌≤◌}
use Rattle.std.proofs.Common.{List, [], ◌∷◌, Bool, true, false, cond, Option, length, map}
use Rattle.std.specs.List.{AllZip, filter, filter_map}
use Rattle.std.specs.Option.{option_map_or}
use Rattle.std.proofs.lemmas.List.Sorted.{length_permutation}
use Rattle.agg_segment.specs.storage.Document.{Fields}
use Rattle.agg_segment.specs.Query.{matches}
use Rattle.agg_segment.specs.declared.query.QueryTree.{QueryTree}
use Rattle.agg_segment.proofs.ByClass.{matches-by_class}
use Rattle.agg_request_tree.specs.Alike.{AreAlikeByClass, AreAllAlikeByClass, MatchAlike}
use Rattle.agg_request_tree.specs.Matching.{built_matches, filter_matches}
use Rattle.agg_request_tree.specs.Metrics.{number_of}
use Rattle.agg_request_tree.specs.Occurrences.{occurrences}
use Rattle.agg_request_tree.specs.Request.{Request, agg_of, below_of}
use Rattle.agg_request_tree.specs.Uncut.{once_each, uncut, uncut_lists, uncut_lists_of}
use Rattle.agg_request_tree.specs.declared.aggregation.Aggregation.{Aggregation}
use Rattle.agg_request_tree.specs.declared.aggregation.AggregationVariants as variants
use variants.{AggregationVariants}
use variants.TheVariants.{Filter, Composite, Count, Max, Min, Sum}
use Rattle.agg_request_tree.specs.declared.aggregation.filter.FilterQuery.{FilterQuery}
use Rattle.agg_request_tree.specs.declared.aggregation.filter.FilterQuery.TheVariants as by
use by.{Tree, CustomBuilder}
use Rattle.agg_request_tree.proofs.AlikeOccurrences.{keys-reordering, occurrences-reordering}
use Rattle.agg_request_tree.proofs.PairedLists.{AllZip-append, AllZip-flat_map}
use Rattle.agg_request_tree.proofs.RequestTrees.{height, height-out, levels}
use Rattle.agg_request_tree.proofs.Reorderings.{IsPermutation-from_reordering, IsReordering}
use Rattle.agg_request_tree.proofs.Reorderings.{IsReordering-filter_map}
use Rattle.agg_request_tree.proofs.UncutLists.{uncut_lists-out}

-- ---- filters

-- a query matches them alike
pub matches-alike : (tree : QueryTree) (document other : Fields) → AreAlikeByClass document other
    → matches tree document ≡ matches tree other
matches-alike tree document other alike =
    sym (matches-by_class tree document)
    ∙ ap (matches tree) (λ i field. alike field i)
    ∙ matches-by_class tree other

-- the query that a builder makes matches them alike
pub built_matches-alike : {B : Type 0} (tree_for : B → Option QueryTree)
    → MatchAlike (built_matches tree_for)
built_matches-alike tree_for builder document other alike =
    ap (λ is. option_map_or is (tree_for builder) false)
    (λ i tree. matches-alike tree document other alike i)

-- what tests keep that tell the same of those
filtered-alike : (test : Fields → Bool)
    → ((document other : Fields) → AreAlikeByClass document other → test document ≡ test other)
    → (documents others : List Fields) → AreAllAlikeByClass documents others
    → AreAllAlikeByClass (filter test documents) (filter test others)
filtered-alike test tells [] [] alike = tt
filtered-alike test tells [] (e ∷ others) alike = absurd alike
filtered-alike test tells (d ∷ documents) [] alike = absurd alike
filtered-alike test tells (d ∷ documents) (e ∷ others) alike =
    subst (λ kept. AreAllAlikeByClass (filter test (d ∷ documents))
    (cond kept (e ∷ filter test others) (filter test others))) (tells d e alike.0)
    (kept_alike (test d) (filtered-alike test tells documents others alike.1))
  where
    kept_alike : (kept : Bool) → AreAllAlikeByClass (filter test documents) (filter test others)
        → AreAllAlikeByClass (cond kept (d ∷ filter test documents) (filter test documents))
        (cond kept (e ∷ filter test others) (filter test others))
    kept_alike true rest = (alike.0, rest)
    kept_alike false rest = rest

-- ---- lists with repeats

-- a document for each element of a list, and another for each of a list as long
repeated-alike : {X : Type 0} (document other : Fields) → AreAlikeByClass document other
    → (xs ys : List X) → length ys ≡ length xs
    → AreAllAlikeByClass (map (λ x. document) xs) (map (λ y. other) ys)
repeated-alike document other alike [] [] long = tt
repeated-alike document other alike [] (y ∷ ys) long = absurd (cc)
repeated-alike document other alike (x ∷ xs) [] long = absurd (cc)
repeated-alike document other alike (x ∷ xs) (y ∷ ys) long =
    (alike, repeated-alike document other alike xs ys (cc))

-- each document once for each element, of which they give the same in another order
once_each-alike : {X : Type 0} (elements : Fields → List X)
    → ((document other : Fields) → AreAlikeByClass document other
    → IsReordering (elements document) (elements other))
    → (documents others : List Fields) → AreAllAlikeByClass documents others
    → AreAllAlikeByClass (once_each elements documents) (once_each elements others)
once_each-alike elements reordered =
    AllZip-flat_map AreAlikeByClass AreAlikeByClass
    (λ d. map (λ x. d) (elements d)) (λ d. map (λ x. d) (elements d))
    (λ d e alike.
    repeated-alike d e alike (elements d) (elements e)
    (length_permutation (elements d) (elements e)
    (IsPermutation-from_reordering (reordered d e alike))))

-- the values of a field
values-alike : (field : List ℕ) (document other : Fields) → AreAlikeByClass document other
    → IsReordering (document field) (other field)
values-alike field document other alike =
    keys-reordering (document field) (other field) (alike field)

-- the numbers of a field
numbers-alike : (field : List ℕ) (document other : Fields) → AreAlikeByClass document other
    → IsReordering (filter_map number_of (document field)) (filter_map number_of (other field))
numbers-alike field document other alike =
    IsReordering-filter_map number_of (values-alike field document other alike)

metrics-alike : (field : List ℕ) (documents others : List Fields)
    → AreAllAlikeByClass documents others
    → AreAllAlikeByClass (once_each (λ d. filter_map number_of (d field)) documents)
    (once_each (λ d. filter_map number_of (d field)) others)
metrics-alike field =
    once_each-alike (λ d. filter_map number_of (d field)) (numbers-alike field)

-- ---- nodes

module _ {B : Type 0} (is_match : B → Fields → Bool) (told : MatchAlike is_match) where
  -- a filter's query tells the same of them
  query-alike : (query : FilterQuery B) (document other : Fields)
      → AreAlikeByClass document other
      → filter_matches is_match query document ≡ filter_matches is_match query other
  query-alike (Tree tree) = matches-alike tree
  query-alike (CustomBuilder builder) = told builder

  -- what an aggregation lists
  pub uncut-alike : (aggregation : AggregationVariants B) (documents others : List Fields)
      → AreAllAlikeByClass documents others
      → AreAllAlikeByClass (uncut is_match aggregation documents)
      (uncut is_match aggregation others)
  uncut-alike (Filter filter) =
      filtered-alike (filter_matches is_match filter.query) (query-alike filter.query)
  uncut-alike (Composite composite) =
      once_each-alike (occurrences composite.sources)
      (λ d e alike. occurrences-reordering d e alike composite.sources)
  uncut-alike (Count metric) = once_each-alike (λ d. d metric.field) (values-alike metric.field)
  uncut-alike (Max metric) = metrics-alike metric.field
  uncut-alike (Min metric) = metrics-alike metric.field
  uncut-alike (Sum metric) = metrics-alike metric.field

  -- the lists of an aggregation and of those below it
  abbrev ListsAlike : Aggregation B → Type 0
  ListsAlike a =
      (documents others : List Fields) → AreAllAlikeByClass documents others
      → AllZip AreAllAlikeByClass (uncut_lists is_match a documents)
      (uncut_lists is_match a others)

  -- the lists of a request whose aggregations have no more levels than a number
  below-alike : (n : ℕ) → ((a : Aggregation B) → height a ≤ n → ListsAlike a)
      → (request : Request B) → levels request ≤ n
      → (documents others : List Fields) → AreAllAlikeByClass documents others
      → AllZip AreAllAlikeByClass (uncut_lists_of is_match request documents)
      (uncut_lists_of is_match request others)
  below-alike n each [] low documents others alike = tt
  below-alike n each (a ∷ request) low documents others alike =
      AllZip-append AreAllAlikeByClass
      (uncut_lists is_match a.1 documents) (uncut_lists_of is_match request documents)
      (uncut_lists is_match a.1 others) (uncut_lists_of is_match request others)
      (each a.1 (omega arith) documents others alike)
      (below-alike n each request (omega arith) documents others alike)

  node-alike : (n : ℕ) (a : Aggregation B) → height a ≤ n → ListsAlike a
  node-alike zero a low documents others alike = absurd (omega (arith, height-out a))
  node-alike (suc n) a low documents others alike =
      let own = uncut-alike (agg_of a) documents others alike in
      let below = below-alike n (node-alike n) (below_of a) (omega (arith, height-out a))
      (uncut is_match (agg_of a) documents) (uncut is_match (agg_of a) others) own in
      rw (uncut_lists-out is_match a documents, uncut_lists-out is_match a others) (own, below)

  -- the lists of a request
  pub lists-alike : (request : Request B) (documents others : List Fields)
      → AreAllAlikeByClass documents others
      → AllZip AreAllAlikeByClass (uncut_lists_of is_match request documents)
      (uncut_lists_of is_match request others)
  lists-alike request =
      below-alike (levels request) (node-alike (levels request)) request (omega arith)
