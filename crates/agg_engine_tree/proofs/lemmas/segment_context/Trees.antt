-- The trees of the filters of a request, which are kept one by one.
use Rattle.std.proofs.Common.{◌≡◌, ◌<◌, ◌≤◌, ◌+◌, ℕ, List, [], ◌∷◌, ◌++◌, Option, None, Result, Ok}
use Rattle.std.proofs.Common.{Err, IsErrOf, IsSome, ap, get_or, length, map, refl, sym, subst, ◌∙◌}
use Rattle.std.proofs.Common.{take, arith, append-nil}
use Rattle.std.specs.Borrow.{Bor}
use Rattle.std.specs.List.{All, Any, Contains, flat_map}
use Rattle.std.specs.Result.{IsErrAnd}
use Rattle.std.proofs.lemmas.List.{get_or-map, length-map, map-append, take_all, take_more}
use Rattle.std.proofs.lemmas.List.Elements.{All-append}
use Rattle.std.proofs.lemmas.List.Concat.{flat_map-append, flat_map_single}
use Rattle.agg_segment.specs.declared.query.QueryTree.{QueryTree}
use Rattle.agg_request_tree.specs.Request.{Request, builders_of, own_builder, query_builder}
use Rattle.agg_request_tree.specs.Request.{with_own_builder, with_query_builder}
use Rattle.agg_request_tree.specs.declared.aggregation.AggregationVariants as variants
use variants.{AggregationVariants}
use variants.TheVariants.{Filter, Composite, Count, Max, Min, Sum}
use Rattle.agg_request_tree.specs.declared.aggregation.filter.FilterQuery.{FilterQuery}
use Rattle.agg_request_tree.specs.declared.aggregation.filter.FilterQuery.TheVariants as by
use by.{CustomBuilder}
use Rattle.agg_request_tree.specs.declared.builder.QueryBuildError.{QueryBuildError}
use Rattle.agg_request_tree.specs.declared.builder.QueryBuildError.TheVariants as build
use Rattle.agg_request_tree.proofs.Lists.{Contains-from_Has, Has, Has-flat_map}
use Rattle.agg_request_tree.proofs.Lists.{Has-from_Contains}
use Rattle.agg_engine_tree.specs.segment_context.Context.{tree_in}
use Rattle.agg_engine_tree.specs.segment_context.SetupError.{error_from_builder}
use Rattle.agg_engine_tree.specs.declared.segment_context.error.SetupError.{SetupError}
use Rattle.agg_engine_tree.specs.declared.segment_context.error.SetupError.TheVariants.{QueryBuild}
use Rattle.agg_engine_tree.specs.segment_context.Trees.{own_query, own_tree, queries_of}
use Rattle.agg_request_tree.specs.BuiltRequest.{EachMakesTree, SomeMakesNone, built, built_tree}
use Rattle.agg_engine_tree.specs.segment_context.Trees.{trees_of}
use Rattle.agg_engine_tree.proofs.lemmas.segment_context.Built.{listed-built}
use Rattle.agg_engine_tree.proofs.lemmas.segment_context.Listed.{listed-flat}

-- a builder that gives no tree is refused as such
pub none-refused : {T B : Type 0} (query_for : B → Option QueryTree) (query : FilterQuery B)
    (builder : B) (given : QueryBuildError) (result : Result T SetupError)
    → query ≡ CustomBuilder builder → (IsErrOf {T = QueryTree} (Err given) build.NoTree
    → query_for builder ≡ None) → IsErrAnd result (λ e. e ≡ error_from_builder given)
    → IsErrOf result QueryBuild → Any (λ b. query_for b ≡ None) (query_builder query)
none-refused query_for query builder given (Ok x) is none from e = absurd from
none-refused {B = B} query_for query builder build.NoTree (Err error) is none from e =
    subst (λ (q : FilterQuery B). Any (λ b. query_for b ≡ None) (query_builder q)) (sym is)
    (0, builder, omega arith, refl, none refl)
none-refused query_for query builder build.OutOfMemory (Err error) is none from e = absurd (cc)

module _ {B : Type 0} (query_for : B → Option QueryTree) where
  -- the tree of a query
  abbrev pub kept_tree : FilterQuery B → QueryTree
  kept_tree query = tree_in (with_query_builder (built_tree query_for) query)

  -- each builder among queries makes a tree
  abbrev pub EachMakes : List (FilterQuery B) → Type 0
  EachMakes queries = All (λ b. IsSome (query_for b)) (flat_map query_builder queries)

  -- the trees of queries, each of whose builders makes one
  pub record AreKept (queries : List (FilterQuery B)) (trees : List QueryTree) : Type 0 where
    pub kept : trees ≡ map kept_tree queries
    pub each : EachMakes queries

  -- one more
  pub AreKept-more : (queries : List (FilterQuery B)) (i : ℕ) (query : FilterQuery B)
      (trees more : List QueryTree) (tree : QueryTree) → AreKept (take i queries) trees
      → i < length queries → query ≡ get_or queries i query → tree ≡ kept_tree query
      → All (λ b. IsSome (query_for b)) (query_builder query) → more ≡ trees ++ tree ∷ []
      → AreKept (take (i + 1) queries) more
  AreKept-more queries i query trees more tree kept within at is makes pushed =
      subst (λ (qs : List (FilterQuery B)). AreKept qs more)
      (sym (take_more queries i query within
      ∙ ap (λ (q : FilterQuery B). take i queries ++ q ∷ []) (sym at)))
      (record {
        kept = pushed ∙ (λ j. kept.kept j ++ is j ∷ [])
            ∙ sym (map-append kept_tree (take i queries) (query ∷ []));
        each = subst (λ (bs : List B). All (λ b. IsSome (query_for b)) bs)
            (ap (λ (bs : List B). flat_map query_builder (take i queries) ++ bs)
            (sym (append-nil (query_builder query)))
            ∙ sym (flat_map-append query_builder (take i queries) (query ∷ [])))
            (All-append (λ (b : B). IsSome (query_for b)) (flat_map query_builder (take i queries))
            (query_builder query) kept.each makes);
      })

  tree-kept : (agg : AggregationVariants B)
      → own_tree (with_own_builder (built_tree query_for) agg)
      ≡ flat_map (λ q. kept_tree q ∷ []) (own_query agg)
  tree-kept (Filter filter) = refl
  tree-kept (Composite composite) = refl
  tree-kept (Count metric) = refl
  tree-kept (Max metric) = refl
  tree-kept (Min metric) = refl
  tree-kept (Sum metric) = refl

  builder-asked : (agg : AggregationVariants B)
      → own_builder agg ≡ flat_map query_builder (own_query agg)
  builder-asked (Filter filter) = sym (append-nil (query_builder filter.query))
  builder-asked (Composite composite) = refl
  builder-asked (Count metric) = refl
  builder-asked (Max metric) = refl
  builder-asked (Min metric) = refl
  builder-asked (Sum metric) = refl

  -- the trees of a request are those of its queries
  pub trees-kept : (request : Request B)
      → trees_of (built query_for request) ≡ map kept_tree (queries_of request)
  trees-kept request =
      listed-built (built_tree query_for) own_tree request
      ∙ listed-flat own_query (λ agg. own_tree (with_own_builder (built_tree query_for) agg))
      (λ q. kept_tree q ∷ []) tree-kept request
      ∙ flat_map_single kept_tree (queries_of request)

  -- its builders are those of its queries
  pub builders-asked : (request : Request B)
      → builders_of request ≡ flat_map query_builder (queries_of request)
  builders-asked request = listed-flat own_query own_builder query_builder builder-asked request

  -- where each builder of the queries makes a tree, so does each of the request
  pub each-makes : (request : Request B) (queries : List (FilterQuery B))
      → queries ≡ queries_of request → EachMakes queries → EachMakesTree query_for request
  each-makes request queries e makes =
      subst (λ (bs : List B). All (λ b. IsSome (query_for b)) bs)
      (ap (λ (qs : List (FilterQuery B)). flat_map query_builder qs) e
      ∙ sym (builders-asked request)) makes

  -- where some query has a builder that makes none, so has the request
  pub some-makes_none : (request : Request B) (queries : List (FilterQuery B)) (i : ℕ)
      (query : FilterQuery B) → queries ≡ queries_of request → i < length queries
      → query ≡ get_or queries i query → Any (λ b. query_for b ≡ None) (query_builder query)
      → SomeMakesNone query_for request
  some-makes_none request queries i query e within at some =
      let builder = some.1 in
      let there : Contains queries query = (i, within, sym at) in
      let own : Contains (query_builder query) builder = (some.0, some.2, some.3) in
      let has = Has-flat_map query_builder queries query builder
      (Has-from_Contains queries query there)
      (Has-from_Contains (query_builder query) builder own) in
      let asked = Contains-from_Has (builders_of request) builder
      (subst (λ (bs : List B). Has builder bs)
      (ap (λ (qs : List (FilterQuery B)). flat_map query_builder qs) e
      ∙ sym (builders-asked request)) has) in
      (asked.0, builder, asked.1, asked.2, some.4)

  -- ---- of references to the queries of a request

  module _ (items : List (Bor (FilterQuery B))) (request : Request B)
      (asked : map (λ q. q.now) items ≡ queries_of request) where
    -- the queries
    abbrev asked_queries : List (FilterQuery B)
    asked_queries = map (λ q. q.now) items

    at_item : (i : ℕ) (item : Bor (FilterQuery B)) → i < length items → item ≡ get_or items i item
        → item.now ≡ get_or asked_queries i item.now
    at_item i item within is =
        ap (λ (q : Bor (FilterQuery B)). q.now) is
        ∙ sym (get_or-map (λ q. q.now) items i item item.now within)

    -- one more
    pub kept-more : (i : ℕ) (item : Bor (FilterQuery B)) (trees more : List QueryTree)
        (tree : QueryTree) → AreKept (take i (map (λ q. q.now) items)) trees → i < length items
        → item ≡ get_or items i item → tree ≡ kept_tree item.now
        → All (λ b. IsSome (query_for b)) (query_builder item.now) → more ≡ trees ++ tree ∷ []
        → AreKept (take (i + 1) (map (λ q. q.now) items)) more
    kept-more i item trees more tree kept within is own makes pushed =
        AreKept-more asked_queries i item.now trees more tree kept
        (simp length-map (omega arith)) (at_item i item within is) own makes pushed

    all_kept : (i : ℕ) (trees : List QueryTree) → AreKept (take i (map (λ q. q.now) items)) trees
        → length items ≤ i → AreKept asked_queries trees
    all_kept i trees kept whole =
        subst (λ (qs : List (FilterQuery B)). AreKept qs trees)
        (take_all i asked_queries (simp length-map (omega arith))) kept

    -- all of them
    pub kept-all : (i : ℕ) (trees : List QueryTree)
        → AreKept (take i (map (λ q. q.now) items)) trees → length items ≤ i
        → trees ≡ trees_of (built query_for request)
    kept-all i trees kept whole =
        (all_kept i trees kept whole).kept
        ∙ ap (λ (qs : List (FilterQuery B)). map kept_tree qs) asked ∙ sym (trees-kept request)

    pub makes-all : (i : ℕ) (trees : List QueryTree)
        → AreKept (take i (map (λ q. q.now) items)) trees → length items ≤ i
        → EachMakesTree query_for request
    makes-all i trees kept whole =
        each-makes request asked_queries asked (all_kept i trees kept whole).each

    -- one of them is refused
    pub none-among : {T : Type 0} (i : ℕ) (item : Bor (FilterQuery B)) (given : SetupError)
        (result : Result T SetupError) → i < length items → item ≡ get_or items i item
        → (IsErrOf {T = QueryTree} (Err given) QueryBuild
        → Any (λ b. query_for b ≡ None) (query_builder item.now))
        → IsErrAnd result (λ e. e ≡ given) → IsErrOf result QueryBuild
        → SomeMakesNone query_for request
    none-among i item given (Ok x) within is none from e = absurd from
    none-among i item given (Err error) within is none from e =
        let refused : given ≡ QueryBuild = cc in
        some-makes_none request asked_queries i item.now asked (simp length-map (omega arith))
        (at_item i item within is) (none (ap (λ e. Err e) refused))
