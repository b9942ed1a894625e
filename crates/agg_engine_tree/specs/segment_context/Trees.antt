-- The trees of the filters of a request, of which some were made by builders.
use Rattle.std.specs.Prelude.{◌≡◌, List, [], ◌∷◌}
use Rattle.agg_segment.specs.declared.query.QueryTree.{QueryTree}
use Rattle.agg_request_tree.specs.Request.{Request, listed_of, with_builders}
use Rattle.agg_request_tree.specs.declared.aggregation.AggregationVariants.{AggregationVariants}
use Rattle.agg_request_tree.specs.declared.aggregation.AggregationVariants.TheVariants.{Filter}
use Rattle.agg_request_tree.specs.declared.aggregation.filter.FilterQuery.{FilterQuery}
use Rattle.agg_engine_tree.specs.segment_context.Context.{tree_in}

-- the tree of the filter that an aggregation is, if it is one
abbrev pub own_tree : AggregationVariants QueryTree → List QueryTree
own_tree (Filter filter) = tree_in filter.query ∷ []
own_tree _ = []

-- the query of the filter that an aggregation is, if it is one
abbrev pub own_query : {B : Type 0} → AggregationVariants B → List (FilterQuery B)
own_query (Filter filter) = filter.query ∷ []
own_query _ = []

-- the queries of the filters of a request, at any depth
abbrev pub queries_of : {B : Type 0} → Request B → List (FilterQuery B)
queries_of = listed_of own_query

-- the trees of the filters of a request, at any depth
abbrev pub trees_of : Request QueryTree → List QueryTree
trees_of = listed_of own_tree

-- trees are those of the filters of a request, in order: its own, and those that its builders made
abbrev pub AreTreesOf : {B : Type 0} → (B → QueryTree) → Request B → List QueryTree → Type 0
AreTreesOf made request trees = trees ≡ trees_of (with_builders made request)

-- trees are those of a request, whatever its builders made
abbrev pub AreOfRequest : {B : Type 0} → Request B → List QueryTree → Type 0
AreOfRequest {B = B} request trees = (made : B → QueryTree) × AreTreesOf made request trees
