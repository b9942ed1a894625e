-- Requests with the trees that their builders make in place of these.
use Rattle.std.specs.Prelude.{◌≡◌, Option, None, All, Any, IsSome, unwrap_or}
use Rattle.agg_segment.specs.declared.query.QueryTree.{QueryTree}
use Rattle.agg_segment.specs.declared.query.QueryTree.TheVariants.{Empty}
use Rattle.agg_request_tree.specs.Request.{Request, builders_of, with_builders}

-- the tree that a builder made, which matches nothing where it made none
abbrev pub built_tree : {B : Type 0} → (B → Option QueryTree) → B → QueryTree
built_tree query_for builder = unwrap_or (query_for builder) Empty

-- the built request: the tree that each builder made stands in its place
abbrev pub built : {B : Type 0} → (B → Option QueryTree) → Request B → Request QueryTree
built query_for request = with_builders (built_tree query_for) request

-- each builder of a request makes a tree
abbrev pub EachMakesTree : {B : Type 0} → (B → Option QueryTree) → Request B → Type 0
EachMakesTree query_for request = All (λ b. IsSome (query_for b)) (builders_of request)

-- some builder of a request makes none
abbrev pub SomeMakesNone : {B : Type 0} → (B → Option QueryTree) → Request B → Type 0
SomeMakesNone query_for request = Any (λ b. query_for b ≡ None) (builders_of request)
