-- What the trees match that stand in the place of builders.
use Rattle.std.proofs.Common.{◌≡◌, Bool, Option, None, Some, false, refl, sym, ap, ◌∙◌}
use Rattle.std.specs.Prelude.{unwrap_or}
use Rattle.std.specs.Option.{option_map_or}
use Rattle.agg_segment.specs.storage.Document.{Fields}
use Rattle.agg_segment.specs.Query.{matches, matches_by}
use Rattle.agg_segment.specs.declared.query.QueryTree.{QueryTree}
use Rattle.agg_segment.specs.declared.query.QueryTree.TheFolds.{fold-roll-QueryTree}
use Rattle.agg_segment.specs.declared.query.QueryTree.TheOpen as layer
use Rattle.agg_segment.specs.declared.query.QueryTree.TheVariants as tree
use tree.{Empty}
use Rattle.agg_request_tree.specs.Matching.{built_matches}
use Rattle.agg_request_tree.specs.BuiltRequest.{built_tree}

-- nothing matches the empty query
none-matches : (document : Fields) → false ≡ matches Empty document
none-matches document =
    sym (ap (λ query. matches query document) (sym tree.rolls-Empty)
    ∙ ap (λ (is : Fields → Bool). is document)
    (fold-roll-QueryTree (Fields → Bool) matches_by layer.Empty))

-- what a builder's query matches is what the tree matches that stands in its place
pub tree-matches : {B : Type 0} (query_for : B → Option QueryTree) (builder : B)
    (document : Fields)
    → built_matches query_for builder document ≡ matches (built_tree query_for builder) document
tree-matches query_for builder document = by (query_for builder)
  where
    by : (o : Option QueryTree)
        → option_map_or (λ tree. matches tree document) o false
        ≡ matches (unwrap_or o Empty) document
    by None = none-matches document
    by (Some tree) = refl
