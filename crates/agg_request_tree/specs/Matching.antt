-- The documents that a filter matches.
use Rattle.std.specs.Prelude.{Bool, false, List, Option, filter}
use Rattle.std.specs.Option.{option_map_or}
use Rattle.agg_segment.specs.storage.Document.{Fields}
use Rattle.agg_segment.specs.Query.{matches}
use Rattle.agg_segment.specs.declared.query.QueryTree.{QueryTree}
use Rattle.agg_request_tree.specs.declared.aggregation.filter.FilterQuery.{FilterQuery}
use Rattle.agg_request_tree.specs.declared.aggregation.filter.FilterQuery.TheVariants as by
use by.{Tree, CustomBuilder}

module _ {B : Type 0} (is_match : B → Fields → Bool) where
  -- whether a filter's query matches a document, by what its builder matches
  abbrev pub filter_matches : FilterQuery B → Fields → Bool
  filter_matches (Tree tree) document = matches tree document
  filter_matches (CustomBuilder builder) document = is_match builder document

  -- the documents that a filter's query matches
  abbrev pub matching : FilterQuery B → List Fields → List Fields
  matching query documents = filter (filter_matches query) documents

-- whether the query that a builder makes matches a document; where it makes none, nothing matches
abbrev pub built_matches : {B : Type 0} → (B → Option QueryTree) → B → Fields → Bool
built_matches tree_for builder document =
    option_map_or (λ tree. matches tree document) (tree_for builder) false
