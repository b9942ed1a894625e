-- The merged results of a request over documents, and what follows of those under the trees that
-- its builders made.
use Rattle.std.proofs.Common.{◌≡◌, List, Bool, sym, subst}
use Rattle.std.specs.List.{Any}
use Rattle.agg_segment.specs.storage.Document.{Fields}
use Rattle.agg_segment.specs.Query.{matches}
use Rattle.agg_segment.specs.declared.query.QueryTree.{QueryTree}
use Rattle.agg_request_tree.specs.Ranges.{HasOwnStartOutOfRange, HasStartOutOfRange}
use Rattle.agg_request_tree.specs.Request.{Request, with_builders}
use Rattle.agg_request_tree.specs.Uncut.{CountsTooMany}
use Rattle.agg_results.specs.intermediate_results.Intermediate.{Held}
use Rattle.agg_results.specs.StandsFor.{StandsFor}
use Rattle.agg_engine.proofs.lemmas.collectors.BuiltLists.{lists-built}
use Rattle.agg_engine.proofs.lemmas.collectors.BuiltRequests.{stands-built}
use Rattle.agg_engine.proofs.BuiltCounts.{composites-built}

-- merged results stand for documents, whose starts are in range and of which few are counted
pub record IsMergedOf {B : Type 0} (is_match : B → Fields → Bool) (request : Request B)
    (documents : List Fields) (merged : Held) : Type 0 where
  pub stands : StandsFor is_match request documents merged
  pub range : ¬ (HasStartOutOfRange request documents)
  pub few : ¬ (CountsTooMany is_match request documents)

module _ {B : Type 0} (is_match : B → Fields → Bool) (of : B → QueryTree)
    (built : (b : B) (d : Fields) → is_match b d ≡ matches (of b) d) (request : Request B)
    (documents : List Fields) where
  -- the built request
  abbrev made : Request QueryTree
  made = with_builders of request

  -- a start is out of range in both or in none
  pub range-built : HasStartOutOfRange made documents → HasStartOutOfRange request documents
  range-built =
      subst (Any (λ c. HasOwnStartOutOfRange c documents)) (composites-built of request)

  range-made : HasStartOutOfRange request documents → HasStartOutOfRange made documents
  range-made =
      subst (Any (λ c. HasOwnStartOutOfRange c documents)) (sym (composites-built of request))

  -- too many are counted in both or in none
  pub many-built : CountsTooMany matches made documents → CountsTooMany is_match request documents
  many-built = subst (Any _) (lists-built is_match of built request documents)

  many-made : CountsTooMany is_match request documents → CountsTooMany matches made documents
  many-made = subst (Any _) (sym (lists-built is_match of built request documents))

  -- what is no start out of range, and not too many
  pub none-built : ¬ (HasStartOutOfRange made documents)
      → ¬ (HasStartOutOfRange request documents)
  none-built none out = none (range-made out)

  pub few-built : ¬ (CountsTooMany matches made documents)
      → ¬ (CountsTooMany is_match request documents)
  few-built few many = few (many-made many)

  -- merged results of the built request are those of the request
  pub merged-built : (merged : Held) → StandsFor matches made documents merged
      → ¬ (HasStartOutOfRange made documents) → ¬ (CountsTooMany matches made documents)
      → IsMergedOf is_match request documents merged
  merged-built merged stand range few = record {
    stands = stands-built is_match of built request documents merged stand;
    range = none-built range;
    few = few-built few;
  }
