-- The text of a header.
use Rattle.std.specs.Prelude.{◌≡◌, ◌≤◌, ◌∷◌, [], ℕ, List, None, Some, codes}
use Rattle.serde_json.specs.Data.{Data, Members, depth, member, no_members, put}
use Rattle.serde_json.specs.Read.{max_depth, read}
use Rattle.agg_segment.specs.declared.query.QueryTree.{QueryTree}
use Rattle.agg_request.specs.json_values.Query.{IsQuery}
use Rattle.agg_request_tree.specs.Request.{Request, aggregation_of}
use Rattle.agg_request_tree.specs.declared.aggregation.AggregationVariants.TheVariants.{Filter}
use Rattle.agg_request_tree.specs.declared.aggregation.filter.FilterQuery.TheVariants.{Tree}
use Rattle.agg_pages.specs.input_text.Header.{IsHeader}
use Rattle.agg_pages.specs.declared.input_text.header.Header.{Header}

-- a header without limits
abbrev pub header_of : {B : Type 0} → Request B → List ℕ → List (List ℕ) → QueryTree → Header B
header_of request name schema query =
    record {
      request = request;
      name = name;
      schema = schema;
      query = query;
      memory_limit = None;
      bucket_limit = None;
    }

-- the members of a header of all documents
abbrev pub plain_members : Data → Data → Data → Members
plain_members request name schema =
    member (codes "name") name
    (member (codes "request") request (member (codes "schema") schema no_members))

-- the members with one more, which says this query
abbrev pub HasQuery : Members → QueryTree → Members → Type 0
HasQuery members tree whole =
    (query : Data) × IsQuery query tree × (whole ≡ put (codes "query") query members)

-- the request of one filter, by a query
abbrev pub filter_request : {B : Type 0} → QueryTree → Request B
filter_request query =
    (codes "query", aggregation_of (Filter (record { query = Tree query })) []) ∷ []

-- a line is JSON that says a header, which is read unless it is nested deeper than JSON is read
pub record IsHeaderText {B : Type 0} (builders : List B) (name_of : B → List ℕ) (line : List ℕ)
    (header : Header B) : Type 0 where
  pub value : Data
  pub is_header : IsHeader builders name_of value header
  pub is_read : depth value ≤ max_depth → read line ≡ Some value
