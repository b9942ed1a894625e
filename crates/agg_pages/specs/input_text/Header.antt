-- The header: what a walk is asked for.
use Rattle.std.specs.Prelude.{◌≡◌, ◌+◌, ℕ, List, Option, Some, IsSomeAnd, IsTrue}
use Rattle.std.specs.Prelude.{if◌then◌else◌, is_some, option_and_then, codes}
use Rattle.serde_json.specs.Data.{Data}
use Rattle.serde_json.specs.Find.{as_array, as_number, as_str, as_u64, get}
use Rattle.serde_json.specs.Read.{read}
use Rattle.agg_segment.specs.declared.query.QueryTree.{QueryTree}
use Rattle.agg_segment.specs.declared.query.QueryTree.TheVariants.{All}
use Rattle.agg_request.specs.json_values.Json.{IsGiven, IsOr, each_item, has_members, small_number}
use Rattle.agg_request.specs.json_values.Json.{text_at}
use Rattle.agg_request.specs.json_values.Query.{IsQuery}
use Rattle.agg_request_tree.specs.Request.{Request}
use Rattle.agg_request.specs.reading.RequestJson.{IsRequestJson}
use Rattle.agg_pages.specs.declared.input_text.header.Header.{Header}

-- the request of this member, which has to be there
abbrev pub IsRequestAt : {B : Type 0} → List B → (B → List ℕ) → Option Data → Request B → Type 0
IsRequestAt builders name_of found request =
    IsSomeAnd found (λ d. IsRequestJson name_of d builders request)

-- an array of texts
abbrev pub texts_of : Data → Option (List (List ℕ))
texts_of d = option_and_then (each_item as_str) (as_array d)

-- a whole number within u64
abbrev pub unsigned_number : Data → Option ℕ
unsigned_number d = option_and_then as_u64 (as_number d)

-- one, where there is a member of this name
abbrev pub counted_member : List ℕ → Data → ℕ
counted_member name d = if is_some (get name d) then 1 else 0

-- how many members a header has: its request, its name and its schema, and its query, its memory
-- limit and its bucket limit if it has them
abbrev pub header_members : Data → ℕ
header_members d =
    3 + counted_member (codes "query") d + counted_member (codes "memory_limit") d
    + counted_member (codes "bucket_limit") d

-- the query of this member: all documents, where there is no member
abbrev pub IsQueryOf : Option Data → QueryTree → Type 0
IsQueryOf = IsOr All IsQuery

-- the memory limit of this member, a whole number within u64: none, where there is no member
abbrev pub IsMemoryLimitOf : Option Data → Option ℕ → Type 0
IsMemoryLimitOf = IsGiven (λ d n. unsigned_number d ≡ Some n)

-- the bucket limit of this member, a whole number within u32: none, where there is no member
abbrev pub IsBucketLimitOf : Option Data → Option ℕ → Type 0
IsBucketLimitOf = IsGiven (λ d n. small_number d ≡ Some n)

-- a header: exactly its request, its name and its schema, and a query, a memory limit and a bucket
-- limit if there are any
pub record IsHeader {B : Type 0} (builders : List B) (name_of : B → List ℕ) (d : Data)
    (header : Header B) : Type 0 where
  pub members : IsTrue (has_members (header_members d) d)
  pub request : IsRequestAt builders name_of (get (codes "request") d) header.request
  pub name : text_at (codes "name") d ≡ Some header.name
  pub schema : option_and_then texts_of (get (codes "schema") d) ≡ Some header.schema
  pub query : IsQueryOf (get (codes "query") d) header.query
  pub memory_limit : IsMemoryLimitOf (get (codes "memory_limit") d) header.memory_limit
  pub bucket_limit : IsBucketLimitOf (get (codes "bucket_limit") d) header.bucket_limit

-- the header of a line
abbrev pub IsHeaderLine : {B : Type 0} → List B → (B → List ℕ) → List ℕ → Header B → Type 0
IsHeaderLine builders name_of line header =
    (d : Data) × (read line ≡ Some d) × IsHeader builders name_of d header
