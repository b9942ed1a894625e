-- A line is of one header at most.
use Rattle.std.proofs.Common.{◌≡◌, ℕ, List, false, Option, Some, None}
use Rattle.std.proofs.Common.{option_and_then, codes, sym, ◌∙◌, subst}
use Rattle.std.proofs.lemmas.Bool.{false≢true}
use Rattle.serde_json.specs.Data.{Data}
use Rattle.serde_json.specs.Find.{as_str, get}
use Rattle.serde_json.specs.Read.{read}
use Rattle.agg_segment.specs.declared.query.QueryTree.{QueryTree}
use Rattle.agg_request.specs.json_values.Json.{has_members, small_number}
use Rattle.agg_request_tree.specs.Request.{Request}
use Rattle.agg_pages.specs.declared.input_text.header.Header.{Header}
use Rattle.agg_pages.specs.input_text.Header.{IsBucketLimitOf, IsHeader, IsHeaderLine}
use Rattle.agg_pages.specs.input_text.Header.{IsMemoryLimitOf, IsQueryOf, IsRequestAt}
use Rattle.agg_pages.specs.input_text.Header.{header_members, texts_of, unsigned_number}
use Rattle.agg_values.specs.Nothing.{NoneIs}
use Rattle.agg_pages.proofs.lemmas.input_text.Composites.{IsGiven-unique}
use Rattle.agg_pages.proofs.lemmas.document_json.Documents.{none_is_some, same_value}
use Rattle.agg_pages.proofs.lemmas.input_text.Queries.{IsQuery-unique}
use Rattle.agg_pages.proofs.lemmas.input_text.Requests.{IsRequestJson-unique}

-- ---- one header at most

module _ {B : Type 0} (builders : List B) (name_of : B → List ℕ) where
  IsRequestAt-unique : (o : Option Data) (a b : Request B) → IsRequestAt builders name_of o a
      → IsRequestAt builders name_of o b → a ≡ b
  IsRequestAt-unique None a b h k = absurd h
  IsRequestAt-unique (Some d) a b h k = IsRequestJson-unique name_of d builders a b h k

IsQueryOf-unique : (o : Option Data) (a b : QueryTree) → IsQueryOf o a → IsQueryOf o b → a ≡ b
IsQueryOf-unique None a b h k = h ∙ sym k
IsQueryOf-unique (Some d) a b h k = IsQuery-unique d a b h k

IsMemoryLimitOf-unique : (o : Option Data) (a b : Option ℕ) → IsMemoryLimitOf o a
    → IsMemoryLimitOf o b → a ≡ b
IsMemoryLimitOf-unique =
    IsGiven-unique (λ d n. unsigned_number d ≡ Some n) (λ d n m h k. same_value n m (sym h ∙ k))

IsBucketLimitOf-unique : (o : Option Data) (a b : Option ℕ) → IsBucketLimitOf o a
    → IsBucketLimitOf o b → a ≡ b
IsBucketLimitOf-unique =
    IsGiven-unique (λ d n. small_number d ≡ Some n) (λ d n m h k. same_value n m (sym h ∙ k))

module _ {B : Type 0} (builders : List B) (name_of : B → List ℕ) where
  IsHeader-unique : (d : Data) (a b : Header B) → IsHeader builders name_of d a
      → IsHeader builders name_of d b → a ≡ b
  IsHeader-unique d a b h k = λ i. record {
    request = IsRequestAt-unique builders name_of (get (codes "request") d) a.request b.request
        h.request k.request i;
    name = same_value a.name b.name (sym h.name ∙ k.name) i;
    schema = same_value a.schema b.schema (sym h.schema ∙ k.schema) i;
    query = IsQueryOf-unique (get (codes "query") d) a.query b.query h.query k.query i;
    memory_limit = IsMemoryLimitOf-unique (get (codes "memory_limit") d) a.memory_limit
        b.memory_limit h.memory_limit k.memory_limit i;
    bucket_limit = IsBucketLimitOf-unique (get (codes "bucket_limit") d) a.bucket_limit
        b.bucket_limit h.bucket_limit k.bucket_limit i;
  }

  pub IsHeaderLine-unique : (line : List ℕ) (a b : Header B)
      → IsHeaderLine builders name_of line a → IsHeaderLine builders name_of line b → a ≡ b
  IsHeaderLine-unique line a b (d, is, h) (d_too, is_too, k) =
      let same : d_too ≡ d = same_value d_too d (sym is_too ∙ is) in
      IsHeader-unique d a b h (subst (λ e. IsHeader builders name_of e b) same k)

  -- a line of a value that is no header
  pub no_header : (line : List ℕ) (d : Data) → read line ≡ Some d
      → NoneIs (IsHeader builders name_of d) → NoneIs (IsHeaderLine builders name_of line)
  no_header line d is none header (found, is_too, stands) =
      none header (subst (λ e. IsHeader builders name_of e header)
      (same_value found d (sym is_too ∙ is)) stands)

  -- ---- what is no header

  pub no_request : (d : Data) → NoneIs (IsRequestAt builders name_of (get (codes "request") d))
      → NoneIs (IsHeader builders name_of d)
  no_request d none header h = none header.request h.request

  pub no_name : (d : Data) → option_and_then as_str (get (codes "name") d) ≡ None
      → NoneIs (IsHeader builders name_of d)
  no_name d none header h = none_is_some header.name (sym none ∙ h.name)

  pub no_schema : (d : Data) → option_and_then texts_of (get (codes "schema") d) ≡ None
      → NoneIs (IsHeader builders name_of d)
  no_schema d none header h = none_is_some header.schema (sym none ∙ h.schema)

  pub no_query : (d : Data) → NoneIs (IsQueryOf (get (codes "query") d))
      → NoneIs (IsHeader builders name_of d)
  no_query d none header h = none header.query h.query

  pub no_memory_limit : (d : Data)
      → NoneIs (IsMemoryLimitOf (get (codes "memory_limit") d))
      → NoneIs (IsHeader builders name_of d)
  no_memory_limit d none header h = none header.memory_limit h.memory_limit

  pub no_bucket_limit : (d : Data)
      → NoneIs (IsBucketLimitOf (get (codes "bucket_limit") d))
      → NoneIs (IsHeader builders name_of d)
  no_bucket_limit d none header h = none header.bucket_limit h.bucket_limit

  pub other_members : (d : Data) → has_members (header_members d) d ≡ false
      → NoneIs (IsHeader builders name_of d)
  other_members d other header h = false≢true (sym other ∙ h.members)
