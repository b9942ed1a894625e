-- The members of a header, as they are read.
use Rattle.std.proofs.Common.{◌≡◌, ◌∙◌, ℕ, List, [], ◌∷◌, Some, ap, codes}
use Rattle.std.proofs.Common.{map, refl, subst, sym}
use Rattle.std.specs.Prelude.{option_map}
use Rattle.std.proofs.lemmas.List.{append-nil}
use Rattle.serde_json.specs.Data.{Data, Members, array, object, put, string}
use Rattle.serde_json.specs.Find.{as_str}
use Rattle.serde_json.specs.View.{items_of, items_view, view}
use Rattle.serde_json.specs.declared.value.Value.{Value}
use Rattle.agg_segment.specs.declared.query.QueryTree.{QueryTree}
use Rattle.agg_segment.specs.declared.query.QueryTree.TheVariants.{All}
use Rattle.agg_request.specs.json_values.Json.{each_item}
use Rattle.agg_request.specs.reading.RequestJson.{IsRequestJson}
use Rattle.agg_request_tree.specs.Request.{Request, builders_of}
use Rattle.agg_request.specs.ReadBack.{ReadsBack}
use Rattle.agg_pages.specs.input_text.Header.{IsHeader, texts_of}
use Rattle.agg_pages.specs.header_text.HeaderText.{HasQuery, header_of, plain_members}

-- an array of texts is read as these texts
pub each-strings : (names : List (List ℕ))
    → each_item as_str (items_of (map string names)) ≡ Some names
each-strings [] = refl
each-strings (name ∷ names) =
    ap (option_map (λ (rest : List (List ℕ)). name ∷ rest)) (each-strings names)

-- the value of an array that is written of texts is read as these texts
pub texts-written : (d : Data) (values : List Value) (names : List (List ℕ))
    → d ≡ array (items_view values) → map view values ≡ map string names
    → texts_of d ≡ Some names
texts-written d values names is each =
    ap texts_of is ∙ ap (λ ds. each_item as_str (items_of ds)) each ∙ each-strings names

-- what is read back is read with the request's own builders
pub reads-itself : {B : Type 0} (name_of : B → List ℕ) (d : Data) (request : Request B)
    → ReadsBack name_of d request → IsRequestJson name_of d (builders_of request) request
reads-itself name_of d request back =
    subst (λ pool. IsRequestJson name_of d pool request) (append-nil (builders_of request))
    (back request [] refl)

module _ {B : Type 0} (name_of : B → List ℕ) (builders : List B) (asked : Request B)
    (name : List ℕ) (fields : List (List ℕ)) (request named schema : Data)
    (is_request : IsRequestJson name_of request builders asked)
    (is_name : as_str named ≡ Some name) (is_schema : texts_of schema ≡ Some fields) where
  -- a header of all documents is read as it
  pub plain-header : (d : Data) (ms : Members) (tree : QueryTree) → d ≡ object ms
      → ms ≡ plain_members request named schema → tree ≡ All
      → IsHeader builders name_of d (header_of asked name fields tree)
  plain-header d ms tree is are all =
      subst (λ e. IsHeader builders name_of e (header_of asked name fields tree))
      (sym (is ∙ ap object are))
      (subst (λ t. IsHeader builders name_of (object (plain_members request named schema))
      (header_of asked name fields t)) (sym all) whole)
    where
      whole : IsHeader builders name_of (object (plain_members request named schema))
          (header_of asked name fields All)
      whole = record {
        members = refl;
        request = is_request;
        name = is_name;
        schema = is_schema;
        query = refl;
        memory_limit = tt;
        bucket_limit = tt;
      }

  -- a header with a query is read as it
  pub query-header : (d : Data) (ms whole : Members) (tree : QueryTree) → d ≡ object whole
      → HasQuery ms tree whole → ms ≡ plain_members request named schema
      → IsHeader builders name_of d (header_of asked name fields tree)
  query-header d ms whole tree is (query, is_query, more) are =
      subst (λ e. IsHeader builders name_of e (header_of asked name fields tree))
      (sym (is ∙ ap object (more ∙ ap (put (codes "query") query) are))) made
    where
      made : IsHeader builders name_of
          (object (put (codes "query") query (plain_members request named schema)))
          (header_of asked name fields tree)
      made = record {
        members = refl;
        request = is_request;
        name = is_name;
        schema = is_schema;
        query = is_query;
        memory_limit = tt;
        bucket_limit = tt;
      }
