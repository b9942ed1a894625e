-- The request of one filter, as it is written and read back.
use Rattle.std.proofs.Common.{◌≡◌, ◌⊎◌, ◌++◌, ◌∙◌, ℕ, suc, List, [], false, ap, codes, inl, inr}
use Rattle.std.proofs.Common.{refl, subst, sym}
use Rattle.std.specs.Prelude.{IsTrue, Some}
use Rattle.std.proofs.lemmas.Option.{same_Some}
use Rattle.serde_json.specs.Data.{Data, depth, member, no_members}
use Rattle.serde_json.specs.Find.{get}
use Rattle.agg_segment.specs.declared.query.QueryTree.{QueryTree}
use Rattle.agg_request.specs.json_values.Json.{alone}
use Rattle.agg_request.specs.json_values.Query.{IsQuery}
use Rattle.agg_request.specs.reading.RequestJson.{IsAggregation, IsKind, IsRequestJson}
use Rattle.agg_request.specs.reading.RequestJson.{IsRequestWithin}
use Rattle.agg_request_tree.specs.Request.{Request, agg_of, aggregation_of, builders_of}
use Rattle.agg_request_tree.specs.declared.aggregation.Aggregation.{Aggregation}
use Rattle.agg_request_tree.specs.declared.aggregation.Aggregation.TheFolds as folds
use folds.{fold-roll-Aggregation}
use Rattle.agg_request_tree.specs.declared.aggregation.AggregationVariants.{AggregationVariants}
use Rattle.agg_request_tree.specs.declared.aggregation.AggregationVariants.TheVariants.{Filter}
use Rattle.agg_request_tree.specs.declared.aggregation.filter.FilterQuery.TheVariants.{Tree}
use Rattle.agg_request_tree.proofs.RequestTrees.{agg-made}
use Rattle.agg_request.specs.ReadBack.{ReadsBack}
use Rattle.agg_request.specs.WrittenJson.{aggregation_step, data_of_query, data_of_request}
use Rattle.agg_pages.specs.header_text.HeaderText.{filter_request}

module _ (B : Type 0) (tree : QueryTree) where
  -- what the filter asks
  abbrev asked : AggregationVariants B
  asked = Filter (record { query = Tree tree })

  -- the filter
  abbrev filter : Aggregation B
  filter = aggregation_of asked []

-- what may be read leniently otherwise is, strictly, just what is said
strictly : {A C D E : Type 0} → (A × (C ⊎ (IsTrue false × D))) ⊎ (IsTrue false × E) → C
strictly (inl (is, inl said)) = said
strictly (inl (is, inr (lenient, other))) = absurd (cc)
strictly (inr (lenient, other)) = absurd (cc)

module _ {B : Type 0} (name_of : B → List ℕ) (tree : QueryTree) where
  -- a body in its place in the request
  abbrev written : Data → Data
  written body = alone (codes "query") (alone (codes "filter") body)

  -- what is written of the request has the query's value in it
  data-filter_request : data_of_request name_of (filter_request {B = B} tree)
      ≡ written (data_of_query tree)
  data-filter_request =
      ap (λ d. alone (codes "query") d)
      (fold-roll-Aggregation B Data (aggregation_step name_of)
      (record { agg = asked B tree; sub_aggregation = [] }))

  -- a body that is read as the filter says the query
  filter-says : (levels : ℕ) (body : Data) (pool : List B)
      → IsAggregation false name_of (suc levels) (alone (codes "filter") body) pool
      (filter B tree) → IsQuery body tree
  filter-says levels body pool h =
      let one : (codes "filter", body) ≡ (h.0, h.1) =
      same_Some (codes "filter", body) (h.0, h.1) h.2 in
      let kind : IsKind false name_of (codes "filter") body pool (agg_of (filter B tree)) =
      subst (λ m. IsKind false name_of m.0 m.1 pool (agg_of (filter B tree))) (sym one) h.3 in
      strictly (subst (IsKind false name_of (codes "filter") body pool) (agg-made (asked B tree) [])
      kind)

  -- a body that is read as the request says the query
  request-says : (body : Data) (pool : List B)
      → IsRequestJson name_of (written body) pool (filter_request tree) → IsQuery body tree
  request-says body pool (found, is, h) =
      let inner = alone (codes "filter") body in
      let same : found ≡ member (codes "query") inner no_members =
      sym (same_Some (member (codes "query") inner no_members) found is) in
      let levels = depth (written body) in
      let each : IsRequestWithin false name_of (suc levels)
      (member (codes "query") inner no_members) pool (filter_request tree) =
      subst (λ ms. IsRequestWithin false name_of (suc levels) ms pool (filter_request tree)) same
      h in
      filter-says levels body pool each.1

  -- what is found where the query's value is written says the query
  pub found-says : (request : Request B) (d inner body : Data) → request ≡ filter_request tree
      → d ≡ data_of_request name_of request → ReadsBack name_of d request
      → Some inner ≡ get (codes "query") d → Some body ≡ get (codes "filter") inner
      → IsQuery body tree
  found-says request d inner body asks is back outer within =
      let value = data_of_query tree in
      let all : d ≡ written value =
      is ∙ ap (data_of_request name_of) asks ∙ data-filter_request in
      let under : inner ≡ alone (codes "filter") value =
      same_Some inner (alone (codes "filter") value) (outer ∙ ap (get (codes "query")) all) in
      let same : body ≡ value =
      same_Some body value (within ∙ ap (get (codes "filter")) under) in
      let own = filter_request {B = B} tree in
      let pool = builders_of own ++ [] in
      let read : IsRequestJson name_of d pool own =
      subst (ReadsBack name_of d) asks back own [] refl in
      subst (λ e. IsQuery e tree) (sym same)
      (request-says value pool (subst (λ e. IsRequestJson name_of e pool own) all read))
