-- What an aggregation asks, read by its kind with the builders of a pool.
use Rattle.std.proofs.Common.{◌≡◌, ◌≢◌, ◌⊎◌, Bool, true, false, true≢false, List, ℕ, None}
use Rattle.std.proofs.Common.{Result, Ok, Err, IsErrAnd, IsErrOf, codes, refl, sym, ap, ◌∙◌}
use Rattle.std.proofs.Common.{is_some, inl, inr}
use Rattle.std.specs.Str.{bytes_eq}
use Rattle.serde_json.specs.Data.{Data}
use Rattle.agg_segment.specs.declared.query.QueryTree.{QueryTree}
use Rattle.agg_request.specs.reading.Builders.{builder_name, left_by_filter, left_by_kind}
use Rattle.agg_request.specs.json_values.Json.{is_among, present}
use Rattle.agg_request.specs.json_values.Query.{IsNoQueryAtAll, IsQuery}
use Rattle.agg_request.specs.json_values.Unsupported.{HasUnsupportedQuery}
use Rattle.agg_request.specs.reading.RequestJson.{IsKind, IsMetric, IsQueryOf}
use Rattle.agg_request.specs.reading.Unsupported.{HasUnsupportedAsked, unsupported_kinds}
use Rattle.agg_request.specs.reading.Kinds.{metric_kinds}
use Rattle.agg_request.specs.json_values.Reading.{IsReadingWith, IsRefusal}
use Rattle.agg_request_tree.specs.declared.aggregation.AggregationVariants as variants
use variants.{AggregationVariants}
use variants.TheVariants.{Filter, Composite, Count, Max, Min, Sum}
use Rattle.agg_request_tree.specs.declared.aggregation.filter.FilterQuery.{FilterQuery}
use Rattle.agg_request_tree.specs.declared.aggregation.filter.FilterQuery.TheVariants as by
use by.{Tree, CustomBuilder}
use Rattle.agg_request.specs.declared.json_values.read_error.ReadError.{ReadError}
use Rattle.agg_request.specs.declared.json_values.read_error.ReadError.TheVariants.{Unsupported}
use Rattle.agg_request.specs.declared.json_values.read_error.ReadError.TheVariants.{Grammar}
use Rattle.agg_request.specs.declared.json_values.read_error.ReadError.TheVariants.{UnknownBuilder}
use Rattle.agg_request.specs.declared.json_values.read_error.ReadError.TheVariants.{OutOfMemory}
use Rattle.agg_request.proofs.lemmas.reading.PoolReadings.{passed_alone, passed_with}

-- ---- metrics

module _ {B : Type 0} (name_of : B → List ℕ) (kind metric : List ℕ) (is : kind ≡ metric)
    (among : is_among metric metric_kinds ≡ true)
    (left_in : is_among metric unsupported_kinds ≡ false) (body : Data) where
  -- a kind is no metric's that isn't among them
  no_metric : (other : List ℕ) → kind ≡ other → is_among other metric_kinds ≡ false → ⊥
  no_metric other e outside =
      true≢false (sym among ∙ ap (λ k. is_among k metric_kinds) (sym is ∙ e) ∙ outside)

  -- what such a kind asks is a field
  field_of : (lenient : Bool) (some : List B) (agg : AggregationVariants B)
      → IsKind lenient name_of kind body some agg
      → (field : List ℕ) × IsMetric lenient body field
  field_of lenient some agg (inr (may, known)) =
      absurd (true≢false (sym known ∙ ap (λ k. is_among k unsupported_kinds) is ∙ left_in))
  field_of lenient some (Filter filter) (inl (e, h)) = absurd (no_metric _ e refl)
  field_of lenient some (Composite composite) (inl (e, h)) = absurd (no_metric _ e refl)
  field_of lenient some (Count agg) (inl (e, h)) = (agg.field, h)
  field_of lenient some (Max agg) (inl (e, h)) = (agg.field, h)
  field_of lenient some (Min agg) (inl (e, h)) = (agg.field, h)
  field_of lenient some (Sum agg) (inl (e, h)) = (agg.field, h)

  -- a refused metric refuses what is asked
  pub refused_metric : (pool : List B) (error : ReadError)
      (result : Result (AggregationVariants B) ReadError) → IsErrAnd result (λ e. e ≡ error)
      → IsRefusal (λ lenient. IsMetric lenient body)
      (is_some (present (codes "missing") body) ≡ true) error
      → IsReadingWith (λ lenient. IsKind lenient name_of kind body) (HasUnsupportedAsked kind body)
      (λ some. left_by_kind name_of kind body some ≡ None) pool result
  refused_metric pool error result told refusal =
      passed_alone (λ lenient. IsMetric lenient body)
      (is_some (present (codes "missing") body) ≡ true)
      (λ lenient. IsKind lenient name_of kind body) (HasUnsupportedAsked kind body)
      (λ some. left_by_kind name_of kind body some ≡ None) pool error result told refusal
      (λ h. inr (inr (inr (ap (λ k. is_among k metric_kinds) is ∙ among, h)))) field_of

-- ---- filters

module _ {B : Type 0} (name_of : B → List ℕ) (body : Data) (plain : builder_name body ≡ None) where
  -- a filter that asks for no builder, and is no tree strictly, is none
  no_filter : ((tree : QueryTree) → ¬ (IsQuery body tree)) → (some : List B) (x : FilterQuery B)
      → ¬ (IsQueryOf false name_of body some x)
  no_filter none some (Tree tree) (inl h) = none tree h
  no_filter none some (Tree tree) (inr (may, h)) = true≢false (sym may)
  no_filter none some (CustomBuilder builder) (name, e, h) = absurd (cc)

  -- a filter that asks for no builder, and is no tree even leniently, is none
  no_filter_at_all : ((tree : QueryTree) → ¬ (IsQuery body tree)) → IsNoQueryAtAll body
      → (lenient : Bool) (some : List B) (x : FilterQuery B)
      → ¬ (IsQueryOf lenient name_of body some x)
  no_filter_at_all none nothing false some x h = no_filter none some x h
  no_filter_at_all none nothing true some (Tree tree) (inl h) = nothing.1 tree h
  no_filter_at_all none nothing true some (Tree tree) (inr (may, inl text)) =
      true≢false (sym text ∙ ap is_some nothing.0)
  no_filter_at_all none nothing true some (Tree tree) (inr (may, inr named)) =
      true≢false (sym named ∙ ap is_some plain)
  no_filter_at_all none nothing true some (CustomBuilder builder) (name, e, h) = absurd (cc)

  -- where the tree is refused, the filter is
  pub refused_tree : (pool : List B) (error : ReadError) (inner : Result QueryTree ReadError)
      (result : Result (FilterQuery B) ReadError) → IsErrAnd result (λ e. e ≡ error)
      → inner ≡ Err error → (IsErrOf inner Unsupported → HasUnsupportedQuery body)
      → (IsErrOf inner Grammar → IsNoQueryAtAll body)
      → (IsErrOf inner Unsupported ⊎ IsErrOf inner Grammar
      → (tree : QueryTree) → ¬ (IsQuery body tree))
      → inner ≢ Err UnknownBuilder
      → IsReadingWith (λ lenient. IsQueryOf lenient name_of body) (HasUnsupportedQuery body)
      (λ some. left_by_filter name_of (builder_name body) some ≡ None) pool result
  refused_tree pool error inner (Ok x) told was unsupported grammar none kinds = absurd told
  refused_tree pool error inner (Err e) told was unsupported grammar none kinds =
      by_error e (was ∙ ap Err (sym told))
    where
      by_error : (e : ReadError) → inner ≡ Err e
          → IsReadingWith (λ lenient. IsQueryOf lenient name_of body) (HasUnsupportedQuery body)
          (λ some. left_by_filter name_of (builder_name body) some ≡ None) pool (Err e)
      by_error Unsupported at = (unsupported at, λ x. no_filter (none (inl at)) x.0 x.1)
      by_error Grammar at =
          λ lenient x. no_filter_at_all (none (inr at)) (grammar at) lenient x.0 x.1
      by_error UnknownBuilder at = absurd (kinds at)
      by_error OutOfMemory at = tt

module _ {B : Type 0} (name_of : B → List ℕ) (kind : List ℕ) (is : kind ≡ codes "filter")
    (body : Data) where
  -- a filter is of no other kind
  no_other : (other : List ℕ) → kind ≡ other → bytes_eq other (codes "filter") ≡ false → ⊥
  no_other other e apart =
      true≢false (ap (λ k. bytes_eq k (codes "filter")) (sym is ∙ e) ∙ apart)

  -- what such a kind asks is a query
  query_of : (lenient : Bool) (some : List B) (agg : AggregationVariants B)
      → IsKind lenient name_of kind body some agg
      → (query : FilterQuery B) × IsQueryOf lenient name_of body some query
  query_of lenient some agg (inr (may, known)) =
      absurd (true≢false (sym known ∙ ap (λ k. is_among k unsupported_kinds) is))
  query_of lenient some (Filter filter) (inl (e, h)) = (filter.query, h)
  query_of lenient some (Composite composite) (inl (e, h)) = absurd (no_other _ e refl)
  query_of lenient some (Count agg) (inl (e, h)) = absurd (no_other _ e refl)
  query_of lenient some (Max agg) (inl (e, h)) = absurd (no_other _ e refl)
  query_of lenient some (Min agg) (inl (e, h)) = absurd (no_other _ e refl)
  query_of lenient some (Sum agg) (inl (e, h)) = absurd (no_other _ e refl)

  -- a refused query refuses what is asked
  pub refused_filter : (pool : List B) (error : ReadError)
      (result : Result (AggregationVariants B) ReadError) → IsErrAnd result (λ e. e ≡ error)
      → IsReadingWith (λ lenient. IsQueryOf lenient name_of body) (HasUnsupportedQuery body)
      (λ some. left_by_filter name_of (builder_name body) some ≡ None) pool (Err error)
      → IsReadingWith (λ lenient. IsKind lenient name_of kind body) (HasUnsupportedAsked kind body)
      (λ some. left_by_kind name_of kind body some ≡ None) pool result
  refused_filter pool error result told refusal =
      passed_with (λ lenient. IsQueryOf lenient name_of body) (HasUnsupportedQuery body)
      (λ some. left_by_filter name_of (builder_name body) some ≡ None)
      (λ lenient. IsKind lenient name_of kind body) (HasUnsupportedAsked kind body)
      (λ some. left_by_kind name_of kind body some ≡ None) pool pool error result told refusal
      (λ h. inr (inl (is, h)))
      (λ lenient some agg h.
      let found = query_of lenient some agg h in (some, found.0, found.1))
      (λ none. ap (λ k. left_by_kind name_of k body pool) is ∙ none)
