-- A value is of one request at most.
use Rattle.std.proofs.Common.{◌≡◌, inl, inr, ℕ, zero, suc, List, [], ◌∷◌, false, true≢false}
use Rattle.std.proofs.Common.{Option, Some, None, refl, sym, ap, ◌∙◌, subst, codes, cond}
use Rattle.std.proofs.Common.{bytes_eq, option_and_then, option_map}
use Rattle.serde_json.specs.Data.{Data, Members, no_members, member, depth}
use Rattle.serde_json.specs.Find.{as_str, get}
use Rattle.agg_segment.specs.declared.query.QueryTree.{QueryTree}
use Rattle.agg_request.specs.json_values.Query.{IsOfKind, IsQuery}
use Rattle.agg_request_tree.specs.Request.{Request, agg_of, below_of}
use Rattle.agg_request_tree.specs.declared.aggregation.Aggregation.{Aggregation}
use Rattle.agg_request_tree.specs.declared.aggregation.AggregationVariants as variants
use variants.{AggregationVariants}
use variants.TheVariants.{Filter, Composite, Count, Max, Min, Sum}
use Rattle.agg_request_tree.specs.declared.aggregation.CompositeAggregation.{CompositeAggregation}
use Rattle.agg_request_tree.specs.declared.aggregation.filter.FilterQuery.{FilterQuery}
use Rattle.agg_request_tree.specs.declared.aggregation.filter.FilterQuery.TheVariants as by
use by.{Tree, CustomBuilder}
use Rattle.agg_request_tree.proofs.RequestTrees.{made-of_parts}
use Rattle.agg_request.specs.reading.Builders.{builder_name, left_behind, left_by_kind, taken}
use Rattle.agg_request.specs.reading.CompositeJson.{IsCompositeJson}
use Rattle.agg_request.specs.reading.RequestJson.{AreAggregations, IsAggregation, IsBelow, IsBody}
use Rattle.agg_request.specs.reading.RequestJson.{IsKind, IsLeft, IsMetric, IsQueryOf}
use Rattle.agg_request.specs.reading.RequestJson.{IsRequestJson, kind_word}
use Rattle.agg_pages.proofs.lemmas.document_json.Documents.{none_is_some, same_value}
use Rattle.agg_pages.proofs.lemmas.input_text.Composites.{IsCompositeJson-unique}
use Rattle.agg_pages.proofs.lemmas.input_text.Queries.{IsQuery-unique}

-- ---- a tree asks for no builder

-- no kind of filters has the name of the member that asks for a builder
no_builder : (Is : Data → QueryTree → Type 0) (kind : List ℕ) (body : Data) (tree : QueryTree)
    → IsOfKind false Is kind body tree → bytes_eq kind (codes "builder") ≡ false
no_builder Is kind body tree (inl (is, _)) = ap (λ k. bytes_eq k (codes "builder")) is
no_builder Is kind body tree (inr (inl (is, _))) = ap (λ k. bytes_eq k (codes "builder")) is
no_builder Is kind body tree (inr (inr (inl (is, _)))) =
    ap (λ k. bytes_eq k (codes "builder")) is
no_builder Is kind body tree (inr (inr (inr (inl (is, _))))) =
    ap (λ k. bytes_eq k (codes "builder")) is
no_builder Is kind body tree (inr (inr (inr (inr (inl (is, _)))))) =
    ap (λ k. bytes_eq k (codes "builder")) is
no_builder Is kind body tree (inr (inr (inr (inr (inr (is, _)))))) =
    ap (λ k. bytes_eq k (codes "builder")) is

tree_alone : (body : Data) (tree : QueryTree) → IsQuery body tree → builder_name body ≡ None
tree_alone body tree (kind, inner, only, h) =
    ap (λ o. option_and_then as_str (option_and_then
    (λ m. cond (bytes_eq m.0 (codes "builder")) (Some m.1) None) o)) only
    ∙ ap (λ b. option_and_then as_str (cond b (Some inner) None)) (no_builder _ kind inner tree h)

tree_and_builder : {A : Type 0} (body : Data) (tree : QueryTree) (name : List ℕ)
    → IsQuery body tree → builder_name body ≡ Some name → A
tree_and_builder body tree name h named =
    none_is_some name (sym (tree_alone body tree h) ∙ named)

-- ---- kinds

data Kind : Type 0 where
  of_filter : Kind
  of_composite : Kind
  of_count : Kind
  of_max : Kind
  of_min : Kind
  of_sum : Kind

-- the kind of a word, if it is that of one
abbrev kind_of : List ℕ → Kind
kind_of word =
    cond (bytes_eq word (codes "filter")) of_filter
    (cond (bytes_eq word (codes "composite")) of_composite
    (cond (bytes_eq word (codes "value_count")) of_count
    (cond (bytes_eq word (codes "max")) of_max
    (cond (bytes_eq word (codes "min")) of_min of_sum))))

module _ {B : Type 0} (name_of : B → List ℕ) where
  IsQueryOf-unique : (body : Data) (pool : List B) (a b : FilterQuery B)
      → IsQueryOf false name_of body pool a → IsQueryOf false name_of body pool b → a ≡ b
  IsQueryOf-unique body pool (Tree a) b (inr (may, _)) k = absurd (true≢false (sym may))
  IsQueryOf-unique body pool (Tree a) (Tree b) (inl h) (inr (may, _)) =
      absurd (true≢false (sym may))
  IsQueryOf-unique body pool (Tree a) (Tree b) (inl h) (inl k) =
      ap (λ tree. Tree tree) (IsQuery-unique body a b h k)
  IsQueryOf-unique body pool (Tree a) (CustomBuilder b) (inl h) (name, named, _) =
      tree_and_builder body a name h named
  IsQueryOf-unique body pool (CustomBuilder a) (Tree b) (name, named, _) (inl k) =
      tree_and_builder body b name k named
  IsQueryOf-unique body pool (CustomBuilder a) (Tree b) h (inr (may, _)) =
      absurd (true≢false (sym may))
  IsQueryOf-unique body pool (CustomBuilder a) (CustomBuilder b) (name, named, first)
      (other, named_too, first_too) =
      let names : other ≡ name = same_value other name (sym named_too ∙ named) in
      ap (λ builder. CustomBuilder builder) (same_value a b (sym first
      ∙ ap (λ n. option_map (λ t. t.0) (taken name_of n pool)) (sym names) ∙ first_too))

  -- a metric of the field that a body says
  abbrev IsMetricOf : (List ℕ → AggregationVariants B) → Data → AggregationVariants B → Type 0
  IsMetricOf made body agg =
      (field : List ℕ) × (agg ≡ made field) × IsMetric false body field

  IsMetricOf-unique : (made : List ℕ → AggregationVariants B) (body : Data)
      (a b : AggregationVariants B) → IsMetricOf made body a → IsMetricOf made body b → a ≡ b
  IsMetricOf-unique made body a b (field, a_is, (named, _)) (field_too, b_is, (named_too, _)) =
      a_is ∙ ap made (same_value field field_too (sym named ∙ named_too)) ∙ sym b_is

  -- what the body of a kind asks
  abbrev Asks : Kind → Data → List B → AggregationVariants B → Type 0
  Asks of_filter body pool agg =
      (query : FilterQuery B) × (agg ≡ Filter (record { query = query }))
      × IsQueryOf false name_of body pool query
  Asks of_composite body pool agg =
      (composite : CompositeAggregation) × (agg ≡ Composite composite)
      × IsCompositeJson false body composite
  Asks of_count body pool agg = IsMetricOf (λ field. Count (record { field = field })) body agg
  Asks of_max body pool agg = IsMetricOf (λ field. Max (record { field = field })) body agg
  Asks of_min body pool agg = IsMetricOf (λ field. Min (record { field = field })) body agg
  Asks of_sum body pool agg = IsMetricOf (λ field. Sum (record { field = field })) body agg

  Asks-unique : (kind : Kind) (body : Data) (pool : List B) (a b : AggregationVariants B)
      → Asks kind body pool a → Asks kind body pool b → a ≡ b
  Asks-unique of_filter body pool a b (query, a_is, h) (query_too, b_is, k) =
      a_is ∙ ap (λ q. Filter (record { query = q }))
      (IsQueryOf-unique body pool query query_too h k) ∙ sym b_is
  Asks-unique of_composite body pool a b (composite, a_is, h) (composite_too, b_is, k) =
      a_is ∙ ap (λ c. Composite c) (IsCompositeJson-unique body composite composite_too h k)
      ∙ sym b_is
  Asks-unique of_count body pool a b h k =
      IsMetricOf-unique (λ field. Count (record { field = field })) body a b h k
  Asks-unique of_max body pool a b h k =
      IsMetricOf-unique (λ field. Max (record { field = field })) body a b h k
  Asks-unique of_min body pool a b h k =
      IsMetricOf-unique (λ field. Min (record { field = field })) body a b h k
  Asks-unique of_sum body pool a b h k =
      IsMetricOf-unique (λ field. Sum (record { field = field })) body a b h k

  -- a body of an aggregation asks by the word for its kind
  by_word : (body : Data) (pool : List B) (agg : AggregationVariants B)
      → IsBody false name_of body pool agg → Asks (kind_of (kind_word agg)) body pool agg
  by_word body pool (Filter filter) h = (filter.query, refl, h)
  by_word body pool (Composite composite) h = (composite, refl, h)
  by_word body pool (Count metric) h = (metric.field, refl, h)
  by_word body pool (Max metric) h = (metric.field, refl, h)
  by_word body pool (Min metric) h = (metric.field, refl, h)
  by_word body pool (Sum metric) h = (metric.field, refl, h)

  asked : (kind : List ℕ) (body : Data) (pool : List B) (agg : AggregationVariants B)
      → IsKind false name_of kind body pool agg → Asks (kind_of kind) body pool agg
  asked kind body pool agg (inl (is, h)) =
      subst (λ k. Asks (kind_of k) body pool agg) (sym is) (by_word body pool agg h)
  asked kind body pool agg (inr (may, _)) = absurd (true≢false (sym may))

  IsKind-unique : (kind : List ℕ) (body : Data) (pool : List B) (a b : AggregationVariants B)
      → IsKind false name_of kind body pool a → IsKind false name_of kind body pool b → a ≡ b
  IsKind-unique kind body pool a b h k =
      Asks-unique (kind_of kind) body pool a b (asked kind body pool a h)
      (asked kind body pool b k)

-- ---- aggregations

-- the builders that are left are the same
IsLeft-unique : {B : Type 0} (left : Option (List B)) (a b : List B) → IsLeft false left a
    → IsLeft false left b → a ≡ b
IsLeft-unique left a b (inr may) k = absurd (true≢false (sym may))
IsLeft-unique left a b (inl h) (inr may) = absurd (true≢false (sym may))
IsLeft-unique left a b (inl h) (inl k) = same_value a b (sym h ∙ k)

-- an aggregation is what it asks and those below it
same_parts : {B : Type 0} (a b : Aggregation B) → agg_of a ≡ agg_of b → below_of a ≡ below_of b
    → a ≡ b
same_parts a b aggs belows =
    made-of_parts a (agg_of b) (below_of b) aggs belows
    ∙ sym (made-of_parts b (agg_of b) (below_of b) refl refl)

module _ {B : Type 0} (left : Data → List B → Option (List B))
    (Is : Data → List B → Aggregation B → Type 0)
    (one : (d : Data) (pool : List B) (a b : Aggregation B)
    → Is d pool a → Is d pool b → a ≡ b) where
  AreAggregations-unique : (members : Members) (pool : List B) (a b : Request B)
      → AreAggregations false left Is members pool a
      → AreAggregations false left Is members pool b → a ≡ b
  AreAggregations-unique no_members pool [] [] h k = refl
  AreAggregations-unique no_members pool [] (y ∷ b) h k = absurd k
  AreAggregations-unique no_members pool (x ∷ a) b h k = absurd h
  AreAggregations-unique (member name d rest) pool [] b h k = absurd h
  AreAggregations-unique (member name d rest) pool (x ∷ a) [] h k = absurd k
  AreAggregations-unique (member name d rest) pool (x ∷ a) (y ∷ b)
      (named, is, (mid, mids, later)) (named_too, is_too, (mid_too, mids_too, later_too)) =
      let firsts : x ≡ y = λ i. ((named ∙ sym named_too) i, one d pool x.1 y.1 is is_too i) in
      let same : mid_too ≡ mid = IsLeft-unique (left d pool) mid_too mid mids_too mids in
      ap (λ l. l ∷ a) firsts
      ∙ ap (λ l. y ∷ l) (AreAggregations-unique rest mid a b later
      (subst (λ p. AreAggregations false left Is rest p b) same later_too))

  IsBelow-unique : (kind : List ℕ) (o : Option Data) (pool : List B) (a b : Request B)
      → IsBelow false left Is kind o pool a → IsBelow false left Is kind o pool b → a ≡ b
  IsBelow-unique kind None pool a b h k = h ∙ sym k
  IsBelow-unique kind (Some d) pool a b (members, is, _, each) (members_too, is_too, _, each_too) =
      let same : members_too ≡ members = same_value members_too members (sym is_too ∙ is) in
      AreAggregations-unique members pool a b each
      (subst (λ m. AreAggregations false left Is m pool b) same each_too)

module _ {B : Type 0} (name_of : B → List ℕ) where
  IsAggregation-unique : (levels : ℕ) (d : Data) (pool : List B) (a b : Aggregation B)
      → IsAggregation false name_of levels d pool a → IsAggregation false name_of levels d pool b
      → a ≡ b
  IsAggregation-unique zero d pool a b h k = absurd h
  IsAggregation-unique (suc levels) d pool a b (kind, body, is, asks, (mid, mids, below))
      (kind_too, body_too, is_too, asks_too, (mid_too, mids_too, below_too)) =
      let same : (kind_too, body_too) ≡ (kind, body) =
      same_value (kind_too, body_too) (kind, body) (sym is_too ∙ is) in
      let there : IsKind false name_of kind body pool (agg_of b) =
      subst (λ m. IsKind false name_of m.0 m.1 pool (agg_of b)) same asks_too in
      let left : mid_too ≡ mid =
      IsLeft-unique (left_by_kind name_of kind body pool) mid_too mid
      (subst (λ m. IsLeft false (left_by_kind name_of m.0 m.1 pool) mid_too) same mids_too) mids in
      let under : IsBelow false (left_behind name_of levels) (IsAggregation false name_of levels)
      kind (get (codes "aggs") d) mid (below_of b) =
      subst (λ m. IsBelow false (left_behind name_of levels) (IsAggregation false name_of levels)
      m.0 (get (codes "aggs") d) mid (below_of b)) same
      (subst (λ p. IsBelow false (left_behind name_of levels)
      (IsAggregation false name_of levels) kind_too (get (codes "aggs") d) p (below_of b)) left
      below_too) in
      same_parts a b (IsKind-unique name_of kind body pool (agg_of a) (agg_of b) asks there)
      (IsBelow-unique (left_behind name_of levels) (IsAggregation false name_of levels)
      (IsAggregation-unique levels) kind (get (codes "aggs") d) mid (below_of a) (below_of b) below
      under)

  pub IsRequestJson-unique : (d : Data) (pool : List B) (a b : Request B)
      → IsRequestJson name_of d pool a → IsRequestJson name_of d pool b → a ≡ b
  IsRequestJson-unique d pool a b (members, is, each) (members_too, is_too, each_too) =
      let same : members_too ≡ members = same_value members_too members (sym is_too ∙ is) in
      AreAggregations-unique (left_behind name_of (suc (depth d)))
      (IsAggregation false name_of (suc (depth d))) (IsAggregation-unique (suc (depth d))) members
      pool a b each
      (subst (λ m. AreAggregations false (left_behind name_of (suc (depth d)))
      (IsAggregation false name_of (suc (depth d))) m pool b) same each_too)
