-- Aggregations that are the same but for their builders, which have the same names.
use Rattle.std.proofs.Common.{◌≡◌, ◌∷◌, [], ℕ, List, Bool, true, false, refl}
use Rattle.std.proofs.Common.{None, Some, codes, sym, subst, ap, ◌∙◌}
use Rattle.std.specs.Prelude.{option_map}
use Rattle.std.specs.Map.{keys_of}
use Rattle.std.specs.Str.{bytes_eq}
use Rattle.std.proofs.lemmas.Map.Made.{keys_of-map_values}
use Rattle.serde_json.specs.Data.{Data}
use Rattle.agg_request.specs.reading.Builders.{left_by_filter, left_by_kind, taken}
use Rattle.agg_request_tree.specs.Request.{Request, agg_of, aggregation_of, with_builders_in}
use Rattle.agg_request_tree.specs.Request.{below_of}
use Rattle.agg_request_tree.specs.Request.{with_own_builder, with_query_builder, with_builders}
use Rattle.agg_request.specs.ReadBack.{SaysKind}
use Rattle.agg_request.specs.reading.RequestJson.{kind_word}
use Rattle.agg_request.specs.reading.Kinds.{may_hold}
use Rattle.agg_request_tree.specs.declared.aggregation.Aggregation.{Aggregation}
use Rattle.agg_request_tree.specs.declared.aggregation.Aggregation.TheFolds as folds
use folds.{fold_out-Aggregation}
use Rattle.agg_request_tree.specs.declared.aggregation.AggregationVariants as variants
use variants.{AggregationVariants}
use variants.TheVariants.{Filter, Composite, Count, Max, Min, Sum}
use Rattle.agg_request_tree.specs.declared.aggregation.filter.FilterAggregation as filters
use filters.{FilterAggregation}
use Rattle.agg_request_tree.specs.declared.aggregation.filter.FilterQuery.{FilterQuery}
use Rattle.agg_request_tree.specs.declared.aggregation.filter.FilterQuery.TheVariants as by
use by.{Tree, CustomBuilder}
use Rattle.agg_request_tree.proofs.RequestTrees.{agg-made, below-made}

module _ {B : Type 0} (name_of : B → List ℕ) where
  -- ---- level by level

  -- an aggregation with something else in place of each builder, level by level
  with-out : (a : Aggregation B) → with_builders_in name_of a
      ≡ aggregation_of (with_own_builder name_of (agg_of a)) (with_builders name_of (below_of a))
  with-out a =
      fold_out-Aggregation B (Aggregation (List ℕ))
      (λ a. aggregation_of (with_own_builder name_of a.agg) a.sub_aggregation) a

  kind-out : (a : Aggregation B)
      → agg_of (with_builders_in name_of a) ≡ with_own_builder name_of (agg_of a)
  kind-out a =
      ap agg_of (with-out a)
      ∙ agg-made (with_own_builder name_of (agg_of a)) (with_builders name_of (below_of a))

  below-out : (a : Aggregation B)
      → below_of (with_builders_in name_of a) ≡ with_builders name_of (below_of a)
  below-out a =
      ap below_of (with-out a)
      ∙ below-made (with_own_builder name_of (agg_of a)) (with_builders name_of (below_of a))

  -- they ask the same but for their builder
  pub same-kind : (a other : Aggregation B)
      → with_builders_in name_of other ≡ with_builders_in name_of a
      → with_own_builder name_of (agg_of other) ≡ with_own_builder name_of (agg_of a)
  same-kind a other same = sym (kind-out other) ∙ ap agg_of same ∙ kind-out a

  -- those below them are the same but for their builders
  pub same-below : (a other : Aggregation B)
      → with_builders_in name_of other ≡ with_builders_in name_of a
      → with_builders name_of (below_of other) ≡ with_builders name_of (below_of a)
  same-below a other same = sym (below-out other) ∙ ap below_of same ∙ below-out a

  -- ---- kinds

  -- the name of a kind doesn't go by its builder
  word-with : (agg : AggregationVariants B)
      → kind_word (with_own_builder name_of agg) ≡ kind_word agg
  word-with (Filter filter) = refl
  word-with (Composite composite) = refl
  word-with (Count metric) = refl
  word-with (Max metric) = refl
  word-with (Min metric) = refl
  word-with (Sum metric) = refl

  -- they have one name
  pub alike-word : (agg other : AggregationVariants B)
      → with_own_builder name_of other ≡ with_own_builder name_of agg
      → kind_word other ≡ kind_word agg
  alike-word agg other same =
      sym (word-with other) ∙ ap kind_word same ∙ word-with agg

  -- what one may have below it, so may the other
  pub alike-holds : (agg other : AggregationVariants B) (below others : Request B)
      → with_own_builder name_of other ≡ with_own_builder name_of agg
      → with_builders name_of others ≡ with_builders name_of below
      → may_hold (kind_word agg) (keys_of below) ≡ true
      → may_hold (kind_word other) (keys_of others) ≡ true
  alike-holds agg other below others same beneath may =
      (λ i. may_hold (alike-word agg other same i) (names i)) ∙ may
    where
      names : keys_of others ≡ keys_of below
      names =
          sym (keys_of-map_values (λ (a : Aggregation B). with_builders_in name_of a) others)
          ∙ ap keys_of beneath
          ∙ keys_of-map_values (λ (a : Aggregation B). with_builders_in name_of a) below

  -- ---- builders

  -- the builder that is taken of none but itself has the name
  named-so : (name : List ℕ) (b : B)
      → option_map (λ t. t.0) (taken name_of name (b ∷ [])) ≡ Some b
      → bytes_eq (name_of b) name ≡ true
  named-so name b is = by_test (bytes_eq (name_of b) name) refl
    where
      by_test : (test : Bool) → bytes_eq (name_of b) name ≡ test
          → bytes_eq (name_of b) name ≡ true
      by_test true e = e
      by_test false e =
          let none : option_map (λ t. t.0) (taken name_of name (b ∷ [])) ≡ None = rw e refl in
          absurd (cc (none, is))

  -- a body that asks for a builder asks for another of the same name
  alike-builder : (body : Data) (b c : B) → name_of c ≡ name_of b
      → SaysKind name_of body (Filter (record { query = CustomBuilder b }))
      → SaysKind name_of body (Filter (record { query = CustomBuilder c }))
  alike-builder body b c same told rest =
      let (kind, (name, asked, found)) = (told []).0 in
      let its : bytes_eq (name_of c) name ≡ true =
      ap (λ n. bytes_eq n name) same ∙ named-so name b found in
      let first : taken name_of name (c ∷ rest) ≡ Some (c, rest) = rw its refl in
      let left : left_by_kind name_of (codes "filter") body (c ∷ rest) ≡ Some rest =
      ap (λ asks. left_by_filter name_of asks (c ∷ rest)) asked
      ∙ ap (option_map (λ t. t.1)) first in
      ((kind, (name, asked, ap (option_map (λ t. t.0)) first)), left)

  -- a body says what is equal
  says-same : (body : Data) (agg other : AggregationVariants B) → agg ≡ other
      → SaysKind name_of body agg → SaysKind name_of body other
  says-same body agg other same =
      subst (λ (a : AggregationVariants B). SaysKind name_of body a) same

  -- a body that says one says the other
  pub alike-says : (body : Data) (agg other : AggregationVariants B)
      → with_own_builder name_of other ≡ with_own_builder name_of agg
      → SaysKind name_of body agg → SaysKind name_of body other
  alike-says body (Filter filter) (Filter other) same told =
      let same_filter : ◌≡◌ {A = FilterAggregation (List ℕ)}
      (record { query = with_query_builder name_of other.query })
      (record { query = with_query_builder name_of filter.query }) = cc in
      by_query filter.query other.query (ap (λ f. f.query) same_filter) told
    where
      by_query : (query its : FilterQuery B)
          → with_query_builder name_of its ≡ with_query_builder name_of query
          → SaysKind name_of body (Filter (record { query = query }))
          → SaysKind name_of body (Filter (record { query = its }))
      by_query (Tree tree) (Tree tree_of) same told =
          let tree_same : tree ≡ tree_of = cc in
          says-same body (Filter (record { query = Tree tree }))
          (Filter (record { query = Tree tree_of })) (rw tree_same refl) told
      by_query (CustomBuilder b) (CustomBuilder c) same told =
          alike-builder body b c (cc) told
      by_query _ _ same told = absurd (cc)
  alike-says body (Composite composite) (Composite other) same told =
      says-same body (Composite composite) (Composite other) (cc) told
  alike-says body (Count metric) (Count other) same told =
      says-same body (Count metric) (Count other) (cc) told
  alike-says body (Max metric) (Max other) same told =
      says-same body (Max metric) (Max other) (cc) told
  alike-says body (Min metric) (Min other) same told =
      says-same body (Min metric) (Min other) (cc) told
  alike-says body (Sum metric) (Sum other) same told =
      says-same body (Sum metric) (Sum other) (cc) told
  alike-says body _ _ same told = absurd (cc)
