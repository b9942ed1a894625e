-- What merging makes of two intermediate results, and when it is refused.
use Rattle.std.specs.Prelude.{◌*◌, if◌then◌else◌, length, nat_lt, take}
use Rattle.std.specs.Prelude.{◌≡◌, ◌≢◌, ◌≤◌, ◌<◌, ◌+◌, ◌^◌, ◌⊎◌, ℕ, zero, suc, List, [], ◌∷◌}
use Rattle.std.specs.Prelude.{Option, None, Some, IsSomeAnd, Contains}
use Rattle.std.specs.declared.cmp.Ordering.{Ordering}
use Rattle.std.specs.declared.cmp.Ordering.TheVariants.{Less, Equal, Greater}
use Rattle.agg_values.specs.KeyOrder.{tuple_order}
use Rattle.agg_values.specs.Names.{Named, value_of}
use Rattle.agg_values.specs.Tuple.{KeyTuple}
use Rattle.agg_results.specs.metric_results.MetricMerging.{MetricsDiffer, MetricsMerged}
use Rattle.agg_results.specs.metric_results.MetricMerging.{MetricsPass}
use Rattle.agg_results.specs.intermediate_results.Intermediate.{Entries, Held, Parts, below_entry}
use Rattle.agg_results.specs.intermediate_results.Intermediate.{composite, composite_of, entries_of}
use Rattle.agg_results.specs.intermediate_results.Intermediate.{filter, metric, orders_of, parts_of}
use Rattle.agg_results.specs.intermediate_results.Intermediate.{target_size_of}
use Rattle.agg_results.specs.declared.intermediate_results as intermediate
use intermediate.results.IntermediateAggregationResult.{IntermediateAggregationResult}
use intermediate.composite.IntermediateCompositeBucketResult.{IntermediateCompositeBucketResult}
use intermediate.entry.IntermediateTermBucketEntry.{IntermediateTermBucketEntry}

-- ---- two maps as one

-- what either side has, and where both have it, what became of the two
abbrev pub EitherOrBoth : {T : Type 0} → (T → T → T → Type 0)
    → Option T → Option T → Option T → Type 0
EitherOrBoth Both None o w = w ≡ o
EitherOrBoth Both (Some r) None w = w ≡ Some r
EitherOrBoth Both (Some r) (Some o) w = IsSomeAnd w (Both r o)

-- two maps from names as one
abbrev pub JoinNames : {T : Type 0} → (T → T → T → Type 0) → Named T → Named T → Named T → Type 0
JoinNames Both held others whole =
    (name : List ℕ)
    → EitherOrBoth Both (value_of name held) (value_of name others) (value_of name whole)

-- one of three, by an order
abbrev pub ByOrder : Ordering → Type 0 → Type 0 → Type 0 → Type 0
ByOrder Less L E G = L
ByOrder Equal L E G = E
ByOrder Greater L E G = G

-- two ascending lists of values by tuple as one
abbrev pub JoinEntries : {T : Type 0} → (KeyTuple → KeyTuple → Ordering) → (T → T → T → Type 0)
    → List (KeyTuple × T) → List (KeyTuple × T) → List (KeyTuple × T) → Type 0
JoinEntries R Both left right [] = (left ≡ []) × (right ≡ [])
JoinEntries R Both [] right (w ∷ ws) = w ∷ ws ≡ right
JoinEntries R Both (e ∷ es) [] (w ∷ ws) = w ∷ ws ≡ e ∷ es
JoinEntries R Both (e ∷ es) (f ∷ fs) (w ∷ ws) =
    ByOrder (R e.0 f.0)
    ((w ≡ e) × JoinEntries R Both es (f ∷ fs) ws)
    ((w.0 ≡ e.0) × Both e.1 f.1 w.1 × JoinEntries R Both es fs ws)
    ((w ≡ f) × JoinEntries R Both (e ∷ es) fs ws)

-- both sides hold a name, with values of which this is told
abbrev pub SomeOfBoth : {A B : Type 0} → (A → B → Type 0) → Named A → Named B → Type 0
SomeOfBoth {A = A} {B = B} Told held others =
    (name : List ℕ) × (r : A) × (o : B)
    × (value_of name held ≡ Some r) × (value_of name others ≡ Some o) × Told r o

-- both sides hold a tuple, with values of which this is told
abbrev pub SomeTied : {T : Type 0} → (KeyTuple → KeyTuple → Ordering) → (T → T → Type 0)
    → List (KeyTuple × T) → List (KeyTuple × T) → Type 0
SomeTied {T = T} R Told left right =
    (e : KeyTuple × T) × (f : KeyTuple × T)
    × Contains left e × Contains right f × (R e.0 f.0 ≡ Equal) × Told e.1 f.1

-- ---- composites

-- both have room for a page, of another size or in another order
abbrev pub PagesDiffer : IntermediateCompositeBucketResult → IntermediateCompositeBucketResult
    → Type 0
PagesDiffer c d = (target_size_of c ≢ target_size_of d) ⊎ (orders_of c ≢ orders_of d)

-- both have room for a page, and what is told of them
abbrev pub BothWithRoom : Type 0 → IntermediateCompositeBucketResult
    → IntermediateCompositeBucketResult → Type 0
BothWithRoom Told c d = (0 < target_size_of c) × (0 < target_size_of d) × Told

-- entries that are more than twice the size are cut to the lowest, as many as the size
abbrev pub trimmed : {A : Type 0} → ℕ → List A → List A
trimmed size entries = if nat_lt (2 * size) (length entries) then take size entries else entries

-- a composite's result with these entries, cut to the lowest where they are more than twice its
-- size
abbrev pub trimmed_to : IntermediateCompositeBucketResult → Entries
    → IntermediateCompositeBucketResult
trimmed_to c entries =
    composite_of (orders_of c) (target_size_of c) (trimmed (target_size_of c) entries)

module _ (Below : Held → Held → Held → Type 0) where
  -- two entries of one tuple as one: the counts added, what is below them merged
  abbrev pub EntriesMerged : IntermediateTermBucketEntry → IntermediateTermBucketEntry
      → IntermediateTermBucketEntry → Type 0
  EntriesMerged e f w =
      (w.doc_count ≡ e.doc_count + f.doc_count)
      × Below (below_entry e) (below_entry f) (below_entry w)

  -- two results of a composite as one, trimmed; of one without a size the other
  pub record CompositesMerged (c d w : IntermediateCompositeBucketResult) : Type 0 where
    pub right : target_size_of c ≡ 0 → w ≡ d
    pub left : 0 < target_size_of c → target_size_of d ≡ 0 → w ≡ c
    pub both : 0 < target_size_of c → 0 < target_size_of d
        → (whole : Entries)
        × JoinEntries (tuple_order (orders_of c)) EntriesMerged (entries_of c) (entries_of d) whole
        × (w ≡ trimmed_to c whole)

  -- two results as one, by their parts
  abbrev pub PartsMerged : Parts → Parts → Parts → Type 0
  PartsMerged (metric m) (metric n) (metric w) = MetricsMerged m n w
  PartsMerged (filter m held) (filter n others) (filter w whole) =
      (w ≡ m + n) × Below held others whole
  PartsMerged (composite c) (composite d) (composite w) = CompositesMerged c d w
  PartsMerged r o w = ⊥

module _ (Below : Held → Held → Type 0) where
  -- the shapes of two results differ, by their parts
  abbrev pub PartsDiffer : Parts → Parts → Type 0
  PartsDiffer (metric m) (metric n) = MetricsDiffer m n
  PartsDiffer (filter m held) (filter n others) = Below held others
  PartsDiffer (composite c) (composite d) =
      BothWithRoom (PagesDiffer c d
      ⊎ SomeTied (tuple_order (orders_of c)) (λ e f. Below (below_entry e) (below_entry f))
      (entries_of c) (entries_of d)) c d
  PartsDiffer r o = Unit

  -- a sum of two results is too large, by their parts
  abbrev pub PartsPass : Parts → Parts → Type 0
  PartsPass (metric m) (metric n) = MetricsPass m n
  PartsPass (filter m held) (filter n others) = (2 ^ 64 ≤ m + n) ⊎ Below held others
  PartsPass (composite c) (composite d) =
      BothWithRoom (SomeTied (tuple_order (orders_of c))
      (λ e f. (2 ^ 64 ≤ e.doc_count + f.doc_count) ⊎ Below (below_entry e) (below_entry f))
      (entries_of c) (entries_of d)) c d
  PartsPass r o = ⊥

-- ---- down to a depth

-- two results as one, down to a depth
abbrev pub MergedTo : ℕ → IntermediateAggregationResult → IntermediateAggregationResult
    → IntermediateAggregationResult → Type 0
MergedTo zero r o w = Unit
MergedTo (suc depth) r o w =
    PartsMerged (JoinNames (MergedTo depth)) (parts_of r) (parts_of o) (parts_of w)

-- the shapes of two results differ within a depth
abbrev pub DifferWithin : ℕ → IntermediateAggregationResult → IntermediateAggregationResult
    → Type 0
DifferWithin zero r o = ⊥
DifferWithin (suc depth) r o =
    PartsDiffer (SomeOfBoth (DifferWithin depth)) (parts_of r) (parts_of o)

-- a sum of two results is too large within a depth
abbrev pub PassWithin : ℕ → IntermediateAggregationResult → IntermediateAggregationResult → Type 0
PassWithin zero r o = ⊥
PassWithin (suc depth) r o =
    PartsPass (SomeOfBoth (PassWithin depth)) (parts_of r) (parts_of o)

-- ---- at any depth

-- two results as one, at every depth
abbrev pub IsMerged : IntermediateAggregationResult → IntermediateAggregationResult
    → IntermediateAggregationResult → Type 0
IsMerged r o w = (depth : ℕ) → MergedTo depth r o w

-- the shapes of two results differ, at some depth
abbrev pub ShapesDiffer : IntermediateAggregationResult → IntermediateAggregationResult → Type 0
ShapesDiffer r o = (depth : ℕ) × DifferWithin depth r o

-- a count of two results passes u64 or a sum i128, at some depth
abbrev pub CountsPass : IntermediateAggregationResult → IntermediateAggregationResult → Type 0
CountsPass r o = (depth : ℕ) × PassWithin depth r o

-- results of two sides as one, name by name
abbrev pub AreMerged : Held → Held → Held → Type 0
AreMerged held others whole = (depth : ℕ) → JoinNames (MergedTo depth) held others whole
