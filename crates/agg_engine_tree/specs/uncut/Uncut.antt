-- How many documents the aggregations of a request list, and the same by how often each document
-- stands in a list.
use Rattle.std.specs.Prelude.{◌≡◌, ◌*◌, ◌++◌, ℕ, List, [], ◌∷◌, length, map, replicate}
use Rattle.std.specs.Io.Iter.{u64_saturate}
use Rattle.agg_segment.specs.storage.Document.{Fields}
use Rattle.agg_segment.specs.Query.{matches}
use Rattle.agg_segment.specs.declared.query.QueryTree.{QueryTree}
use Rattle.agg_request_tree.specs.Request.{Request}
use Rattle.agg_request_tree.specs.Uncut.{uncut, uncut_lists_of}
use Rattle.agg_request_tree.specs.declared.aggregation.AggregationVariants.{AggregationVariants}

-- what an aggregation asks, the trees of builders in their place
abbrev pub Asked : Type 0
Asked = AggregationVariants QueryTree

-- how long lists are, at most the greatest u64
abbrev pub lengths_of : List (List Fields) → List ℕ
lengths_of lists = map u64_saturate (map length lists)

-- how many documents each aggregation of a request lists, at any depth
abbrev pub uncut_lengths : Request QueryTree → List Fields → List ℕ
uncut_lengths request documents = lengths_of (uncut_lists_of matches request documents)

-- ---- by weights

-- how often an aggregation lists a document
abbrev pub times : Asked → Fields → ℕ
times asks document = length (uncut matches asks (document ∷ []))

-- documents, each as often as its weight says
abbrev pub repeated : List ℕ → List Fields → List Fields
repeated (w ∷ weights) (d ∷ documents) = replicate w d ++ repeated weights documents
repeated _ _ = []

-- how often an aggregation lists documents that have these weights
abbrev pub own_weights : Asked → List ℕ → List Fields → List ℕ
own_weights asks (w ∷ weights) (d ∷ documents) =
    w * times asks d ∷ own_weights asks weights documents
own_weights asks _ _ = []

-- the lengths of some lists over documents that have these weights come after those that are
-- there
pub record AddsLengths (lists : List Fields → List (List Fields)) (documents : List Fields)
    (weights before after : List ℕ) : Type 0 where
  pub adds : (exact : List ℕ) → length exact ≡ length documents
      → weights ≡ map u64_saturate exact
      → after ≡ before ++ lengths_of (lists (repeated exact documents))
