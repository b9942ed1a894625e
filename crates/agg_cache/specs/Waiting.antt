-- Documents that wait, by bucket.
use Rattle.std.specs.Prelude.{◌≡◌, ◌==◌, ◌<◌, ℕ, Bool, List, [], ◌∷◌, ◌++◌, All, get_or, length}
use Rattle.std.specs.Prelude.{map, not, if◌then◌else◌}
use Rattle.std.specs.List.{flat_map, range_with_len}
use Rattle.agg_cache.specs.declared.cache.Batch.{Batch}

-- the documents of the labels that pass, in order
abbrev pub docs_of : {A : Type 0} → (A → Bool) → List (A × ℕ) → List ℕ
docs_of passes pairs = flat_map (λ e. if passes e.0 then e.1 ∷ [] else []) pairs

-- whether an id is this one
abbrev pub is_id : ℕ → ℕ → Bool
is_id i j = j == i

-- the documents of one bucket, each with its id
abbrev pub under : ℕ → List ℕ → List (ℕ × ℕ)
under bucket docs = map (λ doc. (bucket, doc)) docs

-- the documents of batches, each with the id of its bucket
abbrev pub pairs_of : List Batch → List (ℕ × ℕ)
pairs_of batches = flat_map (λ batch. under batch.bucket_id batch.docs) batches

-- the documents that wait for each bucket, with one more for this bucket
abbrev pub one_more : ℕ → ℕ → (ℕ → List ℕ) → ℕ → List ℕ
one_more bucket doc waiting id = if id == bucket then waiting id ++ doc ∷ [] else waiting id

-- no batch is empty
abbrev pub AreFilled : List Batch → Type 0
AreFilled batches = All (λ batch. 0 < length batch.docs) batches

-- the batches of a bucket, joined, are what waits for it, and none is empty
pub record AreBatchesOf (waiting : ℕ → List ℕ) (batches : List Batch) : Type 0 where
  pub all : (id : ℕ) → docs_of (is_id id) (pairs_of batches) ≡ waiting id
  pub filled : AreFilled batches

-- the batches are of the buckets 0, 1, 2 and so on
abbrev pub AreNumbered : List Batch → Type 0
AreNumbered batches = map (λ batch. batch.bucket_id) batches ≡ range_with_len 0 (length batches)

-- the documents of the batch at a place
abbrev pub docs_at : List Batch → ℕ → List ℕ
docs_at batches place = get_or (map (λ batch. batch.docs) batches) place []

-- whether a batch has a document
abbrev pub has_docs : Batch → Bool
has_docs batch = not (length batch.docs == 0)
