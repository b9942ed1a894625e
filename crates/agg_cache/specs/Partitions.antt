-- Documents with their buckets, in partitions by the remainder of the bucket's id.
use Rattle.std.specs.Prelude.{◌≡◌, ◌+◌, ◌%◌, ◌++◌, ℕ, List, [], ◌∷◌, All, get_or, map, max}
use Rattle.std.specs.Prelude.{slice_set}
use Rattle.std.specs.List.{flat_map, range_with_len}
use Rattle.std.specs.declared.alloc.Global.{Global}
use Rattle.std.specs.declared.vec.Vec.{Vec}
use Rattle.agg_cache.specs.Waiting.{docs_of, is_id}

-- the documents of partitions, each after its bucket
abbrev pub items_of : List (Vec (ℕ × ℕ) Global) → List (List (ℕ × ℕ))
items_of partitions = map (λ p. p.items) partitions

-- the partition at a place is that of a document's bucket
abbrev pub IsAt : ℕ → ℕ × ℕ → Type 0
IsAt place e = e.0 % 16 ≡ place

-- each document stands in the partition of its bucket
abbrev pub ArePartitioned : List (List (ℕ × ℕ)) → Type 0
ArePartitioned partitions = (place : ℕ) → All (IsAt place) (get_or partitions place [])

-- the documents of a bucket, in order
abbrev pub documents_of : List (List (ℕ × ℕ)) → ℕ → List ℕ
documents_of partitions id = docs_of (is_id id) (get_or partitions (id % 16) [])

-- one more document of a bucket
abbrev pub with_document : List (List (ℕ × ℕ)) → ℕ → ℕ → List (List (ℕ × ℕ))
with_document partitions bucket doc =
    slice_set partitions (bucket % 16)
    (get_or partitions (bucket % 16) [] ++ (bucket, doc) ∷ [])

-- one more than the greatest id
abbrev pub ids_below : List (ℕ × ℕ) → ℕ
ids_below [] = 0
ids_below (e ∷ es) = max (e.0 + 1) (ids_below es)

-- the documents of each bucket, up to the greatest id
abbrev pub lists_of : List (List (ℕ × ℕ)) → List (List ℕ)
lists_of partitions =
    map (documents_of partitions) (range_with_len 0 (ids_below (flat_map (λ p. p) partitions)))
