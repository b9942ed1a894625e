-- The entries that a collector gives of a page.
use Rattle.std.specs.Prelude.{◌≡◌, ℕ, List, [], ◌∷◌, map}
use Rattle.agg_values.specs.Tuple.{KeyTuple}
use Rattle.agg_request_tree.specs.Groups.{Group}
use Rattle.agg_composite.specs.accessor.Decoded.{decoded}
use Rattle.agg_composite.specs.accessor.Encoding.{EncodedTuple}
use Rattle.agg_composite.specs.declared.accessor.request_data.CompositeAggReqData.{
  CompositeAggReqData,
}
use Rattle.agg_composite.specs.buckets.Page.{Page}
use Rattle.agg_composite.specs.declared.buckets.bucket.Bucket.{Bucket}
use Rattle.agg_composite.specs.declared.page_entry.PageEntry.{PageEntry}

-- an entry as a group: its key with its count
abbrev pub entry_group : PageEntry → Group
entry_group entry = (entry.key, entry.doc_count)

-- an entry as a bucket: its key with its count and its id
abbrev pub entry_bucket : PageEntry → KeyTuple × Bucket
entry_bucket entry = (entry.key, record { count = entry.doc_count; id = entry.bucket_id })

-- buckets of encoded tuples, by the tuples that these stand for
abbrev pub decoded_buckets : CompositeAggReqData → Page EncodedTuple → List (KeyTuple × Bucket)
decoded_buckets req buckets = map (λ e. (decoded req e.0, e.1)) buckets

-- the entry of a bucket of an encoded tuple
abbrev pub entry_of : CompositeAggReqData → EncodedTuple × Bucket → PageEntry
entry_of req bucket = record {
  key = decoded req bucket.0;
  doc_count = bucket.1.count;
  bucket_id = bucket.1.id;
}

-- the entries of buckets of encoded tuples
abbrev pub page_entries : CompositeAggReqData → Page EncodedTuple → List PageEntry
page_entries req buckets = map (entry_of req) buckets

-- an entry is that of the first of these buckets, and the others are left
pub record IsNext (req : CompositeAggReqData) (old new : Page EncodedTuple) (entry : PageEntry)
    : Type 0 where
  pub bucket : EncodedTuple × Bucket
  pub split : old ≡ bucket ∷ new
  pub is : entry ≡ entry_of req bucket

-- no buckets are left
abbrev pub AreNone : Page EncodedTuple → Page EncodedTuple → Type 0
AreNone old new = (old ≡ []) × (new ≡ [])

-- counts of encoded tuples as groups
abbrev pub decoded_groups : CompositeAggReqData → List (EncodedTuple × ℕ) → List Group
decoded_groups req counts = map (λ e. (decoded req e.0, e.1)) counts
