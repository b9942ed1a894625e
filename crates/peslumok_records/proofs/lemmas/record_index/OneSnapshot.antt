-- The one snapshot of documents.
use Rattle.std.proofs.Common.{◌≡◌, ◌++◌, ◌∷◌, ◌∙◌, [], ℕ, List, ap, flat_map, map, refl}
use Rattle.agg_segment.specs.storage.Document.{Fields}
use Rattle.agg_segment.specs.Segment.{Stored, documents_of}
use Rattle.agg_segment.specs.Snapshot.{snapshot_documents, snapshots_documents}
use Rattle.agg_segment.specs.declared.snapshot.Snapshot.{Snapshot}
use Rattle.peslumok_records.specs.record_index.Index.{AreOneOf}

-- the documents of segments, joined
joined-segments : (segments : List Stored)
    → flat_map (λ (own : List Fields). own) (map documents_of segments)
    ≡ flat_map documents_of segments
joined-segments [] = refl
joined-segments (segment ∷ segments) =
    ap (λ rest. documents_of segment ++ rest) (joined-segments segments)

-- the one snapshot of segments that hold documents
pub one-snapshot : (documents : List Fields) (segments given : List Stored) (size : ℕ)
    (before now : List Snapshot) → flat_map documents_of segments ≡ documents → given ≡ segments
    → before ≡ [] → now ≡ before ++ record { segments = given; page_size = size } ∷ []
    → AreOneOf documents size (snapshots_documents now)
one-snapshot documents segments given size before now held same none is =
    let snapshot : Snapshot = record { segments = given; page_size = size } in
    record {
      only = snapshot_documents snapshot;
      alone = ap snapshots_documents
          (is ∙ ap (λ (snapshots : List Snapshot). snapshots ++ snapshot ∷ []) none);
      joined = joined-segments given ∙ ap (flat_map documents_of) same ∙ held;
      sized = refl;
    }
