-- What is so of all documents of a segment is so of those of some numbers.
use Rattle.std.proofs.Common.{◌<◌, ℕ, List, get_or, length, subst, arith}
use Rattle.std.specs.List.{All}
use Rattle.std.proofs.lemmas.List.Elements.{All-map}
use Rattle.std.proofs.lemmas.List.FromFn.{get_or-map-range_with_len, length-map-range_with_len}
use Rattle.agg_segment.specs.storage.Document.{Fields}
use Rattle.agg_segment.specs.Segment.{Stored, document_at, documents_at, documents_of}

pub stored-all : (P : Fields → Type 0) (segment : Stored) (docs : List ℕ)
    → All (λ doc. doc < length (documents_of segment)) docs → All P (documents_of segment)
    → All P (documents_at segment docs)
stored-all P segment docs within all =
    All-map P (document_at segment) docs (λ k d l.
    let doc = get_or docs k d in
    let few : doc < length (documents_of segment) = within k d l in
    let long = length-map-range_with_len (document_at segment) 0 segment.count in
    subst P
    (get_or-map-range_with_len (document_at segment) 0 segment.count doc doc
    (document_at segment doc) (omega arith) (omega arith))
    (all doc (document_at segment doc) few))
