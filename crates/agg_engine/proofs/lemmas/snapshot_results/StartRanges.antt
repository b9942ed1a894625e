-- Starts of buckets over lists of documents end to end.
use Rattle.std.proofs.Common.{◌++◌, List, []}
use Rattle.std.proofs.lemmas.List.Elements.{All-append, All-nil}
use Rattle.agg_segment.specs.storage.Document.{Fields}
use Rattle.agg_segment.proofs.EncodedColumns.{back_all, front_all}
use Rattle.agg_request_tree.specs.Ranges.{AreInRange, HasStartOutOfRange}
use Rattle.agg_request_tree.specs.Request.{Request}

module _ {B : Type 0} (request : Request B) (xs ys : List Fields) where
  -- a start that is out of range in a part is so in all
  pub out-front : HasStartOutOfRange request xs → HasStartOutOfRange request (xs ++ ys)
  out-front (k, c, within, at, out) = (
    k,
    c,
    within,
    at,
    λ all. out (front_all (AreInRange c.sources) xs ys all),
  )

  pub out-back : HasStartOutOfRange request ys → HasStartOutOfRange request (xs ++ ys)
  out-back (k, c, within, at, out) = (
    k,
    c,
    within,
    at,
    λ all. out (back_all (AreInRange c.sources) xs ys all),
  )

  -- none is where none is in either
  pub none-out : ¬ (HasStartOutOfRange request xs) → ¬ (HasStartOutOfRange request ys)
      → ¬ (HasStartOutOfRange request (xs ++ ys))
  none-out first second (k, c, within, at, out) =
      first (
        k,
        c,
        within,
        at,
        λ front. second (
          k,
          c,
          within,
          at,
          λ back. out (All-append (AreInRange c.sources) xs ys front back),
        ),
      )

-- none is out of range in no documents
pub none-of_none : {B : Type 0} (request : Request B) → ¬ (HasStartOutOfRange request [])
none-of_none request (k, c, within, at, out) = out (All-nil (AreInRange c.sources))
