-- The bytes of the buckets that the composites of a tree hold.
use Rattle.std.specs.Prelude.{◌+◌, ◌*◌, ℕ, slice_get}
use Rattle.std.specs.Option.{option_map_or}
use Rattle.agg_composite.specs.declared.accessor.request_data.CompositeAggReqData.{
  CompositeAggReqData,
}
use Rattle.agg_request_tree.specs.charges.Charges.{bucket_bytes}
use Rattle.agg_composite.specs.Composite.{num_buckets}
use Rattle.agg_engine_tree.specs.declared.segment_context.context.PerRequestAggSegCtx.{
  PerRequestAggSegCtx,
}
use Rattle.agg_engine_tree.specs.collector_tree.Tree.{Held, Helds}

module _ (ctx : PerRequestAggSegCtx) where
  -- the bytes of a bucket of the composite whose data stands at an index
  abbrev pub bytes_at : ℕ → ℕ
  bytes_at index =
      option_map_or (λ (req : CompositeAggReqData). bucket_bytes req.req.now)
      (slice_get ctx.composite_req_data index) 0

  -- the bytes of all buckets of a tree; what is below a metric holds none
  abbrev mutual
    pub held_bytes : Held → ℕ
    held_bytes (Held.composite index collector h) =
        bytes_at index * num_buckets collector + held_bytes h
    held_bytes (Held.filter index collector h) = held_bytes h
    held_bytes (Held.metric index collector) = 0
    held_bytes (Held.group hs) = bytes_of_all hs

    pub bytes_of_all : Helds → ℕ
    bytes_of_all Helds.none = 0
    bytes_of_all (Helds.more h hs) = held_bytes h + bytes_of_all hs
