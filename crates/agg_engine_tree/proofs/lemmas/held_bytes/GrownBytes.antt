-- A tree that grows holds no fewer bytes.
use Rattle.std.proofs.Common.{◌≡◌, ◌≤◌, ◌*◌, ap, arith}
use Rattle.std.proofs.Math.Nat.{mul-le-mul_left}
use Rattle.agg_composite.specs.Composite.{num_buckets}
use Rattle.agg_engine_tree.specs.declared.segment_context.context.PerRequestAggSegCtx.{
  PerRequestAggSegCtx,
}
use Rattle.agg_engine_tree.specs.collector_tree.Tree.{AllGrowTo, GrowsTo, Held, Helds}
use Rattle.agg_engine_tree.specs.held_bytes.HeldBytes.{bytes_at, bytes_of_all, held_bytes}

module _ (ctx : PerRequestAggSegCtx) where
  mutual
    pub held-more : (h k : Held) → GrowsTo h k → held_bytes ctx h ≤ held_bytes ctx k
    held-more (Held.composite i a h) (Held.composite j b k) grows =
        let same : bytes_at ctx i * num_buckets a ≡ bytes_at ctx j * num_buckets a =
        ap (λ index. bytes_at ctx index * num_buckets a) grows.0 in
        let own = mul-le-mul_left (bytes_at ctx j) grows.2 in
        omega (arith, same, own, held-more h k grows.1)
    held-more (Held.filter i a h) (Held.filter j b k) grows = held-more h k grows.1
    held-more (Held.metric i a) (Held.metric j b) grows = omega arith
    held-more (Held.group hs) (Held.group ks) grows = all-more hs ks grows
    held-more h k grows = absurd grows

    all-more : (hs ks : Helds) → AllGrowTo hs ks → bytes_of_all ctx hs ≤ bytes_of_all ctx ks
    all-more Helds.none Helds.none grow = omega arith
    all-more (Helds.more h hs) (Helds.more k ks) grow =
        omega (arith, held-more h k grow.0, all-more hs ks grow.1)
    all-more hs ks grow = absurd grow
