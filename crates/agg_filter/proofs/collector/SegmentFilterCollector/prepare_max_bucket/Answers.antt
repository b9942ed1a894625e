use Rattle.std.proofs.Common.{◌≡◌, ◌+◌, ◌-◌, ◌≤◌, length, refl, ap, arith}
use Rattle.std.specs.Result.{is_ok}
use Rattle.std.specs.Vec.{vec_len}
use Rattle.agg_filter.proofs.PreparedParents.{prepared-right, resized, resized-few}
use Rattle.agg_filter.proofs.collector.SegmentFilterCollector.prepare_max_bucket.Goals as goal

pub returns-clause-parents : goal.returns-clause-parents
returns-clause-parents g c = rw (← c.self.view_is)
    (resized _ _ (is_ok c.resize.result) (c.args.max_bucket + 1)
    (c.args.max_bucket + 1 - vec_len c.self.inside.counts) refl refl
    (omega (arith, c.len.ensures, c.if-prepared-len.false)) c.resize.ensures.items refl)

pub returns-clause-right : goal.returns-clause-right
returns-clause-right g c =
    let size = c.args.max_bucket + 1 in
    let long : vec_len c.self.inside.counts ≡ length c.self.inside.counts.items =
    omega (arith, c.len.ensures) in
    let few : length c.resize.new.self.items ≤ size = resized-few c.self.inside.counts.items
    c.resize.new.self.items (is_ok c.resize.result) size
    (size - vec_len c.self.inside.counts)
    (omega (arith, c.len.ensures, c.if-prepared-len.false))
    (ap (λ n. size - n) long) c.resize.ensures.items in
    let last : length c.resize.new.self.items ≤ 4294967295 = omega (arith, few) in
    rw (← c.self.view_is) (λ is_match visited given f.
    prepared-right g.C.SubAggCache.waiting is_match _ _ visited given f refl refl
    (resized _ _ (is_ok c.resize.result) (c.args.max_bucket + 1)
    (c.args.max_bucket + 1 - vec_len c.self.inside.counts) refl refl
    (omega (arith, c.len.ensures, c.if-prepared-len.false)) c.resize.ensures.items refl) last)
