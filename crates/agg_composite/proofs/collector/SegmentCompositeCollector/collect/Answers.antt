use Rattle.std.proofs.Common.{arith}
use Rattle.std.proofs.lemmas.Result.{err_from_is_err_and}
use Rattle.agg_composite.specs.Visits.{visits_past}
use Rattle.agg_composite.proofs.OpenedBuckets.{held-bytes, no-fewer, opened-bytes, past-under}
use Rattle.agg_composite.proofs.collector.SegmentCompositeCollector.collect.Goals as goal

pub returns-in_err-collect_uncharged-clause-many :
    goal.returns-in_err-collect_uncharged-clause-many
returns-in_err-collect_uncharged-clause-many g c =
    let p = err_from_is_err_and c.from_residual.result c.from_residual.ensures.1 in
    rw (p.1, p.2) c.in_err-collect_uncharged.ensures.many

pub bytes_since-requires-clause-no_fewer : goal.bytes_since-requires-clause-no_fewer
bytes_since-requires-clause-no_fewer g c =
    let req = c.args.req.now in
    let fits = c.requires.fits in
    let typed = visits_past req.req.now.sources fits.0 fits.1 c.args.parent_bucket_id
    c.args.docs.now in
    let takes = (c.in_ok-collect_uncharged.ensures.visits fits.0 fits.1 fits.2).ok in
    let most = no-fewer g.C.SubAggCache.waiting req typed c.args.self.now
    c.collect_uncharged.new.self takes in
    let before = c.num_buckets-before.ensures.total in
    omega (arith, most, before)

pub returns-in_err-add_memory_consumed-clause-opened :
    goal.returns-in_err-add_memory_consumed-clause-opened
returns-in_err-add_memory_consumed-clause-opened g c = λ segment after fit visited given f.
    let req = c.args.req.now in
    let parent = c.args.parent_bucket_id in
    let docs = c.args.docs.now in
    let opened = opened-bytes g.C.SubAggCache.waiting req
    (visits_past req.req.now.sources segment after parent docs) c.args.self.now
    c.collect_uncharged.new.self (c.in_ok-collect_uncharged.ensures.visits segment after fit).ok
    c.num_buckets-before.result c.bytes_since.result c.num_buckets-before.ensures.total
    c.bytes_since.ensures parent (past-under req.req.now.sources segment after parent docs)
    c.requires.parent visited given f in
    let p = err_from_is_err_and c.from_residual-in_err-add_memory_consumed.result
    c.from_residual-in_err-add_memory_consumed.ensures.1 in
    rw (p.1, p.2) (c.bytes_since.result, opened, c.in_err-add_memory_consumed.ensures.exceeded)

pub returns-clause-opened : goal.returns-clause-opened
returns-clause-opened g c = λ segment after fit visited given f.
    let req = c.args.req.now in
    let parent = c.args.parent_bucket_id in
    let docs = c.args.docs.now in
    let opened = opened-bytes g.C.SubAggCache.waiting req
    (visits_past req.req.now.sources segment after parent docs) c.args.self.now
    c.collect_uncharged.new.self (c.in_ok-collect_uncharged.ensures.visits segment after fit).ok
    c.num_buckets-before.result c.bytes_since.result c.num_buckets-before.ensures.total
    c.bytes_since.ensures parent (past-under req.req.now.sources segment after parent docs)
    c.requires.parent visited given f in
    let charge = c.in_ok-add_memory_consumed.ensures in
    (c.bytes_since.result, opened, charge.within, charge.ledger, charge.guard)

pub returns-clause-held : goal.returns-clause-held
returns-clause-held g c =
    let req = c.args.req.now in
    let fits = c.requires.fits in
    let typed = visits_past req.req.now.sources fits.0 fits.1 c.args.parent_bucket_id
    c.args.docs.now in
    let takes = (c.in_ok-collect_uncharged.ensures.visits fits.0 fits.1 fits.2).ok in
    held-bytes g.C.SubAggCache.waiting req typed c.args.self.now c.collect_uncharged.new.self takes
    c.num_buckets-before.result c.bytes_since.result c.num_buckets-before.ensures.total
    c.bytes_since.ensures c.args.limits.now c.add_memory_consumed.new.limits
    c.in_ok-add_memory_consumed.ensures.ledger
