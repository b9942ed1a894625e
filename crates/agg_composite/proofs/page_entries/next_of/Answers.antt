use Rattle.std.proofs.Common.{sym, subst}
use Rattle.agg_composite.specs.accessor.Decoded.{IsEncoded}
use Rattle.agg_composite.proofs.BucketPages.{first-encoded}
use Rattle.agg_composite.proofs.page_entries.next_of.Goals as goal

pub entry-requires : goal.entry-requires
entry-requires g c =
    let req = c.args.req.now in
    subst (IsEncoded req) (sym c.as_slice.ensures)
    (first-encoded req c.args.buckets.now c.next.new.self (c.in-Some.tuple, c.in-Some.bucket)
    c.in-Some.ensures.steps c.requires).0
