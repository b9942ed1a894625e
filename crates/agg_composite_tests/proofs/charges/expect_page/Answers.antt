use Rattle.std.proofs.Common.{All, sym, subst}
use Rattle.std.specs.Map.{keys_of}
use Rattle.agg_composite.specs.accessor.Decoded.{IsEncoded}
use Rattle.agg_composite.specs.accessor.Encoding.{EncodedTuple}
use Rattle.agg_composite.specs.buckets.Page.{Page}
use Rattle.agg_composite.proofs.BucketPages.{page-encoded}
use Rattle.agg_composite_tests.proofs.charges.expect_page.Goals as goal

pub expect_entries-requires : goal.expect_entries-requires
expect_entries-requires g c =
    let right = c.requires in
    subst (λ (es : Page EncodedTuple). All (IsEncoded c.args.req.now) (keys_of es))
    (sym c.in_ok-entries.ensures)
    (page-encoded g.C.SubAggCache.waiting c.args.req.now c.args.collector right.0 right.1 0
    right.2)
