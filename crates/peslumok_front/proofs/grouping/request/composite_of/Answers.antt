use Rattle.std.proofs.Common.{◌∙◌, Ok, ap, map}
use Rattle.peslumok_front.proofs.lemmas.grouping.AskedSources.{sources-more}
use Rattle.peslumok_front.proofs.grouping.request.composite_of.Goals as goal

pub loop-by-preserved : goal.loop-by-preserved
loop-by-preserved c =
    ap (map Ok) c.in_ok-push.ensures.ok
    ∙ sources-more c.args.grouping.now.types c.deref-by-items.result.now
    c.args.grouping.now.by.items c.loop-by.by-index _ c.loop-by.sources c.in_ok-source.source
    c.deref-by-items.ensures.value c.loop-by-test.true c.loop-by.invariant
    c.in_ok-source.ensures.source
