use Rattle.agg_composite.proofs.AlikePages.{pages-alike}
use Rattle.agg_composite.proofs.laws.caches_give_equal_sub_results.Goals as goal

pub returns : goal.returns
returns g c segment after req fits =
    pages-alike segment after req fits g.C.SubAggCache.waiting g.D.SubAggCache.waiting
