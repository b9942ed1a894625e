use Rattle.agg_composite.proofs.lemmas.buckets.CutPages.{have-the-cut, visits-cut}
use Rattle.agg_composite.proofs.buckets.laws.buckets_have_the_cut.Goals as goal

pub returns : goal.returns
returns g c = record {
  pages = have-the-cut g.S.Ord.cmp g.met.S.Ord.total;
  visits = visits-cut g.S.Ord.cmp g.met.S.Ord.total;
}
