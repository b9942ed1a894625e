use Rattle.agg_composite.proofs.lemmas.buckets.NodeLaws.{compose-tuples, compose-visits}
use Rattle.agg_composite.proofs.buckets.laws.visits_compose.Goals as goal

pub returns : goal.returns
returns g c = record {
  visits = compose-visits g.S.Ord.cmp g.met.S.Ord.total;
  tuples = compose-tuples g.S.Ord.cmp g.met.S.Ord.total;
}
