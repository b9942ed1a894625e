use Rattle.agg_composite.proofs.lemmas.buckets.StandingNodes.{stay-right}
use Rattle.agg_composite.proofs.buckets.laws.nodes_stay_right.Goals as goal

pub returns : goal.returns
returns g c = stay-right g.S.Ord.cmp
