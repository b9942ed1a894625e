use Rattle.agg_composite.proofs.lemmas.buckets.Groups.{cuts}
use Rattle.agg_composite.proofs.buckets.laws.cuts_compose.Goals as goal

pub returns : goal.returns
returns g c = cuts g.S.Ord.cmp g.met.S.Ord.total
