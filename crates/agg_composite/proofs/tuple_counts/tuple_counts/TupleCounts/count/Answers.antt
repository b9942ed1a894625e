use Rattle.std.proofs.Common.{◌≡◌, ◌∙◌, ap}
use Rattle.agg_composite.specs.buckets.Cut.{add_count}
use Rattle.agg_composite.specs.tuple_counts.Counted.{counted}
use Rattle.agg_composite.proofs.lemmas.tuple_counts.CountTurns.{counted-last}
use Rattle.agg_composite.proofs.tuple_counts.tuple_counts.TupleCounts.count.Goals as goal
use goal.{then-len-self+in_ok-group, else-len-self}

pub returns-clause-ok : goal.returns-clause-ok
returns-clause-ok g c =
    let R = g.S.Ord.cmp in
    let tuple = c.args.tuple in
    let same : c.if-len-self.self ≡ c.args.self.now = elim c.if-len-self.branch [
      | then-len-self+in_ok-group w ↦ w.self-is ∙ w.in_ok-group.ensures.ok
      | else-len-self w ↦ w.self-is
    ] in
    ap (counted R) c.in_ok-push.ensures.items
    ∙ counted-last R g.met.S.Ord.total c.requires.exact c.self-2.inside.counts.items (tuple, 1)
    ∙ ap (λ counts. add_count R counts tuple 1) (c.self-2.view_is ∙ same)
