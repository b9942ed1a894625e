use Rattle.std.proofs.Common.{◌≡◌, ◌+◌, ◌∙◌, ap, sym, rules}
use Rattle.agg_segment.specs.declared.storage.run.Run.{Run}
use Rattle.agg_segment.proofs.lemmas.storage.NotedRuns.{kinds_counted}
use Rattle.agg_segment.proofs.storage.run.count_one.Goals as goal

pub returns-clause-ok : goal.returns-clause-ok
returns-clause-ok c =
    let last = c.in-Some.last.now in
    let value = c.in-Some.ensures.value in
    let same : last.kind ≡ c.args.kind = search rules in
    kinds_counted c.args.runs.now.items _ _ last c.args.kind (search rules) same
    (ap (λ (run : Run). run.kind) (sym value) ∙ same)
    (ap (λ (run : Run). run.count + 1) value)
