use Rattle.std.proofs.Common.{ap, ◌∙◌}
use Rattle.agg_values.specs.Names.{without}
use Rattle.peslumok_front.proofs.lemmas.front.PageParts.{same-total}
use Rattle.peslumok_front.proofs.front.top.take_groups.Goals as goal

pub returns-in-Some-BucketResult-Composite-clause-total
    : goal.returns-in-Some-BucketResult-Composite-clause-total
returns-in-Some-BucketResult-Composite-clause-total c =
    same-total c.args.page.now.0 c.remove.new.self
    (c.remove.ensures.rest ∙ ap (λ n. without n c.args.page.now.0) c.in_ok-name.ensures)

pub returns-clause-total : goal.returns-clause-total
returns-clause-total c =
    same-total c.args.page.now.0 c.remove.new.self
    (c.remove.ensures.rest ∙ ap (λ n. without n c.args.page.now.0) c.in_ok-name.ensures)
