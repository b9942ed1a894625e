use Rattle.std.proofs.Common.{◌≡◌, ◌∙◌, ap, arith, get_or, length}
use Rattle.agg_segment.specs.Snapshot.{snapshots_documents}
use Rattle.peslumok_front.proofs.lemmas.front.OnePage.{one-page, page-over}
use Rattle.peslumok_front.proofs.front.page.page_of.Goals as goal

pub remove-requires : goal.remove-requires
remove-requires c =
    let question = c.args.question.now in
    let one : length c.in_ok-pages.field-0.pages ≡ 1 =
    one-page question.asked.now.grouping question.query.now question.snapshots.now c.args.page
    c.in_ok-pages.field-0.pages c.in_ok-pages.field-0.ended c.requires c.in_ok-pages.ensures.walk in
    omega (arith, one, ap length c.into_vec-pages.ensures)

pub returns-clause-page : goal.returns-clause-page
returns-clause-page c = λ documents are.
    let question = c.args.question.now in
    let one : length c.in_ok-pages.field-0.pages ≡ 1 =
    one-page question.asked.now.grouping question.query.now question.snapshots.now c.args.page
    c.in_ok-pages.field-0.pages c.in_ok-pages.field-0.ended c.requires c.in_ok-pages.ensures.walk in
    page-over question.asked.now.grouping question.query.now
    (snapshots_documents question.snapshots.now) c.args.page c.in_ok-pages.field-0.pages
    c.remove.result c.in_ok-pages.field-0.ended documents c.in_ok-pages.ensures.walk one
    (c.remove.ensures.value
    ∙ ap (λ pages. get_or pages 0 c.remove.result)
    c.into_vec-pages.ensures) are
