use Rattle.std.proofs.Common.{List}
use Rattle.agg_cache.proofs.SameLimits.{same-limits}
use Rattle.agg_segment.specs.storage.Document.{Fields}
use Rattle.agg_segment.specs.Snapshot.{snapshots_documents}
use Rattle.peslumok_records.specs.record_index.Index.{AreOneOf}
use Rattle.peslumok_front.proofs.lemmas.after_text.Passed.{cause-passed}
use Rattle.peslumok_front.specs.front.Causes.{HasNoPage, limits_of_people}
use Rattle.peslumok_front.specs.front.Codes.{failure_of_grouping, failure_of_walk}
use Rattle.peslumok_front.proofs.lemmas.front.BuiltRefusals.{no-request, no-walk}
use Rattle.peslumok_front.proofs.lemmas.front.BuiltRequests.{page-walk}
use Rattle.peslumok_front.proofs.front.page.walk_over.Goals as goal

pub returns-clause-walk : goal.returns-clause-walk
returns-clause-walk g c =
    let question = c.args.question.now in
    page-walk _ question.asked.now.grouping c.args.page question.query.now
    (snapshots_documents question.snapshots.now)
    c.in_ok-request.request c.in_ok-walk_pages.field-0.pages c.in_ok-walk_pages.field-0.ended
    c.in_ok-name.name c.in_ok-name.ensures c.in_ok-request.ensures.asked
    c.in_ok-walk_pages.ensures.pages

pub returns-in_err-request-clause-cause : goal.returns-in_err-request-clause-cause
returns-in_err-request-clause-cause g c =
    let question = c.args.question.now in
    cause-passed (λ why. (documents : List Fields)
    → AreOneOf documents c.args.page.size (snapshots_documents question.snapshots.now)
    → HasNoPage question.asked.now.grouping question.query.now documents c.args.page why)
    c.from_residual.result (failure_of_grouping c.in_err-request.field-0.0)
    c.from_residual.ensures.1
    (λ documents are. no-request question.asked.now.grouping question.query.now c.args.page
    documents c.in_err-request.field-0.0 c.in_err-request.ensures.cause)

pub returns-in_err-walk_pages-clause-cause : goal.returns-in_err-walk_pages-clause-cause
returns-in_err-walk_pages-clause-cause g c =
    let question = c.args.question.now in
    cause-passed (λ why. (documents : List Fields)
    → AreOneOf documents c.args.page.size (snapshots_documents question.snapshots.now)
    → HasNoPage question.asked.now.grouping question.query.now documents c.args.page why)
    c.from_residual-in_err-walk_pages.result (failure_of_walk c.in_err-walk_pages.field-0.0)
    c.from_residual-in_err-walk_pages.ensures.1
    (λ documents are. no-walk _ question.asked.now.grouping question.query.now c.args.page
    c.in_ok-request.request (snapshots_documents question.snapshots.now) documents
    c.in_ok-name.name c.new-limits.result c.in_err-walk_pages.field-0.0 c.in_ok-name.ensures
    (same-limits limits_of_people c.new-limits.result c.new-limits.ensures.in_use
    c.new-limits.ensures.memory c.new-limits.ensures.buckets) c.in_ok-request.ensures.asked are
    c.in_err-walk_pages.ensures.cause)
