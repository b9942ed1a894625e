mod Turns
use Rattle.std.proofs.Common.{Some, Err, Ok}
use Rattle.std.proofs.Common.{drop, refl, sym, subst, arith}
use Rattle.std.proofs.Common.{◌∙◌, ap, inr}
use Rattle.agg_request_tree.specs.ChangedRequest.{request_after}
use Rattle.agg_segment.specs.Snapshot.{snapshot_documents, snapshots_documents}
use Rattle.agg_engine.proofs.NoNull.{matching-no_Null}
use Rattle.agg_engine.proofs.BuilderFaults.{cause-built}
use Rattle.agg_engine.proofs.Snapshots.{have_room, no_room-some, room-at}
use Rattle.agg_engine.proofs.StepsTaken.{counting-last, counting-least}
use Rattle.agg_engine.proofs.StepsTaken.{counting-most, counting-start, takes-none}
use Rattle.agg_engine.proofs.WalkLoop.{may-start, page-sound, walking-end, walking-out}
use Rattle.agg_engine.proofs.WalkLoop.{walking-out-fits, walking-start}
use Rattle.agg_engine.proofs.WalkPages.{counting-page, page-least, page-most}
use Rattle.agg_engine.proofs.WalkPages.{walking-ended, walking-ended-fits, walking-few}
use Rattle.agg_engine.proofs.WalkPages.{walking-more}
use Rattle.agg_engine.proofs.WalkRefusals.{caused-by, cause-answer}
use Rattle.agg_engine.proofs.walk.walk_pages.Answers.Turns.{after-first, asked}
use Rattle.agg_engine.proofs.walk.walk_pages.Answers.Turns.{counting, here}
use Rattle.agg_engine.proofs.walk.walk_pages.Answers.Turns.{most, most-of, page-of, refusal-of}
use Rattle.agg_engine.proofs.walk.walk_pages.Answers.Turns.{trees}
use Rattle.agg_engine.proofs.walk.walk_pages.Given as given
use Rattle.agg_engine.proofs.walk.walk_pages.Goals as goal
use Rattle.agg_engine.proofs.walk.walk_pages.Goals.{After-snapshot_page-answer, In_err-results}
use Rattle.agg_engine.proofs.walk.walk_pages.Goals.{In_ok-params, In_ok-results, In_ok-set_page}

-- ---- before the first snapshot

pub returns-then-some_page_has_no_room-clause-cause :
    goal.returns-then-some_page_has_no_room-clause-cause
returns-then-some_page_has_no_room-clause-cause g c =
    inr (
      refl,
      no_room-some c.args.snapshots.now _ c.as_slice.ensures
          (sym c.if-some_page_has_no_room.ensures),
    )

pub returns-in_err-params-clause-cause : goal.returns-in_err-params-clause-cause
returns-in_err-params-clause-cause g c =
    caused-by _ c.from_residual-in_err-params.result _
    c.from_residual-in_err-params.ensures.1
    (cause-built _ c.args.limits.now c.args.name.now c.args.query.now
    c.args.request.now (snapshots_documents c.args.snapshots.now) c.in_err-params.field-0.0
    c.in_err-params.ensures.err
    c.in_ok-check_request.ensures.ok
    (have_room c.args.snapshots.now _ c.as_slice.ensures (sym c.if-some_page_has_no_room.ensures))
    (c.in-Some.composite.now, c.in-Some.ensures.named)
    (λ is. c.in_err-params.ensures.none (ap Err is)))

pub returns-in_err-params-clause-most : goal.returns-in_err-params-clause-most
returns-in_err-params-clause-most g c =
    takes-none _ c.args.name.now c.args.query.now c.args.request.now
    (snapshots_documents c.args.snapshots.now)
    c.args.steps.now

pub returns-in_err-after-clause-most : goal.returns-in_err-after-clause-most
returns-in_err-after-clause-most g c =
    takes-none _ c.args.name.now c.args.query.now c.args.request.now
    (snapshots_documents c.args.snapshots.now)
    c.args.steps.now

pub loop-snapshot-init : goal.loop-snapshot-init
loop-snapshot-init g c =
    let may = may-start c.args.name.now c.args.request.now c.in-Some.composite.now
    c.in-Some.ensures.named c.in_ok-check_request.ensures.ok c.in_ok-check_request.ensures.names in
    record {
      walking = (
        c.in-Some.composite.now,
        rw (c.new-pages.ensures, c.in_ok-after.ensures) (walking-start _ c.args.limits.now
            c.args.name.now c.args.query.now c.args.request.now
            (snapshots_documents c.args.snapshots.now) c.in-Some.composite.now may),
      );
      counting = rw (c.new-pages.ensures, c.in_ok-after.ensures) (counting-start _ c.args.name.now
          c.args.query.now c.args.request.now (snapshots_documents c.args.snapshots.now)
          c.in-Some.composite.now may c.args.steps.now);
      trees = c.in_ok-params.ensures.trees;
      kept = refl;
      later = omega arith;
    }

-- ---- at a snapshot

pub returns-in_err-set_page-clause-most : goal.returns-in_err-set_page-clause-most
returns-in_err-set_page-clause-most g c =
    counting-most _ c.args.name.now c.args.query.now c.args.request.now
    (snapshots_documents c.args.snapshots.now)
    (request_after c.args.name.now c.loop-snapshot.after
    c.args.request.now)
    (snapshots_documents (drop c.loop-snapshot.snapshot-index c.args.snapshots.now))
    c.loop-snapshot.pages c.loop-snapshot.snapshot-index c.args.steps.now c.loop-snapshot.steps
    c.loop-snapshot.invariant.counting

pub snapshot_page-answer-requires : goal.snapshot_page-answer-requires
snapshot_page-answer-requires g c =
    let set = (goal.at.snapshot_page-answer-requires g c).In_ok-set_page in
    record {
      asked = record {
        trees = (_, trees g set);
        sound = page-sound c.args.name.now c.args.request.now c.loop-snapshot.invariant.walking.0
            c.snapshot-item.result.page_size c.loop-snapshot.after c.set_page.new.params.page
            c.loop-snapshot.invariant.walking.1.may
            (room-at c.args.snapshots.now _ _ c.as_slice.ensures c.as_slice-snapshot-items.ensures
            (sym c.if-some_page_has_no_room.ensures) c.loop-snapshot.snapshot-index
            c.snapshot-item.result (omega arith) c.snapshot-item.is)
            c.in_ok-set_page.ensures.page;
        names = c.in_ok-check_request.ensures.names;
      };
    }

-- ---- a refusal

pub returns-in_err-results-clause-cause : goal.returns-in_err-results-clause-cause
returns-in_err-results-clause-cause g c =
    let refused = (goal.at.returns-in_err-results-clause-cause g c).In_err-results in
    let turn = (goal.at.returns-in_err-results-clause-cause g c).After-snapshot_page-answer in
    let params = (goal.at.returns-in_err-results-clause-cause g c).In_ok-params in
    caused-by _ c.from_residual-in_err-results.result c.in_err-results.field-0.0
    c.from_residual-in_err-results.ensures.1
    (cause-answer (here g turn) (asked g params) c.in_err-results.field-0.0 (refusal-of g refused))

pub returns-in_err-results-clause-most : goal.returns-in_err-results-clause-most
returns-in_err-results-clause-most g c =
    most g (goal.at.returns-in_err-results-clause-most g c).After-snapshot_page-answer
    (Err c.in_err-results.field-0.0)
    (refusal-of g (goal.at.returns-in_err-results-clause-most g c).In_err-results)

pub returns-in_err-results-clause-faults_first : goal.returns-in_err-results-clause-faults_first
returns-in_err-results-clause-faults_first g c fault is =
    absurd (after-first g (goal.at.returns-in_err-results-clause-faults_first g c).In_err-results
    _ _ c.from_residual-in_err-results.ensures.1 is tt)

pub returns-in_err-results-clause-texts_first : goal.returns-in_err-results-clause-texts_first
returns-in_err-results-clause-texts_first g c fault is =
    absurd (after-first g (goal.at.returns-in_err-results-clause-texts_first g c).In_err-results
    _ _ c.from_residual-in_err-results.ensures.1 is tt)

pub returns-in_err-results-clause-name_first : goal.returns-in_err-results-clause-name_first
returns-in_err-results-clause-name_first g c is =
    absurd (after-first g (goal.at.returns-in_err-results-clause-name_first g c).In_err-results
    _ _ c.from_residual-in_err-results.ensures.1 is tt)

pub returns-in_err-results-clause-builders_first :
    goal.returns-in_err-results-clause-builders_first
returns-in_err-results-clause-builders_first g c is =
    absurd (after-first g (goal.at.returns-in_err-results-clause-builders_first g c).In_err-results
    _ _ c.from_residual-in_err-results.ensures.1 is tt)

-- ---- a page

pub returns-in_err-next-clause-most : goal.returns-in_err-next-clause-most
returns-in_err-next-clause-most g c =
    most-of g (goal.at.returns-in_err-next-clause-most g c).In_ok-results

pub returns-in_err-push-clause-most : goal.returns-in_err-push-clause-most
returns-in_err-push-clause-most g c =
    most-of g (goal.at.returns-in_err-push-clause-most g c).In_ok-results

pub returns-in-None-clause-most : goal.returns-in-None-clause-most
returns-in-None-clause-most g c =
    most-of g (goal.at.returns-in-None-clause-most g c).In_ok-results

pub returns-in-None-clause-least : goal.returns-in-None-clause-least
returns-in-None-clause-least g c =
    let turn = (goal.at.returns-in-None-clause-least g c).In_ok-results in
    let before = (goal.at.returns-in-None-clause-least g c).After-snapshot_page-answer in
    rw c.in_ok-push.ensures.ok
    (counting-last _ c.args.name.now c.args.query.now c.args.request.now
    (snapshots_documents c.args.snapshots.now) _
    (snapshot_documents c.snapshot-item.result) _ c.loop-snapshot.pages
    c.loop-snapshot.snapshot-index c.args.steps.now c.loop-snapshot.steps
    c.snapshot_page-answer.new.steps (counting g before) (page-most _ c.args.limits.now
    c.args.name.now c.args.query.now
    c.args.request.now c.loop-snapshot.after
    (snapshot_documents c.snapshot-item.result) c.loop-snapshot.steps
    c.snapshot_page-answer.new.steps
    (Ok c.in_ok-results.results) (page-of g turn))
    c.in_ok-results.results (page-least _ c.args.limits.now c.args.name.now
    c.args.query.now
    c.args.request.now c.loop-snapshot.after
    (snapshot_documents c.snapshot-item.result) c.loop-snapshot.steps
    c.snapshot_page-answer.new.steps
    c.in_ok-results.results (page-of g turn)))

pub returns-in-None-clause-pages : goal.returns-in-None-clause-pages
returns-in-None-clause-pages g c =
    let turn = (goal.at.returns-in-None-clause-pages g c).In_ok-results in
    let before = (goal.at.returns-in-None-clause-pages g c).After-snapshot_page-answer in
    rw c.in_ok-push.ensures.ok
    (walking-ended (here g before) (page-of g turn) c.in_ok-next.next c.in_ok-next.ensures
    c.in-None.is)

pub returns-in-None-clause-asked : goal.returns-in-None-clause-asked
returns-in-None-clause-asked g c =
    asked g (goal.at.returns-in-None-clause-asked g c).In_ok-params

pub returns-in-None-clause-fits : goal.returns-in-None-clause-fits
returns-in-None-clause-fits g c =
    let turn = (goal.at.returns-in-None-clause-fits g c).In_ok-results in
    let before = (goal.at.returns-in-None-clause-fits g c).After-snapshot_page-answer in
    walking-ended-fits (here g before) (page-of g turn) c.in_ok-next.next
    c.in_ok-next.ensures c.in-None.is

pub returns-in-None-clause-buckets : goal.returns-in-None-clause-buckets
returns-in-None-clause-buckets g c =
    let turn = (goal.at.returns-in-None-clause-buckets g c).In_ok-results in
    let before = (goal.at.returns-in-None-clause-buckets g c).After-snapshot_page-answer in
    rw c.in_ok-push.ensures.ok (walking-few (here g before) (page-of g turn))

pub loop-snapshot-preserved : goal.loop-snapshot-preserved
loop-snapshot-preserved g c =
    let turn = (goal.at.loop-snapshot-preserved g c).In_ok-results in
    let before = (goal.at.loop-snapshot-preserved g c).After-snapshot_page-answer in
    let set = (goal.at.loop-snapshot-preserved g c).In_ok-set_page in
    let more = walking-more (here g before) (page-of g turn) c.in_ok-next.next
    c.in_ok-next.ensures (matching-no_Null c.args.query.now c.snapshot-item.result)
    c.in-Some-next.next c.in-Some-next.is in
    record {
      walking = (c.loop-snapshot.invariant.walking.0, rw c.in_ok-push.ensures.ok more);
      counting = rw c.in_ok-push.ensures.ok (counting-page (here g before) (page-of g turn)
          c.in_ok-next.next c.in_ok-next.ensures c.in-Some-next.next c.in-Some-next.is
          c.loop-snapshot.snapshot-index c.args.steps.now
          (counting g before));
      trees = trees g set;
      kept = c.snapshot_page-answer.ensures.limits ∙ c.loop-snapshot.invariant.kept;
      later = omega arith;
    }

-- ---- after the last snapshot

pub returns-clause-pages : goal.returns-clause-pages
returns-clause-pages g c =
    walking-out (walking-end c.args.snapshots.now _ c.loop-snapshot.snapshot-index
    c.loop-snapshot.invariant.walking.1 c.as_slice-snapshot-items.ensures (omega arith))

pub returns-clause-fits : goal.returns-clause-fits
returns-clause-fits g c =
    walking-out-fits (walking-end c.args.snapshots.now _ c.loop-snapshot.snapshot-index
    c.loop-snapshot.invariant.walking.1 c.as_slice-snapshot-items.ensures (omega arith))

pub returns-clause-asked : goal.returns-clause-asked
returns-clause-asked g c = asked g (goal.at.returns-clause-asked g c).In_ok-params

pub returns-clause-most : goal.returns-clause-most
returns-clause-most g c =
    counting-most _ c.args.name.now c.args.query.now c.args.request.now
    (snapshots_documents c.args.snapshots.now)
    (request_after c.args.name.now c.loop-snapshot.after
    c.args.request.now)
    (snapshots_documents (drop c.loop-snapshot.snapshot-index c.args.snapshots.now))
    c.loop-snapshot.pages c.loop-snapshot.snapshot-index c.args.steps.now c.loop-snapshot.steps
    c.loop-snapshot.invariant.counting

pub returns-clause-least : goal.returns-clause-least
returns-clause-least g c =
    counting-least _ c.args.name.now c.args.query.now c.args.request.now
    (snapshots_documents c.args.snapshots.now)
    (request_after c.args.name.now c.loop-snapshot.after
    c.args.request.now)
    (snapshots_documents (drop c.loop-snapshot.snapshot-index c.args.snapshots.now))
    c.loop-snapshot.pages c.loop-snapshot.snapshot-index c.args.steps.now c.loop-snapshot.steps
    c.loop-snapshot.invariant.counting
