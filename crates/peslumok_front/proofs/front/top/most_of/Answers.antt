use Rattle.std.proofs.Common.{List, subst, sym, ℕ, ◌++◌, ◌∙◌, ◌≡◌}
use Rattle.agg_results.specs.declared.final_results.types.CompositeBucketEntry.{
  CompositeBucketEntry,
}
use Rattle.agg_segment.specs.Snapshot.{snapshots_documents}
use Rattle.peslumok_records.specs.record_index.Index.{AreOneOf}
use Rattle.peslumok_front.specs.front.Pages.{room_of}
use Rattle.peslumok_front.specs.top_groups.Top.{AreTop}
use Rattle.peslumok_front.proofs.lemmas.after_text.Passed.{cause-passed}
use Rattle.peslumok_front.proofs.lemmas.front.NoTexts.{no-page}
use Rattle.peslumok_front.proofs.lemmas.front.OnePage.{page-at}
use Rattle.peslumok_front.proofs.lemmas.front.TopRuns.{leads-end, leads-more, leads-start}
use Rattle.peslumok_front.proofs.front.top.most_of.Goals as goal

-- groups that are added are among those with the most documents
adds : (own count : ℕ) (old new added : List CompositeBucketEntry) → own ≡ count
    → ((before : List CompositeBucketEntry) → AreTop own before old
    → AreTop own (before ++ added) new)
    → (before : List CompositeBucketEntry) → AreTop count before old
    → AreTop count (before ++ added) new
adds own count old new added is all =
    subst (λ n. (before : List CompositeBucketEntry) → AreTop n before old
    → AreTop n (before ++ added) new) is all

pub loop-number-init : goal.loop-number-init
loop-number-init c = record {
  count = c.new-groups.ensures.count;
  leads = λ documents are.
      let question = c.args.question.now in
      leads-start question.asked.now.grouping question.query.now documents
      (room_of question.asked.now.pages) c.args.count c.args.first
      c.new-groups.result.groups.items c.new-groups.ensures.groups;
}

pub loop-number-preserved : goal.loop-number-preserved
loop-number-preserved c = record {
  count = c.in_ok-add_all.ensures.count ∙ c.loop-number.invariant.count;
  leads = λ documents are.
      let question = c.args.question.now in
      let asked = question.asked.now in
      let kept = c.loop-number.invariant in
      leads-more asked.grouping question.query.now documents (room_of asked.pages) c.args.count
      c.args.first c.loop-number.after c.in_ok-after.after c.in_ok-page.page
      c.loop-number.groups.groups.items c.add_all.new.self.groups.items c.in_ok-added.added.items
      (kept.leads documents are)
      (page-at asked.grouping question.query.now (snapshots_documents question.snapshots.now)
      c.room-room.result (room_of asked.pages) c.loop-number.after c.in_ok-page.page documents
      c.room-room.ensures c.in_ok-page.ensures.page are)
      c.in_ok-after.ensures c.in_ok-added.ensures.groups
      (adds c.loop-number.groups.count c.args.count c.loop-number.groups.groups.items
      c.add_all.new.self.groups.items c.in_ok-added.added.items kept.count
      c.in_ok-add_all.ensures.groups)
      (sym c.is_last.ensures ∙ c.if-is_last.false);
}

pub returns-then-is_last-clause-most : goal.returns-then-is_last-clause-most
returns-then-is_last-clause-most c = λ documents are.
    let question = c.args.question.now in
    let asked = question.asked.now in
    let kept = c.loop-number.invariant in
    leads-end asked.grouping question.query.now documents (room_of asked.pages) c.args.count
    c.args.first c.loop-number.after c.in_ok-after.after c.in_ok-page.page
    c.loop-number.groups.groups.items c.add_all.new.self.groups.items c.in_ok-added.added.items
    (kept.leads documents are)
    (page-at asked.grouping question.query.now (snapshots_documents question.snapshots.now)
    c.room-room.result (room_of asked.pages) c.loop-number.after c.in_ok-page.page documents
    c.room-room.ensures c.in_ok-page.ensures.page are)
    c.in_ok-after.ensures c.in_ok-added.ensures.groups
    (adds c.loop-number.groups.count c.args.count c.loop-number.groups.groups.items
    c.add_all.new.self.groups.items c.in_ok-added.added.items kept.count
    c.in_ok-add_all.ensures.groups)
    (sym c.is_last.ensures ∙ c.if-is_last.true) c.in_ok-total.total
    (c.in_ok-total.ensures ∙ c.in_ok-added.ensures.total)

pub returns-in_err-page-clause-cause : goal.returns-in_err-page-clause-cause
returns-in_err-page-clause-cause c =
    let question = c.args.question.now in
    let asked = question.asked.now in
    cause-passed _ c.from_residual.result _ c.from_residual.ensures.1
    (λ documents are. no-page asked question.query.now documents ⊥ c.room-room.result
    c.loop-number.after c.in_err-page.field-0.0 c.room-room.ensures
    (c.in_err-page.ensures.cause documents
    (subst (λ size. AreOneOf documents size (snapshots_documents question.snapshots.now))
    (sym c.room-room.ensures) are)))
