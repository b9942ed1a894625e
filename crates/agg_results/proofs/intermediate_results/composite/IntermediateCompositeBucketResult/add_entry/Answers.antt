use Rattle.std.proofs.Common.{sym, ap, ◌∙◌}
use Rattle.std.specs.List.{insert}
use Rattle.std.proofs.lemmas.Result.{on_err_weaker, on_ok_weaker}
use Rattle.std_collections.specs.Layout.Columns.{set_value_at}
use Rattle.std_collections.proofs.Seek.{found_at}
use Rattle.agg_values.specs.KeyOrder.{tuple_order}
use Rattle.agg_values.proofs.NamePlaces.{missing_stays}
use Rattle.agg_values.proofs.TupleOrder.{tuple_order-total}
use Rattle.agg_results.proofs.lemmas.metric_results.Exits.{on_err}
use Rattle.agg_results.specs.intermediate_results.Intermediate.{composite_of, entries_of, orders_of}
use Rattle.agg_results.specs.intermediate_results.Intermediate.{target_size_of}
use Rattle.agg_results.specs.intermediate_results.Outcome.{BelowDiffer, EntriesPass, IsMergedEntry}
use Rattle.agg_results.proofs.lemmas.intermediate_results.AddedEntries.{held_there, joined_there}
use Rattle.agg_results.proofs.lemmas.intermediate_results.AddedEntries.{put_there, tied_there}
use Rattle.agg_results.proofs.lemmas.intermediate_results.AddedEntries.{told_there, untied, within}
use Rattle.agg_results.proofs.intermediate_results as proofs
use proofs.composite.IntermediateCompositeBucketResult.add_entry.Goals as goal

pub merge_at-requires : goal.merge_at-requires
merge_at-requires c =
    let held = c.args.self.now in
    record {
      within = within (tuple_order (orders_of held)) c.args.key (entries_of held) c.in-Ok.at
          (sym c.search.ensures.place ∙ c.in-Ok.is);
    }

pub returns-in_err-insert-in-Err-clause-left : goal.returns-in_err-insert-in-Err-clause-left
returns-in_err-insert-in-Err-clause-left c =
    let held = c.args.self.now in
    let at = sym c.search.ensures.place ∙ c.in-Err.is in
    on_err c.from_residual.result
    (ap (λ m. composite_of m.0 (target_size_of held) m.1) c.in_err-insert-in-Err.ensures.err
    ∙ ap (composite_of (orders_of held) (target_size_of held))
    (missing_stays (tuple_order-total (orders_of held)) c.args.key (entries_of held) c.in-Err.at
    c.search.ensures.ascending (sym at)))

pub returns-in-Ok-clause-ok : goal.returns-in-Ok-clause-ok
returns-in-Ok-clause-ok c =
    let held = c.args.self.now in
    let R = tuple_order (orders_of held) in
    let es = entries_of held in
    let at = sym c.search.ensures.place ∙ c.in-Ok.is in
    let there = held_there R c.args.key es c.in-Ok.at at in
    on_ok_weaker c.merge_at.result
    (λ done.
    let did = done there.0 there.1 in (
      set_value_at es c.in-Ok.at did.2,
      did.4,
      joined_there R (tuple_order-total (orders_of held)) c.args.key c.args.entry IsMergedEntry es
          c.in-Ok.at there.0 did.2 at there.1 did.3,
    ))
    c.merge_at.ensures.ok

pub returns-in-Ok-clause-shapes : goal.returns-in-Ok-clause-shapes
returns-in-Ok-clause-shapes c =
    let held = c.args.self.now in
    let R = tuple_order (orders_of held) in
    let es = entries_of held in
    let at = sym c.search.ensures.place ∙ c.in-Ok.is in
    let there = held_there R c.args.key es c.in-Ok.at at in
    on_ok_weaker c.merge_at.result
    (λ done some. (done there.0 there.1).0
    (told_there R (tuple_order-total (orders_of held)) c.args.key c.args.entry BelowDiffer es
    c.in-Ok.at there.0 c.search.ensures.ascending at there.1 some))
    c.merge_at.ensures.ok

pub returns-in-Ok-clause-counts : goal.returns-in-Ok-clause-counts
returns-in-Ok-clause-counts c =
    let held = c.args.self.now in
    let R = tuple_order (orders_of held) in
    let es = entries_of held in
    let at = sym c.search.ensures.place ∙ c.in-Ok.is in
    let there = held_there R c.args.key es c.in-Ok.at at in
    on_ok_weaker c.merge_at.result
    (λ done some. (done there.0 there.1).1
    (told_there R (tuple_order-total (orders_of held)) c.args.key c.args.entry EntriesPass es
    c.in-Ok.at there.0 c.search.ensures.ascending at there.1 some))
    c.merge_at.ensures.ok

pub returns-in-Ok-clause-mismatch : goal.returns-in-Ok-clause-mismatch
returns-in-Ok-clause-mismatch c = λ is.
    let held = c.args.self.now in
    let R = tuple_order (orders_of held) in
    let es = entries_of held in
    let at = sym c.search.ensures.place ∙ c.in-Ok.is in
    let there = held_there R c.args.key es c.in-Ok.at at in
    tied_there R (tuple_order-total (orders_of held)) c.args.key c.args.entry BelowDiffer es
    c.in-Ok.at there.0 at there.1 (c.merge_at.ensures.mismatch is there.0 there.1)

pub returns-in-Ok-clause-too_many : goal.returns-in-Ok-clause-too_many
returns-in-Ok-clause-too_many c = λ is.
    let held = c.args.self.now in
    let R = tuple_order (orders_of held) in
    let es = entries_of held in
    let at = sym c.search.ensures.place ∙ c.in-Ok.is in
    let there = held_there R c.args.key es c.in-Ok.at at in
    let told = c.merge_at.ensures.too_many is there.0 there.1 in (
      λ some. told.0
          (told_there R (tuple_order-total (orders_of held)) c.args.key c.args.entry BelowDiffer es
          c.in-Ok.at there.0 c.search.ensures.ascending at there.1 some),
      tied_there R (tuple_order-total (orders_of held)) c.args.key c.args.entry EntriesPass es
          c.in-Ok.at there.0 at there.1 told.1,
    )

pub returns-in-Ok-clause-left : goal.returns-in-Ok-clause-left
returns-in-Ok-clause-left c =
    let held = c.args.self.now in
    let at = sym c.search.ensures.place ∙ c.in-Ok.is in
    on_err_weaker c.merge_at.result
    (λ left. left ∙ ap (composite_of (orders_of held) (target_size_of held))
    (found_at (tuple_order (orders_of held) c.args.key) (entries_of held) c.in-Ok.at at).removes)
    c.merge_at.ensures.left

pub returns-in_ok-insert-in-Err-clause-ok : goal.returns-in_ok-insert-in-Err-clause-ok
returns-in_ok-insert-in-Err-clause-ok c =
    let held = c.args.self.now in
    let at = sym c.search.ensures.place ∙ c.in-Err.is in (
      insert (entries_of held) c.in-Err.at (c.args.key, c.args.entry),
      ap (λ m. composite_of m.0 (target_size_of held) m.1) c.in_ok-insert-in-Err.ensures.ok,
      put_there (tuple_order (orders_of held)) (tuple_order-total (orders_of held)) c.args.key
          c.args.entry IsMergedEntry (entries_of held) c.in-Err.at at,
    )

pub returns-in_ok-insert-in-Err-clause-shapes : goal.returns-in_ok-insert-in-Err-clause-shapes
returns-in_ok-insert-in-Err-clause-shapes c =
    let held = c.args.self.now in
    untied (tuple_order (orders_of held)) (tuple_order-total (orders_of held)) c.args.key
    c.args.entry BelowDiffer (entries_of held) c.in-Err.at c.search.ensures.ascending
    (sym c.search.ensures.place ∙ c.in-Err.is)

pub returns-in_ok-insert-in-Err-clause-counts : goal.returns-in_ok-insert-in-Err-clause-counts
returns-in_ok-insert-in-Err-clause-counts c =
    let held = c.args.self.now in
    untied (tuple_order (orders_of held)) (tuple_order-total (orders_of held)) c.args.key
    c.args.entry EntriesPass (entries_of held) c.in-Err.at c.search.ensures.ascending
    (sym c.search.ensures.place ∙ c.in-Err.is)
