use Rattle.std.proofs.Common.{◌≡◌, refl, sym, ◌∙◌, subst}
use Rattle.std.proofs.lemmas.Option.{same_Some}
use Rattle.std_collections.specs.Layout.Columns.{set_value_at}
use Rattle.agg_results.specs.intermediate_results.Intermediate.{composite_of, entries_of, orders_of}
use Rattle.agg_results.specs.intermediate_results.Intermediate.{target_size_of}
use Rattle.agg_results.specs.intermediate_results.Outcome.{BelowDiffer, EntriesPass, IsMergedEntry}
use Rattle.agg_results.specs.declared.intermediate_results as declared
use declared.entry.IntermediateTermBucketEntry.{IntermediateTermBucketEntry}
use Rattle.agg_results.proofs.lemmas.intermediate_results.Composites.{gone, still_there}
use Rattle.agg_results.proofs.intermediate_results as proofs
use proofs.composite.IntermediateCompositeBucketResult.merge_at.Goals as goal

pub remove-requires : goal.remove-requires
remove-requires c =
    let held = c.args.self.now in
    still_there (orders_of held) (target_size_of held) (entries_of held) c.args.at
    c.merge_fruits.new.self c.requires.within

pub returns-in-Err-clause-mismatch : goal.returns-in-Err-clause-mismatch
returns-in-Err-clause-mismatch c = λ is e at.
    subst (λ x. BelowDiffer x c.args.entry) (same_Some _ e (sym c.value_mut.ensures.value ∙ at))
    (c.in-Err.ensures.mismatch is)

pub returns-in-Err-clause-too_many : goal.returns-in-Err-clause-too_many
returns-in-Err-clause-too_many c = λ is e at.
    subst (λ x. ¬ (BelowDiffer x c.args.entry) × EntriesPass x c.args.entry)
    (same_Some _ e (sym c.value_mut.ensures.value ∙ at)) (c.in-Err.ensures.too_many is)

pub returns-in-Err-clause-left : goal.returns-in-Err-clause-left
returns-in-Err-clause-left c =
    let held = c.args.self.now in
    gone (orders_of held) (target_size_of held) (entries_of held) c.args.at c.merge_fruits.new.self
    c.remove.new.self c.remove.ensures

pub returns-clause-ok : goal.returns-clause-ok
returns-clause-ok c = λ e at.
    let held = c.args.self.now in
    let w = c.merge_fruits.new.self in
    subst (λ x. ¬ (BelowDiffer x c.args.entry) × ¬ (EntriesPass x c.args.entry)
    × (v : IntermediateTermBucketEntry) × IsMergedEntry x c.args.entry v
    × (composite_of (orders_of held) (target_size_of held)
    (set_value_at (entries_of held) c.args.at w)
    ≡ composite_of (orders_of held) (target_size_of held)
    (set_value_at (entries_of held) c.args.at v)))
    (same_Some _ e (sym c.value_mut.ensures.value ∙ at)) (
      c.in_default.ensures.shapes,
      c.in_default.ensures.counts,
      w,
      λ depth. (c.in_default.ensures.count, c.in_default.ensures.below depth),
      refl,
    )
