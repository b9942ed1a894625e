-- Composites as one.
use Rattle.std.proofs.Common.{rules, ◌<◌, sym, ap, ◌∙◌, arith}
use Rattle.std.proofs.lemmas.Bool.{false≢true}
use Rattle.agg_values.specs.KeyOrder.{SourceRules}
use Rattle.agg_results.specs.intermediate_results.Intermediate.{Entries, composite_of, orders_of}
use Rattle.agg_results.specs.intermediate_results.Intermediate.{target_size_of}
use Rattle.agg_results.proofs.lemmas.intermediate_results.Composites.{trimmed-made}
use Rattle.agg_results.proofs.lemmas.intermediate_results.JoinedComposites.{composites-done}
use Rattle.agg_results.proofs.lemmas.intermediate_results.JoinedComposites.{composites-merge}
use Rattle.agg_results.proofs.lemmas.intermediate_results.JoinedComposites.{left_up, right_up}
use Rattle.agg_results.proofs.lemmas.intermediate_results.JoinedComposites.{whole_up}
use Rattle.agg_results.proofs.lemmas.intermediate_results.Levels.{entries_levels}
use Rattle.agg_results.proofs.intermediate_results.+merging.Goals as goal

pub lists-requires
    : goal.composite::IntermediateCompositeBucketResult::merged_with-merge_lists-requires
lists-requires t c =
    let left = c.into_parts-orders in
    let right = c.into_parts-right in
    let some : 0 < target_size_of c.args.self = search rules in
    let other_some : 0 < target_size_of c.args.other = search rules in
    let orders = c.deref.ensures.value ∙ left.ensures.orders in (
      omega (arith, c.decreases, ap entries_levels right.ensures.entries),
      (
        left_up c.args.self c.args.other some other_some
            (λ differ. false≢true (sym c.if-differs_from.false ∙ c.differs_from.ensures.1 differ))
            c.deref.result.now left.result.1.items
            right.result.1.items orders left.ensures.entries right.ensures.entries
            left.ensures.ascending right.ensures.ascending,
        right_up c.args.self c.args.other some other_some
            (λ differ. false≢true (sym c.if-differs_from.false ∙ c.differs_from.ensures.1 differ))
            c.deref.result.now left.result.1.items
            right.result.1.items orders left.ensures.entries right.ensures.entries
            left.ensures.ascending right.ensures.ascending,
      ),
    )

pub parts-requires
    : goal.composite::IntermediateCompositeBucketResult::merged_with-from_parts-requires
parts-requires t c =
    let left = c.into_parts-orders in
    let right = c.into_parts-right in
    let some : 0 < target_size_of c.args.self = search rules in
    let other_some : 0 < target_size_of c.args.other = search rules in
    whole_up c.args.self c.args.other some other_some
    (λ differ. false≢true (sym c.if-differs_from.false ∙ c.differs_from.ensures.1 differ))
    c.deref.result.now left.result.1.items right.result.1.items
    (c.deref.ensures.value ∙ left.ensures.orders) left.ensures.entries right.ensures.entries
    left.ensures.ascending right.ensures.ascending left.result.0.items
    c.merge_lists.new.passed c.in_ok-entries.entries.items c.deref.ensures.value
    c.in_ok-entries.ensures.merged

pub ok : goal.composite::IntermediateCompositeBucketResult::merged_with-returns-clause-ok
ok t c =
    let left = c.into_parts-orders in
    let right = c.into_parts-right in
    let some : 0 < target_size_of c.args.self = search rules in
    let other_some : 0 < target_size_of c.args.other = search rules in
    composites-merge c.args.self c.args.other some other_some
    (λ differ. false≢true (sym c.if-differs_from.false ∙ c.differs_from.ensures.1 differ))
    c.deref.result.now left.result.1.items right.result.1.items
    (c.deref.ensures.value ∙ left.ensures.orders) left.ensures.entries right.ensures.entries
    c.args.passed.now c.merge_lists.new.passed c.in_ok-entries.ensures.ok

pub merged : goal.composite::IntermediateCompositeBucketResult::merged_with-returns-clause-merged
merged t c =
    let left = c.into_parts-orders in
    let right = c.into_parts-right in
    let some : 0 < target_size_of c.args.self = search rules in
    let other_some : 0 < target_size_of c.args.other = search rules in
    let size = target_size_of c.args.self in
    let whole = c.in_ok-entries.entries.items in
    composites-done c.args.self c.args.other some other_some
    (λ differ. false≢true (sym c.if-differs_from.false ∙ c.differs_from.ensures.1 differ))
    c.deref.result.now left.result.1.items right.result.1.items
    (c.deref.ensures.value ∙ left.ensures.orders) left.ensures.entries right.ensures.entries
    c.merge_lists.new.passed whole c.trim.new.self c.in_ok-entries.ensures.merged
    (c.trim.ensures
    ∙ trimmed-made (composite_of c.from_parts.result.0 size c.from_parts.result.1)
    (orders_of c.args.self) size whole
    (ap (λ (m : SourceRules × Entries). composite_of m.0 size m.1)
    (c.from_parts.ensures ∙ ap (λ (o : SourceRules). (o, whole)) left.ensures.orders)))
