-- Two composites' results as one.
use Rattle.std.proofs.Common.{◌≡◌, ℕ, ◌<◌, inl, inr, Bool, false, sym, ◌∙◌, subst, arith}
use Rattle.std.specs.List.Sorted.{IsStrictlySortedBy}
use Rattle.std.specs.Map.{keys_of}
use Rattle.agg_values.specs.KeyOrder.{SourceRules, tuple_order}
use Rattle.agg_results.specs.metric_results.Merges.{Merges}
use Rattle.agg_results.proofs.lemmas.metric_results.Outcomes.{merges-as}
use Rattle.agg_results.specs.intermediate_results.Intermediate.{Entries, composite, entries_of}
use Rattle.agg_results.specs.intermediate_results.Intermediate.{orders_of, target_size_of}
use Rattle.agg_results.specs.intermediate_results.Merging.{BothWithRoom, CompositesMerged}
use Rattle.agg_results.specs.intermediate_results.Merging.{CountsPass, EntriesMerged, JoinEntries}
use Rattle.agg_results.specs.intermediate_results.Merging.{JoinNames, MergedTo, PagesDiffer}
use Rattle.agg_results.specs.intermediate_results.Merging.{PartsDiffer, PartsPass, ShapesDiffer}
use Rattle.agg_results.specs.intermediate_results.Merging.{SomeOfBoth, SomeTied, trimmed_to}
use Rattle.agg_results.specs.intermediate_results.Outcome.{BelowDiffer, DoneUnless, EntriesPass}
use Rattle.agg_results.specs.declared.intermediate_results as intermediate
use intermediate.composite.IntermediateCompositeBucketResult as c
use c.{IntermediateCompositeBucketResult}
use Rattle.agg_results.proofs.lemmas.intermediate_results.JoinedEntries.{join-weaker, join-up}
use Rattle.agg_values.proofs.TupleOrder.{tuple_order-total}
use Rattle.agg_values.proofs.SameOrders.{same_orders}

module _ (c d : IntermediateCompositeBucketResult) (some : 0 < target_size_of c)
    (other_some : 0 < target_size_of d) (alike : ¬ (BothWithRoom (PagesDiffer c d) c d))
    (orders : SourceRules) (left right : Entries) (same : orders ≡ orders_of c)
    (same_left : left ≡ entries_of c) (same_right : right ≡ entries_of d) where
  same_other : orders ≡ orders_of d
  same_other =
      same
      ∙ same_orders (orders_of c) (orders_of d)
      (λ differ. alike (some, other_some, inr differ))

  -- what is so of the orders and lists is so of those of the two
  own : (P : SourceRules → Entries → Entries → Type 0) → P orders left right
      → P (orders_of c) (entries_of c) (entries_of d)
  own P h =
      subst (P (orders_of c) (entries_of c)) same_right
      (subst (λ l. P (orders_of c) l right) same_left (subst (λ o. P o left right) same h))

  up : (o : SourceRules) (es fs : Entries) → orders ≡ o → fs ≡ es
      → IsStrictlySortedBy (tuple_order o) (keys_of es)
      → IsStrictlySortedBy (tuple_order orders) (keys_of fs)
  up o es fs is is_es ascending =
      subst (λ r. IsStrictlySortedBy (tuple_order r) (keys_of fs)) (sym is)
      (subst (λ xs. IsStrictlySortedBy (tuple_order o) (keys_of xs)) (sym is_es) ascending)

  module _ (ascending : IsStrictlySortedBy (tuple_order (orders_of c)) (keys_of (entries_of c)))
      (other_ascending : IsStrictlySortedBy (tuple_order (orders_of d)) (keys_of (entries_of d)))
    where
      -- both lists ascend
      pub left_up : IsStrictlySortedBy (tuple_order orders) (keys_of left)
      left_up = up (orders_of c) (entries_of c) left same same_left ascending

      pub right_up : IsStrictlySortedBy (tuple_order orders) (keys_of right)
      right_up = up (orders_of d) (entries_of d) right same_other same_right other_ascending

      -- both lists as one ascend
      pub whole_up : (rules : SourceRules) (now : Bool) (whole : Entries) → orders ≡ rules
          → JoinEntries (tuple_order orders) (DoneUnless now) left right whole
          → IsStrictlySortedBy (tuple_order rules) (keys_of whole)
      whole_up rules now whole is join =
          subst (λ o. IsStrictlySortedBy (tuple_order o) (keys_of whole)) is
          (join-up (tuple_order orders) (DoneUnless now) (tuple_order-total orders) left right whole
          left_up right_up join)

  -- what merging did to the lists it did to the composites
  pub composites-merge : (was now : Bool)
      → Merges was now (SomeTied (tuple_order orders) BelowDiffer left right)
      (SomeTied (tuple_order orders) EntriesPass left right)
      → Merges was now (PartsDiffer (SomeOfBoth ShapesDiffer) (composite c) (composite d))
      (PartsPass (SomeOfBoth CountsPass) (composite c) (composite d))
  composites-merge was now is =
      merges-as was now _ _ _ _
      (λ h. elim h.2 [ inl pages ↦ absurd (alike (some, other_some, pages)) | inr t ↦ t ])
      (λ h. h.2) (λ t. (some, other_some, t))
      (own (λ o l r. Merges was now (SomeTied (tuple_order o) BelowDiffer l r)
      (SomeTied (tuple_order o) EntriesPass l r)) is)

  -- the lists as one, trimmed, are the composites as one
  pub composites-done : (now : Bool) (whole : Entries) (w : IntermediateCompositeBucketResult)
      → JoinEntries (tuple_order orders) (DoneUnless now) left right whole
      → w ≡ trimmed_to c whole → now ≡ false
      → (depth : ℕ) → CompositesMerged (JoinNames (MergedTo depth)) c d w
  composites-done now whole w join is nay depth = record {
    right = λ none. absurd (omega arith);
    left = λ more none. absurd (omega arith);
    both = λ more other. (
      whole,
      join-weaker (tuple_order (orders_of c)) (DoneUnless now)
          (EntriesMerged (JoinNames (MergedTo depth))) (λ e f v done. done nay depth)
          (entries_of c) (entries_of d) whole
          (own (λ o l r. JoinEntries (tuple_order o) (DoneUnless now) l r whole) join),
      is,
    );
  }
