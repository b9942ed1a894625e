-- A tree that takes documents, and the bytes by which its buckets grow.
use Rattle.std.proofs.Common.{◌<◌, ◌≤◌, ◌-◌, ◌+◌, ◌++◌, ℕ, List, Bool, Result, IfErr, ap, ◌∙◌}
use Rattle.std.proofs.Common.{◌≡◌, inl, inr, refl, subst, sym, arith}
use Rattle.std.specs.List.{range_with_len}
use Rattle.std.proofs.lemmas.List.{map-append}
use Rattle.std.proofs.lemmas.Result.{IfErr-weaker}
use Rattle.agg_values.specs.declared.request_error.AggregationError.TheVariants as aggregation
use Rattle.agg_cache.specs.Limits.{IsExceeded, Limits}
use Rattle.agg_cache.specs.Waiting.{docs_of, is_id}
use Rattle.agg_cache.specs.declared.error.CollectError.{CollectError}
use Rattle.agg_cache.specs.declared.error.CollectError.TheVariants as error
use Rattle.agg_cache.proofs.UnderIds.{docs_of-append}
use Rattle.agg_segment.specs.Query.{matches}
use Rattle.agg_segment.specs.Segment.{Stored, document_at, documents_at}
use Rattle.agg_segment.specs.declared.query.QueryTree.{QueryTree}
use Rattle.agg_request_tree.specs.Request.{Request}
use Rattle.agg_request_tree.specs.charges.Roof.{counts_of}
use Rattle.agg_request_tree.specs.charges.Roof.Height.{High}
use Rattle.agg_request_tree.specs.charges.Within.{Within}
use Rattle.agg_request_tree.proofs.lemmas.charges.LawfulRequests.{Lawful-request}
use Rattle.agg_request_tree.proofs.lemmas.charges.Sums.{sum_by-at_most}
use Rattle.agg_request_tree.proofs.lemmas.charges.WithinLists.{Within-more}
use Rattle.agg_engine_tree.specs.segment_context.Context.{Meaning}
use Rattle.agg_engine_tree.proofs.lemmas.segment_context.Parts.{All-parts}
use Rattle.agg_engine_tree.specs.declared.segment_context.context.PerRequestAggSegCtx.{
  PerRequestAggSegCtx,
}
use Rattle.agg_engine_tree.specs.collector_tree.Refusals.{IsRefused}
use Rattle.agg_engine_tree.specs.collector_tree.Tree.{Held, Takes}
use Rattle.agg_engine_tree.proofs.lemmas.collector_tree.Levels.{same-plans}
use Rattle.agg_engine_tree.specs.held_bytes.HeldBytes.{held_bytes}
use Rattle.agg_engine_tree.specs.held_bytes.Trees.{IsAsGroup, IsTreeOf, group_of_one}
use Rattle.agg_engine_tree.specs.held_bytes.Trees.{over_parents, taken_under}
use Rattle.agg_engine_tree.proofs.lemmas.held_bytes.TreeLaws.{most}
use Rattle.agg_engine.specs.collectors.Trees.{CountsTooMuch, IsGrowthRefusal, IsTreeRefusal}

-- what a request counts over parents doesn't fall where documents are added
over-more : (request : Request QueryTree) (segment : Stored) (taken pairs : List (ℕ × ℕ))
    (parents : ℕ)
    → over_parents (counts_of matches request High) segment taken parents
    ≤ over_parents (counts_of matches request High) segment (taken ++ pairs) parents
over-more request segment taken pairs parents =
    sum_by-at_most (λ parent. counts_of matches request High (taken_under segment taken parent))
    (λ parent. counts_of matches request High (taken_under segment (taken ++ pairs) parent))
    (range_with_len 0 parents)
    (λ parent. (Lawful-request matches request).rises (taken_under segment taken parent)
    (taken_under segment (taken ++ pairs) parent)
    (subst (Within (taken_under segment taken parent))
    (sym (ap (documents_at segment) (docs_of-append parent taken pairs)
    ∙ map-append (document_at segment) (docs_of (is_id parent) taken)
    (docs_of (is_id parent) pairs)))
    (Within-more (taken_under segment taken parent) (taken_under segment pairs parent))))

module _ (ctx : PerRequestAggSegCtx) (limits : Limits) (pairs : List (ℕ × ℕ)) (parents : List ℕ)
    (old : Held) where
  -- what a tree refuses, it refuses where its bytes are charged
  pub tree-refused : (given : CollectError) → IsRefused ctx pairs parents old given
      → IsTreeRefusal ctx limits pairs parents old given
  tree-refused error.BucketOutOfRange refused = refused
  tree-refused error.TooMany refused = refused
  tree-refused (error.Aggregation part) refused = absurd refused
  tree-refused error.CollectorFailed refused = absurd refused
  tree-refused error.OutOfMemory refused = tt

  module _ (all : Bool) (new : Held) (steps steps_now : ℕ)
      (took : Takes ctx pairs all old new steps steps_now) where
    -- as the only tree of a group it took them too
    took-alone : Takes ctx pairs all (group_of_one old) (group_of_one new) steps steps_now
    took-alone = record {
      takes = λ meaning meant taken visits right.
          let now = took.takes meaning meant taken right.0 right.2 in (
            now.0,
            (now.0, 0, now.1, refl, omega arith),
            omega (arith, now.2, right.3, right.4),
            omega (arith, now.3, right.3, right.4),
            omega (arith, now.4, right.3, right.4),
          );
      nodes = (took.nodes, tt);
      fits = λ fits. (took.fits fits.0, tt);
      flushed = λ is. (took.flushed is, tt);
    }

    -- the tree as a group, after it took them
    abbrev TakenAs : Held → Type 0
    TakenAs root =
        (root_now : Held) × Takes ctx pairs all root root_now steps steps_now
        × (held_bytes ctx root ≡ held_bytes ctx old)
        × (held_bytes ctx root_now ≡ held_bytes ctx new)

    taken-as : (root : Held) → IsAsGroup old root → TakenAs root
    taken-as root (inl same) =
        subst TakenAs (sym same) (new, took, refl, refl)
    taken-as root (inr same) =
        subst TakenAs (sym same) (group_of_one new, took-alone, omega arith, omega arith)

    -- a tree that took them is that of its request
    tree-taken : (root root_now : Held) → Takes ctx pairs all root root_now steps steps_now
        → (meaning : Meaning) (request : Request QueryTree) (taken : List (ℕ × ℕ))
        → IsTreeOf meaning ctx request root taken
        → IsTreeOf meaning ctx request root_now (taken ++ pairs)
    tree-taken root root_now took_them meaning request taken tree =
        let now = took_them.takes meaning tree.meant taken tree.visits tree.right in
        record {
          meant = tree.meant;
          plans = tree.plans;
          asked = tree.asked;
          nodes = same-plans tree.plans root root_now took_them.nodes tree.nodes;
          fits = took_them.fits tree.fits;
          visits = now.0;
          right = now.1;
        }

    -- bytes that aren't charged are among those that the request counts
    counts-much : (told current : ℕ)
        → IsExceeded (held_bytes ctx new - held_bytes ctx old) limits
        (aggregation.MemoryExceeded told current)
        → CountsTooMuch ctx limits pairs parents old told current
    counts-much told current exceeded = λ meaning request root taken as_root tree count low.
        let taken_as = taken-as root as_root in
        let now = tree-taken root taken_as.0 taken_as.1 meaning request taken tree in
        record {
          is_limit = exceeded.0;
          sum = limits.in_use + (held_bytes ctx new - held_bytes ctx old);
          above = omega (arith, exceeded.0, exceeded.1);
          within = omega (
            arith,
            taken_as.2,
            taken_as.3,
            most meaning ctx request root taken tree count
                (All-parts (λ e. e.0 < count) taken pairs low).0,
            over-more request meaning.segment taken pairs count,
            most meaning ctx request taken_as.0 (taken ++ pairs) now count low,
          );
          is_sum = exceeded.2;
        }

    -- a tree whose growth isn't charged refuses what it took
    pub growth-refused : (given : CollectError)
        → IsGrowthRefusal (held_bytes ctx new - held_bytes ctx old) limits given
        → IsTreeRefusal ctx limits pairs parents old given
    growth-refused error.BucketOutOfRange refused = absurd refused
    growth-refused error.TooMany refused = absurd refused
    growth-refused (error.Aggregation (aggregation.MemoryExceeded told current)) refused =
        counts-much told current refused
    growth-refused (error.Aggregation (aggregation.DateHistogramParseError part)) refused =
        absurd refused
    growth-refused (error.Aggregation (aggregation.BucketLimitExceeded told current)) refused =
        absurd refused
    growth-refused error.CollectorFailed refused = absurd refused
    growth-refused error.OutOfMemory refused = tt

    -- a tree whose growth since it held so many bytes isn't charged refuses what it took
    pub growth-passed : {T : Type 0} (before : ℕ) → before ≡ held_bytes ctx old
        → (charged : Result T CollectError)
        → IfErr charged (IsGrowthRefusal (held_bytes ctx new - before) limits)
        → IfErr charged (IsTreeRefusal ctx limits pairs parents old)
    growth-passed before is charged refused =
        IfErr-weaker charged (IsGrowthRefusal (held_bytes ctx new - held_bytes ctx old) limits)
        (IsTreeRefusal ctx limits pairs parents old) growth-refused
        (subst (λ bytes. IfErr charged (IsGrowthRefusal (held_bytes ctx new - bytes) limits)) is
        refused)
