-- A collector whose tree has handed down all that waited.
use Rattle.std.proofs.Common.{◌≡◌, ◌≤◌, ◌<◌, ◌+◌, ℕ, List, [], Some, true, length, refl, sym}
use Rattle.std.proofs.Common.{ap, ◌∙◌, append-nil, map, subst, arith}
use Rattle.std.specs.List.{All}
use Rattle.std.proofs.lemmas.List.Elements.{All-map, All-nil}
use Rattle.std.proofs.lemmas.List.FromFn.{length-map-range_with_len}
use Rattle.agg_cache.specs.Limits.{Limits}
use Rattle.agg_cache.specs.Waiting.{under}
use Rattle.agg_segment.specs.Query.{matches}
use Rattle.agg_segment.specs.Segment.{Stored, document_at, documents_at, documents_of}
use Rattle.agg_segment.specs.declared.query.QueryTree.{QueryTree}
use Rattle.agg_request_tree.specs.Request.{Request}
use Rattle.agg_request_tree.specs.Uncut.{CountsTooMany}
use Rattle.agg_request_tree.specs.charges.Roof.{counts_of, low_roof, roof}
use Rattle.agg_request_tree.specs.charges.Roof.Height.{Low}
use Rattle.agg_results.specs.intermediate_results.Intermediate.{Held as Results}
use Rattle.agg_results.specs.StandsFor.{StandsFor}
use Rattle.agg_engine_tree.specs.segment_context.Plan.{plan_of, plans_of}
use Rattle.agg_engine_tree.specs.uncut.Uncut.{uncut_lengths}
use Rattle.agg_engine_tree.specs.collector_tree.Counting.{counted_of}
use Rattle.agg_engine_tree.specs.collector_tree.Tree.{Held, Takes, held_of}
use Rattle.agg_engine_tree.specs.tree_results.Names.{HasNamesApart}
use Rattle.agg_engine_tree.specs.tree_results.Results.{GroupStands}
use Rattle.agg_engine_tree.specs.held_bytes.HeldBytes.{held_bytes}
use Rattle.agg_engine_tree.specs.held_bytes.Trees.{AreOfSegment, IsTreeOf}
use Rattle.agg_engine_tree.proofs.lemmas.held_bytes.TreeLaws.{least-one}
use Rattle.agg_engine.specs.snapshot_results.ChargedTrees.{ChargesAnew, IsChargeCause, IsCharged}
use Rattle.agg_engine.specs.snapshot_results.MemoryLimits.{TellsMemory}
use Rattle.agg_engine.specs.snapshot_results.Trees.{IsRight, MayTake, MostSteps}
use Rattle.agg_engine.specs.declared.snapshot_results.charge_error.ChargeError.TheVariants as charge
use Rattle.agg_engine.specs.declared.snapshot_results.charged_tree.ChargedTree.{ChargedTree}
use Rattle.agg_engine.proofs.lemmas.snapshot_results.StartRanges.{none-of_none}
use Rattle.agg_engine.proofs.lemmas.snapshot_results.RightTrees.{docs_in-under, right-apart}
use Rattle.agg_engine.proofs.lemmas.snapshot_results.RightTrees.{right-more, right-stands}
use Rattle.agg_engine.specs.collectors.Segment.{HarvestsFew, IsRightFor, TakesFew}
use Rattle.agg_engine.specs.declared.collectors.segment.AggregationSegmentCollector as declared
use declared.{AggregationSegmentCollector}
use Rattle.agg_engine.proofs.lemmas.collectors.RightCollectors.{Passes, few-none, few-taken}
use Rattle.agg_engine.proofs.lemmas.collectors.RightCollectors.{may-take, tells-roof}

module _ (request : Request QueryTree) (segment : Stored) (docs : List ℕ) (visits : ℕ)
    (old : AggregationSegmentCollector) (r : IsRightFor request segment docs visits old) where
  -- no further documents pass
  passes-none : Passes request segment docs visits old r [] old.counts
  passes-none =
      let whole = sym (append-nil (documents_at segment docs)) in
      record {
        within = All-nil (λ doc. doc < length (documents_of segment));
        range = none-of_none request;
        few = subst (λ ds. ¬ (CountsTooMany matches request ds)) whole r.few;
        sums = r.counts ∙ ap (uncut_lengths request) whole;
      }

  -- its tree may hand all down
  pub may-flush : MayTake old.aggregations.per_request (held_of old.tree.tree) []
  may-flush = may-take request segment docs visits old r [] old.counts passes-none

  module _ (new : Held) (steps steps_now : ℕ)
      (flushed : Takes old.aggregations.per_request [] true (held_of old.tree.tree) new steps
      steps_now)
    where
      -- the tree is right for what it took
      pub right-flushed : (visits_now : ℕ)
          × IsRight old.aggregations.per_request request r.meaning new (under 0 docs) visits_now
      right-flushed =
          let now = right-more old.aggregations.per_request request r.meaning [] true
          (held_of old.tree.tree) new steps steps_now flushed (under 0 docs) visits r.right in (
            now.0,
            subst (λ pairs. IsRight old.aggregations.per_request request r.meaning new pairs now.0)
                (append-nil (under 0 docs)) now.1,
          )

      -- its names are apart
      pub apart-flushed : HasNamesApart old.aggregations.per_request new
      apart-flushed =
          let now = right-flushed in
          right-apart old.aggregations.per_request request r.meaning new docs now.0 now.1 r.names

      -- it is that of the request
      tree-flushed : IsTreeOf r.meaning old.aggregations.per_request request new (under 0 docs)
      tree-flushed =
          let now = right-flushed in
          record {
            meant = now.1.context.meant;
            plans = plans_of (map plan_of old.aggregations.per_request.agg_tree);
            asked = now.1.context.tree;
            nodes = now.1.nodes;
            fits = now.1.fits;
            visits = now.0;
            right = now.1.right;
          }

      inside-flushed : AreOfSegment r.meaning.segment (under 0 docs)
      inside-flushed =
          let long = length-map-range_with_len (document_at segment) 0 segment.count in
          subst (λ s. AreOfSegment s (under 0 docs)) (sym r.same)
          (All-map (λ e. e.1 < segment.count) (λ doc. (0, doc)) docs
          (subst (λ n. All (λ doc. doc < n) docs) long r.within))

      -- it holds at least the low bytes of the documents that were taken
      least-flushed : counts_of matches request Low (documents_at segment docs)
          ≤ held_bytes old.aggregations.per_request new
      least-flushed = omega (
        arith,
        least-one r.meaning old.aggregations.per_request request new (under 0 docs) tree-flushed
            (flushed.flushed refl) inside-flushed
            (All-map (λ e. e.0 ≡ 0) (λ doc. (0, doc)) docs (λ k d l. refl)),
        ap (counts_of matches request Low)
            (ap (documents_at r.meaning.segment) (docs_in-under docs)
            ∙ ap (λ s. documents_at s docs) r.same),
      )

      -- its results are those of the documents that were taken
      pub stands-flushed : (results : Results)
          → GroupStands old.aggregations.per_request new (Some 0) results
          → StandsFor matches request (documents_at segment docs) results
      stands-flushed results stands =
          let now = right-flushed in
          subst (λ s. StandsFor matches request (documents_at s docs) results) r.same
          (right-stands old.aggregations.per_request request r.meaning new docs now.0 now.1
          (subst (λ s. All (λ doc. doc < length (documents_of s)) docs) (sym r.same) r.within)
          results stands)

  -- there was room for the low roof, where what it holds was charged
  pub room-flushed : (new : ChargedTree) (steps steps_now : ℕ)
      → Takes old.aggregations.per_request [] true (held_of old.tree.tree) (held_of new.tree)
      steps steps_now
      → (limits limits_now : Limits) → ChargesAnew old.tree new limits limits_now
      → IsCharged old.aggregations.per_request new
      → limits_now.in_use ≤ limits_now.memory_limit
      → limits.in_use + low_roof matches request (length (documents_of segment))
      (documents_at segment docs)
      ≤ limits.memory_limit + old.tree.guard
  room-flushed new steps steps_now flushed limits limits_now anew charged within = omega (
    arith,
    least-flushed (held_of new.tree) steps steps_now flushed,
    charged,
    r.fixed,
    anew.fixed,
    anew.in_use,
    anew.memory_limit,
    within,
  )

  -- what is told of memory is within the roof over the documents that were taken
  pub tells-flushed : (limits : Limits) (told current : ℕ)
      → IsChargeCause old.aggregations.per_request [] old.tree limits
      (charge.MemoryExceeded told current)
      → TellsMemory limits.memory_limit
      (limits.in_use + roof matches request (length (documents_of segment))
      (documents_at segment docs))
      old.tree.guard told current
  tells-flushed limits told current cause =
      subst (λ ds. TellsMemory limits.memory_limit
      (limits.in_use + roof matches request (length (documents_of segment))
      (documents_at segment ds))
      old.tree.guard told current)
      (append-nil docs)
      (tells-roof request segment docs visits old r [] limits told current cause)

module _ (old : AggregationSegmentCollector) (steps : ℕ) where
  -- the steps for no further documents are those of a harvest
  few-harvested : (steps_now : ℕ) → TakesFew [] old steps steps_now
      → HarvestsFew old steps steps_now
  few-harvested steps_now few = record {
    most = λ request segment docs visits r. omega (
      arith,
      few.most request segment docs visits r,
      ap (λ ds. counted_of matches request (documents_at segment ds)) (append-nil docs),
    );
  }

  -- those of handing all down are few
  pub few-flushed : (steps_now : ℕ)
      → MostSteps old.aggregations.per_request [] (held_of old.tree.tree) steps steps_now
      → HarvestsFew old steps steps_now
  few-flushed steps_now most =
      few-harvested steps_now (few-taken old [] steps steps_now most)

  -- no steps are few
  pub few-failed : HarvestsFew old steps steps
  few-failed = few-harvested steps (few-none old [] steps)
