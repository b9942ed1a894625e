-- A collector that is right for the documents that it took.
use Rattle.std.proofs.Common.{◌≡◌, ◌≤◌, ◌<◌, ◌+◌, ◌*◌, ◌++◌, ℕ, List, [], false, length, refl}
use Rattle.std.proofs.Common.{sym, ap, ◌∙◌, subst, arith}
use Rattle.std.specs.List.{All}
use Rattle.std.proofs.lemmas.List.{map-append}
use Rattle.std.proofs.lemmas.List.Elements.{All-append, All-map}
use Rattle.agg_cache.specs.Limits.{Limits}
use Rattle.agg_cache.specs.Waiting.{under}
use Rattle.agg_segment.specs.storage.Document.{HasNumbersOf64Bits}
use Rattle.agg_segment.specs.Query.{matches}
use Rattle.agg_segment.specs.Segment.{Stored, document_at, documents_at, documents_of}
use Rattle.agg_segment.specs.declared.query.QueryTree.{QueryTree}
use Rattle.agg_request_tree.specs.Ranges.{HasStartOutOfRange}
use Rattle.agg_request_tree.specs.Request.{Request}
use Rattle.agg_request_tree.specs.Uncut.{CountsTooMany}
use Rattle.agg_request_tree.specs.charges.Roof.{counts_of, roof}
use Rattle.agg_request_tree.specs.charges.Roof.Height.{High}
use Rattle.agg_composite.specs.buckets.Visits.{docs_in}
use Rattle.agg_engine_tree.specs.uncut.Uncut.{uncut_lengths}
use Rattle.agg_engine_tree.specs.collector_tree.Counting.{counted_of}
use Rattle.agg_engine_tree.specs.collector_tree.Tree.{Held, Takes, held_of}
use Rattle.agg_engine_tree.proofs.lemmas.collector_tree.MostSteps.{no-steps}
use Rattle.agg_engine.specs.snapshot_results.ChargedTrees.{IsChargeCause, IsCharged}
use Rattle.agg_engine.specs.snapshot_results.MemoryLimits.{TellsMemory}
use Rattle.agg_engine.specs.snapshot_results.Trees.{IsRight, MayBeTaken, MayTake, MostSteps}
use Rattle.agg_engine.specs.declared.snapshot_results.charge_error.ChargeError.TheVariants as charge
use Rattle.agg_engine.specs.declared.snapshot_results.charged_tree.ChargedTree.{ChargedTree}
use Rattle.agg_engine.proofs.lemmas.snapshot_results.StartRanges.{none-out}
use Rattle.agg_engine.proofs.lemmas.snapshot_results.RightTrees.{docs_in-under, right-more}
use Rattle.agg_engine.proofs.lemmas.snapshot_results.TakenTrees.{most-of}
use Rattle.agg_engine.specs.collectors.Segment.{IsRightFor, TakesFew}
use Rattle.agg_engine.specs.declared.collectors.segment.AggregationSegmentCollector as declared
use declared.{AggregationSegmentCollector}
use Rattle.agg_engine.proofs.lemmas.collectors.StoredDocuments.{stored-all}
use Rattle.agg_engine.proofs.lemmas.collectors.ToldMemory.{tells-more}

module _ (request : Request QueryTree) (segment : Stored) (taken : List ℕ) (visits : ℕ)
    (old : AggregationSegmentCollector) (r : IsRightFor request segment taken visits old) where
  -- its tree
  abbrev held : Held
  held = held_of old.tree.tree

  -- the documents of the tree, and others after them
  documents-pairs : (docs : List ℕ)
      → documents_at r.meaning.segment (docs_in (under 0 taken ++ under 0 docs))
      ≡ documents_at segment (taken ++ docs)
  documents-pairs docs =
      ap (λ pairs. documents_at r.meaning.segment (docs_in pairs))
      (sym (map-append (λ doc. (0, doc)) taken docs))
      ∙ ap (documents_at r.meaning.segment) (docs_in-under (taken ++ docs))
      ∙ ap (λ s. documents_at s (taken ++ docs)) r.same

  -- the steps for others are few
  most-taken : (docs : List ℕ) (steps steps_now : ℕ)
      → MostSteps old.aggregations.per_request (under 0 docs) held steps steps_now
      → steps_now + 3 * visits
      ≤ steps + 3 * counted_of matches request (documents_at segment (taken ++ docs))
  most-taken docs steps steps_now most =
      omega (
        arith,
        most.most request r.meaning (under 0 taken) visits r.right,
        ap (counted_of matches request) (documents-pairs docs),
      )

  -- all are under the first parent
  zero-pairs : (docs : List ℕ) → All (λ e. e.0 ≡ 0) (under 0 taken ++ under 0 docs)
  zero-pairs docs =
      All-append (λ e. e.0 ≡ 0) (under 0 taken) (under 0 docs)
      (All-map (λ e. e.0 ≡ 0) (λ doc. (0, doc)) taken (λ k d l. refl))
      (All-map (λ e. e.0 ≡ 0) (λ doc. (0, doc)) docs (λ k d l. refl))

  -- what is told of memory is within the roof over all of them
  pub tells-roof : (docs : List ℕ) (limits : Limits) (told current : ℕ)
      → IsChargeCause old.aggregations.per_request (under 0 docs) old.tree limits
      (charge.MemoryExceeded told current)
      → TellsMemory limits.memory_limit
      (limits.in_use + roof matches request (length (documents_of segment))
      (documents_at segment (taken ++ docs)))
      old.tree.guard told current
  tells-roof docs limits told current cause =
      let bytes : ℕ = counts_of matches request High
      (documents_at r.meaning.segment (docs_in (under 0 taken ++ under 0 docs))) in
      tells-more limits.memory_limit (limits.in_use + old.tree.fixed + bytes)
      (limits.in_use + roof matches request (length (documents_of segment))
      (documents_at segment (taken ++ docs)))
      old.tree.guard told current
      (omega (arith, r.fixed, ap (counts_of matches request High) (documents-pairs docs)))
      (cause request r.meaning (under 0 taken) visits r.right (zero-pairs docs))

  -- documents that come after those that were taken pass the checks, and the counts are those of
  -- all
  pub record Passes (docs counts : List ℕ) : Type 0 where
    pub within : All (λ doc. doc < length (documents_of segment)) docs
    pub range : ¬ (HasStartOutOfRange request (documents_at segment docs))
    pub few : ¬ (CountsTooMany matches request
        (documents_at segment taken ++ documents_at segment docs))
    pub sums : counts
        ≡ uncut_lengths request (documents_at segment taken ++ documents_at segment docs)

  module _ (docs counts : List ℕ) (passes : Passes docs counts) where
    -- together with those that were taken they pass too
    documents-both : documents_at segment (taken ++ docs)
        ≡ documents_at segment taken ++ documents_at segment docs
    documents-both = map-append (document_at segment) taken docs

    within-both : All (λ doc. doc < length (documents_of segment)) (taken ++ docs)
    within-both =
        All-append (λ doc. doc < length (documents_of segment)) taken docs r.within passes.within

    range-both : ¬ (HasStartOutOfRange request (documents_at segment (taken ++ docs)))
    range-both =
        subst (λ ds. ¬ (HasStartOutOfRange request ds)) (sym documents-both)
        (none-out request (documents_at segment taken) (documents_at segment docs) r.range
        passes.range)

    few-both : ¬ (CountsTooMany matches request (documents_at segment (taken ++ docs)))
    few-both = subst (λ ds. ¬ (CountsTooMany matches request ds)) (sym documents-both) passes.few

    may : MayBeTaken request r.meaning (under 0 taken ++ under 0 docs)
    may = record {
      numbers = subst (All HasNumbersOf64Bits) (sym (documents-pairs docs))
          (stored-all HasNumbersOf64Bits segment (taken ++ docs) within-both r.numbers);
      range = subst (λ ds. ¬ (HasStartOutOfRange request ds)) (sym (documents-pairs docs))
          range-both;
      few = subst (λ ds. ¬ (CountsTooMany matches request ds)) (sym (documents-pairs docs))
          few-both;
    }

    -- the tree may take them
    pub may-take : MayTake old.aggregations.per_request held (under 0 docs)
    may-take = record {
      request = request;
      meaning = r.meaning;
      taken = under 0 taken;
      visits = visits;
      right = r.right;
      all = may;
    }

    -- the collector is right for all of them after the tree took them and they were charged
    pub right-taken : (tree : ChargedTree) (steps steps_now : ℕ)
        → Takes old.aggregations.per_request (under 0 docs) false held (held_of tree.tree) steps
        steps_now
        → IsCharged old.aggregations.per_request tree → tree.fixed ≡ old.tree.fixed
        → (visits_now : ℕ)
        × IsRightFor request segment (taken ++ docs) visits_now
        (record old { tree = tree; counts = counts })
        × (visits ≤ visits_now)
        × (steps + visits_now ≤ steps_now + visits)
        × (steps_now + 3 * visits ≤ steps + 3 * visits_now)
    right-taken tree steps steps_now took charged fixed =
        let now = right-more old.aggregations.per_request request r.meaning (under 0 docs) false
        held (held_of tree.tree) steps steps_now took (under 0 taken) visits r.right in (
          now.0,
          record {
            reader = r.reader;
            meaning = r.meaning;
            same = r.same;
            right = subst (λ pairs. IsRight old.aggregations.per_request request r.meaning
                (held_of tree.tree) pairs now.0)
                (sym (map-append (λ doc. (0, doc)) taken docs)) now.1;
            names = r.names;
            within = within-both;
            numbers = r.numbers;
            counts = passes.sums ∙ ap (uncut_lengths request) (sym documents-both);
            range = range-both;
            few = few-both;
            charged = charged;
            fixed = fixed ∙ r.fixed;
          },
          now.2,
          now.3,
          now.4,
        )

module _ (old : AggregationSegmentCollector) (docs : List ℕ) (steps : ℕ) where
  -- a collector whose tree takes documents takes few steps
  pub few-taken : (steps_now : ℕ)
      → MostSteps old.aggregations.per_request (under 0 docs) (held_of old.tree.tree) steps
      steps_now
      → TakesFew docs old steps steps_now
  few-taken steps_now most = record {
    most = λ request segment taken visits r.
        most-taken request segment taken visits old r docs steps steps_now most;
  }

  -- a collector whose tree takes no documents takes few steps
  pub few-none : TakesFew docs old steps steps
  few-none = record {
    most = λ request segment taken visits r.
        most-taken request segment taken visits old r docs steps steps
        (most-of old.aggregations.per_request (under 0 docs) [] (held_of old.tree.tree) steps
        steps
        (no-steps old.aggregations.per_request (under 0 docs) (held_of old.tree.tree)
        r.right.fits steps));
  }
