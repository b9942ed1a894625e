-- What a segment's collectors charge, and why it is refused.
use Rattle.std.proofs.Common.{◌≡◌, ◌≤◌, ◌<◌, ◌+◌, ◌-◌, ℕ, List, [], ◌∷◌, true, false, filter}
use Rattle.std.proofs.Common.{length, refl, sym, ap, ◌∙◌, subst, append-nil, arith}
use Rattle.std.specs.List.{All}
use Rattle.std.proofs.lemmas.List.Elements.{All-cons, All-map, All-nil}
use Rattle.std.proofs.lemmas.List.FromFn.{length-map-range_with_len}
use Rattle.agg_cache.specs.Limits.{Limits, charged}
use Rattle.agg_cache.proofs.SameLimits.{same-limits}
use Rattle.agg_cache.specs.Waiting.{under}
use Rattle.agg_segment.specs.storage.Document.{Fields}
use Rattle.agg_segment.specs.Query.{matches}
use Rattle.agg_segment.specs.Segment.{Stored, document_at, documents_at, documents_of}
use Rattle.agg_segment.specs.declared.query.QueryTree.{QueryTree}
use Rattle.agg_request_tree.specs.Request.{Request}
use Rattle.agg_request_tree.specs.charges.Charges.{fixed_charge}
use Rattle.agg_request_tree.specs.charges.Roof.{Counts, counts_of}
use Rattle.agg_request_tree.specs.charges.Roof.Height.{High, Low}
use Rattle.agg_composite.specs.buckets.Visits.{docs_in}
use Rattle.agg_engine_tree.specs.collector_tree.Tree.{Takes, held_of}
use Rattle.agg_engine_tree.specs.held_bytes.Trees.{AreOfSegment}
use Rattle.agg_engine_tree.proofs.lemmas.held_bytes.TreeLaws.{least-one}
use Rattle.agg_engine.specs.snapshot_results.Answers.{IsMemoryRefusal}
use Rattle.agg_engine.specs.snapshot_results.ChargeErrors.{snapshot_error}
use Rattle.agg_engine.specs.snapshot_results.ChargedTrees.{ChargesAnew, IsChargeCause, IsCharged}
use Rattle.agg_engine.specs.snapshot_results.ChargedTrees.{IsFixedCause, IsMade, before}
use Rattle.agg_engine.specs.snapshot_results.Contexts.{IsContextOf, MayBeCollected}
use Rattle.agg_engine.specs.snapshot_results.MemoryLimits.{HaveRoom, low_roof_in, roof_in}
use Rattle.agg_engine.specs.declared.snapshot_results.charge_error.ChargeError.{ChargeError}
use Rattle.agg_engine.specs.declared.snapshot_results.charge_error.ChargeError.TheVariants as error
use Rattle.agg_engine.specs.declared.snapshot_results.charged_tree.ChargedTree.{ChargedTree}
use Rattle.agg_engine.specs.declared.snapshot_results.context.SegmentContext.{SegmentContext}
use Rattle.agg_engine.proofs.lemmas.snapshot_results.ChargedTrees.{cause-second, charges-both}
use Rattle.agg_engine.proofs.lemmas.snapshot_results.ChargedTrees.{tells-within, tree-of}
use Rattle.agg_engine.proofs.lemmas.snapshot_results.ChargedTrees.{under-zero}
use Rattle.agg_engine.proofs.lemmas.snapshot_results.Contexts.{matching-one}
use Rattle.agg_engine.proofs.lemmas.snapshot_results.SegmentTrees.{ctx, documents-taken, meaning}
use Rattle.agg_engine.proofs.lemmas.snapshot_results.SegmentTrees.{right-flushed, right-new}

-- ---- ledgers

-- before a tree was made, a ledger was as it was
pub before-made : (tree : ChargedTree) (limits limits_made : Limits)
    → tree.guard ≡ tree.fixed → limits_made ≡ charged tree.fixed limits
    → before tree.guard limits_made ≡ limits
before-made tree limits limits_made guard ledger =
    let in_use = ap (λ (l : Limits). l.in_use) ledger in
    same-limits limits (before tree.guard limits_made) (omega (arith, in_use, guard))
    (ap (λ (l : Limits). l.memory_limit) ledger) (ap (λ (l : Limits). l.bucket_limit) ledger)

-- ---- a segment

module _ (request : Request QueryTree) (query : QueryTree) (segment : Stored)
    (given : SegmentContext) (ready : MayBeCollected request query (segment ∷ []) (given ∷ []))
    (docs : List ℕ) (same : docs ≡ given.docs.items) where
  abbrev is : IsContextOf request query segment given
  is = ready.each.0

  -- what the request takes in it
  abbrev pub fixed_in : ℕ
  fixed_in = fixed_charge request (length (documents_of given.reader.now))

  fixed-same : fixed_in ≡ fixed_charge request (length (documents_of segment))
  fixed-same = ap (λ (s : Stored). fixed_charge request (length (documents_of s))) is.reader

  -- the documents that match
  matched : documents_at (meaning request query segment given ready docs same).segment
      (docs_in (under 0 docs)) ≡ filter (matches query) (documents_of segment)
  matched =
      documents-taken request query segment given ready docs same ∙ matching-one query segment

  -- what is counted over them
  counted-same : (part : Counts → List Fields → ℕ)
      → part (counts_of matches request)
      (documents_at (meaning request query segment given ready docs same).segment
      (docs_in (under 0 docs)))
      ≡ part (counts_of matches request) (filter (matches query) (documents_of segment))
  counted-same part = ap (part (counts_of matches request)) matched

  -- a tree isn't made where the request takes too much
  pub refusal-made : (limits : Limits) (e : ChargeError) → IsFixedCause fixed_in limits e
      → IsMemoryRefusal request query (segment ∷ []) limits (snapshot_error e)
  refusal-made limits (error.MemoryExceeded told current) tells = (
    0,
    documents_of segment,
    omega arith,
    refl,
    tells-within limits.memory_limit limits.memory_limit (limits.in_use + fixed_in)
        (limits.in_use + roof_in matches query request (documents_of segment)) 0 0 told current
        refl (omega (arith, fixed-same)) tells,
  )
  refusal-made limits error.OutOfMemory tells = tt

  module _ (tree : ChargedTree)
      (made : IsMade (ctx request query segment given ready docs same) given.reader.now tree)
      (limits : Limits) (within : tree.guard ≤ limits.in_use) where
    -- what it takes for itself is the fixed charge of the request
    pub tree-fixed : tree.fixed ≡ fixed_charge request (length (documents_of segment))
    tree-fixed =
        made.fixed is.meaning request (is.means.same ∙ sym is.reader) is.means.aggregations
        ∙ fixed-same

    -- it doesn't take the documents where they may have too many buckets
    pub refusal-taken : (e : ChargeError)
        → IsChargeCause (ctx request query segment given ready docs same) (under 0 docs) tree
        limits e
        → IsMemoryRefusal request query (segment ∷ []) (before tree.guard limits)
        (snapshot_error e)
    refusal-taken (error.MemoryExceeded told current) cause = (
      0,
      documents_of segment,
      omega arith,
      refl,
      tells-within limits.memory_limit limits.memory_limit
          (limits.in_use + tree.fixed
          + counts_of matches request High
          (documents_at is.meaning.segment (docs_in (under 0 docs))))
          (limits.in_use - tree.guard + roof_in matches query request (documents_of segment))
          tree.guard 0 told current refl
          (omega (arith, within, tree-fixed, counted-same (λ c. c High)))
          (cause request is.meaning [] 0
          (right-new request query segment given ready docs same (held_of tree.tree) made.new)
          (under-zero docs)),
    )
    refusal-taken error.OutOfMemory cause = tt

    module _ (mid : ChargedTree) (limits_mid : Limits) (steps steps_mid : ℕ)
        (took : Takes (ctx request query segment given ready docs same) (under 0 docs) false
        (held_of tree.tree) (held_of mid.tree) steps steps_mid)
        (charges : ChargesAnew tree mid limits limits_mid) where
      -- it doesn't hand down what waits where there may be too many buckets
      pub refusal-flushed : (e : ChargeError)
          → IsChargeCause (ctx request query segment given ready docs same) [] mid limits_mid e
          → IsMemoryRefusal request query (segment ∷ []) (before tree.guard limits)
          (snapshot_error e)
      refusal-flushed e cause =
          refusal-taken e
          (subst (λ pairs. IsChargeCause (ctx request query segment given ready docs same) pairs
          tree limits e) (append-nil (under 0 docs))
          (cause-second (ctx request query segment given ready docs same) (under 0 docs) [] tree
          limits mid limits_mid steps steps_mid took charges e cause))

      module _ (new : ChargedTree) (limits_now : Limits) (steps_now : ℕ)
          (flushed : Takes (ctx request query segment given ready docs same) [] true
          (held_of mid.tree) (held_of new.tree) steps_mid steps_now)
          (charges_now : ChargesAnew mid new limits_mid limits_now)
          (exact : IsCharged (ctx request query segment given ready docs same) new)
          (room : limits_now.in_use ≤ limits_now.memory_limit) where
        -- its documents are of the segment
        inside : AreOfSegment is.meaning.segment (under 0 docs)
        inside =
            All-map (λ (e : ℕ × ℕ). e.1 < is.meaning.segment.count) (λ doc. (0, doc)) docs
            (subst (λ n. All (λ doc. doc < n) docs)
            (length-map-range_with_len (document_at segment) 0 segment.count
            ∙ sym (ap (λ (s : Stored). s.count) is.means.same))
            (subst (All (λ doc. doc < length (documents_of segment))) (sym same) is.within))

        -- where it did both, there was room for the low roof
        pub room-flushed : HaveRoom matches query request (before tree.guard limits)
            (documents_of segment ∷ [])
        room-flushed =
            let both = charges-both tree mid limits limits_mid charges new limits_now charges_now
            in
            let now = right-flushed request query segment given ready docs same (held_of tree.tree)
            (held_of mid.tree) steps steps_mid made.new took (held_of new.tree) steps_now flushed
            in
            let least = least-one is.meaning (ctx request query segment given ready docs same)
            request (held_of new.tree) (under 0 docs)
            (tree-of (ctx request query segment given ready docs same) request is.meaning
            (held_of new.tree) (under 0 docs) now.0 now.1) (flushed.flushed refl) inside
            (under-zero docs) in
            All-cons
            (λ documents. (before tree.guard limits).in_use
            + low_roof_in matches query request documents ≤ limits.memory_limit)
            (documents_of segment) []
            (omega (
              arith,
              both.in_use,
              both.fixed,
              both.memory_limit,
              within,
              exact,
              room,
              least,
              tree-fixed,
              counted-same (λ c. c Low),
            ))
            (All-nil (λ documents. (before tree.guard limits).in_use
            + low_roof_in matches query request documents ≤ limits.memory_limit))
