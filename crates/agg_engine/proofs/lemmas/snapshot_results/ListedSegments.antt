-- A segment whose one composite's tuples are listed.
use Rattle.std.proofs.Common.{◌≡◌, ◌≤◌, ◌<◌, ◌+◌, ◌*◌, ◌-◌, ◌^◌, ℕ, List, [], ◌∷◌, Ok, filter}
use Rattle.std.proofs.Common.{length, refl, sym, ap, ◌∙◌, subst, arith}
use Rattle.std.proofs.lemmas.List.Elements.{All-cons, All-nil}
use Rattle.agg_values.specs.Names.{Named}
use Rattle.agg_values.specs.declared.after_key.AfterKey.{AfterKey}
use Rattle.agg_cache.specs.Limits.{Limits}
use Rattle.agg_request_tree.specs.charges.Charges.{bucket_bytes}
use Rattle.agg_request_tree.specs.charges.Roof.{Counts, counts_of, own_bytes}
use Rattle.agg_request_tree.specs.charges.Roof.Height.{High, Low}
use Rattle.agg_segment.specs.storage.Document.{Fields}
use Rattle.agg_segment.specs.Query.{matches}
use Rattle.agg_segment.specs.Segment.{Stored, documents_at, documents_of}
use Rattle.agg_segment.specs.declared.query.QueryTree.{QueryTree}
use Rattle.agg_request_tree.specs.Occurrences.{bound_of, past_occurrences}
use Rattle.agg_request_tree.specs.Ranges.{HasStartOutOfRange}
use Rattle.agg_request_tree.specs.Request.{Request}
use Rattle.agg_request_tree.specs.Source.{Sources}
use Rattle.agg_request_tree.specs.Uncut.{CountsTooMany}
use Rattle.agg_composite.specs.accessor.Encoding.{EncodedTuple}
use Rattle.agg_composite.specs.accessor.Ranges.{AreAllInRange}
use Rattle.agg_composite.specs.declared.accessor.request_data.CompositeAggReqData.{
  CompositeAggReqData,
}
use Rattle.agg_composite.specs.buckets.Page.{Page}
use Rattle.agg_composite.specs.Listing.{IsLowest, past_of}
use Rattle.agg_results.specs.declared.intermediate_results.results.IntermediateAggregationResults
    as held
use held.{IntermediateAggregationResults}
use Rattle.agg_results.specs.StandsFor.{StandsFor}
use Rattle.agg_engine_tree.specs.segment_context.Context.{ArePlansOf}
use Rattle.agg_engine_tree.specs.collector_tree.Counting.{counted_of}
use Rattle.agg_engine.specs.snapshot_results.Answers.{AnswersResults, IsMemoryRefusal}
use Rattle.agg_engine.specs.snapshot_results.ChargeErrors.{snapshot_error}
use Rattle.agg_engine.specs.snapshot_results.ChargedTrees.{ChargesAnew, IsFixedCause, IsMade}
use Rattle.agg_engine.specs.snapshot_results.ChargedTrees.{before}
use Rattle.agg_engine.specs.snapshot_results.Contexts.{IsContextOf, MayBeCollected}
use Rattle.agg_engine.specs.snapshot_results.Documents.{matching_in}
use Rattle.agg_engine.specs.snapshot_results.Listed.{MayBeListed}
use Rattle.agg_engine.specs.snapshot_results.Lone.{IsLone}
use Rattle.agg_engine.specs.snapshot_results.MemoryLimits.{HaveRoom, low_roof_in, roof_in}
use Rattle.agg_engine.specs.snapshot_results.Steps.{past_named}
use Rattle.agg_engine.specs.declared.snapshot_results.charge_error.ChargeError.{ChargeError}
use Rattle.agg_engine.specs.declared.snapshot_results.charge_error.ChargeError.TheVariants as error
use Rattle.agg_engine.specs.declared.snapshot_results.charged_tree.ChargedTree.{ChargedTree}
use Rattle.agg_engine.specs.declared.snapshot_results.context.SegmentContext.{SegmentContext}
use Rattle.agg_engine.proofs.lemmas.snapshot_results.ChargedTrees.{tells-within}
use Rattle.agg_engine.proofs.lemmas.snapshot_results.Contexts.{documents-here, matching-one}
use Rattle.agg_engine.proofs.lemmas.snapshot_results.LeafBytes.{leaf-bytes, leaf-counted}
use Rattle.agg_engine.proofs.lemmas.snapshot_results.LeafBytes.{leaf-low_bytes, leaf-past}
use Rattle.agg_engine.proofs.lemmas.snapshot_results.LeafBytes.{listed-many}
use Rattle.agg_engine.proofs.lemmas.snapshot_results.LoneRequests.{IsOneLeaf, leaf-few}
use Rattle.agg_engine.proofs.lemmas.snapshot_results.LoneRequests.{leaf-in_range, one-leaf}
use Rattle.agg_engine.proofs.lemmas.snapshot_results.SegmentMemory.{tree-fixed}

module _ (request : Request QueryTree) (query : QueryTree) (segment : Stored)
    (given : SegmentContext) (ready : MayBeCollected request query (segment ∷ []) (given ∷ []))
    (req : CompositeAggReqData) (lone : IsLone given.aggregations.per_request req)
    (docs : List ℕ) (same : docs ≡ given.docs.items) where
  abbrev is : IsContextOf request query segment given
  is = ready.each.0

  -- the segment that the data was made in, and the after key of the composite
  abbrev pub stored : Stored
  stored = is.meaning.segment

  abbrev pub after : Named AfterKey
  after = is.meaning.after_at lone.index

  -- the documents that match
  abbrev documents : List Fields
  documents = documents_at stored docs

  matched : documents ≡ matching_in query (segment ∷ [])
  matched = documents-here request query segment given is is.meaning is.means.same docs same

  -- the request is the composite
  pub leaf : IsOneLeaf req after request
  leaf =
      one-leaf is.meaning given.aggregations.per_request request lone.index req
      (subst (ArePlansOf is.meaning given.aggregations.per_request request) lone.node
      is.means.aggregations.tree) lone.at

  abbrev only : Request QueryTree
  only = (req.name, leaf.a) ∷ []

  -- ---- its tuples may be listed

  range : ¬ (HasStartOutOfRange only documents)
  range =
      subst (λ (r : Request QueryTree). ¬ (HasStartOutOfRange r documents)) leaf.is
      (subst (λ ds. ¬ (HasStartOutOfRange request ds)) (sym matched) ready.range)

  few : counted_of matches only documents < 2 ^ 32
  few =
      leaf-few req.name leaf.a leaf.asked leaf.leaf.agg leaf.leaf.below documents
      (subst (λ (r : Request QueryTree). ¬ (CountsTooMany matches r documents)) leaf.is
      (subst (λ ds. ¬ (CountsTooMany matches request ds)) (sym matched) ready.few))

  -- its occurrences past the bound are those of what is asked
  past-asked : length (past_of stored after req docs)
      ≡ length (past_occurrences leaf.asked.sources
      (bound_of leaf.asked.sources leaf.asked.after) documents)
  past-asked =
      λ i. length (past_occurrences (leaf.leaf.sources i)
      (bound_of (leaf.leaf.sources i) (leaf.leaf.start i)) documents)

  past-counted : length (past_of stored after req docs) ≤ counted_of matches only documents
  past-counted =
      omega (
        arith,
        past-asked,
        leaf-counted req.name leaf.a leaf.asked leaf.leaf.agg leaf.leaf.below documents,
      )

  pub may-list : MayBeListed stored after req docs
  may-list = record {
    fits = (is.means.aggregations.meant.composites lone.index req lone.at).fits;
    range = subst (λ (ss : Sources). AreAllInRange stored ss docs) (sym leaf.leaf.sources)
        (leaf-in_range req.name leaf.a leaf.asked leaf.leaf.agg leaf.leaf.below documents range);
    few = omega (arith, past-counted, few);
  }

  -- ---- what is answered

  module _ (steps steps_now : ℕ)
      (most : steps_now ≤ steps + 3 * length (past_of stored after req docs)) where
    -- the steps are few
    pub most-listed : steps_now
        ≤ steps + 3 * counted_of matches request (matching_in query (segment ∷ []))
    most-listed =
        omega (
          arith,
          most,
          past-counted,
          ap (λ (r : Request QueryTree). counted_of matches r documents) leaf.is,
          ap (counted_of matches request) matched,
        )

    -- results that stand for the composite are those of the request
    pub answers-listed : (results : IntermediateAggregationResults)
        → steps + length (past_of stored after req docs) ≤ steps_now
        → StandsFor matches only documents results.results
        → AnswersResults request (matching_in query (segment ∷ [])) steps steps_now (Ok results)
    answers-listed results least stands = record {
      stands = subst (λ ds. StandsFor matches request ds results.results) matched
          (subst (λ (r : Request QueryTree). StandsFor matches r documents results.results)
          (sym leaf.is) stands);
      least = λ other. omega (
        arith,
        least,
        past-asked,
        leaf-past req.name leaf.a leaf.asked leaf.leaf.agg leaf.leaf.below documents other,
        ap (λ (r : Request QueryTree). past_named other r documents) leaf.is,
        ap (past_named other request) matched,
      );
      most = most-listed;
    }

  -- ---- what is charged

  module _ (entries : Page EncodedTuple) (lowest : IsLowest stored after req docs entries) where
    -- the bytes of the entries
    abbrev pub bytes : ℕ
    bytes = bucket_bytes req.req.now * length entries

    own : bytes ≡ own_bytes leaf.asked documents
    own =
        let asked = leaf.asked in
        let many = listed-many stored after req docs entries asked leaf.leaf.sources
        leaf.leaf.size leaf.leaf.start lowest in
        λ i. bucket_bytes (record {
          sources = leaf.leaf.sources i;
          size = asked.size;
          after = asked.after;
        }) * many i

    -- they are what is counted
    bytes-counted : (part : Counts → List Fields → ℕ)
        → part (counts_of matches only) documents ≡ own_bytes leaf.asked documents
        → bytes ≡ part (counts_of matches request) (filter (matches query) (documents_of segment))
    bytes-counted part counted =
        own ∙ sym counted
        ∙ ap (λ (r : Request QueryTree). part (counts_of matches r) documents) (sym leaf.is)
        ∙ ap (part (counts_of matches request)) (matched ∙ matching-one query segment)

    bytes-roof : bytes
        ≡ counts_of matches request High (filter (matches query) (documents_of segment))
    bytes-roof =
        bytes-counted (λ c. c High)
        (leaf-bytes req.name leaf.a leaf.asked leaf.leaf.agg leaf.leaf.below documents)

    bytes-low : bytes
        ≡ counts_of matches request Low (filter (matches query) (documents_of segment))
    bytes-low =
        bytes-counted (λ c. c Low)
        (leaf-low_bytes req.name leaf.a leaf.asked leaf.leaf.agg leaf.leaf.below documents)

    module _ (tree : ChargedTree)
        (made : IsMade given.aggregations.per_request given.reader.now tree)
        (limits : Limits) (within : tree.guard ≤ limits.in_use) where
      -- they aren't charged where the limit would be passed
      pub refusal-listed : (e : ChargeError) → IsFixedCause bytes limits e
          → IsMemoryRefusal request query (segment ∷ []) (before tree.guard limits)
          (snapshot_error e)
      refusal-listed (error.MemoryExceeded told current) tells = (
        0,
        documents_of segment,
        omega arith,
        refl,
        tells-within limits.memory_limit limits.memory_limit (limits.in_use + bytes)
            (limits.in_use - tree.guard + roof_in matches query request (documents_of segment)) 0 0
            told current refl
            (omega (
              arith,
              within,
              made.guard,
              tree-fixed request query segment given ready docs same tree made limits within,
              bytes-roof,
            )) tells,
      )
      refusal-listed error.OutOfMemory tells = tt

      -- where they are, there was room for the low roof
      pub room-listed : (new : ChargedTree) (limits_now : Limits)
          → ChargesAnew tree new limits limits_now → new.guard ≡ tree.guard + bytes
          → limits_now.in_use ≤ limits_now.memory_limit
          → HaveRoom matches query request (before tree.guard limits) (documents_of segment ∷ [])
      room-listed new limits_now charges grown room =
          All-cons
          (λ ds. (before tree.guard limits).in_use + low_roof_in matches query request ds
          ≤ limits.memory_limit)
          (documents_of segment) []
          (omega (
            arith,
            charges.in_use,
            charges.memory_limit,
            grown,
            within,
            room,
            made.guard,
            tree-fixed request query segment given ready docs same tree made limits within,
            bytes-low,
          ))
          (All-nil (λ ds. (before tree.guard limits).in_use + low_roof_in matches query request ds
          ≤ limits.memory_limit))
