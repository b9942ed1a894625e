-- Whether starts of buckets lie within i64, composite by composite.
use Rattle.std.proofs.Common.{◌≡◌, ℕ, ◌+◌, List, [], ◌∷◌, ◌++◌, Bool, true, false, Some, All}
use Rattle.std.proofs.Common.{get_or, take, drop, refl, sym, ap, ◌∙◌, subst, arith}
use Rattle.std.specs.Prelude.{MatchBool, slice_get}
use Rattle.std.proofs.lemmas.List.{append-nil, take-append-drop}
use Rattle.std.proofs.lemmas.List.Concat.{flat_map-append}
use Rattle.std.proofs.lemmas.List.Elements.{All-append, All-from_recursion}
use Rattle.agg_values.specs.Names.{Named}
use Rattle.agg_values.specs.declared.after_key.AfterKey.{AfterKey}
use Rattle.agg_segment.specs.storage.Document.{Fields}
use Rattle.agg_segment.specs.Segment.{Stored, documents_at}
use Rattle.agg_segment.specs.declared.query.QueryTree.{QueryTree}
use Rattle.agg_request_tree.specs.Ranges.{AreInRange, HasOwnStartOutOfRange, HasStartOutOfRange}
use Rattle.agg_request_tree.specs.Request.{Request, composites_in, composites_of, own_composite}
use Rattle.agg_request_tree.specs.declared.aggregation.Aggregation.{Aggregation}
use Rattle.agg_request_tree.specs.declared.aggregation.AggregationVariants.{AggregationVariants}
use Rattle.agg_request_tree.specs.declared.aggregation.AggregationVariants.TheVariants as asks
use Rattle.agg_request_tree.specs.declared.aggregation.CompositeAggregation.{CompositeAggregation}
use Rattle.agg_request_tree.proofs.CheckedRequests.{Any-back, Any-front}
use Rattle.agg_composite.specs.accessor.Accessors.{Fits}
use Rattle.agg_composite.specs.accessor.Ranges.{AreAllInRange}
use Rattle.agg_composite.specs.declared.accessor.request_data.CompositeAggReqData.{
  CompositeAggReqData,
}
use Rattle.agg_engine_tree.specs.segment_context.Context.{IsAskedAt, IsMeant, Meaning}
use Rattle.agg_engine_tree.specs.declared.segment_context.context.PerRequestAggSegCtx.{
  PerRequestAggSegCtx,
}
use Rattle.agg_engine_tree.specs.declared.segment_context.node.AggKind.TheVariants as kind
use Rattle.agg_engine_tree.specs.uncut.Ranges.{TellsRange}
use Rattle.agg_engine_tree.proofs.lemmas.uncut.NodeData.{composite-accessors}
use Rattle.agg_engine_tree.proofs.lemmas.uncut.Plans.{request-more}

-- ---- some composites and some others

module _ (documents : List Fields) where
  abbrev are_within : CompositeAggregation → Type 0
  are_within composite = All (AreInRange composite.sources) documents

  abbrev has_outside : CompositeAggregation → Type 0
  has_outside composite = HasOwnStartOutOfRange composite documents

  pub tells-none : TellsRange true [] documents
  tells-none = λ k d l. absurd (omega (arith, l))

  pub tells-one : (b : Bool) (composite : CompositeAggregation)
      → MatchBool b (are_within composite) (¬ (are_within composite))
      → TellsRange b (composite ∷ []) documents
  tells-one true composite all = All-from_recursion are_within (composite ∷ []) (all, tt)
  tells-one false composite some = (0, composite, omega arith, refl, some)

  -- those after tell it, where all before lie within
  pub tells-behind : (b : Bool) (before behind : List CompositeAggregation)
      → TellsRange true before documents → TellsRange b behind documents
      → TellsRange b (before ++ behind) documents
  tells-behind true before behind all own = All-append are_within before behind all own
  tells-behind false before behind all own = Any-back has_outside before behind own

  -- those before tell it, where one lies outside
  pub tells-before : (before behind : List CompositeAggregation)
      → TellsRange false before documents → TellsRange false (before ++ behind) documents
  tells-before = Any-front has_outside

  -- none lies outside where all lie within
  pub tells-request : (b : Bool) (request : Request QueryTree)
      → TellsRange b (composites_of request) documents
      → MatchBool b (¬ (HasStartOutOfRange request documents))
      (HasStartOutOfRange request documents)
  tells-request true request all =
      λ some. some.4 (subst are_within some.3 (all some.0 some.1 some.2))
  tells-request false request some = some

-- ---- the composites of a request, aggregation by aggregation

module _ (request : Request QueryTree) (i : ℕ) where
  -- those of the first and of one more
  pub composites-more : (a : List ℕ × Aggregation QueryTree) → slice_get request i ≡ Some a
      → composites_of (take (i + 1) request)
      ≡ composites_of (take i request) ++ composites_in a.1
  composites-more a at =
      ap (λ (r : Request QueryTree). composites_of r) (request-more request i a at)
      ∙ flat_map-append (λ (b : List ℕ × Aggregation QueryTree). composites_in b.1) (take i request)
      (a ∷ [])
      ∙ ap (λ cs. composites_of (take i request) ++ cs) (append-nil (composites_in a.1))

  -- those of the first and of the rest
  pub composites-split : composites_of request
      ≡ composites_of (take i request) ++ composites_of (drop i request)
  composites-split =
      ap (λ (r : Request QueryTree). composites_of r) (sym (take-append-drop i request))
      ∙ flat_map-append (λ (b : List ℕ × Aggregation QueryTree). composites_in b.1) (take i request)
      (drop i request)

-- ---- the composite of a node

module _ (meaning : Meaning) (ctx : PerRequestAggSegCtx) (meant : IsMeant meaning ctx)
    (name : List ℕ) (index : ℕ) (req d : CompositeAggReqData)
    (at : req ≡ get_or ctx.composite_req_data index d) where
  -- its data has accessors
  pub own-fits : (v : AggregationVariants QueryTree)
      → IsAskedAt meaning ctx name v kind.Composite index
      → (segment : Stored) × (after : Named AfterKey) × Fits segment after req
  own-fits (asks.Composite a) asked =
      let own =
      composite-accessors meaning ctx meaning.segment refl meant name index a req d at asked in
      (meaning.segment, own.0, own.1)
  own-fits (asks.Filter a) asked = absurd asked
  own-fits (asks.Count a) asked = absurd asked
  own-fits (asks.Max a) asked = absurd asked
  own-fits (asks.Min a) asked = absurd asked
  own-fits (asks.Sum a) asked = absurd asked

  -- its data tells of its starts
  pub own-tells : (b : Bool) (docs : List ℕ)
      → ((segment : Stored) (after : Named AfterKey) → Fits segment after req
      → MatchBool b (AreAllInRange segment req.req.now.sources docs)
      (¬ (AreAllInRange segment req.req.now.sources docs)))
      → (v : AggregationVariants QueryTree) → IsAskedAt meaning ctx name v kind.Composite index
      → TellsRange b (own_composite v) (documents_at meaning.segment docs)
  own-tells b docs told (asks.Composite a) asked =
      let own =
      composite-accessors meaning ctx meaning.segment refl meant name index a req d at asked in
      tells-one (documents_at meaning.segment docs) b a
      (subst (λ sources. MatchBool b (AreAllInRange meaning.segment sources docs)
      (¬ (AreAllInRange meaning.segment sources docs))) own.2
      (told meaning.segment own.0 own.1))
  own-tells b docs told (asks.Filter a) asked = absurd asked
  own-tells b docs told (asks.Count a) asked = absurd asked
  own-tells b docs told (asks.Max a) asked = absurd asked
  own-tells b docs told (asks.Min a) asked = absurd asked
  own-tells b docs told (asks.Sum a) asked = absurd asked
