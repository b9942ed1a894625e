-- A composite's node: its bytes with what is below it.
use Rattle.std.proofs.Common.{◌≡◌, ◌<◌, ◌≤◌, ◌+◌, ◌*◌, ◌++◌, ℕ, List, [], Some, inl, inr}
use Rattle.std.proofs.Common.{append-nil, get_or, refl, sym, ap, ◌∙◌, subst, arith}
use Rattle.std.specs.Prelude.{slice_get}
use Rattle.std.specs.List.{AllByRecursion, Contains, sum_by}
use Rattle.std.specs.Option.{option_map_or}
use Rattle.agg_cache.specs.Waiting.{docs_of, is_id}
use Rattle.agg_request_tree.specs.declared.aggregation.CompositeAggregation.{CompositeAggregation}
use Rattle.agg_request_tree.specs.charges.Charges.{bucket_bytes}
use Rattle.agg_request_tree.specs.charges.Roof.{Counts, composite_counts}
use Rattle.agg_request_tree.specs.charges.Roof.Height.{High, Low}
use Rattle.agg_request_tree.proofs.lemmas.charges.Lawful.{Lawful}
use Rattle.agg_request_tree.proofs.lemmas.charges.Sums.{sum_by-same}
use Rattle.agg_composite.specs.accessor.Accessors as accessors
use Rattle.agg_composite.specs.accessor.Encoding.{encoded_tuple_order}
use Rattle.agg_composite.specs.declared.accessor.request_data.CompositeAggReqData.{
  CompositeAggReqData,
}
use Rattle.agg_composite.proofs.lemmas.accessor.EncodedOrder.{tuple_order-total}
use Rattle.agg_segment.specs.Segment.{documents_at}
use Rattle.agg_composite.specs.buckets.Visits.{Within, docs_in}
use Rattle.agg_composite.specs.Composite.{Composite, CompositeFor, num_buckets}
use Rattle.agg_composite.specs.Visits.{TypedVisit}
use Rattle.agg_engine_tree.specs.segment_context.Context.{IsMeant, Meaning}
use Rattle.agg_engine_tree.specs.declared.segment_context.context.PerRequestAggSegCtx.{
  PerRequestAggSegCtx,
}
use Rattle.agg_engine_tree.specs.collector_tree.Caches.{Cache}
use Rattle.agg_engine_tree.specs.collector_tree.Tree.{Held, IsFor, IsHandedTo, visits_of}
use Rattle.agg_engine_tree.specs.collector_tree.Caches.{waiting_in}
use Rattle.agg_engine_tree.proofs.lemmas.collector_tree.LowerDocuments.{docs-stand, given-within}
use Rattle.agg_engine_tree.proofs.lemmas.collector_tree.LowerDocuments.{visited-part}
use Rattle.agg_engine_tree.proofs.lemmas.collector_tree.WithinLists.{within-both, within-contains}
use Rattle.agg_engine_tree.specs.held_bytes.HeldBytes.{bytes_at}
use Rattle.agg_engine_tree.specs.held_bytes.Trees.{over_parents, taken_under}
use Rattle.agg_engine_tree.proofs.lemmas.held_bytes.CompositeBytes.{HasPages, composite-least}
use Rattle.agg_engine_tree.proofs.lemmas.held_bytes.CompositeBytes.{composite-most}
use Rattle.agg_engine_tree.proofs.lemmas.held_bytes.DocumentLists.{none-past, nothing-first}
use Rattle.agg_engine_tree.proofs.lemmas.held_bytes.DocumentLists.{parents-low}
use Rattle.agg_engine_tree.proofs.lemmas.held_bytes.NumberSums.{up_to}
use Rattle.agg_engine_tree.proofs.lemmas.held_bytes.PageIds.{sum-buckets}
use Rattle.agg_engine_tree.proofs.lemmas.held_bytes.ParentPages as pages
use Rattle.agg_engine_tree.proofs.lemmas.held_bytes.ParentVisits.{is_under, visits-covered}
use Rattle.agg_engine_tree.proofs.lemmas.held_bytes.ParentVisits.{visits-inside}

module _ (meaning : Meaning) (ctx : PerRequestAggSegCtx) where
  -- of what was handed on under ids, this was given to a tree, which is right for it, and the rest
  -- waits
  pub record IsPassed (h : Held) (handed : List (ℕ × ℕ)) (waiting : ℕ → List ℕ) : Type 0 where
    pub given : List (ℕ × ℕ)
    pub waits : (id : ℕ) → docs_of (is_id id) given ++ waiting id ≡ docs_of (is_id id) handed
    pub visits : ℕ
    pub right : IsFor meaning ctx h given visits

  module _ (is : IsMeant meaning ctx) (index : ℕ) (req : CompositeAggReqData)
      (at : slice_get ctx.composite_req_data index ≡ Some req) (collector : Composite Cache)
      (taken given : List (ℕ × ℕ))
      (right : CompositeFor waiting_in req collector
      (visits_of req meaning.segment (meaning.after_at index) taken) given) where
    abbrev pub visits : List TypedVisit
    visits = visits_of req meaning.segment (meaning.after_at index) taken

    -- the composite of the data
    abbrev pub made : CompositeAggregation
    made =
        record { sources = req.req.now.sources; size = req.size; after = meaning.after_at index }

    abbrev fits : accessors.Fits meaning.segment (meaning.after_at index) req
    fits = (is.composites index req at).fits

    -- what was handed on, of which some was given where documents are handed on at all
    pub passed : (h : Held) → IsHandedTo collector.hands_on h → (under : ℕ)
        → IsFor meaning ctx h given under
        → (waiting : ℕ → List ℕ) × IsPassed h right.handed waiting
        × (((id : ℕ) → waiting_in collector.cache.0 id ≡ []) → (id : ℕ) → waiting id ≡ [])
    passed h (inl on) under below = (
      waiting_in collector.cache.0,
      record { given = given; waits = right.waits on; visits = under; right = below },
      (λ flushed. flushed),
    )
    passed h (inr none) under below = (
      (λ id. []),
      record {
        given = right.handed;
        waits = λ id. append-nil (docs_of (is_id id) right.handed);
        visits = 0;
        right = subst (λ k. IsFor meaning ctx k right.handed 0) (sym none) refl;
      },
      (λ flushed id. refl),
    )

    has-pages : HasPages made meaning.segment collector.node.parents right.handed
        (λ p. docs_of (is_under p) visits) (taken_under meaning.segment taken)
    has-pages = record {
      many = pages.page-many meaning.segment (meaning.after_at index) req fits collector taken given
          right;
      sums = pages.page-sums meaning.segment (meaning.after_at index) req fits collector taken given
          right;
      covers = pages.page-covers meaning.segment (meaning.after_at index) req fits collector taken
          given right;
      inside = λ p. visits-inside req meaning.segment (meaning.after_at index) p taken;
    }

    once : (f : ℕ → ℕ) (n : ℕ)
        → sum_by (λ p. sum_by (λ e. f e.1.id) (get_or collector.node.parents p [])) (up_to n)
        ≤ sum_by f (up_to collector.node.next)
    once =
        sum-buckets encoded_tuple_order tuple_order-total req.size collector.node.parents
        collector.node.next right.visits right.handed right.buckets

    price : bytes_at ctx index ≡ bucket_bytes made
    price = ap (λ o. option_map_or (λ (r : CompositeAggReqData). bucket_bytes r.req.now) o 0) at

    -- what was handed on is of the visits
    handed-visited : Within (docs_in right.handed) (docs_in visits)
    handed-visited =
        subst (Within (docs_in right.handed)) (docs-stand req right.visits visits right.stand)
        right.buckets.part

    module _ (h : Held) (waiting : ℕ → List ℕ) (down : IsPassed h right.handed waiting) where
      -- what was handed on is of documents that were taken
      pub given-part : (d : ℕ) → Contains (docs_in down.given) d → Contains (docs_in taken) d
      given-part d c =
          visited-part req meaning.segment (meaning.after_at index) taken d
          (within-contains (docs_in down.given) (docs_in visits)
          (within-both (docs_in down.given) (docs_in right.handed) (docs_in visits)
          (given-within down.given right.handed waiting down.waits) handed-visited) d c)

      -- the ids of what was given are below the next one
      pub given-low : AllByRecursion (λ e. e.0 < collector.node.next) down.given
      given-low =
          parents-low collector.node.next down.given
          (λ id l. nothing-first (docs_of (is_id id) down.given) (waiting id)
          (down.waits id ∙ right.buckets.fresh id l))

      module _ (below : Counts) (lawful : Lawful below) (n : ℕ) where
        pub node-most : AllByRecursion (λ e. e.0 < n) taken
            → bytes_at ctx index * num_buckets collector
            + over_parents (below High) meaning.segment down.given collector.node.next
            ≤ over_parents (composite_counts made below High) meaning.segment taken n
        node-most low =
            let most = composite-most made below lawful meaning.segment collector.node.parents
            right.handed (λ p. docs_of (is_under p) visits) (taken_under meaning.segment taken)
            collector.node.next has-pages once down.given waiting down.waits n
            (λ p l. ap (documents_at meaning.segment) (none-past n taken low p l))
            (λ f. omega (
              arith,
              handed-visited.lighter f,
              visits-covered req meaning.segment (meaning.after_at index) n f taken low,
            )) in
            omega (arith, most, ap (λ price. price * num_buckets collector) price)

        pub node-least : ((id : ℕ) → waiting id ≡ [])
            → over_parents (composite_counts made below Low) meaning.segment taken n
            ≤ bytes_at ctx index * num_buckets collector
            + over_parents (below Low) meaning.segment down.given collector.node.next
        node-least flushed =
            let least = composite-least made below lawful meaning.segment collector.node.parents
            right.handed (λ p. docs_of (is_under p) visits) (taken_under meaning.segment taken)
            collector.node.next has-pages once n in
            omega (
              arith,
              least,
              ap (λ price. price * num_buckets collector) price,
              sum_by-same (λ id. below Low (taken_under meaning.segment down.given id))
                  (λ id. below Low (taken_under meaning.segment right.handed id))
                  (up_to collector.node.next)
                  (λ id. ap (λ docs. below Low (documents_at meaning.segment docs))
                  (sym (append-nil (docs_of (is_id id) down.given))
                  ∙ ap (λ docs. docs_of (is_id id) down.given ++ docs) (sym (flushed id))
                  ∙ down.waits id)),
            )
