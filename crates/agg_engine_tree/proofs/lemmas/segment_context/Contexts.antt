-- The context of a request, from the data that was added to an empty one.
use Rattle.std.proofs.Common.{◌≡◌, ℕ, List, [], Option, ap, get_or, length, map, refl, sym, subst}
use Rattle.std.proofs.Common.{◌∙◌, None, Some}
use Rattle.std.specs.List.{All, slice_get}
use Rattle.agg_values.specs.Names.{Named}
use Rattle.agg_values.specs.declared.after_key.AfterKey.{AfterKey}
use Rattle.agg_segment.specs.declared.query.QueryTree.{QueryTree}
use Rattle.agg_segment.specs.declared.query.QueryTree.TheVariants.{Empty}
use Rattle.agg_request_tree.specs.Faults.{IsSound, IsSoundRequest}
use Rattle.agg_request_tree.specs.Request.{Request, composites_of, with_builders}
use Rattle.agg_engine_tree.specs.segment_context.Additions.{AddsRequest, GivesFrom, IsReadyFor}
use Rattle.agg_engine_tree.specs.segment_context.Additions.{TreesFollow, afters_of, page_of}
use Rattle.agg_engine_tree.specs.segment_context.Additions.{paged_each}
use Rattle.agg_engine_tree.specs.segment_context.Context.{ArePlansOf, IsCompositeMeant, IsContextOf}
use Rattle.agg_engine_tree.specs.segment_context.Context.{IsFilterMeant, IsMeant, Meaning}
use Rattle.agg_engine_tree.specs.segment_context.Pages.{paged}
use Rattle.agg_engine_tree.specs.segment_context.Plan.{plan_of, plans_of}
use Rattle.agg_engine_tree.specs.segment_context.Trees.{AreOfRequest, AreTreesOf, trees_of}
use Rattle.agg_engine_tree.specs.declared.segment_context.context.PerRequestAggSegCtx.{
  PerRequestAggSegCtx,
}
use Rattle.agg_engine_tree.specs.declared.segment_context.node.AggRefNode.{AggRefNode}
use Rattle.agg_engine_tree.specs.declared.segment_context.params.Page.{Page}
use Rattle.agg_engine_tree.specs.declared.segment_context.segment.origin.Origin.{Origin}
use Rattle.agg_engine_tree.proofs.lemmas.segment_context.Keeps.{plans-kept}
use Rattle.agg_engine_tree.proofs.lemmas.segment_context.Pages.{paged-each}
use Rattle.agg_engine_tree.proofs.lemmas.segment_context.Stays.{gives-get_or, gives-slice_get}

-- a context without data
pub record IsEmpty (ctx : PerRequestAggSegCtx) : Type 0 where
  pub filters : ctx.filter_req_data ≡ []
  pub composites : ctx.composite_req_data ≡ []

module _ {B : Type 0} (from : Origin) (request : Request B) (start : PerRequestAggSegCtx)
    (trees : List QueryTree) (page : Option Page) (empty : IsEmpty start)
    (held : from.trees.now ≡ trees) (set : page_of from ≡ page) where
  -- the trees follow from the first on
  pub trees-first : (made : B → QueryTree) → AreTreesOf made request trees
      → TreesFollow from start (trees_of (with_builders made request))
  trees-first made are =
      subst (λ (ts : List QueryTree). TreesFollow from start ts) (held ∙ are)
      (subst (λ n. GivesFrom (slice_get from.trees.now) n (map (λ t. Some t) from.trees.now))
      (sym (ap (λ xs. length xs) empty.filters)) (gives-slice_get from.trees.now))

  -- the request is ready
  pub request-ready : AreOfRequest request trees → IsSoundRequest (paged page request)
      → IsReadyFor from start request
  request-ready are sound = record {
    made = are.0;
    trees = trees-first are.0 are.1;
    sound = subst (λ (r : Request B). All IsSound (composites_of r))
        (paged-each page request ∙ ap (λ (p : Option Page). paged_each p request) (sym set)) sound;
  }

  -- the context is that of the request
  pub context-of : (nodes : List AggRefNode) (ctx : PerRequestAggSegCtx)
      → ((made : B → QueryTree)
      → TreesFollow from start (trees_of (with_builders made request))
      → AddsRequest made from request nodes start ctx)
      → (made : B → QueryTree) → AreTreesOf made request trees
      → (meaning : Meaning) × (meaning.segment ≡ from.reader.now)
      × IsContextOf meaning (record ctx { agg_tree = nodes })
      (paged page (with_builders made request))
  context-of nodes ctx adds made are = (
    meaning,
    refl,
    record {
      meant = record { composites = told.0.composites; filters = told.0.filters };
      tree = subst (λ (r : Request QueryTree). ArePlansOf meaning whole r
          (plans_of (map plan_of nodes)))
          (ap (λ (p : Option Page). paged_each p (with_builders made request)) set
          ∙ sym (paged-each page (with_builders made request)))
          (plans-kept meaning ctx whole
          (record {
            filters = λ i x at. at;
            metrics = λ i x at. at;
            composites = λ i x at. at;
          }) (paged_each (page_of from) (with_builders made request))
          (plans_of (map plan_of nodes)) told.1);
    },
  )
    where
      whole : PerRequestAggSegCtx
      whole = record ctx { agg_tree = nodes }

      keys : List (Named AfterKey)
      keys = afters_of (composites_of (paged_each (page_of from) request))

      meaning : Meaning
      meaning = record {
        segment = from.reader.now;
        after_at = λ i. get_or keys i [];
        query_at = λ i. get_or (trees_of (with_builders made request)) i Empty;
      }

      nothing : {X : Type 0} (xs : List X) (P : ℕ → X → Type 0) → xs ≡ [] → (i : ℕ) (x : X)
          → slice_get xs i ≡ Some x → P i x
      nothing {X = X} xs P none i x at =
          let no : ◌≡◌ {A = Option X} None (Some x) =
          ap (λ (ys : List X). slice_get ys i) (sym none) ∙ at in
          absurd (cc)

      told : IsMeant meaning ctx
          × ArePlansOf meaning ctx (paged_each (page_of from) (with_builders made request))
          (plans_of (map plan_of nodes))
      told =
          (adds made (trees-first made are)).told meaning refl
          (subst (λ n. GivesFrom meaning.query_at n (trees_of (with_builders made request)))
          (sym (ap (λ xs. length xs) empty.filters))
          (gives-get_or (trees_of (with_builders made request)) Empty))
          (subst (λ n. GivesFrom meaning.after_at n keys)
          (sym (ap (λ xs. length xs) empty.composites)) (gives-get_or keys []))
          (record {
            composites = nothing start.composite_req_data (λ i x. IsCompositeMeant meaning i x)
                empty.composites;
            filters = nothing start.filter_req_data (λ i x. IsFilterMeant meaning i x)
                empty.filters;
          })
