-- The data of a request, one aggregation after another.
use Rattle.std.proofs.Common.{◌≡◌, ◌≤◌, ℕ, List, [], ◌∷◌, ◌++◌, ap, append-nil, append_assoc, arith}
use Rattle.std.proofs.Common.{map, refl, sym, subst, ◌∙◌}
use Rattle.std.specs.List.{All}
use Rattle.std.proofs.lemmas.List.{map-append}
use Rattle.agg_segment.specs.declared.query.QueryTree.{QueryTree}
use Rattle.agg_request_tree.specs.Faults.{IsSound}
use Rattle.agg_request_tree.specs.Request.{Request, composites_in, composites_of, listed_in}
use Rattle.agg_request_tree.specs.Request.{own_composite, with_builders, with_builders_in}
use Rattle.agg_request_tree.specs.declared.aggregation.Aggregation.{Aggregation}
use Rattle.agg_request_tree.specs.declared.aggregation.CompositeAggregation.{CompositeAggregation}
use Rattle.agg_request_tree.proofs.RequestTrees.{height, levels}
use Rattle.agg_engine_tree.specs.segment_context.Additions.{AddsIn, AddsRequest, IsReadyFor}
use Rattle.agg_engine_tree.specs.segment_context.Additions.{IsReadyIn, TreesFollow, afters_of}
use Rattle.agg_engine_tree.specs.segment_context.Additions.{page_of, paged_each, paged_in}
use Rattle.agg_engine_tree.specs.segment_context.Context.{ArePlansOf, IsPlanOf, Meaning}
use Rattle.agg_engine_tree.specs.segment_context.Plan.{Plan, plan_of, plans_of}
use Rattle.agg_engine_tree.specs.segment_context.Trees.{own_tree, trees_of}
use Rattle.agg_engine_tree.specs.declared.segment_context.context.PerRequestAggSegCtx.{
  PerRequestAggSegCtx,
}
use Rattle.agg_engine_tree.specs.declared.segment_context.node.AggRefNode.{AggRefNode}
use Rattle.agg_engine_tree.specs.declared.segment_context.segment.origin.Origin.{Origin}
use Rattle.agg_engine_tree.proofs.lemmas.segment_context.Additions.{adds-so, adds-then}
use Rattle.agg_engine_tree.proofs.lemmas.segment_context.Keeps.{plans-kept, plans-more}
use Rattle.agg_engine_tree.proofs.lemmas.segment_context.Listed.{listed-append}
use Rattle.agg_engine_tree.proofs.lemmas.segment_context.Parts.{All-parts, follows-first}
use Rattle.agg_engine_tree.proofs.lemmas.segment_context.Parts.{follows-next}

module _ {B : Type 0} (made : B → QueryTree) (from : Origin) (done : Request B) (name : List ℕ)
    (a : Aggregation B) (nodes : List AggRefNode) (node : AggRefNode)
    (old mid new : PerRequestAggSegCtx) where
  abbrev AreDone : Meaning → PerRequestAggSegCtx → Type 0
  AreDone meaning ctx =
      ArePlansOf meaning ctx (paged_each (page_of from) (with_builders made done))
      (plans_of (map plan_of nodes))

  abbrev IsNext : Meaning → PerRequestAggSegCtx → Type 0
  IsNext meaning ctx =
      IsPlanOf meaning ctx name (paged_in (page_of from) name (with_builders_in made a))
      (plan_of node)

  abbrev AreNow : Meaning → PerRequestAggSegCtx → Type 0
  AreNow meaning ctx =
      ArePlansOf meaning ctx
      (paged_each (page_of from) (with_builders made (done ++ (name, a) ∷ [])))
      (plans_of (map plan_of (nodes ++ node ∷ [])))

  entries : paged_each (page_of from) (with_builders made (done ++ (name, a) ∷ []))
      ≡ paged_each (page_of from) (with_builders made done)
      ++ (name, paged_in (page_of from) name (with_builders_in made a)) ∷ []
  entries =
      ap (λ (r : Request QueryTree). paged_each (page_of from) r)
      (map-append (λ (x : List ℕ × Aggregation B). (x.0, with_builders_in made x.1))
      done ((name, a) ∷ []))
      ∙ map-append (λ (x : List ℕ × Aggregation QueryTree).
      (x.0, paged_in (page_of from) x.0 x.1)) (with_builders made done)
      ((name, with_builders_in made a) ∷ [])

  planned : (meaning : Meaning) → AreDone meaning new × IsNext meaning new
      → AreNow meaning new
  planned meaning are =
      subst (λ (r : Request QueryTree). ArePlansOf meaning new r
      (plans_of (map plan_of (nodes ++ node ∷ [])))) (sym entries)
      (subst (λ (ps : List Plan). ArePlansOf meaning new
      (paged_each (page_of from) (with_builders made done)
      ++ (name, paged_in (page_of from) name (with_builders_in made a)) ∷ [])
      (plans_of ps)) (sym (map-append plan_of nodes (node ∷ [])))
      (plans-more meaning new (paged_each (page_of from) (with_builders made done))
      (map plan_of nodes) name (paged_in (page_of from) name (with_builders_in made a))
      (plan_of node) are.0 are.1))

  trees_now : trees_of (with_builders made done)
      ++ listed_in own_tree (with_builders_in made a)
      ≡ trees_of (with_builders made (done ++ (name, a) ∷ []))
  trees_now =
      sym (ap (λ (r : Request QueryTree). trees_of r)
      (map-append (λ (x : List ℕ × Aggregation B). (x.0, with_builders_in made x.1))
      done ((name, a) ∷ []))
      ∙ listed-append own_tree (with_builders made done)
      ((name, with_builders_in made a) ∷ [])
      ∙ ap (λ ts. trees_of (with_builders made done) ++ ts)
      (append-nil (listed_in own_tree (with_builders_in made a))))

  composites_now : composites_of (paged_each (page_of from) done)
      ++ composites_in (paged_in (page_of from) name a)
      ≡ composites_of (paged_each (page_of from) (done ++ (name, a) ∷ []))
  composites_now =
      sym (ap (λ (r : Request B). composites_of r)
      (map-append (λ (x : List ℕ × Aggregation B). (x.0, paged_in (page_of from) x.0 x.1))
      done ((name, a) ∷ []))
      ∙ listed-append own_composite (paged_each (page_of from) done)
      ((name, paged_in (page_of from) name a) ∷ [])
      ∙ ap (λ cs. composites_of (paged_each (page_of from) done) ++ cs)
      (append-nil (composites_in (paged_in (page_of from) name a))))

  -- the data of one more was added
  one_more : AddsRequest made from done nodes old mid
      → AddsIn made from name a node mid new
      → AddsRequest made from (done ++ (name, a) ∷ []) (nodes ++ node ∷ []) old new
  one_more first then =
      adds-so from.reader.now
      (trees_of (with_builders made done)
      ++ listed_in own_tree (with_builders_in made a))
      (trees_of (with_builders made (done ++ (name, a) ∷ [])))
      (afters_of (composites_of (paged_each (page_of from) done))
      ++ afters_of (composites_in (paged_in (page_of from) name a)))
      (afters_of (composites_of (paged_each (page_of from) (done ++ (name, a) ∷ []))))
      (λ meaning ctx. AreDone meaning ctx × IsNext meaning ctx) AreNow old new
      (adds-then from.reader.now (trees_of (with_builders made done))
      (listed_in own_tree (with_builders_in made a))
      (afters_of (composites_of (paged_each (page_of from) done)))
      (afters_of (composites_in (paged_in (page_of from) name a))) AreDone IsNext old mid
      new first then
      (λ meaning kept are. plans-kept meaning mid new kept
      (paged_each (page_of from) (with_builders made done))
      (plans_of (map plan_of nodes)) are))
      trees_now
      (sym (map-append (λ (c : CompositeAggregation). c.after)
      (composites_of (paged_each (page_of from) done))
      (composites_in (paged_in (page_of from) name a)))
      ∙ ap (λ cs. afters_of cs) composites_now)
      planned

-- the data of a request was added but for the aggregations that are left
pub record AreAddedUpTo {B : Type 0} (from : Origin) (all left : Request B)
    (nodes : List AggRefNode) (old new : PerRequestAggSegCtx) : Type 0 where
  pub done : Request B
  pub rest : done ++ left ≡ all
  pub lower : levels left ≤ levels all
  pub adds : (made : B → QueryTree) → TreesFollow from old (trees_of (with_builders made all))
      → AddsRequest made from done nodes old new

module _ {B : Type 0} (from : Origin) (all : Request B) where
  module _ (left later : Request B) (name : List ℕ) (a : Aggregation B) (nodes : List AggRefNode)
      (old mid : PerRequestAggSegCtx) (h : AreAddedUpTo from all left nodes old mid)
      (next : left ≡ (name, a) ∷ later) where
    whole : h.done ++ (name, a) ∷ later ≡ all
    whole = ap (λ (r : Request B). h.done ++ r) (sym next) ∙ h.rest

    trees_whole : (made : B → QueryTree) → trees_of (with_builders made all)
        ≡ trees_of (with_builders made h.done)
        ++ (listed_in own_tree (with_builders_in made a) ++ trees_of (with_builders made later))
    trees_whole made =
        ap (λ (r : Request B). trees_of (with_builders made r)) (sym whole)
        ∙ ap (λ (r : Request QueryTree). trees_of r)
        (map-append (λ (x : List ℕ × Aggregation B). (x.0, with_builders_in made x.1)) h.done
        ((name, a) ∷ later))
        ∙ listed-append own_tree (with_builders made h.done)
        (with_builders made ((name, a) ∷ later))

    composites_whole : composites_of (paged_each (page_of from) all)
        ≡ composites_of (paged_each (page_of from) h.done)
        ++ (composites_in (paged_in (page_of from) name a)
        ++ composites_of (paged_each (page_of from) later))
    composites_whole =
        ap (λ (r : Request B). composites_of (paged_each (page_of from) r)) (sym whole)
        ∙ ap (λ (r : Request B). composites_of r)
        (map-append (λ (x : List ℕ × Aggregation B). (x.0, paged_in (page_of from) x.0 x.1))
        h.done ((name, a) ∷ later))
        ∙ listed-append own_composite (paged_each (page_of from) h.done)
        (paged_each (page_of from) ((name, a) ∷ later))

    -- the trees of the next one follow
    follows_here : (made : B → QueryTree) → TreesFollow from old (trees_of (with_builders made all))
        → TreesFollow from mid (listed_in own_tree (with_builders_in made a))
    follows_here made follows =
        follows-first from mid (listed_in own_tree (with_builders_in made a))
        (trees_of (with_builders made later))
        (follows-next from old (trees_of (with_builders made h.done))
        (listed_in own_tree (with_builders_in made a) ++ trees_of (with_builders made later))
        (subst (λ ts. TreesFollow from old ts) (trees_whole made) follows) from mid refl
        (h.adds made follows).filters)

    -- the next one is ready
    pub AreAddedUpTo-ready : IsReadyFor from old all → IsReadyIn from mid name a
    AreAddedUpTo-ready ready = record {
      made = ready.made;
      trees = follows_here ready.made ready.trees;
      sound = (All-parts IsSound (composites_in (paged_in (page_of from) name a))
          (composites_of (paged_each (page_of from) later))
          (All-parts IsSound (composites_of (paged_each (page_of from) h.done))
          (composites_in (paged_in (page_of from) name a)
          ++ composites_of (paged_each (page_of from) later))
          (subst (λ cs. All IsSound cs) composites_whole ready.sound)).1).0;
    }

    -- it has fewer levels than the whole
    pub AreAddedUpTo-height : height a ≤ levels all
    AreAddedUpTo-height =
        let low = subst (λ (r : Request B). levels r ≤ levels all) next h.lower in
        omega (arith, low)

    -- one more
    pub AreAddedUpTo-more : (node : AggRefNode) (more : List AggRefNode)
        (new : PerRequestAggSegCtx) → ((made : B → QueryTree)
        → TreesFollow from mid (listed_in own_tree (with_builders_in made a))
        → AddsIn made from name a node mid new) → more ≡ nodes ++ node ∷ []
        → AreAddedUpTo from all later more old new
    AreAddedUpTo-more node more new added pushed =
        subst (λ (ns : List AggRefNode). AreAddedUpTo from all later ns old new) (sym pushed)
        (record {
          done = h.done ++ (name, a) ∷ [];
          rest = append_assoc h.done ((name, a) ∷ []) later ∙ whole;
          lower = let low = subst (λ (r : Request B). levels r ≤ levels all) next h.lower in
              omega (arith, low);
          adds = λ made follows.
              one_more made from h.done name a nodes node old mid new (h.adds made follows)
              (added made (follows_here made follows));
        })
