-- What a context of a request shows of its nodes.
use Rattle.std.proofs.Common.{◌≡◌, ◌+◌, ◌<◌, ◌≤◌, ℕ, List, [], ◌∷◌, ◌++◌, Bool, true, false, cond}
use Rattle.std.proofs.Common.{Option, None, Some, ap, drop, get_or, length}
use Rattle.std.proofs.Common.{map, option_map, refl, subst}
use Rattle.std.proofs.Common.{sym, take, ◌∙◌}
use Rattle.std.specs.List.{find}
use Rattle.std.specs.Option.{option_map_or, option_or}
use Rattle.std.specs.Str.{bytes_eq}
use Rattle.std.specs.Cmp.Lexicographic.{texts_ties}
use Rattle.std.proofs.lemmas.List.{at_drop_more, map-append, take-append-drop, take_all, take_more}
use Rattle.std.proofs.lemmas.List.Folds.{find-append}
use Rattle.agg_segment.proofs.lemmas.storage.Places.{same_texts}
use Rattle.agg_values.specs.Names.{value_of}
use Rattle.agg_segment.specs.declared.query.QueryTree.{QueryTree}
use Rattle.agg_request_tree.specs.Request.{Request, agg_of, below_of}
use Rattle.agg_request_tree.specs.declared.aggregation.Aggregation.{Aggregation}
use Rattle.agg_request_tree.specs.declared.aggregation.Aggregation.TheFolds.{fold_out-Aggregation}
use Rattle.agg_request_tree.specs.declared.aggregation.AggregationVariants.{AggregationVariants}
use Rattle.agg_request_tree.specs.declared.aggregation.AggregationVariants.TheVariants as asks
use Rattle.agg_metric.specs.declared.request_data.StatsType.TheVariants as stats
use Rattle.agg_engine_tree.specs.segment_context.Context.{ArePlansOf, IsAskedAt, IsContextOf}
use Rattle.agg_engine_tree.specs.segment_context.Context.{IsPlanOf, Meaning}
use Rattle.agg_engine_tree.specs.segment_context.Plan.{Plan, plan_of, plan_step, plans_of}
use Rattle.agg_engine_tree.specs.segment_context.Views.{IsNodeOf, asked_word, children_of, is_named}
use Rattle.agg_engine_tree.specs.segment_context.Views.{kind_word, name_at, name_in, view_in}
use Rattle.agg_engine_tree.specs.segment_context.Views.{view_step, views_of}
use Rattle.agg_engine_tree.specs.declared.segment_context.context.PerRequestAggSegCtx.{
  PerRequestAggSegCtx,
}
use Rattle.agg_engine_tree.specs.declared.segment_context.node.AggKind.{AggKind}
use Rattle.agg_engine_tree.specs.declared.segment_context.node.AggKind.TheVariants as kind
use Rattle.agg_engine_tree.specs.declared.segment_context.node.AggRefNode.{AggRefNode}
use Rattle.agg_engine_tree.specs.declared.segment_context.node.AggRefNode.TheFolds.{
  fold_out-AggRefNode,
}
use Rattle.agg_engine_tree.specs.declared.segment_context.node.AggRefNode.TheViews.{out-AggRefNode}
use Rattle.agg_engine_tree.specs.declared.segment_context.view.AggTreeViewNode.{AggTreeViewNode}
use Rattle.agg_engine_tree.specs.declared.segment_context.view.AggTreeViewNode.TheViews.{
  roll-AggTreeViewNode,
}

-- ---- a node's plan

-- the plan of a node, by its parts
pub plan-out : (node : AggRefNode) → plan_of node
    ≡ Plan.node (out-AggRefNode node).kind (out-AggRefNode node).idx_in_req_data
    (plans_of (map plan_of (children_of node)))
plan-out node = fold_out-AggRefNode Plan plan_step node

module _ (meaning : Meaning) (ctx : PerRequestAggSegCtx) where
  -- what is asked at an index has its name there, and the word of its kind
  asked-name : (name : List ℕ) (agg : AggregationVariants QueryTree) (k : AggKind) (index : ℕ)
      → IsAskedAt meaning ctx name agg k index
      → (name_at ctx k index ≡ Some name) × (kind_word k ≡ asked_word agg)
  asked-name name (asks.Composite a) kind.Composite index (req, at, named, sources, size, after) =
      (ap (λ o. option_map (λ r. r.name) o) at ∙ ap (λ n. Some n) named, refl)
  asked-name name (asks.Filter a) kind.Filter index (req, at, named, query) =
      (ap (λ o. option_map (λ r. r.name) o) at ∙ ap (λ n. Some n) named, refl)
  asked-name name (asks.Count a) (kind.StatsKind stats.Count) index (req, at, named, field, of) =
      (ap (λ o. option_map (λ r. r.name) o) at ∙ ap (λ n. Some n) named, refl)
  asked-name name (asks.Max a) (kind.StatsKind stats.Max) index (req, at, named, field, of) =
      (ap (λ o. option_map (λ r. r.name) o) at ∙ ap (λ n. Some n) named, refl)
  asked-name name (asks.Min a) (kind.StatsKind stats.Min) index (req, at, named, field, of) =
      (ap (λ o. option_map (λ r. r.name) o) at ∙ ap (λ n. Some n) named, refl)
  asked-name name (asks.Sum a) (kind.StatsKind stats.Sum) index (req, at, named, field, of) =
      (ap (λ o. option_map (λ r. r.name) o) at ∙ ap (λ n. Some n) named, refl)
  asked-name name _ _ index asked = absurd asked

  module _ (name : List ℕ) (a : Aggregation QueryTree) (node : AggRefNode)
      (is : IsPlanOf meaning ctx name a (plan_of node)) where
    parts : IsAskedAt meaning ctx name (agg_of a) (out-AggRefNode node).kind
        (out-AggRefNode node).idx_in_req_data
        × ArePlansOf meaning ctx (below_of a) (plans_of (map plan_of (children_of node)))
    parts = subst (λ plan. IsPlanOf meaning ctx name a plan) (plan-out node) is

    -- the node of an aggregation has its name
    pub plan-name : name_in ctx node ≡ Some name
    plan-name =
        (asked-name name (agg_of a) (out-AggRefNode node).kind
        (out-AggRefNode node).idx_in_req_data parts.0).0

    -- the word of its kind
    pub plan-word : kind_word (out-AggRefNode node).kind ≡ asked_word (agg_of a)
    plan-word =
        (asked-name name (agg_of a) (out-AggRefNode node).kind
        (out-AggRefNode node).idx_in_req_data parts.0).1

    -- below the node are the nodes of those below the aggregation
    pub plan-below : ArePlansOf meaning ctx (below_of a)
        (plans_of (map plan_of (children_of node)))
    plan-below = parts.1

-- ---- views

views-mapped : (request : Request QueryTree)
    → map (λ (below : List ℕ × (List ℕ → AggTreeViewNode)). below.1 below.0)
    (map (λ (e : List ℕ × Aggregation QueryTree). (e.0, view_in e.1)) request)
    ≡ views_of request
views-mapped [] = refl
views-mapped (e ∷ request) = ap (λ vs. view_in e.1 e.0 ∷ vs) (views-mapped request)

-- a node with the name, the word and the views below is the view of an aggregation
pub view-made : (a : Aggregation QueryTree) (name own word : List ℕ)
    (children : List AggTreeViewNode) → own ≡ name → word ≡ asked_word (agg_of a)
    → children ≡ views_of (below_of a)
    → roll-AggTreeViewNode (record { name = own; kind = word; children = children })
    ≡ view_in a name
view-made a name own word children same kind below =
    (λ i. roll-AggTreeViewNode (record {
      name = same i;
      kind = kind i;
      children = (below ∙ sym (views-mapped (below_of a))) i;
    }))
    ∙ sym (ap (λ f. f name)
    (fold_out-Aggregation QueryTree (List ℕ → AggTreeViewNode) view_step a))

-- views are those of nodes, where these are of a request
abbrev pub AreShown : PerRequestAggSegCtx → List AggRefNode → List AggTreeViewNode → Type 0
AreShown ctx nodes views =
    (meaning : Meaning) (request : Request QueryTree)
    → ArePlansOf meaning ctx request (plans_of (map plan_of nodes)) → views ≡ views_of request

-- views are those of a context, where it is of a request
abbrev pub IsShown : PerRequestAggSegCtx → List AggTreeViewNode → Type 0
IsShown ctx views =
    (meaning : Meaning) (request : Request QueryTree) → IsContextOf meaning ctx request
    → views ≡ views_of request

-- none
pub AreShown-none : (ctx : PerRequestAggSegCtx) (views : List AggTreeViewNode) → views ≡ []
    → AreShown ctx [] views
AreShown-none ctx views none meaning [] are = none
AreShown-none ctx views none meaning (e ∷ request) are = absurd are

-- all of them
pub AreShown-all : (ctx : PerRequestAggSegCtx) (nodes : List AggRefNode) (i : ℕ)
    (views : List AggTreeViewNode) → AreShown ctx (take i nodes) views → length nodes ≤ i
    → AreShown ctx nodes views
AreShown-all ctx nodes i views shown whole =
    subst (λ (ns : List AggRefNode). AreShown ctx ns views) (take_all i nodes whole) shown

module _ (meaning : Meaning) (ctx : PerRequestAggSegCtx) where
  -- a request with one plan more has one aggregation more
  plans-split : (plans : List Plan) (plan : Plan) (request : Request QueryTree)
      → ArePlansOf meaning ctx request (plans_of (plans ++ plan ∷ []))
      → (front : Request QueryTree) × (e : List ℕ × Aggregation QueryTree)
      × (request ≡ front ++ e ∷ []) × ArePlansOf meaning ctx front (plans_of plans)
      × IsPlanOf meaning ctx e.0 e.1 plan
  plans-split [] plan [] are = absurd are
  plans-split [] plan (e ∷ []) are = ([], e, refl, tt, are.0)
  plans-split [] plan (e ∷ (f ∷ request)) are = absurd are.1
  plans-split (p ∷ plans) plan [] are = absurd are
  plans-split (p ∷ plans) plan (e ∷ request) are =
      let rest = plans-split plans plan request are.1 in (
        e ∷ rest.0,
        rest.1,
        ap (λ (r : Request QueryTree). e ∷ r) rest.2,
        (are.0, rest.3),
        rest.4,
      )

-- one more
pub AreShown-more : (ctx : PerRequestAggSegCtx) (nodes : List AggRefNode) (i : ℕ)
    (node : AggRefNode) (views more : List AggTreeViewNode) → AreShown ctx (take i nodes) views
    → i < length nodes → node ≡ get_or nodes i node
    → ((meaning : Meaning) (name : List ℕ) (a : Aggregation QueryTree)
    → IsPlanOf meaning ctx name a (plan_of node) → more ≡ views ++ view_in a name ∷ [])
    → AreShown ctx (take (i + 1) nodes) more
AreShown-more ctx nodes i node views more shown within at one meaning request are =
    let taken = ap (λ (ns : List AggRefNode). map plan_of ns)
    (take_more nodes i node within ∙ ap (λ (n : AggRefNode). take i nodes ++ n ∷ []) (sym at))
    ∙ map-append plan_of (take i nodes) (node ∷ []) in
    let split = plans-split meaning ctx (map plan_of (take i nodes)) (plan_of node) request
    (subst (λ (ps : List Plan). ArePlansOf meaning ctx request (plans_of ps)) taken are) in
    one meaning split.1.0 split.1.1 split.4
    ∙ ap (λ vs. vs ++ view_in split.1.1 split.1.0 ∷ []) (shown meaning split.0 split.3)
    ∙ sym (ap (λ (r : Request QueryTree). views_of r) split.2
    ∙ map-append (λ (x : List ℕ × Aggregation QueryTree). view_in x.1 x.0) split.0
    (split.1 ∷ []))

-- ---- nodes by name

-- none so far is named, and the next is or isn't
pub find-more : {X : Type 0} (test : X → Bool) (xs : List X) (i : ℕ) (x : X)
    → find test (take i xs) ≡ None → i < length xs → x ≡ get_or xs i x → test x ≡ false
    → find test (take (i + 1) xs) ≡ None
find-more test xs i x none within at differs =
    ap (λ ys. find test ys)
    (take_more xs i x within ∙ ap (λ z. take i xs ++ z ∷ []) (sym at))
    ∙ find-append test (take i xs) (x ∷ [])
    ∙ (λ j. option_or (none j) (cond (differs j) (Some x) None))

pub find-here : {X : Type 0} (test : X → Bool) (xs : List X) (i : ℕ) (x : X)
    → find test (take i xs) ≡ None → i < length xs → x ≡ get_or xs i x → test x ≡ true
    → find test xs ≡ Some x
find-here test xs i x none within at passes =
    ap (λ ys. find test ys) (sym (take-append-drop i xs))
    ∙ find-append test (take i xs) (drop i xs)
    ∙ (λ j. option_or (none j) (find test (drop_here j)))
    ∙ ap (λ b. cond b (Some x) (find test (drop (i + 1) xs))) passes
  where
    drop_here : drop i xs ≡ x ∷ drop (i + 1) xs
    drop_here = at_drop_more (λ ys. ys) xs i x within ∙ ap (λ z. z ∷ drop (i + 1) xs) (sym at)

module _ (meaning : Meaning) (ctx : PerRequestAggSegCtx) (name : List ℕ) where
  -- the node of a name in a request
  pub node-found : (request : Request QueryTree) (nodes : List AggRefNode)
      → ArePlansOf meaning ctx request (plans_of (map plan_of nodes))
      → IsNodeOf meaning ctx name (value_of name request) (find (is_named ctx name) nodes)
  node-found [] [] are = tt
  node-found [] (node ∷ nodes) are = absurd are
  node-found (e ∷ request) [] are = absurd are
  node-found (e ∷ request) (node ∷ nodes) are =
      subst (λ (b : Bool). IsNodeOf meaning ctx name
      (cond b (Some e.1) (value_of name request))
      (cond (is_named ctx name node) (Some node) (find (is_named ctx name) nodes)))
      (texts_ties name e.0)
      (subst (λ (b : Bool). IsNodeOf meaning ctx name
      (cond (bytes_eq name e.0) (Some e.1) (value_of name request))
      (cond b (Some node) (find (is_named ctx name) nodes)))
      (sym (ap (λ o. option_map_or (λ own. bytes_eq name own) o false)
      (plan-name meaning ctx e.0 e.1 node are.0)))
      (by (node-found request nodes are.1) (bytes_eq name e.0) refl))
    where
      by : IsNodeOf meaning ctx name (value_of name request) (find (is_named ctx name) nodes)
          → (b : Bool) → bytes_eq name e.0 ≡ b
          → IsNodeOf meaning ctx name (cond b (Some e.1) (value_of name request))
          (cond b (Some node) (find (is_named ctx name) nodes))
      by later true is =
          subst (λ n. IsPlanOf meaning ctx n e.1 (plan_of node)) (sym (same_texts name e.0 is))
          are.0
      by later false is = later

  -- the child of a name, where a node is of an aggregation
  pub child-found : (own : List ℕ) (a : Aggregation QueryTree) (node : AggRefNode)
      (result : Option AggRefNode) → result ≡ find (is_named ctx name) (children_of node)
      → IsPlanOf meaning ctx own a (plan_of node)
      → IsNodeOf meaning ctx name (value_of name (below_of a)) result
  child-found own a node result e is =
      subst (λ (o : Option AggRefNode). IsNodeOf meaning ctx name (value_of name (below_of a)) o)
      (sym e)
      (node-found (below_of a) (children_of node) (plan-below meaning ctx own a node is))
