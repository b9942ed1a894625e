-- Fixed charges, one aggregation of a request at a time.
use Rattle.std.proofs.Common.{◌≡◌, ◌<◌, ◌≤◌, ◌+◌, ℕ, zero, suc, List, [], ◌∷◌}
use Rattle.std.proofs.Common.{append-nil, get_or, length, take, refl, sym, ap, ◌∙◌, subst, arith}
use Rattle.std.specs.List.{sum, sum_by}
use Rattle.std.proofs.lemmas.List.Sums.{sum_by-append, sum_by-cons, sum_by-take-le}
use Rattle.agg_segment.specs.declared.query.QueryTree.{QueryTree}
use Rattle.agg_request_tree.specs.Request.{Request, agg_of, below_of, listed_in, listed_of}
use Rattle.agg_request_tree.specs.declared.aggregation.Aggregation.{Aggregation}
use Rattle.agg_request_tree.specs.declared.aggregation.AggregationVariants.{AggregationVariants}
use Rattle.agg_request_tree.proofs.RequestTrees.{listed-out}
use Rattle.agg_request_tree.specs.charges.Charges.{fixed_charge, node_charge}
use Rattle.agg_engine_tree.specs.segment_context.Context.{IsPlanOf, Meaning}
use Rattle.agg_engine_tree.specs.declared.segment_context.context.PerRequestAggSegCtx.{
  PerRequestAggSegCtx,
}
use Rattle.agg_engine_tree.specs.declared.segment_context.node.AggRefNode.{AggRefNode}
use Rattle.agg_engine_tree.specs.declared.segment_context.node.AggRefNode.TheViews.{out-AggRefNode}
use Rattle.agg_engine_tree.specs.segment_context.Views.{children_of}
use Rattle.agg_engine_tree.proofs.lemmas.segment_context.Views.{plan-below, plan-out}
use Rattle.agg_engine_tree.specs.held_bytes.Nodes.{AreNodesOf, IsNodeFor}

-- ---- charges

module _ (documents : ℕ) where
  -- what an aggregation is charged, with those below it
  abbrev pub charge_of : List ℕ × Aggregation QueryTree → ℕ
  charge_of a = fixed_charge (a ∷ []) documents

  -- the charge of a node by itself, as a list
  abbrev own : AggregationVariants QueryTree → List ℕ
  own agg = node_charge documents agg ∷ []

  -- a request is charged what each of its aggregations is
  pub charge-each : (request : Request QueryTree)
      → fixed_charge request documents ≡ sum_by charge_of request
  charge-each [] = refl
  charge-each (a ∷ request) =
      sum_by-append (λ n. n) (listed_in own a.1) (listed_of own request)
      ∙ ap (λ ns. sum ns + fixed_charge request documents) (sym (append-nil (listed_in own a.1)))
      ∙ ap (λ n. charge_of a + n) (charge-each request)
      ∙ sym (sum_by-cons charge_of a request)

  -- an aggregation is charged itself, and what is below it
  pub charge-node : (a : List ℕ × Aggregation QueryTree)
      → charge_of a
      ≡ node_charge documents (agg_of a.1) + fixed_charge (below_of a.1) documents
  charge-node a =
      ap sum (append-nil (listed_in own a.1) ∙ listed-out own a.1)
      ∙ sum_by-cons (λ n. n) (node_charge documents (agg_of a.1)) (listed_of own (below_of a.1))

  -- some of the aggregations of a request are charged at most what all are
  pub charge-part : (request : Request QueryTree) (i : ℕ)
      → fixed_charge (take i request) documents ≤ fixed_charge request documents
  charge-part request i = omega (
    arith,
    charge-each request,
    charge-each (take i request),
    sum_by-take-le charge_of request i,
  )

-- ---- nodes

module _ (meaning : Meaning) (ctx : PerRequestAggSegCtx) where
  -- the aggregation of a node, which is charged after those before it
  pub record IsNext (documents : ℕ) (request : Request QueryTree) (i : ℕ) (node : AggRefNode)
      : Type 0 where
    pub a : List ℕ × Aggregation QueryTree
    pub of : AreNodesOf meaning ctx (a ∷ []) (node ∷ [])
    pub more : fixed_charge (take (i + 1) request) documents
        ≡ fixed_charge (take i request) documents + charge_of documents a

  next : (documents : ℕ) (request : Request QueryTree) (nodes : List AggRefNode) (i : ℕ)
      (d : AggRefNode) → AreNodesOf meaning ctx request nodes → i < length nodes
      → IsNext documents request i (get_or nodes i d)
  next documents request [] i d of within = absurd (omega arith)
  next documents [] (node ∷ nodes) i d of within = absurd of.asked
  next documents (a ∷ request) (node ∷ nodes) zero d of within = record {
    a = a;
    of = record { meant = of.meant; asked = (of.asked.0, tt) };
    more = omega arith;
  }
  next documents (a ∷ request) (node ∷ nodes) (suc i) d of within =
      let e : suc i + 1 ≡ suc (i + 1) = omega arith in
      let later = next documents request nodes i d (record { meant = of.meant; asked = of.asked.1 })
      (omega arith) in
      record {
        a = later.a;
        of = later.of;
        more = omega (
          arith,
          ap (λ n. fixed_charge (take n (a ∷ request)) documents) e,
          charge-each documents (take (suc (i + 1)) (a ∷ request)),
          charge-each documents (take (suc i) (a ∷ request)),
          charge-each documents (take (i + 1) request),
          charge-each documents (take i request),
          sum_by-cons (charge_of documents) a (take (i + 1) request),
          sum_by-cons (charge_of documents) a (take i request),
          later.more,
        );
      }

  -- the aggregation of a node that is read, which is charged after those before it
  pub next-read : (documents : ℕ) (request : Request QueryTree) (nodes : List AggRefNode) (i : ℕ)
      (node : AggRefNode) → AreNodesOf meaning ctx request nodes → i < length nodes
      → node ≡ get_or nodes i node → IsNext documents request i node
  next-read documents request nodes i node of within at =
      subst (IsNext documents request i) (sym at) (next documents request nodes i node of within)

  -- there are as many nodes as aggregations
  pub as-many : (request : Request QueryTree) (nodes : List AggRefNode)
      → AreNodesOf meaning ctx request nodes → length request ≡ length nodes
  as-many [] [] of = refl
  as-many [] (node ∷ nodes) of = absurd of.asked
  as-many (a ∷ request) [] of = absurd of.asked
  as-many (a ∷ request) (node ∷ nodes) of =
      ap suc (as-many request nodes (record { meant = of.meant; asked = of.asked.1 }))

  -- what is below a node is asked below its aggregation
  pub nodes-below : (a : List ℕ × Aggregation QueryTree) (node : AggRefNode)
      (below : List AggRefNode) → AreNodesOf meaning ctx (a ∷ []) (node ∷ [])
      → below ≡ children_of node → AreNodesOf meaning ctx (below_of a.1) below
  nodes-below a node below of are =
      subst (λ nodes. AreNodesOf meaning ctx (below_of a.1) nodes) (sym are) (record {
        meant = of.meant;
        asked = plan-below meaning ctx a.0 a.1 node of.asked.0;
      })

  -- a node is asked what its aggregation asks by itself
  pub node-asked : (a : List ℕ × Aggregation QueryTree) (node : AggRefNode)
      → AreNodesOf meaning ctx (a ∷ []) (node ∷ [])
      → IsNodeFor meaning ctx (agg_of a.1) (out-AggRefNode node).kind
      (out-AggRefNode node).idx_in_req_data
  node-asked a node of = record {
    meant = of.meant;
    name = a.0;
    data_at = (subst (λ plan. IsPlanOf meaning ctx a.0 a.1 plan) (plan-out node) of.asked.0).0;
  }
