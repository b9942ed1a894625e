-- A tree of collectors as plain data, and when it is right for the documents that it took.
use Rattle.std.specs.Prelude.{◌≡◌, ◌+◌, ◌*◌, ◌≤◌, ◌++◌, ◌⊎◌, ℕ, List, [], ◌∷◌, Bool, true, Some, ⊤}
use Rattle.std.specs.Prelude.{length, map, slice_get}
use Rattle.std.specs.List.{flat_map}
use Rattle.agg_values.specs.Names.{Named}
use Rattle.agg_values.specs.declared.after_key.AfterKey.{AfterKey}
use Rattle.agg_segment.specs.Segment.{Stored}
use Rattle.agg_composite.specs.declared.accessor.request_data.CompositeAggReqData.{
  CompositeAggReqData,
}
use Rattle.agg_composite.specs.Composite.{Composite, CompositeFor, num_buckets}
use Rattle.agg_composite.specs.Visits.{TypedVisit, visits_past}
use Rattle.agg_filter.specs.Filter.{Filter, FilterFor}
use Rattle.agg_filter.specs.Matching.{is_matching}
use Rattle.agg_filter.specs.declared.request_data.FilterAggReqData.{FilterAggReqData}
use Rattle.agg_metric.specs.Collector.{Metric, MetricFor}
use Rattle.agg_metric.specs.declared.request_data.MetricAggReqData.{MetricAggReqData}
use Rattle.agg_engine_tree.specs.segment_context.Context.{IsMeant, Meaning}
use Rattle.agg_engine_tree.specs.segment_context.Plan.{Plan, Plans}
use Rattle.agg_engine_tree.specs.declared.segment_context.context.PerRequestAggSegCtx.{
  PerRequestAggSegCtx,
}
use Rattle.agg_engine_tree.specs.declared.segment_context.node.AggKind.TheVariants as kind
use Rattle.agg_engine_tree.specs.collector_tree.Caches.{Cache, waiting_in}
use Rattle.agg_engine_tree.specs.declared.collector_tree.tree.SegmentCollectorTree.{
  SegmentCollectorTree,
}
use Rattle.agg_engine_tree.specs.declared.collector_tree.tree.SegmentCollectorTree.TheOpen as opened
use Rattle.agg_engine_tree.specs.declared.collector_tree.tree.SegmentCollectorTree.TheFolds as folds
use folds.{fold-SegmentCollectorTree}

-- ---- plain data

-- a collector of a composite or filter by its index with what is below it, one of a metric, or
-- several
mutual
  pub data Held : Type 0 where
    composite : ℕ → Composite Cache → Held → Held
    filter : ℕ → Filter Cache → Held → Held
    metric : ℕ → Metric → Held
    group : Helds → Held

  pub data Helds : Type 0 where
    none : Helds
    more : Held → Helds → Helds

abbrev pub helds_of : List Held → Helds
helds_of [] = Helds.none
helds_of (h ∷ hs) = Helds.more h (helds_of hs)

-- one level of a tree
abbrev pub held_step : opened.SegmentCollectorTree-F Held → Held
held_step (opened.Composite index collector child) = Held.composite index collector child.value
held_step (opened.Filter index collector child) = Held.filter index collector child.value
held_step (opened.Metric index collector) = Held.metric index collector
held_step (opened.Group children) = Held.group (helds_of children.items)

-- a tree as plain data
abbrev pub held_of : SegmentCollectorTree → Held
held_of = fold-SegmentCollectorTree Held held_step

-- several trees, side by side, as plain data
abbrev pub group_of : List SegmentCollectorTree → Held
group_of trees = Held.group (helds_of (map held_of trees))

-- nothing is below a node
abbrev pub nothing : Held
nothing = Held.group Helds.none

-- ---- of which nodes it is

-- a tree is that of nodes of a context: each collector has the index of its node, and those below
-- it are those of the nodes below; what is below a metric is not collected
abbrev mutual
  pub IsOf : Plan → Held → Type 0
  IsOf (Plan.node kind.Composite i below) (Held.composite j collector h) =
      (i ≡ j) × IsGroupOf below h
  IsOf (Plan.node kind.Filter i below) (Held.filter j collector h) = (i ≡ j) × IsGroupOf below h
  IsOf (Plan.node (kind.StatsKind computed) i below) (Held.metric j collector) = i ≡ j
  IsOf _ _ = ⊥

  pub IsGroupOf : Plans → Held → Type 0
  IsGroupOf plans (Held.group hs) = AreOf plans hs
  IsGroupOf plans _ = ⊥

  pub AreOf : Plans → Helds → Type 0
  AreOf Plans.none Helds.none = ⊤
  AreOf (Plans.more plan plans) (Helds.more h hs) = IsOf plan h × AreOf plans hs
  AreOf _ _ = ⊥

-- a tree grows to another one of the same nodes: each collector has the index of the other's, at
-- any depth, and no composite has fewer buckets
abbrev mutual
  pub GrowsTo : Held → Held → Type 0
  GrowsTo (Held.composite i a h) (Held.composite j b k) =
      (i ≡ j) × GrowsTo h k × (num_buckets a ≤ num_buckets b)
  GrowsTo (Held.filter i a h) (Held.filter j b k) = (i ≡ j) × GrowsTo h k
  GrowsTo (Held.metric i a) (Held.metric j b) = i ≡ j
  GrowsTo (Held.group hs) (Held.group ks) = AllGrowTo hs ks
  GrowsTo _ _ = ⊥

  pub AllGrowTo : Helds → Helds → Type 0
  AllGrowTo Helds.none Helds.none = ⊤
  AllGrowTo (Helds.more h hs) (Helds.more k ks) = GrowsTo h k × AllGrowTo hs ks
  AllGrowTo _ _ = ⊥

-- ---- of which context it is

-- a collector hands documents on, or has nothing below it
abbrev pub IsHandedTo : Bool → Held → Type 0
IsHandedTo hands_on below = (hands_on ≡ true) ⊎ (below ≡ nothing)

module _ (ctx : PerRequestAggSegCtx) where
  -- each collector of a tree has its data, and room for its tuples
  abbrev mutual
    pub Fits : Held → Type 0
    Fits (Held.composite index collector h) =
        ((req : CompositeAggReqData) × (slice_get ctx.composite_req_data index ≡ Some req)
        × (length req.req.now.sources ≤ collector.room))
        × IsHandedTo collector.hands_on h × Fits h
    Fits (Held.filter index collector h) =
        ((req : FilterAggReqData) × (slice_get ctx.filter_req_data index ≡ Some req))
        × IsHandedTo collector.hands_on h × Fits h
    Fits (Held.metric index collector) =
        (req : MetricAggReqData) × (slice_get ctx.stats_metric_req_data index ≡ Some req)
    Fits (Held.group hs) = AllFit hs

    pub AllFit : Helds → Type 0
    AllFit Helds.none = ⊤
    AllFit (Helds.more h hs) = Fits h × AllFit hs

-- ---- for which documents it is

-- the tuples that a composite visits for documents under parents
abbrev pub visits_of : CompositeAggReqData → Stored → Named AfterKey → List (ℕ × ℕ)
    → List TypedVisit
visits_of req segment after taken =
    flat_map (λ e. visits_past req.req.now.sources segment after e.0 (e.1 ∷ [])) taken

module _ (meaning : Meaning) (ctx : PerRequestAggSegCtx) where
  -- a composite is right for the documents that it took and those that it gave, by so many visits
  abbrev pub CompositeIsFor : ℕ → Composite Cache → List (ℕ × ℕ) → List (ℕ × ℕ) → ℕ → Type 0
  CompositeIsFor index collector taken given visits =
      (req : CompositeAggReqData) → slice_get ctx.composite_req_data index ≡ Some req
      → CompositeFor waiting_in req collector
      (visits_of req meaning.segment (meaning.after_at index) taken) given
      × (visits ≡ length (visits_of req meaning.segment (meaning.after_at index) taken))

  -- a tree is right for documents that it took under parents: each collector is right for those and
  -- for what it gave, and the tree below it is right for what it gave; the composites made so many
  -- visits
  abbrev mutual
    pub IsFor : Held → List (ℕ × ℕ) → ℕ → Type 0
    IsFor (Held.composite index collector h) taken visits =
        (given : List (ℕ × ℕ)) × (own : ℕ) × (below : ℕ)
        × CompositeIsFor index collector taken given own
        × IsFor h given below × (visits ≡ own + below)
    IsFor (Held.filter index collector h) taken visits =
        (given : List (ℕ × ℕ))
        × FilterFor waiting_in (is_matching (meaning.query_at index) meaning.segment) collector
        taken given
        × IsFor h given visits
    IsFor (Held.metric index collector) taken visits =
        ((req : MetricAggReqData) → slice_get ctx.stats_metric_req_data index ≡ Some req
        → MetricFor meaning.segment req collector taken)
        × (visits ≡ 0)
    IsFor (Held.group hs) taken visits = AllFor hs taken visits

    pub AllFor : Helds → List (ℕ × ℕ) → ℕ → Type 0
    AllFor Helds.none taken visits = visits ≡ 0
    AllFor (Helds.more h hs) taken visits =
        (own : ℕ) × (others : ℕ) × IsFor h taken own × AllFor hs taken others
        × (visits ≡ own + others)

-- nothing waits in a tree
abbrev mutual
  pub IsFlushed : Held → Type 0
  IsFlushed (Held.composite index collector h) =
      ((id : ℕ) → waiting_in collector.cache.0 id ≡ []) × IsFlushed h
  IsFlushed (Held.filter index collector h) =
      ((id : ℕ) → waiting_in collector.cache.0 id ≡ []) × IsFlushed h
  IsFlushed (Held.metric index collector) = ⊤
  IsFlushed (Held.group hs) = AreFlushed hs

  pub AreFlushed : Helds → Type 0
  AreFlushed Helds.none = ⊤
  AreFlushed (Helds.more h hs) = IsFlushed h × AreFlushed hs

-- ---- calls

-- a tree took documents under parents: where it was right, it is right with these after the others,
-- by one to three steps a visit; it stays a tree of the same nodes with no fewer buckets, and
-- nothing waits in it where all was to be handed down
pub record Takes (ctx : PerRequestAggSegCtx) (pairs : List (ℕ × ℕ)) (all : Bool) (old new : Held)
    (steps steps_now : ℕ) : Type 0 where
  pub takes : (meaning : Meaning) → IsMeant meaning ctx
      → (taken : List (ℕ × ℕ)) (visits : ℕ) → IsFor meaning ctx old taken visits
      → (visits_now : ℕ) × IsFor meaning ctx new (taken ++ pairs) visits_now
      × (visits ≤ visits_now)
      × (steps + visits_now ≤ steps_now + visits)
      × (steps_now + 3 * visits ≤ steps + 3 * visits_now)
  pub nodes : GrowsTo old new
  pub fits : Fits ctx old → Fits ctx new
  pub flushed : all ≡ true → IsFlushed new
