-- One level of a tree: what it is as plain data, and what is known of it.
use Rattle.std.proofs.Common.{◌≡◌, ◌<◌, ℕ, List, [], ◌∷◌, Bool, inl, inr, get_or, length, map}
use Rattle.std.proofs.Common.{zero, suc, refl, sym, ap, ◌∙◌, subst, arith, rules}
use Rattle.std.specs.declared.boxed.Box.{Box}
use Rattle.std.specs.declared.vec.Vec.{Vec}
use Rattle.std.specs.declared.alloc.Global.{Global}
use Rattle.agg_composite.specs.Composite as c
use Rattle.agg_filter.specs.Filter as f
use Rattle.agg_metric.specs.Collector as m
use Rattle.agg_engine_tree.specs.segment_context.Plan.{Plan, Plans}
use Rattle.agg_engine_tree.specs.declared.segment_context.context.PerRequestAggSegCtx.{
  PerRequestAggSegCtx,
}
use Rattle.agg_engine_tree.specs.declared.segment_context.node.AggKind.TheVariants as kind
use Rattle.agg_engine_tree.specs.declared.collector_tree.tree.SegmentCollectorTree as declared
use declared.{SegmentCollectorTree as Tree}
use declared.{Composite, Filter, Metric}
use declared.{Group, the_lemmas}
use Rattle.agg_engine_tree.specs.collector_tree.Step.{depth, depths}
use Rattle.agg_engine_tree.specs.collector_tree.Caches.{Cache}
use Rattle.agg_engine_tree.specs.collector_tree.Tree.{AllFit, AreOf, Fits, GrowsTo, AllGrowTo}
use Rattle.agg_engine_tree.specs.collector_tree.Tree.{Held, Helds, IsGroupOf, IsHandedTo, IsOf}
use Rattle.agg_engine_tree.specs.collector_tree.Tree.{group_of, held_of, helds_of, nothing}

-- ---- plain data

pub held-composite : (index : ℕ) (collector : c.Composite Cache) (child : Box Tree Global)
    → held_of (Composite index collector child)
    ≡ Held.composite index collector (held_of child.value)
held-composite index collector child = search (rules, the_lemmas)

pub held-filter : (index : ℕ) (collector : f.Filter Cache) (child : Box Tree Global)
    → held_of (Filter index collector child)
    ≡ Held.filter index collector (held_of child.value)
held-filter index collector child = search (rules, the_lemmas)

pub held-metric : (index : ℕ) (collector : m.Metric)
    → held_of (Metric index collector) ≡ Held.metric index collector
held-metric index collector = search (rules, the_lemmas)

pub held-group : (children : Vec Tree Global) → held_of (Group children) ≡ group_of children.items
held-group children = search (rules, the_lemmas)

-- ---- of which nodes it is

-- what is of no nodes is nothing
pub is-nothing : (h : Held) → IsGroupOf Plans.none h → h ≡ nothing
is-nothing (Held.composite index collector h) x = absurd x
is-nothing (Held.filter index collector h) x = absurd x
is-nothing (Held.metric index collector) x = absurd x
is-nothing (Held.group Helds.none) x = refl
is-nothing (Held.group (Helds.more h hs)) x = absurd x

-- several are no node
pub no-node : (plan : Plan) (hs : Helds) → IsOf plan (Held.group hs) → ⊥
no-node (Plan.node kind.Composite i below) hs x = x
no-node (Plan.node kind.Filter i below) hs x = x
no-node (Plan.node (kind.StatsKind computed) i below) hs x = x

mutual
  -- a tree has its own nodes
  pub same-itself : (h : Held) → GrowsTo h h
  same-itself (Held.composite index collector h) = (refl, same-itself h, omega arith)
  same-itself (Held.filter index collector h) = (refl, same-itself h)
  same-itself (Held.metric index collector) = refl
  same-itself (Held.group hs) = same-each hs

  same-each : (hs : Helds) → AllGrowTo hs hs
  same-each Helds.none = tt
  same-each (Helds.more h hs) = (same-itself h, same-each hs)

mutual
  -- a tree of the same nodes is that of the same node
  pub same-plan : (plan : Plan) (h k : Held) → GrowsTo h k → IsOf plan h → IsOf plan k
  same-plan (Plan.node kind.Composite i below) (Held.composite j a h) (Held.composite l b k) same
      is = (is.0 ∙ same.0, same-plans below h k same.1 is.1)
  same-plan (Plan.node kind.Filter i below) (Held.filter j a h) (Held.filter l b k) same is =
      (is.0 ∙ same.0, same-plans below h k same.1 is.1)
  same-plan (Plan.node (kind.StatsKind computed) i below) (Held.metric j a) (Held.metric l b) same
      is = is ∙ same
  same-plan plan (Held.composite j a h) (Held.composite l b k) same is = absurd is
  same-plan plan (Held.filter j a h) (Held.filter l b k) same is = absurd is
  same-plan plan (Held.metric j a) (Held.metric l b) same is = absurd is
  same-plan plan (Held.group hs) (Held.group ks) same is = absurd (no-node plan hs is)
  same-plan plan h k same is = absurd same

  -- a tree of the same nodes is that of the same list of nodes
  pub same-plans : (plans : Plans) (h k : Held) → GrowsTo h k → IsGroupOf plans h
      → IsGroupOf plans k
  same-plans plans (Held.group hs) (Held.group ks) same is = same-all plans hs ks same is
  same-plans plans (Held.group hs) k same is = absurd same
  same-plans plans h k same is = absurd is

  same-all : (plans : Plans) (hs ks : Helds) → AllGrowTo hs ks → AreOf plans hs → AreOf plans ks
  same-all Plans.none Helds.none Helds.none same is = tt
  same-all (Plans.more plan plans) (Helds.more h hs) (Helds.more k ks) same is =
      (same-plan plan h k same.0 is.0, same-all plans hs ks same.1 is.1)
  same-all plans Helds.none Helds.none same is = absurd is
  same-all plans (Helds.more h hs) (Helds.more k ks) same is = absurd is
  same-all plans hs ks same is = absurd same

mutual
  -- trees of the same nodes are as deep
  pub same-depth : (h k : Held) → GrowsTo h k → depth k ≡ depth h
  same-depth (Held.composite i a h) (Held.composite j b k) same = ap suc (same-depth h k same.1)
  same-depth (Held.filter i a h) (Held.filter j b k) same = ap suc (same-depth h k same.1)
  same-depth (Held.metric i a) (Held.metric j b) same = refl
  same-depth (Held.group hs) (Held.group ks) same = ap suc (same-depths hs ks same)
  same-depth h k same = absurd same

  same-depths : (hs ks : Helds) → AllGrowTo hs ks → depths ks ≡ depths hs
  same-depths Helds.none Helds.none same = refl
  same-depths (Helds.more h hs) (Helds.more k ks) same =
      omega (arith, same-depth h k same.0, same-depths hs ks same.1)
  same-depths hs ks same = absurd same

-- what is handed on is handed on still
pub handed-still : (before after : Bool) (h k : Held) → after ≡ before → GrowsTo h k
    → IsHandedTo before h → IsHandedTo after k
handed-still before after h k same nodes (inl on) = inl (same ∙ on)
handed-still before after h k same nodes (inr is) =
    inr (is-nothing k (same-plans Plans.none h k nodes
    (subst (IsGroupOf Plans.none) (sym is) tt)))

-- ---- one of several

pub fits-each : (ctx : PerRequestAggSegCtx) (trees : List Tree)
    → AllFit ctx (helds_of (map held_of trees)) → (k : ℕ) (d : Tree) → k < length trees
    → Fits ctx (held_of (get_or trees k d))
fits-each ctx [] fits k d l = absurd (omega arith)
fits-each ctx (t ∷ trees) fits zero d l = fits.0
fits-each ctx (t ∷ trees) fits (suc k) d l = fits-each ctx trees fits.1 k d (omega arith)

pub less-deep : (trees : List Tree) (k : ℕ) (d : Tree) → k < length trees
    → depth (held_of (get_or trees k d)) < depths (helds_of (map held_of trees))
less-deep [] k d l = absurd (omega arith)
less-deep (t ∷ trees) zero d l = omega arith
less-deep (t ∷ trees) (suc k) d l = omega (arith, less-deep trees k d (omega arith))
