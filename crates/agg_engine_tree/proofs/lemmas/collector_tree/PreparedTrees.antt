-- Trees in which parents were prepared.
use Rattle.std.proofs.Common.{◌≡◌, ◌<◌, ◌+◌, ◌++◌, ℕ, List, [], ◌∷◌, Bool, false}
use Rattle.std.proofs.Common.{append-nil, length, map, set, take, refl, sym, ap, ◌∙◌, subst}
use Rattle.std.proofs.Common.{arith}
use Rattle.std.specs.declared.boxed.Box.{Box}
use Rattle.std.specs.declared.alloc.Global.{Global}
use Rattle.agg_composite.specs.declared.accessor.request_data.CompositeAggReqData.{
  CompositeAggReqData,
}
use Rattle.agg_composite.specs.Composite as c
use Rattle.agg_composite.specs.buckets.Node.{Prepares}
use Rattle.agg_composite.specs.Visits.{TypedVisit}
use Rattle.agg_filter.specs.Filter as f
use Rattle.agg_filter.specs.Matching.{is_matching}
use Rattle.agg_metric.specs.Collector as m
use Rattle.agg_metric.specs.declared.request_data.MetricAggReqData.{MetricAggReqData}
use Rattle.agg_segment.specs.Segment.{Stored}
use Rattle.agg_composite.proofs.OpenedBuckets.{prepared-no_fewer}
use Rattle.agg_engine_tree.specs.declared.segment_context.context.PerRequestAggSegCtx.{
  PerRequestAggSegCtx,
}
use Rattle.agg_engine_tree.specs.declared.collector_tree.tree.SegmentCollectorTree as declared
use declared.{SegmentCollectorTree as Tree}
use declared.{Composite, Filter, Metric}
use Rattle.agg_engine_tree.specs.collector_tree.Prepared.{ArePrepared, IsPrepared}
use Rattle.agg_engine_tree.specs.collector_tree.Caches.{Cache}
use Rattle.agg_engine_tree.specs.collector_tree.Tree.{Held, IsFor, IsHandedTo, Takes, group_of}
use Rattle.agg_engine_tree.specs.collector_tree.Tree.{held_of}
use Rattle.agg_engine_tree.specs.collector_tree.Caches.{waiting_in}
use Rattle.agg_engine_tree.specs.collector_tree.Tree.{helds_of, visits_of}
use Rattle.agg_engine_tree.proofs.lemmas.collector_tree.Groups.{metric-takes}
use Rattle.agg_engine_tree.proofs.lemmas.collector_tree.HandedTrees.{held-next}
use Rattle.agg_engine_tree.proofs.lemmas.collector_tree.Levels.{held-composite, held-filter}
use Rattle.agg_engine_tree.proofs.lemmas.collector_tree.Levels.{held-metric, same-itself}

module _ (ctx : PerRequestAggSegCtx) (steps field : ℕ) (child : Box Tree Global) where
  pub prepared-composite : (collector old now : c.Composite Cache) → old ≡ collector
      → ((req : CompositeAggReqData) (visited : List TypedVisit) (given : List (ℕ × ℕ))
      → c.CompositeFor waiting_in req old visited given
      → c.CompositeFor waiting_in req now visited given)
      → now ≡ record old { node = now.node } → Prepares old.node now.node
      → Takes ctx [] false (held_of (Composite field collector child))
      (held_of (Composite field now child)) steps steps
  prepared-composite collector old now is right rest parents =
      let room : now.room ≡ collector.room =
      ap (λ (x : c.Composite Cache). x.room) rest ∙ ap (λ (x : c.Composite Cache). x.room) is in
      let on : now.hands_on ≡ collector.hands_on =
      ap (λ (x : c.Composite Cache). x.hands_on) rest
      ∙ ap (λ (x : c.Composite Cache). x.hands_on) is in
      rw (held-composite field collector child, held-composite field now child) record {
        takes = λ meaning meant taken visits x. (
          visits,
          subst (λ ps. IsFor meaning ctx (Held.composite field now (held_of child.value)) ps visits)
              (sym (append-nil taken)) (
                x.0,
                x.1,
                x.2,
                λ req at. (
                  right req (visits_of req meaning.segment (meaning.after_at field) taken) x.0
                      (subst (λ o. c.CompositeFor waiting_in req o
                      (visits_of req meaning.segment (meaning.after_at field) taken) x.0) (sym is)
                      (x.3 req at).0),
                  (x.3 req at).1,
                ),
                x.4,
                x.5,
              ),
          omega arith,
          omega arith,
          omega arith,
        );
        nodes = (
          refl,
          same-itself (held_of child.value),
          omega (
            arith,
            prepared-no_fewer old now parents,
            ap (λ (x : c.Composite Cache). c.num_buckets x) is,
          ),
        );
        fits = λ x. (
          (x.0.0, x.0.1, omega (arith, x.0.2, room)),
          subst (λ b. IsHandedTo b (held_of child.value)) (sym on) x.1,
          x.2,
        );
        flushed = λ e. absurd (cc e);
      }

  pub prepared-filter : (collector old now : f.Filter Cache) → old ≡ collector
      → ((is_match : ℕ → Bool) (visited given : List (ℕ × ℕ))
      → f.FilterFor waiting_in is_match old visited given
      → f.FilterFor waiting_in is_match now visited given)
      → f.Prepares old now
      → Takes ctx [] false (held_of (Filter field collector child))
      (held_of (Filter field now child)) steps steps
  prepared-filter collector old now is right prepares =
      let on : now.hands_on ≡ collector.hands_on =
      ap (λ (x : f.Filter Cache). x.hands_on) prepares.rest
      ∙ ap (λ (x : f.Filter Cache). x.hands_on) is in
      rw (held-filter field collector child, held-filter field now child) record {
        takes = λ meaning meant taken visits x. (
          visits,
          subst (λ ps. IsFor meaning ctx (Held.filter field now (held_of child.value)) ps visits)
              (sym (append-nil taken)) (
                x.0,
                right (is_matching (meaning.query_at field) meaning.segment) taken x.0
                    (subst (λ o. f.FilterFor waiting_in
                    (is_matching (meaning.query_at field) meaning.segment) o taken x.0) (sym is)
                    x.1),
                x.2,
              ),
          omega arith,
          omega arith,
          omega arith,
        );
        nodes = (refl, same-itself (held_of child.value));
        fits = λ x. (x.0, subst (λ b. IsHandedTo b (held_of child.value)) (sym on) x.1, x.2);
        flushed = λ e. absurd (cc e);
      }

pub prepared-metric : (ctx : PerRequestAggSegCtx) (steps field : ℕ) (collector old now : m.Metric)
    → old ≡ collector
    → ((segment : Stored) (req : MetricAggReqData) (visited : List (ℕ × ℕ))
    → m.MetricFor segment req old visited → m.MetricFor segment req now visited)
    → m.Prepares old now
    → Takes ctx [] false (held_of (Metric field collector)) (held_of (Metric field now)) steps steps
prepared-metric ctx steps field collector old now is right prepares =
    rw (held-metric field collector, held-metric field now)
    (metric-takes ctx [] false field collector now steps
    (subst (λ o. m.MetricTakes [] o now) is record {
      takes = λ segment req taken f.
          subst (m.MetricFor segment req now) (sym (append-nil taken)) (right segment req taken f);
      rest = prepares.rest;
    }))

-- ---- several

are-more : (parent : ℕ) (hs : List Held) (h : Held) → ArePrepared parent (helds_of hs)
    → IsPrepared parent h → ArePrepared parent (helds_of (hs ++ h ∷ []))
are-more parent [] h all one = (one, tt)
are-more parent (k ∷ hs) h all one = (all.0, are-more parent hs h all.1 one)

-- those before an index, and the one that is put there
pub prepared-next : (parent : ℕ) (trees : List Tree) (i : ℕ) (new : Tree) → i < length trees
    → IsPrepared parent (group_of (take i trees)) → IsPrepared parent (held_of new)
    → IsPrepared parent (group_of (take (i + 1) (set trees i new)))
prepared-next parent trees i new l all one =
    rw (held-next trees i new l)
    (are-more parent (map held_of (take i trees)) (held_of new) all one)
