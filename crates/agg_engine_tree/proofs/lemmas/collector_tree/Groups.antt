-- Metrics take documents, and several trees side by side.
use Rattle.std.proofs.Common.{◌≡◌, ◌≤◌, ◌+◌, ◌*◌, ℕ, List, [], ◌∷◌, ◌++◌, Bool}
use Rattle.std.proofs.Common.{refl, subst, arith}
use Rattle.agg_metric.specs.Collector.{Metric, MetricTakes}
use Rattle.agg_engine_tree.specs.segment_context.Context.{IsMeant, Meaning}
use Rattle.agg_engine_tree.specs.declared.segment_context.context.PerRequestAggSegCtx.{
  PerRequestAggSegCtx,
}
use Rattle.agg_engine_tree.specs.collector_tree.Tree.{AllFor, Held, Helds, Takes, helds_of}

module _ (ctx : PerRequestAggSegCtx) (pairs : List (ℕ × ℕ)) (all : Bool) where
  -- ---- metrics

  pub metric-takes : (index : ℕ) (old now : Metric) (steps : ℕ) → MetricTakes pairs old now
      → Takes ctx pairs all (Held.metric index old) (Held.metric index now) steps steps
  metric-takes index old now steps t = record {
    takes = λ meaning is taken visits f. (
      visits,
      (λ req at. t.takes meaning.segment req taken (f.0 req at), f.1),
      omega arith,
      omega arith,
      omega arith,
    );
    nodes = refl;
    fits = λ f. f;
    flushed = λ e. tt;
  }

  -- ---- several, one after another

  -- each takes the documents, beginning with the steps at which the one before it ended
  abbrev pub AllTake : List Held → List Held → ℕ → ℕ → Type 0
  AllTake [] [] steps steps_now = steps_now ≡ steps
  AllTake (o ∷ os) (n ∷ ns) steps steps_now =
      (mid : ℕ) × Takes ctx pairs all o n steps mid × AllTake os ns mid steps_now
  AllTake _ _ steps steps_now = ⊥

  -- one more
  pub all-more : (os ns : List Held) (o n : Held) (steps mid steps_now : ℕ)
      → AllTake os ns steps mid → Takes ctx pairs all o n mid steps_now
      → AllTake (os ++ o ∷ []) (ns ++ n ∷ []) steps steps_now
  all-more [] [] o n steps mid steps_now each t =
      (steps_now, subst (λ s. Takes ctx pairs all o n s steps_now) each t, refl)
  all-more [] (m ∷ ns) o n steps mid steps_now each t = absurd each
  all-more (p ∷ os) [] o n steps mid steps_now each t = absurd each
  all-more (p ∷ os) (m ∷ ns) o n steps mid steps_now (between, own, rest) t =
      (between, own, all-more os ns o n between mid steps_now rest t)

  several-for : (o n : Held) (os ns : Helds) (steps mid steps_now : ℕ)
      → Takes ctx pairs all o n steps mid
      → Takes ctx pairs all (Held.group os) (Held.group ns) mid steps_now
      → (meaning : Meaning) → IsMeant meaning ctx → (taken : List (ℕ × ℕ))
      (visits : ℕ) → AllFor meaning ctx (Helds.more o os) taken visits
      → (visits_now : ℕ)
      × AllFor meaning ctx (Helds.more n ns) (taken ++ pairs) visits_now
      × (visits ≤ visits_now) × (steps + visits_now ≤ steps_now + visits)
      × (steps_now + 3 * visits ≤ steps + 3 * visits_now)
  several-for o n os ns steps mid steps_now t u meaning is taken visits
      (own, others, own_for, others_for, sum) =
      let a = t.takes meaning is taken own own_for in
      let b = u.takes meaning is taken others others_for in
      let more : own ≤ a.0 = a.2 in
      let least : steps + a.0 ≤ mid + own = a.3 in
      let most : mid + 3 * own ≤ steps + 3 * a.0 = a.4 in
      let more_others : others ≤ b.0 = b.2 in
      let least_others : mid + b.0 ≤ steps_now + others = b.3 in
      let most_others : steps_now + 3 * others ≤ mid + 3 * b.0 = b.4 in (
        a.0 + b.0,
        (a.0, b.0, a.1, b.1, refl),
        omega (arith, sum, more, more_others),
        omega (arith, sum, least, least_others),
        omega (arith, sum, most, most_others),
      )

  -- trees side by side take documents
  pub group-takes : (os ns : List Held) (steps steps_now : ℕ) → AllTake os ns steps steps_now
      → Takes ctx pairs all (Held.group (helds_of os)) (Held.group (helds_of ns)) steps steps_now
  group-takes [] [] steps steps_now each = record {
    takes = λ meaning is taken visits f.
        (visits, f, omega arith, omega (arith, each), omega (arith, each));
    nodes = tt;
    fits = λ f. f;
    flushed = λ e. tt;
  }
  group-takes [] (n ∷ ns) steps steps_now each = absurd each
  group-takes (o ∷ os) [] steps steps_now each = absurd each
  group-takes (o ∷ os) (n ∷ ns) steps steps_now (mid, t, rest) =
      let u = group-takes os ns mid steps_now rest in
      record {
        takes = several-for o n (helds_of os) (helds_of ns) steps mid steps_now t u;
        nodes = (t.nodes, u.nodes);
        fits = λ f. (t.fits f.0, u.fits f.1);
        flushed = λ e. (t.flushed e, u.flushed e);
      }
