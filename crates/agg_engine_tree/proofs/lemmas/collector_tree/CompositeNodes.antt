-- A composite with what is below it takes documents.
use Rattle.std.proofs.Common.{◌≡◌, ◌≤◌, ◌+◌, ◌*◌, ℕ, List, [], ◌++◌, Bool, false, Some}
use Rattle.std.proofs.Common.{None, append-nil, length, map, refl, sym, ap, ◌∙◌, subst, arith}
use Rattle.std.proofs.Common.{length-append}
use Rattle.std.specs.Prelude.{slice_get}
use Rattle.agg_values.specs.Names.{Named}
use Rattle.agg_values.specs.declared.after_key.AfterKey.{AfterKey}
use Rattle.agg_cache.specs.Waiting.{pairs_of}
use Rattle.agg_cache.specs.declared.cache.Batch.{Batch}
use Rattle.agg_cache.specs.declared.error.CollectError.{CollectError}
use Rattle.agg_segment.specs.Segment.{Stored}
use Rattle.agg_composite.specs.accessor.Accessors as accessor
use Rattle.agg_composite.specs.declared.accessor.request_data.CompositeAggReqData.{
  CompositeAggReqData,
}
use Rattle.agg_composite.specs.Composite.{Composite, CompositeFor, CompositeGives, num_buckets}
use Rattle.agg_engine_tree.specs.segment_context.Context.{IsMeant, Meaning}
use Rattle.agg_engine_tree.specs.declared.segment_context.context.PerRequestAggSegCtx.{
  PerRequestAggSegCtx,
}
use Rattle.agg_engine_tree.specs.collector_tree.Bound.{TakesMost}
use Rattle.agg_engine_tree.specs.collector_tree.Refusals.{IsRefused, TakesInRange}
use Rattle.agg_engine_tree.specs.collector_tree.Step.{TakesAt}
use Rattle.agg_engine_tree.specs.collector_tree.Took.{CompositeTook}
use Rattle.agg_engine_tree.specs.collector_tree.Caches.{Cache}
use Rattle.agg_engine_tree.specs.collector_tree.Tree.{CompositeIsFor, Fits, Held, IsFor, IsHandedTo}
use Rattle.agg_engine_tree.specs.collector_tree.Caches.{waiting_in}
use Rattle.agg_engine_tree.specs.collector_tree.Tree.{Takes, visits_of}
use Rattle.agg_engine_tree.proofs.lemmas.collector_tree.CompositeCalls.{visits-append}
use Rattle.agg_engine_tree.proofs.lemmas.collector_tree.Levels.{handed-still, same-itself}

module _ (ctx : PerRequestAggSegCtx) (pairs : List (ℕ × ℕ)) (parents : List ℕ) (all : Bool) (index
    : ℕ)
    (req : CompositeAggReqData) (at : slice_get ctx.composite_req_data index ≡ Some req)
    (meant : (meaning : Meaning) × IsMeant meaning ctx) (old now : Composite Cache)
    (steps mid : ℕ)
    (took : (segment : Stored) (after : Named AfterKey) → accessor.Fits segment after req
    → CompositeTook req segment after pairs old now steps mid) where
  -- what it did, for one meaning of its data
  took-in : (meaning : Meaning) → IsMeant meaning ctx
      → CompositeTook req meaning.segment (meaning.after_at index) pairs old now steps mid
  took-in meaning is =
      took meaning.segment (meaning.after_at index) (is.composites index req at).fits

  took-once : CompositeTook req meant.0.segment (meant.0.after_at index) pairs old now steps mid
  took-once = took-in meant.0 meant.1

  -- how many visits it made for documents
  abbrev visits_in : Meaning → List (ℕ × ℕ) → ℕ
  visits_in meaning taken =
      length (visits_of req meaning.segment (meaning.after_at index) taken)

  -- it is right for the documents after the others, also when it gave more
  pub is-for : (b : Composite Cache) (more : List (ℕ × ℕ))
      → ((req : CompositeAggReqData) (segment : Stored) (after : Named AfterKey)
      (taken given : List (ℕ × ℕ))
      → CompositeFor waiting_in req now (visits_of req segment after taken) given
      → CompositeFor waiting_in req b (visits_of req segment after taken) (given ++ more))
      → (meaning : Meaning) → IsMeant meaning ctx → (taken given : List (ℕ × ℕ)) (own : ℕ)
      → CompositeIsFor meaning ctx index old taken given own
      → CompositeIsFor meaning ctx index b (taken ++ pairs) (given ++ more)
      (visits_in meaning (taken ++ pairs))
  is-for b more gives meaning is taken given own f other at_other =
      let same : req ≡ other = cc (at, at_other) in
      subst (λ r. CompositeFor waiting_in r b
      (visits_of r meaning.segment (meaning.after_at index) (taken ++ pairs)) (given ++ more)
      × (visits_in meaning (taken ++ pairs)
      ≡ length (visits_of r meaning.segment (meaning.after_at index) (taken ++ pairs)))) same (
        gives req meaning.segment (meaning.after_at index) (taken ++ pairs) given
            ((took-in meaning is).takes taken given (f req at).0),
        refl,
      )

  fits-still : (b : Composite Cache) (h k : Held) → b.room ≡ now.room → b.hands_on ≡ now.hands_on
      → (IsHandedTo old.hands_on h → IsHandedTo b.hands_on k) → (Fits ctx h → Fits ctx k)
      → Fits ctx (Held.composite index old h) → Fits ctx (Held.composite index b k)
  fits-still b h k room on handed below f = (
    (f.0.0, f.0.1, omega (arith, f.0.2, room, took-once.room)),
    handed f.1,
    below f.2,
  )

  -- the visits are those before and those of the documents
  visits-are : (meaning : Meaning) (taken : List (ℕ × ℕ))
      → visits_in meaning (taken ++ pairs) ≡ visits_in meaning taken + visits_in meaning pairs
  visits-are meaning taken =
      ap length (visits-append req meaning.segment (meaning.after_at index) taken pairs)
      ∙ length-append (visits_of req meaning.segment (meaning.after_at index) taken)
      (visits_of req meaning.segment (meaning.after_at index) pairs)

  -- ---- nothing is handed on

  gives-none : (other : CompositeAggReqData) (segment : Stored) (after : Named AfterKey)
      (taken given : List (ℕ × ℕ))
      → CompositeFor waiting_in other now (visits_of other segment after taken) given
      → CompositeFor waiting_in other now (visits_of other segment after taken) (given ++ [])
  gives-none other segment after taken given f =
      subst (CompositeFor waiting_in other now (visits_of other segment after taken))
      (sym (append-nil given)) f

  keeps-for : (h : Held) (meaning : Meaning) → IsMeant meaning ctx → (taken : List (ℕ × ℕ))
      (visits : ℕ) → IsFor meaning ctx (Held.composite index old h) taken visits
      → (visits_now : ℕ)
      × IsFor meaning ctx (Held.composite index now h) (taken ++ pairs) visits_now
      × (visits ≤ visits_now) × (steps + visits_now ≤ mid + visits)
      × (mid + 3 * visits ≤ steps + 3 * visits_now)
  keeps-for h meaning is taken visits (given, own, below, own_for, below_for, sum) =
      let n = visits_in meaning (taken ++ pairs) in
      let took = took-in meaning is in
      let before : own ≡ visits_in meaning taken = (own_for req at).1 in
      let parts : n ≡ own + visits_in meaning pairs = omega (
        arith,
        visits-are meaning taken,
        before,
      ) in (
        n + below,
        (
          given ++ [],
          n,
          below,
          is-for now [] gives-none meaning is taken given own own_for,
          subst (λ ps. IsFor meaning ctx h ps below) (sym (append-nil given)) below_for,
          refl,
        ),
        omega (arith, parts, sum),
        omega (arith, parts, sum, took.least),
        omega (arith, parts, sum, took.most),
      )

  -- a node took these and hands nothing on
  pub composite-keeps : all ≡ false → (h : Held)
      → TakesAt ctx pairs parents all (Held.composite index old h) None (Held.composite index now
      h) steps
      mid
  composite-keeps few h = (
    refl,
    record {
      takes = keeps-for h;
      nodes = (refl, same-itself h, took-once.no_fewer);
      fits = fits-still now h h refl refl
          (handed-still old.hands_on now.hands_on h h took-once.hands_on (same-itself h)) (λ x. x);
      flushed = λ e. absurd (cc (few, e));
    },
  )

  -- ---- all that waited is handed on

  hands-for : (down : List Batch) (b : Composite Cache) → CompositeGives waiting_in down now b
      → (h k : Held) (then : ℕ) → Takes ctx (pairs_of down) all h k mid then
      → (meaning : Meaning) → IsMeant meaning ctx → (taken : List (ℕ × ℕ))
      (visits : ℕ) → IsFor meaning ctx (Held.composite index old h) taken visits
      → (visits_now : ℕ)
      × IsFor meaning ctx (Held.composite index b k) (taken ++ pairs) visits_now
      × (visits ≤ visits_now) × (steps + visits_now ≤ then + visits)
      × (then + 3 * visits ≤ steps + 3 * visits_now)
  hands-for down b gives h k then t meaning is taken visits
      (given, own, below, own_for, below_for, sum) =
      let n = visits_in meaning (taken ++ pairs) in
      let took = took-in meaning is in
      let before : own ≡ visits_in meaning taken = (own_for req at).1 in
      let parts : n ≡ own + visits_in meaning pairs = omega (
        arith,
        visits-are meaning taken,
        before,
      ) in
      let lower = t.takes meaning is given below below_for in
      let more : below ≤ lower.0 = lower.2 in
      let least : mid + lower.0 ≤ then + below = lower.3 in
      let most : then + 3 * below ≤ mid + 3 * lower.0 = lower.4 in (
        n + lower.0,
        (
          given ++ pairs_of down,
          n,
          lower.0,
          is-for b (pairs_of down) (λ other segment after before_taken before_given.
              gives.gives other (visits_of other segment after before_taken) before_given)
              meaning is taken given own own_for,
          lower.1,
          refl,
        ),
        omega (arith, parts, sum, more),
        omega (arith, parts, sum, took.least, least),
        omega (arith, parts, sum, took.most, most),
      )

  -- a node took these and hands batches on
  pub composite-hands : (down : List Batch) (b : Composite Cache)
      → CompositeGives waiting_in down now b → b ≡ record now { cache = b.cache } → (h : Held)
      → Fits ctx (Held.composite index old h)
      → ((error : CollectError)
      → IsRefused ctx (pairs_of down) (map (λ batch. batch.bucket_id) down) h error
      → IsRefused ctx pairs parents (Held.composite index old h) error)
      → (TakesInRange ctx pairs (Held.composite index old h) → TakesInRange ctx (pairs_of down) h)
      → ((then : ℕ) → TakesMost ctx (pairs_of down) h mid then
      → TakesMost ctx pairs (Held.composite index old h) steps then)
      → TakesAt ctx pairs parents all (Held.composite index old h) (Some down)
      (Held.composite index b h) steps mid
  composite-hands down b gives rest h fits refused in_range most =
      let same : num_buckets b ≡ num_buckets now =
      ap (λ (x : Composite Cache). num_buckets x) rest in (
        refl,
        record {
          refused = refused;
          in_range = in_range;
          most = most;
          below = fits.2;
          takes = λ k then t. record {
            takes = hands-for down b gives h k then t;
            nodes = (
              refl,
              t.nodes,
              omega (arith, took-once.no_fewer, same),
            );
            fits = fits-still b h k (ap (λ (x : Composite Cache). x.room) rest)
                (ap (λ (x : Composite Cache). x.hands_on) rest)
                (handed-still old.hands_on b.hands_on h k
                (ap (λ (x : Composite Cache). x.hands_on) rest ∙ took-once.hands_on)
                t.nodes) t.fits;
            flushed = λ e. (gives.emptied, t.flushed e);
          };
        },
      )
