-- A filter with what is below it takes documents.
use Rattle.std.proofs.Common.{◌≡◌, ◌≤◌, ◌+◌, ◌*◌, ℕ, List, ◌++◌, Bool, false, Some}
use Rattle.std.proofs.Common.{None, map, refl, ap, ◌∙◌, arith}
use Rattle.std.specs.Prelude.{slice_get}
use Rattle.agg_cache.specs.Waiting.{pairs_of}
use Rattle.agg_cache.specs.declared.cache.Batch.{Batch}
use Rattle.agg_cache.specs.declared.error.CollectError.{CollectError}
use Rattle.agg_segment.specs.Marks.{AreMarks}
use Rattle.agg_segment.specs.Query.{matches}
use Rattle.agg_segment.specs.Segment.{Stored}
use Rattle.agg_segment.specs.declared.query.QueryTree.{QueryTree}
use Rattle.agg_filter.specs.Filter.{Filter, FilterGives}
use Rattle.agg_filter.specs.Matching.{is_matching}
use Rattle.agg_filter.specs.declared.request_data.FilterAggReqData.{FilterAggReqData}
use Rattle.agg_engine_tree.specs.segment_context.Context.{IsMeant, Meaning}
use Rattle.agg_engine_tree.specs.declared.segment_context.context.PerRequestAggSegCtx.{
  PerRequestAggSegCtx,
}
use Rattle.agg_engine_tree.specs.collector_tree.Bound.{TakesMost}
use Rattle.agg_engine_tree.specs.collector_tree.Refusals.{IsRefused, TakesInRange}
use Rattle.agg_engine_tree.specs.collector_tree.Step.{TakesAt}
use Rattle.agg_engine_tree.specs.collector_tree.Took.{FilterTook}
use Rattle.agg_engine_tree.specs.collector_tree.Caches.{Cache, waiting_in}
use Rattle.agg_engine_tree.specs.collector_tree.Tree.{Fits, Held, IsFor, IsHandedTo, Takes}
use Rattle.agg_engine_tree.proofs.lemmas.collector_tree.Levels.{handed-still, same-itself}

module _ (ctx : PerRequestAggSegCtx) (pairs : List (ℕ × ℕ)) (parents : List ℕ) (all : Bool) (index
    : ℕ)
    (req : FilterAggReqData) (at : slice_get ctx.filter_req_data index ≡ Some req)
    (meant : (meaning : Meaning) × IsMeant meaning ctx) (old now : Filter Cache) (steps : ℕ)
    (took : (tree : QueryTree) (segment : Stored) → AreMarks (matches tree) segment req.evaluator
    → FilterTook (is_matching tree segment) pairs old now) where
  -- which documents it matches, for one meaning of its data
  abbrev matches_in : Meaning → ℕ → Bool
  matches_in meaning = is_matching (meaning.query_at index) meaning.segment

  -- what it did
  took-in : (meaning : Meaning) → IsMeant meaning ctx → FilterTook (matches_in meaning) pairs old
      now
  took-in meaning is = took (meaning.query_at index) meaning.segment (is.filters index req at)

  took-once : FilterTook (matches_in meant.0) pairs old now
  took-once = took-in meant.0 meant.1

  fits-still : (b : Filter Cache) (h k : Held)
      → (IsHandedTo old.hands_on h → IsHandedTo b.hands_on k) → (Fits ctx h → Fits ctx k)
      → Fits ctx (Held.filter index old h) → Fits ctx (Held.filter index b k)
  fits-still b h k handed below f = (f.0, handed f.1, below f.2)

  -- ---- nothing is handed on

  keeps-for : (h : Held) (meaning : Meaning) → IsMeant meaning ctx → (taken : List (ℕ × ℕ))
      (visits : ℕ) → IsFor meaning ctx (Held.filter index old h) taken visits
      → (visits_now : ℕ)
      × IsFor meaning ctx (Held.filter index now h) (taken ++ pairs) visits_now
      × (visits ≤ visits_now) × (steps + visits_now ≤ steps + visits)
      × (steps + 3 * visits ≤ steps + 3 * visits_now)
  keeps-for h meaning is taken visits (given, own_for, below_for) = (
    visits,
    (given, (took-in meaning is).takes taken given own_for, below_for),
    omega arith,
    omega arith,
    omega arith,
  )

  -- a node took these and hands nothing on
  pub filter-keeps : all ≡ false → (h : Held)
      → TakesAt ctx pairs parents all (Held.filter index old h) None (Held.filter index now h)
      steps steps
  filter-keeps few h = (
    refl,
    record {
      takes = keeps-for h;
      nodes = (refl, same-itself h);
      fits = fits-still now h h
          (handed-still old.hands_on now.hands_on h h took-once.hands_on (same-itself h)) (λ x. x);
      flushed = λ e. absurd (cc (few, e));
    },
  )

  -- ---- all that waited is handed on

  hands-for : (down : List Batch) (b : Filter Cache) → FilterGives waiting_in down now b
      → (h k : Held) (then : ℕ) → Takes ctx (pairs_of down) all h k steps then
      → (meaning : Meaning) → IsMeant meaning ctx → (taken : List (ℕ × ℕ))
      (visits : ℕ) → IsFor meaning ctx (Held.filter index old h) taken visits
      → (visits_now : ℕ)
      × IsFor meaning ctx (Held.filter index b k) (taken ++ pairs) visits_now
      × (visits ≤ visits_now) × (steps + visits_now ≤ then + visits)
      × (then + 3 * visits ≤ steps + 3 * visits_now)
  hands-for down b gives h k then t meaning is taken visits (given, own_for, below_for) =
      let lower = t.takes meaning is given visits below_for in (
        lower.0,
        (
          given ++ pairs_of down,
          gives.gives (matches_in meaning) (taken ++ pairs) given
              ((took-in meaning is).takes taken given own_for),
          lower.1,
        ),
        lower.2,
        lower.3,
        lower.4,
      )

  -- a node took these and hands batches on
  pub filter-hands : (down : List Batch) (b : Filter Cache)
      → FilterGives waiting_in down now b → b ≡ record now { cache = b.cache } → (h : Held)
      → Fits ctx (Held.filter index old h)
      → ((error : CollectError)
      → IsRefused ctx (pairs_of down) (map (λ batch. batch.bucket_id) down) h error
      → IsRefused ctx pairs parents (Held.filter index old h) error)
      → (TakesInRange ctx pairs (Held.filter index old h) → TakesInRange ctx (pairs_of down) h)
      → ((then : ℕ) → TakesMost ctx (pairs_of down) h steps then
      → TakesMost ctx pairs (Held.filter index old h) steps then)
      → TakesAt ctx pairs parents all (Held.filter index old h) (Some down) (Held.filter index b h)
      steps
      steps
  filter-hands down b gives rest h fits refused in_range most = (
    refl,
    record {
      refused = refused;
      in_range = in_range;
      most = most;
      below = fits.2;
      takes = λ k then t. record {
        takes = hands-for down b gives h k then t;
        nodes = (refl, t.nodes);
        fits = fits-still b h k
            (handed-still old.hands_on b.hands_on h k
            (ap (λ (x : Filter Cache). x.hands_on) rest ∙ took-once.hands_on)
            t.nodes) t.fits;
        flushed = λ e. (gives.emptied, t.flushed e);
      };
    },
  )
