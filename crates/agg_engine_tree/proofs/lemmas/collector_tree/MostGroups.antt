-- Trees side by side take at most three steps for each document that their composites count.
use Rattle.std.proofs.Common.{◌≡◌, ◌<◌, ◌≤◌, ◌+◌, ◌*◌, ◌++◌, ℕ, List, [], ◌∷◌, Bool, get_or}
use Rattle.std.proofs.Common.{length, map, take, zero, suc, refl, subst, arith}
use Rattle.agg_segment.specs.Query.{matches}
use Rattle.agg_segment.specs.Segment.{documents_at}
use Rattle.agg_segment.specs.declared.query.QueryTree.{QueryTree}
use Rattle.agg_request_tree.specs.Request.{Request}
use Rattle.agg_composite.specs.buckets.Visits.{docs_in}
use Rattle.agg_engine_tree.specs.segment_context.Context.{ArePlansOf, IsMeant, Meaning}
use Rattle.agg_engine_tree.specs.segment_context.Plan.{Plans}
use Rattle.agg_engine_tree.specs.declared.segment_context.context.PerRequestAggSegCtx.{
  PerRequestAggSegCtx,
}
use Rattle.agg_engine_tree.specs.declared.collector_tree.tree.SegmentCollectorTree as declared
use declared.{SegmentCollectorTree as Tree}
use Rattle.agg_engine_tree.specs.collector_tree.Bound.{TakesMost}
use Rattle.agg_engine_tree.specs.collector_tree.Counting.{counted_of}
use Rattle.agg_engine_tree.specs.collector_tree.Tree.{AllFit, AllFor, AreOf, Held, held_of}
use Rattle.agg_engine_tree.specs.collector_tree.Tree.{helds_of}
use Rattle.agg_engine_tree.proofs.lemmas.collector_tree.Groups.{AllTake}
use Rattle.agg_engine_tree.proofs.lemmas.collector_tree.Levels.{no-node}
use Rattle.agg_engine_tree.proofs.lemmas.collector_tree.MostSteps.{no-steps, takes-most}
use Rattle.agg_engine_tree.proofs.lemmas.collector_tree.MostVisits.{counted_of-more}

module _ (ctx : PerRequestAggSegCtx) (pairs : List (ℕ × ℕ)) where
  -- each takes no more steps than it may, from where the one before it ended
  abbrev AllMost : List Held → ℕ → ℕ → Type 0
  AllMost [] steps steps_now = steps_now ≡ steps
  AllMost (h ∷ hs) steps steps_now =
      (mid : ℕ) × TakesMost ctx pairs h steps mid × AllMost hs mid steps_now

  -- they take no more than their request may
  all-most : (hs : List Held) (steps steps_now : ℕ) → AllMost hs steps steps_now
      → (meaning : Meaning) → IsMeant meaning ctx → (taken : List (ℕ × ℕ)) (visits : ℕ)
      → AllFor meaning ctx (helds_of hs) taken visits
      → (request : Request QueryTree) (plans : Plans) → ArePlansOf meaning ctx request plans
      → AreOf plans (helds_of hs)
      → steps_now + 3 * visits
      ≤ steps
      + 3 * counted_of matches request (documents_at meaning.segment (docs_in (taken ++ pairs)))
  all-most [] steps steps_now each meaning is taken visits f request plans of at =
      omega (arith, each, f)
  all-most (h ∷ hs) steps steps_now each meaning is taken visits f [] Plans.none of at = absurd at
  all-most (h ∷ hs) steps steps_now each meaning is taken visits f [] (Plans.more plan plans) of
      at = absurd of
  all-most (h ∷ hs) steps steps_now each meaning is taken visits f (a ∷ request) Plans.none of at =
      absurd of
  all-most (h ∷ hs) steps steps_now (mid, t, rest) meaning is taken visits
      (own, others, own_for, others_for, sum) (a ∷ request) (Plans.more plan plans) of at =
      omega (
        arith,
        sum,
        t.node meaning is taken own own_for a.0 a.1 plan of.0 at.0,
        all-most hs mid steps_now rest meaning is taken others others_for request plans of.1 at.1,
        counted_of-more a.0 a.1 request
            (documents_at meaning.segment (docs_in (taken ++ pairs))),
      )

  -- trees take few steps as one tree, where each of them does
  group-most : (hs : List Held) (steps steps_now : ℕ) → AllMost hs steps steps_now
      → TakesMost ctx pairs (Held.group (helds_of hs)) steps steps_now
  group-most hs steps steps_now each = record {
    node = λ meaning is taken visits f name a plan of at.
        absurd (no-node plan (helds_of hs) at);
    group = all-most hs steps steps_now each;
  }

  -- none takes a step
  all-still : (hs : List Held) → AllFit ctx (helds_of hs) → (steps : ℕ) → AllMost hs steps steps
  all-still [] fits steps = refl
  all-still (h ∷ hs) fits steps =
      (steps, no-steps ctx pairs h fits.0 steps, all-still hs fits.1 steps)

  -- some took documents, one took steps, and those after it none
  each-most : (all : Bool) (trees : List Tree) (i : ℕ) (d : Tree) → i < length trees
      → AllFit ctx (helds_of (map held_of trees)) → (nows : List Held) (steps mid steps_now : ℕ)
      → AllTake ctx pairs all (map held_of (take i trees)) nows steps mid
      → TakesMost ctx pairs (held_of (get_or trees i d)) mid steps_now
      → AllMost (map held_of trees) steps steps_now
  each-most all [] i d l fits nows steps mid steps_now each m = absurd (omega arith)
  each-most all (t ∷ trees) zero d l fits [] steps mid steps_now each m = (
    steps_now,
    subst (λ s. TakesMost ctx pairs (held_of t) s steps_now) each m,
    all-still (map held_of trees) fits.1 steps_now,
  )
  each-most all (t ∷ trees) zero d l fits (n ∷ nows) steps mid steps_now each m = absurd each
  each-most all (t ∷ trees) (suc i) d l fits [] steps mid steps_now each m = absurd each
  each-most all (t ∷ trees) (suc i) d l fits (n ∷ nows) steps mid steps_now
      (between, own, rest) m = (
        between,
        takes-most ctx pairs all (held_of t) n steps between fits.0 own,
        each-most all trees i d (omega arith) fits.1 nows between mid steps_now rest m,
      )

  -- all trees take few steps as one tree, where one of them does after those before it
  pub some-most : (all : Bool) (trees : List Tree) (i : ℕ) (d : Tree) → i < length trees
      → AllFit ctx (helds_of (map held_of trees)) → (nows : List Held) (steps mid steps_now : ℕ)
      → AllTake ctx pairs all (map held_of (take i trees)) nows steps mid
      → TakesMost ctx pairs (held_of (get_or trees i d)) mid steps_now
      → TakesMost ctx pairs (Held.group (helds_of (map held_of trees))) steps steps_now
  some-most all trees i d l fits nows steps mid steps_now each m =
      group-most (map held_of trees) steps steps_now
      (each-most all trees i d l fits nows steps mid steps_now each m)
