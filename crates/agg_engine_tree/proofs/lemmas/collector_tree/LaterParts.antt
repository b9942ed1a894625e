-- What a tree answers to documents after others that it took.
use Rattle.std.proofs.Common.{◌≡◌, ◌++◌, ℕ, List, [], false, inl, inr, sym, ap, ◌∙◌, arith}
use Rattle.std.proofs.Common.{subst}
use Rattle.std.specs.Prelude.{slice_get}
use Rattle.std.proofs.lemmas.List.{append_assoc}
use Rattle.agg_cache.specs.declared.error.CollectError.{CollectError}
use Rattle.agg_cache.specs.declared.error.CollectError.TheVariants as refusal
use Rattle.agg_segment.specs.storage.Document.{HasNumbersOf64Bits}
use Rattle.agg_segment.specs.Segment.{documents_at}
use Rattle.agg_composite.specs.buckets.Visits.{Within, docs_in}
use Rattle.agg_composite.proofs.lemmas.buckets.Labels.{docs_in-append}
use Rattle.agg_engine_tree.specs.segment_context.Context.{Meaning}
use Rattle.agg_engine_tree.specs.segment_context.Plan.{Plans}
use Rattle.agg_engine_tree.specs.declared.segment_context.context.PerRequestAggSegCtx.{
  PerRequestAggSegCtx,
}
use Rattle.agg_engine_tree.specs.collector_tree.Bound.{TakesMost}
use Rattle.agg_engine_tree.specs.collector_tree.Refusals.{AreNotLast, HasStartOutOfRange, IsRefused}
use Rattle.agg_engine_tree.specs.collector_tree.Refusals.{ManyTaken, RangeTaken, SomeHasStart}
use Rattle.agg_engine_tree.specs.collector_tree.Refusals.{TakesInRange}
use Rattle.agg_engine_tree.specs.collector_tree.Tree.{GrowsTo, AllGrowTo, Held, Helds, IsGroupOf}
use Rattle.agg_engine_tree.specs.collector_tree.Tree.{Takes}
use Rattle.agg_engine_tree.proofs.lemmas.collector_tree.Levels.{is-nothing, same-plan, same-plans}
use Rattle.agg_engine_tree.proofs.lemmas.collector_tree.ManyLists.{in-more, of-more}
use Rattle.agg_engine_tree.proofs.lemmas.collector_tree.MostVisits.{in-less, of-less}
use Rattle.agg_engine_tree.proofs.lemmas.collector_tree.RefusedNodes.{start-part}
use Rattle.agg_engine_tree.proofs.lemmas.collector_tree.SmallNumbers.{all-part}
use Rattle.agg_engine_tree.proofs.lemmas.collector_tree.UncutParts.{lighter-within}
use Rattle.agg_engine_tree.proofs.lemmas.collector_tree.WithinLists.{within-contains, within-part}

module _ (meaning : Meaning) (ctx : PerRequestAggSegCtx) (docs : List ℕ) where
  mutual
    -- what has a start out of range has it in each tree of the same nodes
    start-same : (h k : Held) → GrowsTo h k → HasStartOutOfRange meaning ctx k docs
        → HasStartOutOfRange meaning ctx h docs
    start-same (Held.composite i a h) (Held.composite j b k) same (inl (req, at, out)) =
        inl (req, ap (slice_get ctx.composite_req_data) same.0 ∙ at, out)
    start-same (Held.composite i a h) (Held.composite j b k) same (inr s) =
        inr (start-same h k same.1 s)
    start-same (Held.filter i a h) (Held.filter j b k) same s = start-same h k same.1 s
    start-same (Held.metric i a) (Held.metric j b) same s = s
    start-same (Held.group hs) (Held.group ks) same s = some-same hs ks same s
    start-same h k same s = absurd same

    some-same : (hs ks : Helds) → AllGrowTo hs ks → SomeHasStart meaning ctx ks docs
        → SomeHasStart meaning ctx hs docs
    some-same Helds.none Helds.none same s = s
    some-same (Helds.more h hs) (Helds.more k ks) same (inl s) = inl (start-same h k same.0 s)
    some-same (Helds.more h hs) (Helds.more k ks) same (inr s) = inr (some-same hs ks same.1 s)
    some-same hs ks same s = absurd same

module _ (ctx : PerRequestAggSegCtx) (xs ys zs : List (ℕ × ℕ)) (old mid : Held)
    (steps steps_mid : ℕ) (took : Takes ctx xs false old mid steps steps_mid) where
  -- those that are taken first are among all
  front-within : (taken : List (ℕ × ℕ))
      → Within (docs_in (taken ++ xs ++ ys)) (docs_in (taken ++ (xs ++ (ys ++ zs))))
  front-within taken =
      let whole : taken ++ xs ++ ys ++ zs ≡ taken ++ (xs ++ (ys ++ zs)) = simp append_assoc in
      subst (Within (docs_in (taken ++ xs ++ ys)))
      (sym (docs_in-append (taken ++ xs ++ ys) zs) ∙ ap docs_in whole)
      (within-part [] (docs_in (taken ++ xs ++ ys)) (docs_in zs))

  -- a start out of range after the first ones is one in all
  later-start : (meaning : Meaning) (taken : List (ℕ × ℕ))
      → HasStartOutOfRange meaning ctx mid (docs_in (taken ++ xs ++ ys))
      → HasStartOutOfRange meaning ctx old (docs_in (taken ++ (xs ++ (ys ++ zs))))
  later-start meaning taken out =
      start-same meaning ctx (docs_in (taken ++ (xs ++ (ys ++ zs)))) old mid took.nodes
      (start-part meaning ctx (docs_in (taken ++ xs ++ ys))
      (docs_in (taken ++ (xs ++ (ys ++ zs))))
      (within-contains _ _ (front-within taken)) mid out)

  later-range : (parents all : List ℕ) → RangeTaken ctx ys parents mid
      → RangeTaken ctx (xs ++ (ys ++ zs)) all old
  later-range parents all r = record {
    range = λ meaning is taken visits right.
        let now = took.takes meaning is taken visits right in
        later-start meaning taken (r.range meaning is (taken ++ xs) now.0 now.1);
  }

  -- where a tree takes all in range, it takes the next ones in range after the first
  pub later-in_range : TakesInRange ctx (xs ++ (ys ++ zs)) old → TakesInRange ctx ys mid
  later-in_range t =
      let now = took.takes t.meaning t.meant t.taken t.visits t.right in
      record {
        meaning = t.meaning;
        meant = t.meant;
        taken = t.taken ++ xs;
        visits = now.0;
        right = now.1;
        range = λ out. t.range (later-start t.meaning t.taken out);
      }

  later-many : (parents all : List ℕ) → (AreNotLast all → AreNotLast parents)
      → ManyTaken ctx ys parents mid → ManyTaken ctx (xs ++ (ys ++ zs)) all old
  later-many parents all part r = record {
    some = λ none. r.some (is-nothing mid (same-plans Plans.none old mid took.nodes
        (subst (IsGroupOf Plans.none) (sym none) tt)));
    node = λ low meaning is taken small visits right name a plan of at.
        let now = took.takes meaning is taken visits right in
        let within = front-within taken in
        in-more meaning ctx plan name a of
        (documents_at meaning.segment (docs_in (taken ++ xs ++ ys)))
        (documents_at meaning.segment (docs_in (taken ++ (xs ++ (ys ++ zs)))))
        (lighter-within meaning.segment _ _ within)
        (r.node (part low) meaning is (taken ++ xs)
        (all-part HasNumbersOf64Bits meaning.segment _ _ (within-contains _ _ within) small)
        now.0 now.1 name a plan of (same-plan plan old mid took.nodes at));
    group = λ low meaning is taken small visits right request plans of at.
        let now = took.takes meaning is taken visits right in
        let within = front-within taken in
        of-more meaning ctx plans request of
        (documents_at meaning.segment (docs_in (taken ++ xs ++ ys)))
        (documents_at meaning.segment (docs_in (taken ++ (xs ++ (ys ++ zs)))))
        (lighter-within meaning.segment _ _ within)
        (r.group (part low) meaning is (taken ++ xs)
        (all-part HasNumbersOf64Bits meaning.segment _ _ (within-contains _ _ within) small)
        now.0 now.1 request plans of (same-plans plans old mid took.nodes at));
  }

  -- a tree that took some pairs refuses the next ones for a reason to refuse all
  pub later-refused : (parents all : List ℕ) → (AreNotLast all → AreNotLast parents)
      → (error : CollectError) → IsRefused ctx ys parents mid error
      → IsRefused ctx (xs ++ (ys ++ zs)) all old error
  later-refused parents all part refusal.BucketOutOfRange r = later-range parents all r
  later-refused parents all part refusal.TooMany r = later-many parents all part r
  later-refused parents all part refusal.OutOfMemory r = tt
  later-refused parents all part (refusal.Aggregation limit) r = r
  later-refused parents all part refusal.CollectorFailed r = r

  -- whatever it answers to the next ones, its steps are few for all
  pub later-most : (steps_now : ℕ) → TakesMost ctx ys mid steps_mid steps_now
      → TakesMost ctx (xs ++ (ys ++ zs)) old steps steps_now
  later-most steps_now m = record {
    node = λ meaning is taken visits right name a plan of at.
        let now = took.takes meaning is taken visits right in
        omega (
          arith,
          now.4,
          m.node meaning is (taken ++ xs) now.0 now.1 name a plan of
              (same-plan plan old mid took.nodes at),
          in-less meaning ctx plan name a of
              (documents_at meaning.segment (docs_in (taken ++ xs ++ ys)))
              (documents_at meaning.segment (docs_in (taken ++ (xs ++ (ys ++ zs)))))
              (lighter-within meaning.segment _ _ (front-within taken)),
        );
    group = λ meaning is taken visits right request plans of at.
        let now = took.takes meaning is taken visits right in
        omega (
          arith,
          now.4,
          m.group meaning is (taken ++ xs) now.0 now.1 request plans of
              (same-plans plans old mid took.nodes at),
          of-less meaning ctx plans request of
              (documents_at meaning.segment (docs_in (taken ++ xs ++ ys)))
              (documents_at meaning.segment (docs_in (taken ++ (xs ++ (ys ++ zs)))))
              (lighter-within meaning.segment _ _ (front-within taken)),
        );
  }
