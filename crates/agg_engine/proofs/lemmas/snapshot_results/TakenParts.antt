-- A tree takes documents in two parts.
use Rattle.std.proofs.Common.{◌≡◌, ◌≤◌, ◌+◌, ◌*◌, ◌^◌, ◌++◌, ℕ, List, false, sym, ap}
use Rattle.std.proofs.Common.{◌∙◌, subst, arith, take, drop}
use Rattle.std.specs.List.{All}
use Rattle.std.proofs.lemmas.List.{append_assoc, map-append, take-append-drop}
use Rattle.agg_cache.specs.Waiting.{under}
use Rattle.agg_segment.specs.storage.Document.{Fields, HasNumbersOf64Bits}
use Rattle.agg_segment.specs.Query.{matches}
use Rattle.agg_segment.specs.Segment.{document_at, documents_at}
use Rattle.agg_segment.specs.declared.query.QueryTree.{QueryTree}
use Rattle.agg_segment.proofs.EncodedColumns.{front_all}
use Rattle.agg_request_tree.specs.Ranges.{HasStartOutOfRange}
use Rattle.agg_request_tree.specs.Request.{Request}
use Rattle.agg_request_tree.specs.Uncut.{CountsTooMany}
use Rattle.agg_composite.specs.buckets.Visits.{docs_in}
use Rattle.agg_composite.proofs.lemmas.buckets.Labels.{docs_in-append}
use Rattle.agg_engine_tree.specs.segment_context.Context.{Meaning}
use Rattle.agg_engine_tree.specs.declared.segment_context.context.PerRequestAggSegCtx.{
  PerRequestAggSegCtx,
}
use Rattle.agg_engine_tree.specs.collector_tree.Counting.{counted_of}
use Rattle.agg_engine_tree.specs.collector_tree.Tree.{Held, Takes}
use Rattle.agg_engine.specs.snapshot_results.Trees.{IsRight, MayBeTaken, MayTake, MostSteps}
use Rattle.agg_engine.proofs.lemmas.snapshot_results.JoinedCounts.{counted-append}
use Rattle.agg_engine.proofs.lemmas.snapshot_results.PartCounts.{as_many-front}
use Rattle.agg_engine.proofs.lemmas.snapshot_results.RightTrees.{right-more}
use Rattle.agg_engine.proofs.lemmas.snapshot_results.StartRanges.{out-front}

-- documents under a parent, in two parts
pub under-cut : (docs first second : List ℕ) (half : ℕ) → first ≡ take half docs
    → second ≡ drop half docs → under 0 docs ≡ under 0 first ++ under 0 second
under-cut docs first second half front back =
    rw (front, back)
    (ap (under 0) (sym (take-append-drop half docs))
    ∙ map-append (λ doc. (0, doc)) (take half docs) (drop half docs))

module _ (request : Request QueryTree) (meaning : Meaning) where
  -- the documents of pairs
  abbrev documents : List (ℕ × ℕ) → List Fields
  documents pairs = documents_at meaning.segment (docs_in pairs)

  pub documents-append : (xs ys : List (ℕ × ℕ))
      → documents (xs ++ ys) ≡ documents xs ++ documents ys
  documents-append xs ys =
      ap (documents_at meaning.segment) (docs_in-append xs ys)
      ∙ map-append (document_at meaning.segment) (docs_in xs) (docs_in ys)

  -- of what may be taken in all, the front may
  pub may-front : (xs ys : List (ℕ × ℕ)) → MayBeTaken request meaning (xs ++ ys)
      → MayBeTaken request meaning xs
  may-front xs ys may =
      let whole = documents-append xs ys in
      record {
        numbers = front_all HasNumbersOf64Bits (documents xs) (documents ys)
            (subst (All HasNumbersOf64Bits) whole may.numbers);
        range = λ out. may.range (subst (HasStartOutOfRange request) (sym whole)
            (out-front request (documents xs) (documents ys) out));
        few = λ many. may.few (subst (CountsTooMany matches request) (sym whole)
            (as_many-front matches (2 ^ 32) request (documents xs) (documents ys) many));
      }

  -- composites count no more of the front
  pub counted-front : (taken xs ys : List (ℕ × ℕ))
      → counted_of matches request (documents (taken ++ xs))
      ≤ counted_of matches request (documents (taken ++ (xs ++ ys)))
  counted-front taken xs ys =
      omega (
        arith,
        ap (λ pairs. counted_of matches request (documents pairs)) (append_assoc taken xs ys),
        ap (counted_of matches request) (documents-append (taken ++ xs) ys),
        counted-append matches request (documents (taken ++ xs)) (documents ys),
      )

  counted-same : (taken xs ys : List (ℕ × ℕ))
      → counted_of matches request (documents (taken ++ xs ++ ys))
      ≡ counted_of matches request (documents (taken ++ (xs ++ ys)))
  counted-same taken xs ys =
      ap (λ pairs. counted_of matches request (documents pairs)) (append_assoc taken xs ys)

module _ (ctx : PerRequestAggSegCtx) (xs ys : List (ℕ × ℕ)) (old : Held) where
  -- a tree may take the first part
  pub may-first : MayTake ctx old (xs ++ ys) → MayTake ctx old xs
  may-first may = record {
    request = may.request;
    meaning = may.meaning;
    taken = may.taken;
    visits = may.visits;
    right = may.right;
    all = may-front may.request may.meaning (may.taken ++ xs) ys
        (subst (MayBeTaken may.request may.meaning) (sym (append_assoc may.taken xs ys)) may.all);
  }

  -- whatever is answered to the first part, the steps are few for both
  pub most-first : (steps steps_mid : ℕ) → MostSteps ctx xs old steps steps_mid
      → MostSteps ctx (xs ++ ys) old steps steps_mid
  most-first steps steps_mid first = record {
    most = λ request meaning taken visits right. omega (
      arith,
      first.most request meaning taken visits right,
      counted-front request meaning taken xs ys,
    );
  }

  module _ (mid : Held) (steps steps_mid : ℕ) (first : Takes ctx xs false old mid steps steps_mid)
    where
      -- after the first part a tree is right for it too
      right-mid : (request : Request QueryTree) (meaning : Meaning) (taken : List (ℕ × ℕ))
          (visits : ℕ) → IsRight ctx request meaning old taken visits
          → (visits_now : ℕ) × IsRight ctx request meaning mid (taken ++ xs) visits_now
          × (visits ≤ visits_now)
          × (steps + visits_now ≤ steps_mid + visits)
          × (steps_mid + 3 * visits ≤ steps + 3 * visits_now)
      right-mid request meaning =
          right-more ctx request meaning xs false old mid steps steps_mid first

      -- it may take the second
      pub may-second : MayTake ctx old (xs ++ ys) → MayTake ctx mid ys
      may-second may =
          let now = right-mid may.request may.meaning may.taken may.visits may.right in
          record {
            request = may.request;
            meaning = may.meaning;
            taken = may.taken ++ xs;
            visits = now.0;
            right = now.1;
            all = subst (MayBeTaken may.request may.meaning) (sym (append_assoc may.taken xs ys))
                may.all;
          }

      -- whatever is answered to the second part, the steps are few
      pub most-both : (steps_now : ℕ) → MostSteps ctx ys mid steps_mid steps_now
          → MostSteps ctx (xs ++ ys) old steps steps_now
      most-both steps_now second = record {
        most = λ request meaning taken visits right.
            let now = right-mid request meaning taken visits right in
            omega (
              arith,
              now.4,
              second.most request meaning (taken ++ xs) now.0 now.1,
              counted-same request meaning taken xs ys,
            );
      }
