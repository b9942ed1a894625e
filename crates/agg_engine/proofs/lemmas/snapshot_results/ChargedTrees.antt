-- What is charged for a tree of collectors, from call to call.
use Rattle.std.proofs.Common.{◌≡◌, ◌≤◌, ◌<◌, ◌+◌, ◌-◌, ◌^◌, ◌++◌, ℕ, List, [], Bool, false, map}
use Rattle.std.proofs.Common.{refl, sym, ap, ◌∙◌, subst, arith}
use Rattle.std.specs.List.{All}
use Rattle.std.proofs.Math.Nat.{min-eq_right}
use Rattle.std.proofs.lemmas.List.{append_assoc}
use Rattle.std.proofs.lemmas.List.Elements.{All-map, All-nil}
use Rattle.agg_cache.specs.Limits.{Limits}
use Rattle.agg_cache.specs.Waiting.{under}
use Rattle.agg_segment.specs.storage.Document.{Fields}
use Rattle.agg_segment.specs.Query.{matches}
use Rattle.agg_segment.specs.Segment.{Stored, documents_at}
use Rattle.agg_segment.specs.declared.query.QueryTree.{QueryTree}
use Rattle.agg_segment.proofs.EncodedColumns.{front_all}
use Rattle.agg_request_tree.specs.Request.{Request}
use Rattle.agg_request_tree.specs.charges.Roof.{counts_of}
use Rattle.agg_request_tree.specs.charges.Roof.Height.{High}
use Rattle.agg_request_tree.proofs.lemmas.charges.LawfulRequests.{Lawful-request}
use Rattle.agg_request_tree.proofs.lemmas.charges.WithinLists.{Within-more}
use Rattle.agg_composite.specs.buckets.Visits.{docs_in}
use Rattle.agg_engine_tree.specs.segment_context.Context.{IsContextOf, Meaning}
use Rattle.agg_engine_tree.specs.segment_context.Plan.{plan_of, plans_of}
use Rattle.agg_engine_tree.specs.declared.segment_context.context.PerRequestAggSegCtx.{
  PerRequestAggSegCtx,
}
use Rattle.agg_engine_tree.specs.collector_tree.Tree.{Held, Takes, held_of}
use Rattle.agg_engine_tree.specs.held_bytes.HeldBytes.{held_bytes}
use Rattle.agg_engine_tree.specs.held_bytes.Trees.{IsTreeOf}
use Rattle.agg_engine_tree.proofs.lemmas.held_bytes.GrownBytes.{held-more}
use Rattle.agg_engine_tree.proofs.lemmas.held_bytes.TreeLaws.{most-one}
use Rattle.agg_engine.specs.snapshot_results.ChargedTrees.{ChargesAnew, IsChargeCause, IsCharged}
use Rattle.agg_engine.specs.snapshot_results.ChargedTrees.{IsFixedCause, IsHeldCause}
use Rattle.agg_engine.specs.snapshot_results.MemoryLimits.{TellsMemory}
use Rattle.agg_engine.specs.snapshot_results.Trees.{IsNew, IsRight}
use Rattle.agg_engine.specs.declared.snapshot_results.charge_error.ChargeError.{ChargeError}
use Rattle.agg_engine.specs.declared.snapshot_results.charge_error.ChargeError.TheVariants as error
use Rattle.agg_engine.specs.declared.snapshot_results.charged_tree.ChargedTree.{ChargedTree}
use Rattle.agg_engine.proofs.lemmas.snapshot_results.RightTrees.{right-more}
use Rattle.agg_engine.proofs.lemmas.snapshot_results.TakenParts.{documents-append}

-- ---- what is told

-- bytes that were refused within so much are refused within more
pub tells-within : (limit limit_now most most_now given_up given_up_now told current : ℕ)
    → limit_now ≡ limit → most + given_up_now ≤ most_now + given_up
    → TellsMemory limit most given_up told current
    → TellsMemory limit_now most_now given_up_now told current
tells-within limit limit_now most most_now given_up given_up_now told current same more tells =
    record {
      is_limit = tells.is_limit ∙ sym same;
      sum = tells.sum;
      above = omega (arith, tells.above, same);
      within = omega (arith, tells.within, more);
      is_sum = tells.is_sum;
    }

-- ---- what is counted

module _ (request : Request QueryTree) where
  -- no bytes are counted over no documents
  pub no-bytes : counts_of matches request High [] ≡ 0
  no-bytes =
      let lawful = Lawful-request matches request in
      omega (arith, lawful.most [], lawful.weighs [])

  -- no fewer bytes are counted where documents are added
  pub bytes-more : (xs ys : List Fields)
      → counts_of matches request High xs ≤ counts_of matches request High (xs ++ ys)
  bytes-more xs ys = (Lawful-request matches request).rises xs (xs ++ ys) (Within-more xs ys)

-- documents that are taken under parent 0
pub under-zero : (docs : List ℕ) → All (λ e. e.0 ≡ 0) (under 0 docs)
under-zero docs =
    All-map (λ (e : ℕ × ℕ). e.0 ≡ 0) (λ doc. (0, doc)) docs (λ k d within. refl)

-- ---- what a tree holds

module _ (ctx : PerRequestAggSegCtx) (request : Request QueryTree) (meaning : Meaning)
    (held : Held) where
  module _ (taken : List (ℕ × ℕ)) (visits : ℕ)
      (right : IsRight ctx request meaning held taken visits) where
    -- a tree that is right is one of its request
    pub tree-of : IsTreeOf meaning ctx request held taken
    tree-of = record {
      meant = right.context.meant;
      plans = plans_of (map plan_of ctx.agg_tree);
      asked = right.context.tree;
      nodes = right.nodes;
      fits = right.fits;
      visits = visits;
      right = right.right;
    }

    -- it holds at most what its request counts over the documents
    pub held-most : All (λ e. e.0 ≡ 0) taken
        → held_bytes ctx held
        ≤ counts_of matches request High (documents_at meaning.segment (docs_in taken))
    held-most zero = most-one meaning ctx request held taken tree-of zero

  -- a new one holds nothing
  pub held-new : (segment : Stored) → meaning.segment ≡ segment → IsContextOf meaning ctx request
      → IsNew ctx segment held → held_bytes ctx held ≡ 0
  held-new segment same context new =
      let right : IsRight ctx request meaning held [] 0 = record {
        context = context;
        nodes = new.nodes;
        fits = new.fits;
        right = new.right meaning same context.meant;
      } in
      omega (arith, held-most [] 0 right (All-nil (λ (e : ℕ × ℕ). e.0 ≡ 0)), no-bytes request)

-- ---- what is charged

module _ (old new : ChargedTree) (limits limits_now : Limits)
    (charges : ChargesAnew old new limits limits_now) where
  -- a ledger has the bytes of a tree in use after a call, as before it
  pub charges-within : old.guard ≤ limits.in_use → new.guard ≤ limits_now.in_use
  charges-within within = omega (arith, charges.in_use, within)

  -- calls one after another
  pub charges-both : (last : ChargedTree) (limits_last : Limits)
      → ChargesAnew new last limits_now limits_last → ChargesAnew old last limits limits_last
  charges-both last limits_last second = record {
    fixed = second.fixed ∙ charges.fixed;
    grows = omega (arith, charges.grows, second.grows);
    in_use = omega (arith, charges.in_use, second.in_use);
    memory_limit = second.memory_limit ∙ charges.memory_limit;
    bucket_limit = second.bucket_limit ∙ charges.bucket_limit;
  }

-- ---- why it is refused

module _ (ctx : PerRequestAggSegCtx) (pairs : List (ℕ × ℕ)) (old mid : ChargedTree)
    (limits : Limits) (all : Bool) (steps steps_now : ℕ)
    (took : Takes ctx pairs all (held_of old.tree) (held_of mid.tree) steps steps_now)
    (fixed : mid.fixed ≡ old.fixed) (guard : mid.guard ≡ old.guard) where
  -- a tree that took documents has what is charged for it at least
  pub grown-taken : IsCharged ctx old → mid.guard ≤ mid.fixed + held_bytes ctx (held_of mid.tree)
  grown-taken charged =
      omega (
        arith,
        charged,
        fixed,
        guard,
        held-more ctx (held_of old.tree) (held_of mid.tree) took.nodes,
      )

  -- a tree that took documents, and whose growth isn't charged
  pub cause-taken : (e : ChargeError) → IsHeldCause ctx mid limits e
      → IsChargeCause ctx pairs old limits e
  cause-taken (error.MemoryExceeded told current) tells = λ request meaning taken visits right zero.
      let now = right-more ctx request meaning pairs all (held_of old.tree) (held_of mid.tree)
      steps steps_now took taken visits right in
      let most = held-most ctx request meaning (held_of mid.tree) (taken ++ pairs) now.0 now.1 zero
      in
      tells-within limits.memory_limit limits.memory_limit
      (limits.in_use + mid.fixed + held_bytes ctx (held_of mid.tree))
      (limits.in_use + old.fixed
      + counts_of matches request High
      (documents_at meaning.segment (docs_in (taken ++ pairs)))) mid.guard old.guard told current
      refl (omega (arith, most, fixed, guard)) tells
  cause-taken error.OutOfMemory tells = tt

module _ (ctx : PerRequestAggSegCtx) (old : ChargedTree) (limits : Limits) where
  -- a tree whose growth isn't charged
  pub cause-growth : (bytes : ℕ) → bytes ≡ old.fixed + held_bytes ctx (held_of old.tree)
      → old.guard ≤ old.fixed + held_bytes ctx (held_of old.tree) → (e : ChargeError)
      → IsFixedCause (bytes - old.guard) limits e → IsHeldCause ctx old limits e
  cause-growth bytes are grown (error.MemoryExceeded told current) tells =
      tells-within limits.memory_limit limits.memory_limit (limits.in_use + (bytes - old.guard))
      (limits.in_use + old.fixed + held_bytes ctx (held_of old.tree)) 0 old.guard told current refl
      (omega (arith, are, grown)) tells
  cause-growth bytes are grown error.OutOfMemory tells = tt

  -- one that takes more bytes than 64 bits hold
  pub cause-past : limits.memory_limit < 2 ^ 64 → old.guard ≤ limits.in_use
      → 2 ^ 64 ≤ old.fixed + held_bytes ctx (held_of old.tree) → (e : ChargeError)
      → e ≡ error.MemoryExceeded limits.memory_limit (2 ^ 64 - 1) → IsHeldCause ctx old limits e
  cause-past low within many e is =
      let all = limits.in_use + old.fixed + held_bytes ctx (held_of old.tree) - old.guard in
      subst (IsHeldCause ctx old limits) (sym is) (record {
        is_limit = refl;
        sum = all;
        above = omega (arith, low, within, many);
        within = omega (arith, within, many);
        is_sum = sym (min-eq_right (omega (arith, within, many)));
      })

module _ (ctx : PerRequestAggSegCtx) (xs ys : List (ℕ × ℕ)) (old : ChargedTree)
    (limits : Limits) where
  -- a refusal of the first part is one of both
  pub cause-first : (e : ChargeError) → IsChargeCause ctx xs old limits e
      → IsChargeCause ctx (xs ++ ys) old limits e
  cause-first (error.MemoryExceeded told current) cause = λ request meaning taken visits right zero.
      let documents : List (ℕ × ℕ) → List Fields =
      λ pairs. documents_at meaning.segment (docs_in pairs) in
      let bytes : List Fields → ℕ = counts_of matches request High in
      let same : taken ++ (xs ++ ys) ≡ taken ++ xs ++ ys = sym (append_assoc taken xs ys) in
      let front : All (λ e. e.0 ≡ 0) (taken ++ xs) =
      front_all (λ (e : ℕ × ℕ). e.0 ≡ 0) (taken ++ xs) ys (subst (All (λ e. e.0 ≡ 0)) same zero) in
      tells-within limits.memory_limit limits.memory_limit
      (limits.in_use + old.fixed + bytes (documents (taken ++ xs)))
      (limits.in_use + old.fixed + bytes (documents (taken ++ (xs ++ ys)))) old.guard old.guard
      told current refl
      (omega (
        arith,
        bytes-more request (documents (taken ++ xs)) (documents ys),
        ap bytes (documents-append request meaning (taken ++ xs) ys),
        ap (λ pairs. bytes (documents pairs)) same,
      ))
      (cause request meaning taken visits right front)
  cause-first error.OutOfMemory cause = tt

  -- a refusal of the second part, after the first, is one of both
  pub cause-second : (mid : ChargedTree) (limits_mid : Limits) (steps steps_mid : ℕ)
      → Takes ctx xs false (held_of old.tree) (held_of mid.tree) steps steps_mid
      → ChargesAnew old mid limits limits_mid → (e : ChargeError)
      → IsChargeCause ctx ys mid limits_mid e → IsChargeCause ctx (xs ++ ys) old limits e
  cause-second mid limits_mid steps steps_mid took charges (error.MemoryExceeded told current)
      cause = λ request meaning taken visits right zero.
      let bytes : List (ℕ × ℕ) → ℕ = λ pairs.
      counts_of matches request High (documents_at meaning.segment (docs_in pairs)) in
      let same : taken ++ (xs ++ ys) ≡ taken ++ xs ++ ys = sym (append_assoc taken xs ys) in
      let now = right-more ctx request meaning xs false (held_of old.tree) (held_of mid.tree) steps
      steps_mid took taken visits right in
      tells-within limits_mid.memory_limit limits.memory_limit
      (limits_mid.in_use + mid.fixed + bytes (taken ++ xs ++ ys))
      (limits.in_use + old.fixed + bytes (taken ++ (xs ++ ys))) mid.guard old.guard told current
      (sym charges.memory_limit)
      (omega (arith, charges.in_use, charges.fixed, ap bytes same))
      (cause request meaning (taken ++ xs) now.0 now.1 (subst (All (λ e. e.0 ≡ 0)) same zero))
  cause-second mid limits_mid steps steps_mid took charges error.OutOfMemory cause = tt
