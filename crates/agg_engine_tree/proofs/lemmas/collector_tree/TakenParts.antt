-- A tree takes documents in two parts.
use Rattle.std.proofs.Common.{◌≤◌, ◌++◌, ℕ, List, [], Bool, false, length, take, ◌∙◌, sym, subst}
use Rattle.std.proofs.Common.{arith, append-nil}
use Rattle.std.proofs.lemmas.List.{append_assoc, take_all}
use Rattle.agg_cache.specs.Waiting.{pairs_of}
use Rattle.agg_cache.specs.declared.cache.Batch.{Batch}
use Rattle.agg_engine_tree.specs.declared.segment_context.context.PerRequestAggSegCtx.{
  PerRequestAggSegCtx,
}
use Rattle.agg_engine_tree.specs.collector_tree.Tree.{GrowsTo, AllGrowTo, Held, Helds, IsFor, Takes}
use Rattle.agg_engine_tree.proofs.lemmas.collector_tree.Levels.{same-itself}

mutual
  -- trees with the nodes of a third have the same nodes
  same-both : (a b c : Held) → GrowsTo a b → GrowsTo b c → GrowsTo a c
  same-both (Held.composite i x a) (Held.composite j y b) (Held.composite k z c) one two =
      (one.0 ∙ two.0, same-both a b c one.1 two.1, omega (arith, one.2, two.2))
  same-both (Held.filter i x a) (Held.filter j y b) (Held.filter k z c) one two =
      (one.0 ∙ two.0, same-both a b c one.1 two.1)
  same-both (Held.metric i x) (Held.metric j y) (Held.metric k z) one two = one ∙ two
  same-both (Held.group hs) (Held.group ks) (Held.group ls) one two = all-both hs ks ls one two
  same-both (Held.composite i x a) (Held.composite j y b) c one two = absurd two
  same-both (Held.filter i x a) (Held.filter j y b) c one two = absurd two
  same-both (Held.metric i x) (Held.metric j y) c one two = absurd two
  same-both (Held.group hs) (Held.group ks) c one two = absurd two
  same-both a b c one two = absurd one

  all-both : (hs ks ls : Helds) → AllGrowTo hs ks → AllGrowTo ks ls → AllGrowTo hs ls
  all-both Helds.none Helds.none Helds.none one two = tt
  all-both (Helds.more a hs) (Helds.more b ks) (Helds.more c ls) one two =
      (same-both a b c one.0 two.0, all-both hs ks ls one.1 two.1)
  all-both Helds.none Helds.none ls one two = absurd two
  all-both (Helds.more a hs) (Helds.more b ks) ls one two = absurd two
  all-both hs ks ls one two = absurd one

-- no part is taken
pub takes-none : (ctx : PerRequestAggSegCtx) (h : Held) (steps : ℕ)
    → Takes ctx [] false h h steps steps
takes-none ctx h steps = record {
  takes = λ meaning meant taken visits right. (
    visits,
    subst (λ pairs. IsFor meaning ctx h pairs visits) (sym (append-nil taken)) right,
    omega arith,
    omega arith,
    omega arith,
  );
  nodes = same-itself h;
  fits = λ fits. fits;
  flushed = λ e. absurd (cc e);
}

-- where no batch is left, all are taken
pub taken-all : (ctx : PerRequestAggSegCtx) (batches : List Batch) (i : ℕ) → length batches ≤ i
    → (old mid : Held) (steps steps_mid : ℕ)
    → Takes ctx (pairs_of (take i batches)) false old mid steps steps_mid
    → Takes ctx (pairs_of batches) false old mid steps steps_mid
taken-all ctx batches i past old mid steps steps_mid =
    subst (λ all. Takes ctx (pairs_of all) false old mid steps steps_mid) (take_all i batches past)

module _ (ctx : PerRequestAggSegCtx) (xs ys : List (ℕ × ℕ)) (old mid : Held) (steps steps_mid : ℕ)
    (first : Takes ctx xs false old mid steps steps_mid) where
  -- both parts are taken
  pub takes-both : (all : Bool) (new : Held) (steps_now : ℕ)
      → Takes ctx ys all mid new steps_mid steps_now
      → Takes ctx (xs ++ ys) all old new steps steps_now
  takes-both all new steps_now second = record {
    takes = λ meaning meant taken visits right.
        let a = first.takes meaning meant taken visits right in
        let b = second.takes meaning meant (taken ++ xs) a.0 a.1 in (
          b.0,
          subst (λ pairs. IsFor meaning ctx new pairs b.0) (append_assoc taken xs ys) b.1,
          omega (arith, a.2, b.2),
          omega (arith, a.3, b.3),
          omega (arith, a.4, b.4),
        );
    nodes = same-both old mid new first.nodes second.nodes;
    fits = λ fits. second.fits (first.fits fits);
    flushed = second.flushed;
  }
