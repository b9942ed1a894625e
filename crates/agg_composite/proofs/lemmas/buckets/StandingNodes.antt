-- Nodes that are right without a visit, or stay so.
use Rattle.std.proofs.Common.{◌≡◌, ℕ, true, zero, suc, List, [], ◌∷◌, length}
use Rattle.std.proofs.Common.{get_or, refl, sym, ap, ◌∙◌, subst, arith, append-nil, inl, Ordering}
use Rattle.std.specs.BTreeMap.{is_at}
use Rattle.std.specs.List.Sorted.{IsStrictlySortedBy}
use Rattle.std.specs.Map.{keys_of, lookup}
use Rattle.agg_composite.specs.buckets.Laws.{StayRight}
use Rattle.agg_composite.specs.buckets.Node.{BucketsFor, IsNew, IsRightFor, Node, NodeFor}
use Rattle.agg_composite.specs.buckets.Node.{Prepares, found}
use Rattle.agg_composite.specs.buckets.Page.{IsAbove, Page}
use Rattle.agg_composite.specs.buckets.Visits.{Visit, is_owner}
use Rattle.agg_composite.proofs.lemmas.buckets.Labels.{within-same}
use Rattle.agg_composite.proofs.lemmas.buckets.NodeSteps.{no-some}

module _ {S : Type 0} (R : S → S → Ordering) where
  no_buckets : (p : ℕ) → get_or {A = Page S} ([] ∷ []) p [] ≡ []
  no_buckets zero = refl
  no_buckets (suc p) = refl

  nothing-visited : (size : ℕ) (parents : List (Page S)) → ((p : ℕ) → get_or parents p [] ≡ [])
      → BucketsFor R size parents 0 [] []
  unfolding IsStrictlySortedBy
  nothing-visited size parents none = record {
    ascending = λ p. subst (λ bs. IsStrictlySortedBy R (keys_of bs)) (sym (none p)) tt;
    fits = λ p. let e = ap length (none p) in omega (arith, e);
    right = λ o.
        subst (λ bs. IsRightFor (is_owner R o) [] [] 0 (IsAbove R size bs o.1)
        (lookup (is_at (R o.1)) bs)) (sym (none o.0)) (inl refl);
    ids = λ o q b c is_o is_q same.
        no-some (is_owner R o q ≡ true) (found R parents o) b
        (ap (lookup (is_at (R o.1))) (none o.0)) is_o;
    fresh = λ id l. refl;
    few = omega arith;
    part = within-same [];
  }

  new-node : (node : Node S) (size : ℕ) → IsNew node
      → BucketsFor R size node.parents node.next [] node.pushes
  new-node node size new =
      let none : (p : ℕ) → get_or node.parents p [] ≡ [] =
      λ p. ap (λ ps. get_or ps p []) new.parents ∙ no_buckets p in
      subst (λ n. BucketsFor R size node.parents n [] node.pushes) (sym new.next)
      (subst (BucketsFor R size node.parents 0 []) (sym new.pushes)
      (nothing-visited size node.parents none))

  -- buckets are right for more parents too, where each parent has the page that it had
  same-pages : (size next : ℕ) (old new : List (Page S)) (vs : List (Visit S)) (ws : List (ℕ × ℕ))
      → ((p : ℕ) → get_or new p [] ≡ get_or old p []) → BucketsFor R size old next vs ws
      → BucketsFor R size new next vs ws
  same-pages size next old new vs ws same f = record {
    ascending = λ p.
        subst (λ bs. IsStrictlySortedBy R (keys_of bs)) (sym (same p)) (f.ascending p);
    fits = λ p. let e = ap length (same p) in let fits = f.fits p in omega (arith, e, fits);
    right = λ o.
        subst (λ bs. IsRightFor (is_owner R o) vs ws next (IsAbove R size bs o.1)
        (lookup (is_at (R o.1)) bs)) (sym (same o.0)) (f.right o);
    ids = λ o q b c is_o is_q.
        f.ids o q b c (ap (lookup (is_at (R o.1))) (sym (same o.0)) ∙ is_o)
        (ap (lookup (is_at (R q.1))) (sym (same q.0)) ∙ is_q);
    fresh = f.fresh;
    few = f.few;
    part = f.part;
  }

  prepared-node : (old new : Node S) (size : ℕ) (visited : List (Visit S))
      (handed : List (ℕ × ℕ)) → Prepares old new
      → BucketsFor R size old.parents old.next visited handed
      → BucketsFor R size new.parents new.next visited handed
  prepared-node old new size vs ws p f =
      subst (λ n. BucketsFor R size new.parents n vs ws) (sym (ap (λ node. node.next) p.rest))
      (same-pages size old.next old.parents new.parents vs ws p.buckets f)

  begun-node : (node : Node S) (parent size : ℕ) (visited : List (Visit S))
      (handed : List (ℕ × ℕ)) → BucketsFor R size node.parents node.next visited handed
      → NodeFor R (record node { parent = parent; size = size; pushes = [] }) visited handed
  begun-node node parent size vs ws f =
      subst (BucketsFor R size node.parents node.next vs) (sym (append-nil ws)) f

  pub stay-right : StayRight R
  stay-right = record { new = new-node; prepared = prepared-node; begun = begun-node }
