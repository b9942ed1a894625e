-- The buckets of all parents, one visit on.
use Rattle.std.proofs.Common.{◌≡◌, ◌<◌, ◌≤◌, ◌+◌, ◌⊎◌, inl, inr, ℕ, List, [], ◌∷◌, ◌++◌}
use Rattle.std.proofs.Common.{get_or, true}
use Rattle.std.proofs.Common.{false, Option, None, Some, length, refl, sym, ap, ◌∙◌, subst, arith}
use Rattle.std.proofs.Common.{⊎_elim, Ordering}
use Rattle.std.specs.Cmp.{IsTotalOrder}
use Rattle.std.proofs.lemmas.Bool.{cases_Bool}
use Rattle.std.proofs.lemmas.List.{length_push}
use Rattle.agg_cache.specs.Waiting.{docs_of, is_id}
use Rattle.agg_composite.specs.buckets.Node.{AreAscending, AreWithinSize, BucketsFor, IsPast}
use Rattle.agg_composite.specs.buckets.Node.{IsRightFor, Right, found}
use Rattle.agg_composite.specs.buckets.Page.{Page, more, opened}
use Rattle.agg_composite.specs.buckets.Visits.{Owner, Visit, is_owner}
use Rattle.agg_composite.specs.declared.buckets.bucket.Bucket.{Bucket}
use Rattle.agg_composite.proofs.lemmas.buckets.BucketSteps.{more-right, new-right, none-right}
use Rattle.agg_composite.proofs.lemmas.buckets.BucketSteps.{other-right, past-right}
use Rattle.agg_composite.proofs.lemmas.buckets.Labels.{docs_of-other, is_id-other}
use Rattle.agg_composite.proofs.lemmas.buckets.Labels.{within-more, within-push}
use Rattle.agg_composite.proofs.lemmas.buckets.Owners.{found-same, owner-flips, owner-same}
use Rattle.agg_composite.proofs.lemmas.buckets.Owners.{past-same}

pub some-same : (a b : Bucket) → Some a ≡ Some b → a ≡ b
some-same a b e = cc

pub no-some : {A : Type 0} (P : Type 0) (x : Option A) (a : A) → x ≡ None → x ≡ Some a → P
no-some P x a e f = absurd (cc (sym e ∙ f))

-- ---- the buckets of all parents

-- the bucket of an owner is put
pub record PutsAt {S : Type 0} (R : S → S → Ordering) (size : ℕ) (o : Owner S) (b : Bucket)
    (old new : List (Page S)) : Type 0 where
  pub here : found R new o ≡ Some b
  pub others : (q : Owner S) → is_owner R o q ≡ false → (found R new q ≡ found R old q)
      ⊎ ((found R new q ≡ None) × IsPast R size new q)
  pub ascending : AreAscending R old → AreAscending R new
  pub fits : AreWithinSize size old → AreWithinSize size new
  pub no_fewer : (p : ℕ) → length (get_or old p []) ≤ length (get_or new p [])
  pub fuller : (q : Owner S) → IsPast R size old q → IsPast R size new q
  pub long : length new ≡ length old

module _ {S : Type 0} (R : S → S → Ordering) (total : IsTotalOrder R) (size : ℕ) (o : Owner S)
    (doc : ℕ) (next : ℕ) (vs : List (Visit S)) (ws : List (ℕ × ℕ)) where
  -- the visits, with one more
  abbrev After : List (Visit S)
  After = vs ++ (o, doc) ∷ []

  module _ (old new : List (Page S)) (f : BucketsFor R size old next vs ws) where
    -- what is right for an owner's bucket before
    right-at : (q : Owner S) (x : Option Bucket) → found R old q ≡ x
        → IsRightFor (is_owner R q) vs ws next (IsPast R size old q) x
    right-at q x is =
        subst (IsRightFor (is_owner R q) vs ws next (IsPast R size old q)) is (f.right q)

    flipped : (q : Owner S) → is_owner R o q ≡ false → is_owner R q o ≡ false
    flipped q e = owner-flips R total q o ∙ e

    back : (q : Owner S) → is_owner R o q ≡ true → is_owner R q o ≡ true
    back q e = owner-flips R total q o ∙ e

    -- what the bucket that another owner has now was before
    was-other : (b : Bucket) → PutsAt R size o b old new → (q : Owner S) (c : Bucket)
        → is_owner R o q ≡ false → found R new q ≡ Some c → found R old q ≡ Some c
    was-other b put q c e is =
        ⊎_elim (λ same. sym same ∙ is)
        (λ gone. no-some (found R old q ≡ Some c) (found R new q) c gone.0 is)
        (put.others q e)

    is-here : (b : Bucket) → PutsAt R size o b old new → (q : Owner S) (c : Bucket)
        → is_owner R o q ≡ true → found R new q ≡ Some c → b ≡ c
    is-here b put q c e is =
        some-same b c (sym put.here ∙ found-same R total o q e new ∙ is)

    -- ---- of a bucket that is there

    module _ (b : Bucket) (was : found R old o ≡ Some b)
        (put : PutsAt R size o (more b) old new) where
      own-there : Right (is_owner R o) vs ws next b
      own-there = right-at o (Some b) was

      there-other : (q : Owner S) → is_owner R o q ≡ false → (x : Option Bucket)
          → found R old q ≡ x → IsRightFor (is_owner R q) vs ws next (IsPast R size old q) x
          → IsRightFor (is_owner R q) After (ws ++ (b.id, doc) ∷ []) next (IsPast R size new q) x
      there-other q e None is r =
          none-right (is_owner R q) vs o doc (IsPast R size old q) (IsPast R size new q)
          (put.fuller q) (flipped q e) r
      there-other q e (Some c) is r =
          other-right (is_owner R q) vs o doc ws next next c b.id r
          (λ same. cc (sym e ∙ f.ids o q b c was is (sym same))) (flipped q e) (omega arith)

      there-right : (q : Owner S) → IsRightFor (is_owner R q) After (ws ++ (b.id, doc) ∷ []) next
          (IsPast R size new q) (found R new q)
      there-right q =
          let P = IsRightFor (is_owner R q) After (ws ++ (b.id, doc) ∷ []) next
          (IsPast R size new q) in
          elim (cases_Bool (is_owner R o q)) [
            | inl e ↦
                subst P (sym put.here ∙ found-same R total o q e new)
                (more-right (is_owner R q) vs o doc ws next b
                (right-at q (Some b) (sym (found-same R total o q e old) ∙ was)) (back q e))
            | inr e ↦
                ⊎_elim
                (λ same. subst P (sym same) (there-other q e (found R old q) refl (f.right q)))
                (λ gone. subst P (sym gone.0) (inr gone.1))
                (put.others q e)
          ]

      there-was : (q : Owner S) (c : Bucket) → found R new q ≡ Some c
          → (d : Bucket) × (found R old q ≡ Some d) × (d.id ≡ c.id)
      there-was q c is = elim (cases_Bool (is_owner R o q)) [
        | inl e ↦ (
          b,
          sym (found-same R total o q e old) ∙ was,
          ap (λ d. d.id) (is-here (more b) put q c e is),
        )
        | inr e ↦ (c, was-other (more b) put q c e is, refl)
      ]

      pub counts-right : BucketsFor R size new next After (ws ++ (b.id, doc) ∷ [])
      counts-right = record {
        ascending = put.ascending f.ascending;
        fits = put.fits f.fits;
        right = there-right;
        ids = λ q r c d is_q is_r same.
            let cq = there-was q c is_q in
            let cr = there-was r d is_r in
            f.ids q r cq.0 cr.0 cq.1 cr.1 (cq.2 ∙ same ∙ sym cr.2);
        fresh = λ id l.
            docs_of-other (is_id id) ws b.id doc
            (is_id-other id b.id (omega (arith, own-there.low, l))) ∙ f.fresh id l;
        few = omega (arith, f.few, length_push ws (b.id, doc));
        part = within-push ws vs b.id o doc f.part;
      }

    -- ---- of a new bucket

    module _ (was : found R old o ≡ None) (not_past : IsPast R size old o → ⊥)
        (put : PutsAt R size o (opened next) old new) where
      unvisited : docs_of (is_owner R o) vs ≡ []
      unvisited = ⊎_elim (λ e. e) (λ past. absurd (not_past past)) (right-at o None was)

      low-id : (q : Owner S) (c : Bucket) → found R old q ≡ Some c → c.id < next
      low-id q c is =
          let r : Right (is_owner R q) vs ws next c = right-at q (Some c) is in
          r.low

      opens-other : (q : Owner S) → is_owner R o q ≡ false → (x : Option Bucket)
          → found R old q ≡ x → IsRightFor (is_owner R q) vs ws next (IsPast R size old q) x
          → IsRightFor (is_owner R q) After (ws ++ (next, doc) ∷ []) (next + 1)
          (IsPast R size new q) x
      opens-other q e None is r =
          none-right (is_owner R q) vs o doc (IsPast R size old q) (IsPast R size new q)
          (put.fuller q) (flipped q e) r
      opens-other q e (Some c) is r =
          other-right (is_owner R q) vs o doc ws next (next + 1) c next r
          (λ same. absurd (omega (arith, r.low, same))) (flipped q e) (omega arith)

      opens-at : (q : Owner S) → IsRightFor (is_owner R q) After (ws ++ (next, doc) ∷ [])
          (next + 1) (IsPast R size new q) (found R new q)
      opens-at q =
          let P = IsRightFor (is_owner R q) After (ws ++ (next, doc) ∷ []) (next + 1)
          (IsPast R size new q) in
          elim (cases_Bool (is_owner R o q)) [
            | inl e ↦
                subst P (sym put.here ∙ found-same R total o q e new)
                (new-right (is_owner R q) vs o doc ws next (f.fresh next (omega arith))
                (ap (λ own. docs_of own vs) (sym (owner-same R total o q e)) ∙ unvisited)
                (back q e))
            | inr e ↦
                ⊎_elim
                (λ same. subst P (sym same) (opens-other q e (found R old q) refl (f.right q)))
                (λ gone. subst P (sym gone.0) (inr gone.1))
                (put.others q e)
          ]

      new-id : (q : Owner S) (c : Bucket) → is_owner R o q ≡ true → found R new q ≡ Some c
          → c.id ≡ next
      new-id q c e is = sym (ap (λ d. d.id) (is-here (opened next) put q c e is))

      opens-ids : (q r : Owner S) (c d : Bucket) → found R new q ≡ Some c → found R new r ≡ Some d
          → c.id ≡ d.id → is_owner R q r ≡ true
      opens-ids q r c d is_q is_r same = elim (cases_Bool (is_owner R o q)) [
        | inl e ↦ elim (cases_Bool (is_owner R o r)) [
          | inl h ↦ ap (λ own. own r) (sym (owner-same R total o q e)) ∙ h
          | inr h ↦
              let new_id = new-id q c e is_q in
              let low = low-id r d (was-other (opened next) put r d h is_r) in
              absurd (omega (arith, new_id, low, same))
        ]
        | inr e ↦ elim (cases_Bool (is_owner R o r)) [
          | inl h ↦
              let new_id = new-id r d h is_r in
              let low = low-id q c (was-other (opened next) put q c e is_q) in
              absurd (omega (arith, new_id, low, same))
          | inr h ↦
              f.ids q r c d (was-other (opened next) put q c e is_q)
              (was-other (opened next) put r d h is_r) same
        ]
      ]

      pub opens-right : BucketsFor R size new (next + 1) After (ws ++ (next, doc) ∷ [])
      opens-right = record {
        ascending = put.ascending f.ascending;
        fits = put.fits f.fits;
        right = opens-at;
        ids = opens-ids;
        fresh = λ id l.
            docs_of-other (is_id id) ws next doc (is_id-other id next (omega arith))
            ∙ f.fresh id (omega arith);
        few = omega (arith, f.few, length_push ws (next, doc));
        part = within-push ws vs next o doc f.part;
      }

    -- ---- of a tuple above a full page

    past-at : IsPast R size old o → (q : Owner S) (x : Option Bucket) → found R old q ≡ x
        → IsRightFor (is_owner R q) vs ws next (IsPast R size old q) x → found R old o ≡ None
        → IsRightFor (is_owner R q) After ws next (IsPast R size old q) x
    past-at past q None is r was = elim (cases_Bool (is_owner R o q)) [
      | inl e ↦ inr (past-same R total o q e size old past)
      | inr e ↦
          none-right (is_owner R q) vs o doc (IsPast R size old q) (IsPast R size old q) (λ a. a)
          (flipped q e) r
    ]
    past-at past q (Some c) is r was = elim (cases_Bool (is_owner R o q)) [
      | inl e ↦
          no-some (Right (is_owner R q) After ws next c) (found R old q) c
          (sym (found-same R total o q e old) ∙ was) is
      | inr e ↦ past-right (is_owner R q) vs o doc ws next c r (flipped q e)
    ]

    pub left-right : found R old o ≡ None → IsPast R size old o
        → BucketsFor R size old next After ws
    left-right was past = record {
      ascending = f.ascending;
      fits = f.fits;
      right = λ q. past-at past q (found R old q) refl (f.right q) was;
      ids = f.ids;
      fresh = f.fresh;
      few = f.few;
      part = within-more ws vs o doc f.part;
    }
