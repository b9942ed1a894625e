-- One visit of a node.
use Rattle.std.proofs.Common.{◌≡◌, ◌+◌, ◌<◌, ℕ, List, [], ◌∷◌, ◌++◌, Option, None}
use Rattle.std.proofs.Common.{Some, length, get_or, set, refl, sym, ap, ◌∙◌, subst, arith}
use Rattle.std.proofs.Common.{append_assoc, ⊎_elim, inl, inr, Ordering}
use Rattle.std.specs.BTreeMap.{is_at}
use Rattle.std.specs.Cmp.{IsTotalOrder}
use Rattle.std.specs.Map.{lookup}
use Rattle.std.proofs.lemmas.Bool.{cases_Bool}
use Rattle.std.proofs.lemmas.List.{set-get_or}
use Rattle.agg_composite.specs.buckets.Node.{BucketsFor, IsGrown, IsPast, Node, Takes, found}
use Rattle.agg_composite.specs.buckets.Page.{IsAbove, Page, PageTakes, Puts, more, opened}
use Rattle.agg_composite.specs.buckets.Visits.{Owner, Visit, is_owner}
use Rattle.agg_composite.specs.declared.buckets.bucket.Bucket.{Bucket}
use Rattle.agg_composite.proofs.lemmas.buckets.NodeSteps.{PutsAt, counts-right, left-right}
use Rattle.agg_composite.proofs.lemmas.buckets.NodeSteps.{opens-right}
use Rattle.agg_composite.proofs.lemmas.buckets.Owners.{found-same}
use Rattle.agg_composite.proofs.lemmas.buckets.PageParents.{puts-at}

module _ {S : Type 0} (R : S → S → Ordering) where
  -- ---- what came of buckets

  pub grown-same : (next n : ℕ) (A : Type 0) (x : Option Bucket) → IsGrown R next n A x x
  grown-same next n A None = tt
  grown-same next n A (Some b) = (refl, omega arith)

  grown-gone : (next n : ℕ) (A : Type 0) (x : Option Bucket) → A → IsGrown R next n A x None
  grown-gone next n A None a = tt
  grown-gone next n A (Some b) a = a

  grown-any : (next n : ℕ) (A B : Type 0) (x : Option Bucket) (c : Bucket)
      → IsGrown R next n A x (Some c) → IsGrown R next n B x (Some c)
  grown-any next n A B None c g = g
  grown-any next n A B (Some b) c g = g

  module _ (total : IsTotalOrder R) where
    grown-put : (size next : ℕ) (o : Owner S) (b : Bucket) (old new : List (Page S))
        → PutsAt R size o b old new
        → IsGrown R next 1 (IsPast R size new o) (found R old o) (Some b) → (q : Owner S)
        → IsGrown R next 1 (IsPast R size new q) (found R old q) (found R new q)
    grown-put size next o b old new put own q =
        let A = IsPast R size new q in
        elim (cases_Bool (is_owner R o q)) [
          | inl e ↦
              subst (IsGrown R next 1 A (found R old q))
              (sym put.here ∙ found-same R total o q e new)
              (subst (λ x. IsGrown R next 1 A x (Some b)) (found-same R total o q e old)
              (grown-any next 1 (IsPast R size new o) A (found R old o) b own))
          | inr e ↦
              ⊎_elim
              (λ same. subst (IsGrown R next 1 A (found R old q)) (sym same)
              (grown-same next 1 A (found R old q)))
              (λ gone. subst (IsGrown R next 1 A (found R old q)) (sym gone.0)
              (grown-gone next 1 A (found R old q) gone.1))
              (put.others q e)
        ]

    -- ---- one visit

    module _ (node : Node S) (t : S) (l : node.parent < length node.parents) (old page : Page S)
        (read : old ≡ get_or node.parents node.parent []) (next_now : ℕ)
        (pushes : List (ℕ × ℕ)) where
      abbrev New : List (Page S)
      New = set node.parents node.parent page

      abbrev After : Node S
      After = record node { parents = New; next = next_now; pushes = pushes }

      right_as : (vs : List (Visit S)) (ws : List (ℕ × ℕ)) (next id i : ℕ) → next_now ≡ next
          → id ≡ i → pushes ≡ node.pushes ++ (i, node.doc) ∷ []
          → BucketsFor R node.size New next (vs ++ ((node.parent, t), node.doc) ∷ [])
          ((ws ++ node.pushes) ++ (id, node.doc) ∷ [])
          → BucketsFor R node.size New next_now (vs ++ ((node.parent, t), node.doc) ∷ [])
          (ws ++ pushes)
      right_as vs ws next id i is same pushed f =
          let visits = vs ++ ((node.parent, t), node.doc) ∷ [] in
          let handed = append_assoc ws node.pushes ((id, node.doc) ∷ [])
          ∙ ap (λ j. ws ++ (node.pushes ++ (j, node.doc) ∷ [])) same
          ∙ ap (λ xs. ws ++ xs) (sym pushed) in
          subst (λ m. BucketsFor R node.size New m visits (ws ++ pushes)) (sym is)
          (subst (BucketsFor R node.size New next visits) handed f)

      -- of a tuple that has a bucket, or gets one
      pub takes-some : (id : ℕ) → PageTakes R node.size t node.next next_now old page (Some id)
          → pushes ≡ node.pushes ++ (id, node.doc) ∷ [] → Takes R (t ∷ []) node After
      takes-some id (inl (b, next, was, id_is, put)) pushed =
          let o : Owner S = (node.parent, t) in
          let at = puts-at R node.size node.parents node.parent t (more b) page l
          (subst (λ before. Puts R node.size t (more b) before page) read put) in
          let found_is = ap (lookup (is_at (R t))) (sym read) ∙ was in
          let size = node.size in
          record {
            node = record {
              takes = λ vs ws f. right_as vs ws node.next b.id id next id_is pushed
                  (counts-right R total size o node.doc node.next vs (ws ++ node.pushes)
                  node.parents New f b found_is at);
              long = at.long;
              no_fewer = at.no_fewer;
              size = refl;
              drawn = omega (arith, next);
              few = omega (arith, next);
              grown = grown-put size node.next o (more b) node.parents New at
                  (subst (λ x. IsGrown R node.next 1 (IsPast R size New o) x (Some (more b)))
                  (sym found_is) (refl, omega arith));
              fuller = at.fuller;
            };
            parent = refl;
            doc = refl;
          }
      takes-some id (inr (next, id_is, was, not_past, put)) pushed =
          let o : Owner S = (node.parent, t) in
          let at = puts-at R node.size node.parents node.parent t (opened node.next) page l
          (subst (λ before. Puts R node.size t (opened node.next) before page) read put) in
          let found_is = ap (lookup (is_at (R t))) (sym read) ∙ was in
          let below = λ (past : IsPast R node.size node.parents o).
          not_past (subst (λ before. IsAbove R node.size before t) (sym read) past) in
          let size = node.size in
          record {
            node = record {
              takes = λ vs ws f. right_as vs ws (node.next + 1) node.next id next (sym id_is) pushed
                  (opens-right R total size o node.doc node.next vs (ws ++ node.pushes)
                  node.parents New f found_is below at);
              long = at.long;
              no_fewer = at.no_fewer;
              size = refl;
              drawn = omega (arith, next);
              few = omega (arith, next);
              grown = grown-put size node.next o (opened node.next) node.parents New at
                  (subst
                  (λ x. IsGrown R node.next 1 (IsPast R size New o) x (Some (opened node.next)))
                  (sym found_is) (omega arith, omega arith));
              fuller = at.fuller;
            };
            parent = refl;
            doc = refl;
          }

    -- of a tuple above a full page
    left-takes : (node : Node S) (t : S)
        → found R node.parents (node.parent, t) ≡ None
        → IsPast R node.size node.parents (node.parent, t) → Takes R (t ∷ []) node node
    left-takes node t was past = record {
      node = record {
        takes = λ vs ws f.
            left-right R total node.size (node.parent, t) node.doc node.next vs (ws ++ node.pushes)
            node.parents node.parents f was past;
        long = refl;
        no_fewer = λ p. omega arith;
        size = refl;
        drawn = omega arith;
        few = omega arith;
        grown = λ q.
            grown-same node.next 1 (IsPast R node.size node.parents q) (found R node.parents q);
        fuller = λ q p. p;
      };
      parent = refl;
      doc = refl;
    }

    pub takes-none : (node : Node S) (t : S) (old page : Page S)
        → old ≡ get_or node.parents node.parent [] → (next_now : ℕ)
        → PageTakes R node.size t node.next next_now old page None
        → Takes R (t ∷ []) node
        (record node { parents = set node.parents node.parent page; next = next_now })
    takes-none node t old page read next_now (same, next, was, above) =
        let parents : set node.parents node.parent page ≡ node.parents =
        ap (set node.parents node.parent) (same ∙ read) ∙ set-get_or node.parents node.parent [] in
        subst (λ (e : List (Page S) × ℕ).
        Takes R (t ∷ []) node (record node { parents = e.0; next = e.1 }))
        (λ j. (sym parents j, sym next j))
        (left-takes node t (ap (lookup (is_at (R t))) (sym read) ∙ was)
        (subst (λ before. IsAbove R node.size before t) read above))
