-- Visits of a node in a row.
use Rattle.std.proofs.Common.{◌≡◌, ◌≤◌, ◌+◌, ◌^◌, inl, inr, ⊎_elim, ℕ, List, [], ◌++◌}
use Rattle.std.proofs.Common.{Option, None, Some, length, get_or, refl, sym, ap, ◌∙◌, subst, arith}
use Rattle.std.proofs.Common.{append_assoc, append-nil, length-append, Ordering}
use Rattle.std.specs.Cmp.{IsTotalOrder}
use Rattle.std.proofs.lemmas.List.{length-map, map-append}
use Rattle.agg_composite.specs.buckets.Laws.{TuplesCompose, VisitsCompose}
use Rattle.agg_composite.specs.buckets.Node.{IsGrown, IsPast, Node, NodeFor, NodeTakes, Takes}
use Rattle.agg_composite.specs.buckets.Node.{TooManyVisits, found}
use Rattle.agg_composite.specs.buckets.Visits.{Owner, Visit, visits_at}
use Rattle.agg_composite.specs.declared.buckets.bucket.Bucket.{Bucket}
use Rattle.agg_composite.proofs.lemmas.buckets.LargeNumbers.{many-visits}
use Rattle.agg_composite.proofs.lemmas.buckets.NodeVisits.{grown-same}
use Rattle.agg_composite.proofs.lemmas.buckets.Owners.{above-none}

module _ {S : Type 0} (R : S → S → Ordering) where
  -- ---- buckets that grew, and grew again

  grown-both : (n m a b : ℕ) (A B : Type 0) (x y z : Option Bucket) → n ≤ m → (A → B)
      → ((c : Bucket) → B → z ≡ Some c → ⊥) → IsGrown R n a A x y → IsGrown R m b B y z
      → IsGrown R n (a + b) B x z
  grown-both n m a b A B None None None l stays none p q = tt
  grown-both n m a b A B None None (Some z) l stays none p q =
      (omega (arith, q.0), omega (arith, q.1, l))
  grown-both n m a b A B None (Some y) None l stays none p q = tt
  grown-both n m a b A B None (Some y) (Some z) l stays none p q =
      (omega (arith, p.0, q.1), omega (arith, p.1, q.0))
  grown-both n m a b A B (Some x) None None l stays none p q = stays p
  grown-both n m a b A B (Some x) None (Some z) l stays none p q =
      absurd (none z (stays p) refl)
  grown-both n m a b A B (Some x) (Some y) None l stays none p q = q
  grown-both n m a b A B (Some x) (Some y) (Some z) l stays none p q =
      (q.0 ∙ p.0, omega (arith, p.1, q.1))

  module _ (total : IsTotalOrder R) where
    -- a tuple above a full page has no bucket there
    past-none : (node : Node S) (o : Owner S) (c : Bucket) → IsPast R node.size node.parents o
        → found R node.parents o ≡ Some c → ⊥
    past-none node o c past is =
        cc (sym (above-none R total node.size (get_or node.parents o.0 []) o.1 past) ∙ is)

    -- ---- a node

    node-none : (node : Node S) → NodeTakes R [] node node
    node-none node = record {
      takes = λ vs ws f. subst (λ us. NodeFor R node us ws) (sym (append-nil vs)) f;
      long = refl;
      no_fewer = λ p. omega arith;
      size = refl;
      drawn = omega arith;
      few = omega arith;
      grown = λ o.
          grown-same R node.next 0 (IsPast R node.size node.parents o) (found R node.parents o);
      fuller = λ o p. p;
    }

    node-both : (xs ys : List (Visit S)) (a b c : Node S) → NodeTakes R xs a b
        → NodeTakes R ys b c → NodeTakes R (xs ++ ys) a c
    node-both xs ys a b c p q =
        let long = length-append xs ys in
        record {
          takes = λ vs ws f.
              subst (λ us. NodeFor R c us ws) (append_assoc vs xs ys)
              (q.takes (vs ++ xs) ws (p.takes vs ws f));
          long = q.long ∙ p.long;
          no_fewer = λ parent. omega (arith, p.no_fewer parent, q.no_fewer parent);
          size = q.size ∙ p.size;
          drawn = omega (arith, p.drawn, q.drawn);
          few = omega (arith, p.few, q.few, long);
          grown = λ o.
              subst
              (λ n. IsGrown R a.next n (IsPast R c.size c.parents o) (found R a.parents o)
              (found R c.parents o))
              (sym long)
              (grown-both a.next b.next (length xs) (length ys) (IsPast R b.size b.parents o)
              (IsPast R c.size c.parents o) (found R a.parents o) (found R b.parents o)
              (found R c.parents o) p.drawn (q.fuller o) (past-none c o) (p.grown o) (q.grown o));
          fuller = λ o past. q.fuller o (p.fuller o past);
        }

    many-more : (m n : ℕ) (node : Node S) → m ≤ n → TooManyVisits R m node
        → TooManyVisits R n node
    many-more m n node l many = ⊎_elim
        (λ e. inl (omega (arith, l, e)))
        (λ e. inr (e.0, e.1, e.2, omega (arith, l, e.3)))
        many

    by_found : (a : Node S) (n m : ℕ) (A : Type 0) (o : Owner S) (c : Bucket) (x : Option Bucket)
        → found R a.parents o ≡ x → IsGrown R a.next n A x (Some c) → 2 ^ 64 ≤ c.count + m
        → TooManyVisits R (n + m) a
    by_found a n m A o c None is g l = inl (omega (arith, g.0, l))
    by_found a n m A o c (Some d) is g l = inr (o, d, is, omega (arith, g.1, l))

    many-after : (xs : List (Visit S)) (m : ℕ) (a b : Node S) → NodeTakes R xs a b
        → TooManyVisits R m b → TooManyVisits R (length xs + m) a
    many-after xs m a b p many = ⊎_elim
        (λ e. inl (omega (arith, p.few, e)))
        (λ e.
        let A = IsPast R b.size b.parents e.0 in
        by_found a (length xs) m A e.0 e.1 (found R a.parents e.0) refl
        (subst (IsGrown R a.next (length xs) A (found R a.parents e.0)) e.2 (p.grown e.0)) e.3)
        many

    -- ---- documents

    takes-both : (ts us : List S) (a b c : Node S) → Takes R ts a b → Takes R us b c
        → Takes R (ts ++ us) a c
    takes-both ts us a b c p q = record {
      node =
          let at : NodeTakes R (visits_at a.parent a.doc us) b c =
          subst (λ (o : ℕ × ℕ). NodeTakes R (visits_at o.0 o.1 us) b c)
          (λ j. (p.parent j, p.doc j)) q.node in
          subst (λ vs. NodeTakes R vs a c)
          (sym (map-append (λ t. ((a.parent, t), a.doc)) ts us))
          (node-both (visits_at a.parent a.doc ts) (visits_at a.parent a.doc us) a b c p.node at);
      parent = q.parent ∙ p.parent;
      doc = q.doc ∙ p.doc;
    }

    of-document : (ts : List S) (doc : ℕ) (a b : Node S) → Takes R ts (record a { doc = doc }) b
        → NodeTakes R (visits_at a.parent doc ts) a b
    of-document ts doc a b p =
        let node = p.node in
        record {
          takes = node.takes;
          long = node.long;
          no_fewer = node.no_fewer;
          size = node.size;
          drawn = node.drawn;
          few = node.few;
          grown = node.grown;
          fuller = node.fuller;
        }

    pub compose-visits : VisitsCompose R
    compose-visits = record {
      none = node-none;
      both = node-both;
      more = many-more;
      after = many-after;
      large = λ n node vs ws f many.
          many-visits R node.size node.parents node.next n vs (ws ++ node.pushes) f many;
    }

    pub compose-tuples : TuplesCompose R
    compose-tuples = record {
      none = λ node. record { node = node-none node; parent = refl; doc = refl };
      both = takes-both;
      more = λ ts us node.
          many-more (length ts) (length (ts ++ us)) node (omega (arith, length-append ts us));
      after = λ ts us a b p many.
          subst (λ n. TooManyVisits R n a)
          (ap (λ n. n + length us) (length-map ts (λ t. ((a.parent, t), a.doc)))
          ∙ sym (length-append ts us))
          (many-after (visits_at a.parent a.doc ts) (length us) a b p.node many);
      document = of-document;
    }
