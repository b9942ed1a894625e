-- The pages of a node that is right are cuts.
use Rattle.std.proofs.Common.{◌≡◌, ◌≤◌, ◌⊎◌, ◌==◌, ◌&&◌, ◌++◌, ℕ, zero, suc, Bool, true, false}
use Rattle.std.proofs.Common.{cond, if◌then◌else◌, List, [], ◌∷◌, length, take, get_or, count_by}
use Rattle.std.proofs.Common.{Option, None, Some, refl, sym, ap, ◌∙◌, subst, arith, inl}
use Rattle.std.proofs.Common.{inr, ⊎_elim}
use Rattle.std.proofs.Common.{Ordering, Less, Equal, Greater}
use Rattle.std.specs.BTreeMap.{is_at}
use Rattle.std.specs.Cmp.{IsTotalOrder}
use Rattle.std.specs.List.{AllByRecursion}
use Rattle.std.specs.Map.{lookup}
use Rattle.std.specs.Ordering.{is_eq, ordering_reverse}
use Rattle.std.proofs.lemmas.List.Concat.{flat_map-append}
use Rattle.std.proofs.lemmas.List.Sums.{sum_by-cons}
use Rattle.std.proofs.lemmas.Map.{lookup-none}
use Rattle.std.proofs.Math.Seq.{take-nil}
use Rattle.agg_cache.specs.Waiting.{docs_of}
use Rattle.agg_heap_map.proofs.AscendingKeys.{Ascends, ascends_from_sorted, none-above}
use Rattle.agg_heap_map.proofs.EachItem.{weaker}
use Rattle.agg_composite.specs.buckets.Cut.{counts_of, cut, groups_of, spread, tuples_under}
use Rattle.agg_composite.specs.buckets.Laws.{HaveTheCut, VisitsCut, positive}
use Rattle.agg_composite.specs.buckets.Node.{IsRightFor}
use Rattle.agg_composite.specs.buckets.Page.{IsAbove, Page}
use Rattle.agg_composite.specs.buckets.Visits.{Visit, is_owner}
use Rattle.agg_composite.specs.declared.buckets.bucket.Bucket.{Bucket}
use Rattle.agg_composite.proofs.lemmas.buckets.Groups.{groups-ascend, groups-counted, positive-some}
use Rattle.agg_composite.proofs.lemmas.buckets.Owners.{above-each, at-itself, at-same, is-above}
use Rattle.agg_composite.proofs.lemmas.buckets.Spread.{cut-spread}

-- a count agrees with a bucket, or there is none, or the tuple is above the buckets
abbrev Agrees : Type 0 → Option Bucket → Option ℕ → Type 0
Agrees above None count = (count ≡ None) ⊎ above
Agrees above (Some b) count = count ≡ Some b.count

agrees-weaker : (A B : Type 0) (x : Option Bucket) (y : Option ℕ) → (A → B) → Agrees A x y
    → Agrees B x y
agrees-weaker A B None y stays agrees = ⊎_elim inl (λ a. inr (stays a)) agrees
agrees-weaker A B (Some b) y stays agrees = agrees

module _ {S : Type 0} (R : S → S → Ordering) (total : IsTotalOrder R) where
  -- what compares as equal to a tuple below all others is not among those
  none-tied : {X : Type 0} (q t : S) (es : List (S × X)) → is_at (R t) q ≡ true
      → AllByRecursion (λ f. R t f.0 ≡ Less) es → lookup (is_at (R q)) es ≡ None
  none-tied q t es same up =
      ap (λ test. lookup test es) (sym (at-same R total t q same))
      ∙ lookup-none (is_at (R t)) es
      (weaker (λ f. R t f.0 ≡ Less) (λ f. is_at (R t) f.0 ≡ false) (λ f less. ap is_eq less) es up)

  less-above : (size : ℕ) (b : S × Bucket) (page : Page S) (q : S)
      → IsAbove R (suc size) (b ∷ page) q → IsAbove R size page q
  less-above size b page q above =
      let full = above.full in
      is-above R size page q (omega (arith, full)) (above-each R (suc size) (b ∷ page) q above).1

  module _ (exact : (t q : S) → R t q ≡ Equal → t ≡ q) where
    page-cut-by : (o : Ordering) (size : ℕ) (b : S × Bucket) (page : Page S) (g : S × ℕ)
        (gs : List (S × ℕ)) → R b.0 g.0 ≡ o → Ascends R total (b ∷ page)
        → Ascends R total (g ∷ gs)
        → ((q : S) → Agrees (IsAbove R (suc size) (b ∷ page) q)
        (lookup (is_at (R q)) (b ∷ page)) (lookup (is_at (R q)) (g ∷ gs)))
        → (((q : S) → Agrees (IsAbove R size page q)
        (lookup (is_at (R q)) page) (lookup (is_at (R q)) gs))
        → counts_of page ≡ take size gs)
        → counts_of (b ∷ page) ≡ take (suc size) (g ∷ gs)
    page-cut-by Less size b page g gs is up ups agree rest =
        let none : lookup (is_at (R b.0)) (g ∷ gs) ≡ None =
        rw is (none-above R total b.0 g.0 gs is ups.0) in
        let found : lookup (is_at (R b.0)) (b ∷ page) ≡ Some b.1 =
        ap (λ c. cond c (Some b.1) (lookup (is_at (R b.0)) page)) (at-itself R total b.0) in
        let both : lookup (is_at (R b.0)) (g ∷ gs) ≡ Some b.1.count =
        subst
        (λ x. Agrees (IsAbove R (suc size) (b ∷ page) b.0) x (lookup (is_at (R b.0)) (g ∷ gs)))
        found (agree b.0) in
        absurd (cc (sym none ∙ both))
    page-cut-by Greater size b page g gs is up ups agree rest =
        let less : R g.0 b.0 ≡ Less = total.antisymm g.0 b.0 ∙ ap ordering_reverse is in
        let none : lookup (is_at (R g.0)) (b ∷ page) ≡ None =
        rw less (none-above R total g.0 b.0 page less up.0) in
        let found : lookup (is_at (R g.0)) (g ∷ gs) ≡ Some g.1 =
        ap (λ c. cond c (Some g.1) (lookup (is_at (R g.0)) gs)) (at-itself R total g.0) in
        let either : (lookup (is_at (R g.0)) (g ∷ gs) ≡ None)
        ⊎ IsAbove R (suc size) (b ∷ page) g.0 =
        subst
        (λ x. Agrees (IsAbove R (suc size) (b ∷ page) g.0) x (lookup (is_at (R g.0)) (g ∷ gs)))
        none (agree g.0) in
        ⊎_elim (λ nothing. absurd (cc (sym nothing ∙ found)))
        (λ above. absurd (cc (sym is ∙ (above-each R (suc size) (b ∷ page) g.0 above).0)))
        either
    page-cut-by Equal size b page g gs is up ups agree rest =
        let same : b.0 ≡ g.0 = exact b.0 g.0 is in
        let mine : lookup (is_at (R b.0)) (b ∷ page) ≡ Some b.1 =
        ap (λ c. cond c (Some b.1) (lookup (is_at (R b.0)) page)) (at-itself R total b.0) in
        let found : lookup (is_at (R b.0)) (g ∷ gs) ≡ Some g.1 =
        ap (λ c. cond (is_eq c) (Some g.1) (lookup (is_at (R b.0)) gs)) is in
        let both : lookup (is_at (R b.0)) (g ∷ gs) ≡ Some b.1.count =
        subst
        (λ x. Agrees (IsAbove R (suc size) (b ∷ page) b.0) x (lookup (is_at (R b.0)) (g ∷ gs)))
        mine (agree b.0) in
        let count : b.1.count ≡ g.1 = cc (sym both ∙ found) in
        λ i. (same i, count i) ∷ rest below i
      where
        by_test : (q : S) (c : Bool) → is_at (R q) b.0 ≡ c
            → Agrees (IsAbove R size page q) (lookup (is_at (R q)) page) (lookup (is_at (R q)) gs)
        by_test q true e =
            let tied_b : is_at (R b.0) q ≡ true =
            sym (ap (λ test. test q) (at-same R total q b.0 e)) ∙ at-itself R total q in
            let tied_g : is_at (R g.0) q ≡ true =
            sym (ap (λ t. is_at (R t) q) (exact b.0 g.0 is)) ∙ tied_b in
            subst (λ x. Agrees (IsAbove R size page q) x (lookup (is_at (R q)) gs))
            (sym (none-tied q b.0 page tied_b up.0))
            (inl (none-tied q g.0 gs tied_g ups.0))
        by_test q false e =
            let other : is_at (R q) g.0 ≡ false =
            ap (is_at (R q)) (sym (exact b.0 g.0 is)) ∙ e in
            let mine : lookup (is_at (R q)) (b ∷ page) ≡ lookup (is_at (R q)) page =
            ap (λ c. cond c (Some b.1) (lookup (is_at (R q)) page)) e in
            let theirs : lookup (is_at (R q)) (g ∷ gs) ≡ lookup (is_at (R q)) gs =
            ap (λ c. cond c (Some g.1) (lookup (is_at (R q)) gs)) other in
            agrees-weaker (IsAbove R (suc size) (b ∷ page) q) (IsAbove R size page q)
            (lookup (is_at (R q)) page) (lookup (is_at (R q)) gs) (less-above size b page q)
            (subst
            (λ x. Agrees (IsAbove R (suc size) (b ∷ page) q) x (lookup (is_at (R q)) gs)) mine
            (subst (Agrees (IsAbove R (suc size) (b ∷ page) q) (lookup (is_at (R q)) (b ∷ page)))
            theirs (agree q)))

        below : (q : S)
            → Agrees (IsAbove R size page q) (lookup (is_at (R q)) page) (lookup (is_at (R q)) gs)
        below q = by_test q (is_at (R q) b.0) refl

    -- a page that agrees with ascending counts has the lowest of them
    page-cut : (size : ℕ) (page : Page S) (gs : List (S × ℕ)) → Ascends R total page
        → Ascends R total gs → length page ≤ size
        → ((q : S) → Agrees (IsAbove R size page q)
        (lookup (is_at (R q)) page) (lookup (is_at (R q)) gs))
        → counts_of page ≡ take size gs
    page-cut size [] [] up ups fits agree = sym (take-nil size)
    page-cut zero [] (g ∷ gs) up ups fits agree = refl
    page-cut (suc size) [] (g ∷ gs) up ups fits agree =
        let found : lookup (is_at (R g.0)) (g ∷ gs) ≡ Some g.1 =
        ap (λ c. cond c (Some g.1) (lookup (is_at (R g.0)) gs)) (at-itself R total g.0) in
        ⊎_elim (λ none. absurd (cc (sym none ∙ found)))
        (λ above. let full = above.full in absurd (omega (arith, full)))
        (agree g.0)
    page-cut zero (b ∷ page) gs up ups fits agree = absurd (omega arith)
    page-cut (suc size) (b ∷ page) [] up ups fits agree =
        let found : lookup (is_at (R b.0)) (b ∷ page) ≡ Some b.1 =
        ap (λ c. cond c (Some b.1) (lookup (is_at (R b.0)) page)) (at-itself R total b.0) in
        let none : None ≡ Some b.1.count =
        subst (λ x. Agrees (IsAbove R (suc size) (b ∷ page) b.0) x None) found (agree b.0) in
        absurd (cc none)
    page-cut (suc size) (b ∷ page) (g ∷ gs) up ups fits agree =
        page-cut-by (R b.0 g.0) size b page g gs refl up ups agree
        (λ below. page-cut size page gs up.1 ups.1 (omega arith) below)

    -- ---- the pages of a node

    tuple-count : (p : ℕ) (q : S) (visits : List (Visit S))
        → count_by (is_at (R q)) (tuples_under p visits)
        ≡ length (docs_of (is_owner R (p, q)) visits)
    tuple-count p q [] = refl
    tuple-count p q (v ∷ vs) = by_parent (p == v.0.0) (is_at (R q) v.0.1) refl (tuple-count p q vs)
      where
        by_parent : (b c : Bool) → is_at (R q) v.0.1 ≡ c
            → count_by (is_at (R q)) (tuples_under p vs)
            ≡ length (docs_of (is_owner R (p, q)) vs)
            → count_by (is_at (R q)) ((if b then v.0.1 ∷ [] else []) ++ tuples_under p vs)
            ≡ length ((if b && c then v.1 ∷ [] else []) ++ docs_of (is_owner R (p, q)) vs)
        by_parent true true is rest =
            let cons = sum_by-cons (λ x. cond (is_at (R q) x) 1 0) v.0.1 (tuples_under p vs) in
            let one : cond (is_at (R q) v.0.1) 1 0 ≡ 1 = ap (λ b. cond {A = ℕ} b 1 0) is in
            omega (arith, cons, one, rest)
        by_parent true false is rest =
            let cons = sum_by-cons (λ x. cond (is_at (R q) x) 1 0) v.0.1 (tuples_under p vs) in
            let no : cond (is_at (R q) v.0.1) 1 0 ≡ 0 = ap (λ b. cond {A = ℕ} b 1 0) is in
            omega (arith, cons, no, rest)
        by_parent false c is rest = rest

    agrees-right : (own : ℕ) (visits : List (Visit S)) (handed : List (ℕ × ℕ)) (next : ℕ)
        (o : ℕ × S) (above : Type 0) (x : Option Bucket)
        → own ≡ length (docs_of (is_owner R o) visits)
        → IsRightFor (is_owner R o) visits handed next above x
        → Agrees above x (positive own)
    agrees-right own visits handed next o above None is r =
        ⊎_elim (λ none. inl (ap positive (is ∙ ap length none))) inr r
    agrees-right own visits handed next o above (Some b) is r =
        let count = r.counted in
        let some = r.some in
        positive-some own (omega (arith, is, count, some)) ∙ ap Some (is ∙ sym count)

  pub have-the-cut : HaveTheCut R
  have-the-cut exact size parents next visits handed f p =
      let page = get_or parents p [] in
      let tuples = tuples_under p visits in
      page-cut exact size page (groups_of R tuples)
      (ascends_from_sorted R total page (f.ascending p)) (groups-ascend R total tuples) (f.fits p)
      (λ q. subst (Agrees (IsAbove R size page q) (lookup (is_at (R q)) page))
      (sym (groups-counted R total tuples q))
      (agrees-right exact (count_by (is_at (R q)) tuples) visits handed next (p, q)
      (IsAbove R size page q) (lookup (is_at (R q)) page) (tuple-count exact p q visits)
      (f.right (p, q))))

  pub visits-cut : VisitsCut R
  visits-cut exact old new visited visits handed f takes p =
      let before = tuples_under p visited in
      let after = tuples_under p visits in
      have-the-cut exact new.size new.parents new.next (visited ++ visits) (handed ++ new.pushes)
      (takes.takes visited handed f) p
      ∙ ap (λ n. cut R n (tuples_under p (visited ++ visits))) takes.size
      ∙ ap (cut R old.size) (flat_map-append _ visited visits)
      ∙ cut-spread R total old.size before after
      ∙ ap (λ counts. cut R old.size (spread counts ++ after))
      (sym (have-the-cut exact old.size old.parents old.next visited (handed ++ old.pushes) f p))
