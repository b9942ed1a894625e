-- Two lists of counts as one, a key at a time.
use Rattle.std.proofs.Common.{◌≡◌, ℕ, zero, suc, ◌+◌, ◌≤◌, List, [], ◌∷◌, take, refl, sym, ap}
use Rattle.std.proofs.Common.{◌∙◌, subst, arith, Ordering, Less, Equal, Greater}
use Rattle.std.specs.Cmp.{IsTotalOrder}
use Rattle.std.specs.List.{All, AllByRecursion}
use Rattle.std.specs.List.Sorted.{IsStrictlySortedBy}
use Rattle.std.specs.Map.{keys_of}
use Rattle.std.specs.Ordering.{match_ordering}
use Rattle.std.proofs.lemmas.Cmp.{alike_right}
use Rattle.std.proofs.lemmas.List.{take-take}
use Rattle.std.proofs.lemmas.List.Elements.{All-from_recursion, recursion_from_All}
use Rattle.agg_request_tree.proofs.Lists.{AllByRecursion-weaker}
use Rattle.agg_results.proofs.Counts.{add_count, merged}
use Rattle.agg_results.proofs.Counts.{Ascend, Ascend-merged, merged-nothing, reversed}

module _ {K : Type 0} (R : K → K → Ordering) where
  -- an entry before the merge of others with a list
  abbrev pub merge_first : K × ℕ → (List (K × ℕ) → List (K × ℕ)) → List (K × ℕ) → List (K × ℕ)
  merge_first e others [] = e ∷ others []
  merge_first e others (f ∷ fs) =
      match_ordering (R e.0 f.0)
      (e ∷ others (f ∷ fs)) ((e.0, e.1 + f.1) ∷ others fs) (f ∷ merge_first e others fs)

  -- two ascending lists of counts as one
  abbrev pub merge : List (K × ℕ) → List (K × ℕ) → List (K × ℕ)
  merge [] fs = fs
  merge (e ∷ es) fs = merge_first e (merge es) fs

  -- merged with nothing, counts are as they were
  pub merge-nothing : (es : List (K × ℕ)) → merge es [] ≡ es
  merge-nothing [] = refl
  merge-nothing (e ∷ es) = ap (λ xs. e ∷ xs) (merge-nothing es)

  -- ---- fronts, for which no law of the order is needed

  take-merge-by : (o : Ordering) (n : ℕ) (e f g : K × ℕ) (a b c a' b' c' : List (K × ℕ))
      → take n a ≡ take n a' → take n b ≡ take n b' → take n c ≡ take n c'
      → take (suc n) (match_ordering o (e ∷ a) (g ∷ b) (f ∷ c))
      ≡ take (suc n) (match_ordering o (e ∷ a') (g ∷ b') (f ∷ c'))
  take-merge-by Less n e f g a b c a' b' c' same_a same_b same_c = ap (λ xs. e ∷ xs) same_a
  take-merge-by Equal n e f g a b c a' b' c' same_a same_b same_c = ap (λ xs. g ∷ xs) same_b
  take-merge-by Greater n e f g a b c a' b' c' same_a same_b same_c = ap (λ xs. f ∷ xs) same_c

  -- the front of a merge is that of the merge of fronts as long as it
  pub take-merge : (n p q : ℕ) (es fs : List (K × ℕ)) → n ≤ p → n ≤ q
      → take n (merge es fs) ≡ take n (merge (take p es) (take q fs))
  take-merge zero p q es fs at_p at_q = refl
  take-merge (suc n) zero q es fs at_p at_q = absurd (omega arith)
  take-merge (suc n) (suc p) zero es fs at_p at_q = absurd (omega arith)
  take-merge (suc n) (suc p) (suc q) [] fs at_p at_q = sym (take-take (suc n) (suc q) fs at_q)
  take-merge (suc n) (suc p) (suc q) (e ∷ es) [] at_p at_q =
      ap (λ xs. e ∷ xs) (take-merge n p (suc q) es [] (omega arith) (omega arith))
  take-merge (suc n) (suc p) (suc q) (e ∷ es) (f ∷ fs) at_p at_q =
      take-merge-by (R e.0 f.0) n e f (e.0, e.1 + f.1)
      (merge es (f ∷ fs)) (merge es fs) (merge (e ∷ es) fs) _ _ _
      (take-merge n p (suc q) es (f ∷ fs) (omega arith) (omega arith))
      (take-merge n p q es fs (omega arith) (omega arith))
      (take-merge n (suc p) q (e ∷ es) fs (omega arith) (omega arith))

module _ {K : Type 0} (R : K → K → Ordering) (total : IsTotalOrder R) where
  -- ---- more of a key in a merge

  add-merge-end : (e : K × ℕ) (es : List (K × ℕ)) (k : K) (n : ℕ) (o : Ordering) → R k e.0 ≡ o
      → add_count R (merge R es []) k n ≡ merge R es ((k, n) ∷ [])
      → add_count R (e ∷ merge R es []) k n ≡ merge_first R e (merge R es) ((k, n) ∷ [])
  add-merge-end e es k n Less is rest = rw (is, reversed R total k e.0 Less is) refl
  add-merge-end e es k n Equal is rest = rw (is, reversed R total k e.0 Equal is) refl
  add-merge-end e es k n Greater is rest =
      rw (is, reversed R total k e.0 Greater is) (ap (λ xs. e ∷ xs) rest)

  module _ (e f : K × ℕ) (es fs : List (K × ℕ)) (k : K) (n : ℕ)
      (outer : add_count R (merge R es (f ∷ fs)) k n ≡ merge R es (add_count R (f ∷ fs) k n))
      (both : add_count R (merge R es fs) k n ≡ merge R es (add_count R fs k n))
      (inner : add_count R (merge_first R e (merge R es) fs) k n
      ≡ merge_first R e (merge R es) (add_count R fs k n)) where
    abbrev Goal : Type 0
    Goal = add_count R (merge_first R e (merge R es) (f ∷ fs)) k n
        ≡ merge_first R e (merge R es) (add_count R (f ∷ fs) k n)

    -- the first of both below, and the key below the second
    add-less-less : R e.0 f.0 ≡ Less → R k f.0 ≡ Less → (o : Ordering) → R k e.0 ≡ o → Goal
    add-less-less a b Less c = rw (a, b, c, reversed R total k e.0 Less c, a) refl
    add-less-less a b Equal c = rw (a, b, c, reversed R total k e.0 Equal c) refl
    add-less-less a b Greater c =
        rw (a, b, c, reversed R total k e.0 Greater c)
        (ap (λ xs. e ∷ xs) (outer ∙ ap (merge R es) (rw b refl)))

    add-less : R e.0 f.0 ≡ Less → (o : Ordering) → R k f.0 ≡ o → Goal
    add-less a Less b = add-less-less a b (R k e.0) refl
    add-less a Equal b =
        let c : R k e.0 ≡ Greater = total.congr k f.0 e.0 b ∙ reversed R total e.0 f.0 Less a in
        rw (a, b, c, a) (ap (λ xs. e ∷ xs) (outer ∙ ap (merge R es) (rw b refl)))
    add-less a Greater b =
        let d = total.trans e.0 f.0 k a (reversed R total k f.0 Greater b) in
        let c : R k e.0 ≡ Greater = reversed R total e.0 k Less d in
        rw (a, b, c, a) (ap (λ xs. e ∷ xs) (outer ∙ ap (merge R es) (rw b refl)))

    add-equal : R e.0 f.0 ≡ Equal → (o : Ordering) → R k f.0 ≡ o → Goal
    add-equal a Less b =
        let c : R k e.0 ≡ Less = alike_right total e.0 f.0 k a ∙ b in
        rw (a, b, c, reversed R total k e.0 Less c, a) refl
    add-equal a Equal b =
        let c : R k e.0 ≡ Equal = alike_right total e.0 f.0 k a ∙ b in
        rw (a, b, c, a) (ap (λ j. (e.0, j) ∷ merge R es fs) (omega arith))
    add-equal a Greater b =
        let c : R k e.0 ≡ Greater = alike_right total e.0 f.0 k a ∙ b in
        rw (a, b, c, a) (ap (λ xs. (e.0, e.1 + f.1) ∷ xs) both)

    add-greater : R e.0 f.0 ≡ Greater → (o : Ordering) → R k f.0 ≡ o → Goal
    add-greater a Less b =
        let d = total.trans k f.0 e.0 b (reversed R total e.0 f.0 Greater a) in
        let c : R e.0 k ≡ Greater = reversed R total k e.0 Less d in
        rw (a, b, c, a) refl
    add-greater a Equal b = rw (a, b, a) refl
    add-greater a Greater b = rw (a, b, a) (ap (λ xs. f ∷ xs) inner)

    add-by : (o : Ordering) → R e.0 f.0 ≡ o → Goal
    add-by Less a = add-less a (R k f.0) refl
    add-by Equal a = add-equal a (R k f.0) refl
    add-by Greater a = add-greater a (R k f.0) refl

  add-merge-first : (e : K × ℕ) (es : List (K × ℕ)) (k : K) (n : ℕ)
      → ((fs : List (K × ℕ)) → add_count R (merge R es fs) k n ≡ merge R es (add_count R fs k n))
      → (fs : List (K × ℕ)) → add_count R (merge_first R e (merge R es) fs) k n
      ≡ merge_first R e (merge R es) (add_count R fs k n)
  add-merge-first e es k n outer [] = add-merge-end e es k n (R k e.0) refl (outer [])
  add-merge-first e es k n outer (f ∷ fs) =
      add-by e f es fs k n (outer (f ∷ fs)) (outer fs) (add-merge-first e es k n outer fs)
      (R e.0 f.0) refl

  -- more of a key in a merge is more of it in the second list
  pub add-merge : (es fs : List (K × ℕ)) (k : K) (n : ℕ)
      → add_count R (merge R es fs) k n ≡ merge R es (add_count R fs k n)
  add-merge [] fs k n = refl
  add-merge (e ∷ es) fs k n = add-merge-first e es k n (λ gs. add-merge es gs k n) fs

  -- ---- counts added one by one

  -- into a merge is into the second list
  merged-merge : (es fs gs : List (K × ℕ))
      → merged R (merge R es fs) gs ≡ merge R es (merged R fs gs)
  merged-merge es fs [] = refl
  merged-merge es fs (g ∷ gs) =
      ap (λ hs. merged R hs gs) (add-merge es fs g.0 g.1)
      ∙ merged-merge es (add_count R fs g.0 g.1) gs

  -- adding ascending counts one by one is the merge
  pub merged-is_merge : (es fs : List (K × ℕ)) → IsStrictlySortedBy R (keys_of fs)
      → merged R es fs ≡ merge R es fs
  merged-is_merge es fs up =
      ap (λ gs. merged R gs fs) (sym (merge-nothing R es))
      ∙ merged-merge es [] fs ∙ ap (merge R es) (merged-nothing R total fs up)

  -- two ascending lists as one ascend
  pub Ascend-merge : (es fs : List (K × ℕ)) → Ascend R es → Ascend R fs → Ascend R (merge R es fs)
  Ascend-merge es fs up_es up_fs =
      subst (Ascend R) (merged-is_merge es fs up_fs) (Ascend-merged R total es fs up_es)

  -- ---- what holds of each entry of a merge

  module _ (P Q S : K × ℕ → Type 0) (left : (e : K × ℕ) → P e → S e)
      (right : (f : K × ℕ) → Q f → S f)
      (tied : (e f : K × ℕ) → R e.0 f.0 ≡ Equal → P e → Q f → S (e.0, e.1 + f.1)) where
    all-merge-by : (o : Ordering) (e f : K × ℕ) (a b c : List (K × ℕ)) → R e.0 f.0 ≡ o
        → P e → Q f → AllByRecursion S a → AllByRecursion S b → AllByRecursion S c
        → AllByRecursion S (match_ordering o (e ∷ a) ((e.0, e.1 + f.1) ∷ b) (f ∷ c))
    all-merge-by Less e f a b c is p q all_a all_b all_c = (left e p, all_a)
    all-merge-by Equal e f a b c is p q all_a all_b all_c = (tied e f is p q, all_b)
    all-merge-by Greater e f a b c is p q all_a all_b all_c = (right f q, all_c)

    all-merge-first : (e : K × ℕ) (es : List (K × ℕ)) → P e
        → ((fs : List (K × ℕ)) → AllByRecursion Q fs → AllByRecursion S (merge R es fs))
        → (fs : List (K × ℕ)) → AllByRecursion Q fs
        → AllByRecursion S (merge_first R e (merge R es) fs)
    all-merge-first e es p outer [] all = (left e p, outer [] tt)
    all-merge-first e es p outer (f ∷ fs) all =
        all-merge-by (R e.0 f.0) e f
        (merge R es (f ∷ fs)) (merge R es fs) (merge_first R e (merge R es) fs) refl p all.0
        (outer (f ∷ fs) all) (outer fs all.1) (all-merge-first e es p outer fs all.1)

    -- of entries of either list, and of the sum where keys are tied
    all-merge : (es fs : List (K × ℕ)) → AllByRecursion P es → AllByRecursion Q fs
        → AllByRecursion S (merge R es fs)
    all-merge [] fs all_es all_fs = AllByRecursion-weaker Q S right fs all_fs
    all-merge (e ∷ es) fs all_es all_fs =
        all-merge-first e es all_es.0 (λ gs all. all-merge es gs all_es.1 all) fs all_fs

    -- of counts added one by one, and of the sum where keys are tied
    pub all-merged : (es fs : List (K × ℕ)) → Ascend R fs → All P es → All Q fs
        → All S (merged R es fs)
    all-merged es fs up all_es all_fs =
        subst (All S) (sym (merged-is_merge es fs up))
        (All-from_recursion S (merge R es fs)
        (all-merge es fs (recursion_from_All P es all_es) (recursion_from_All Q fs all_fs)))
