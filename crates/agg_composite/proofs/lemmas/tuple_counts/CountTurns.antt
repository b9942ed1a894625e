-- Counts go in in any order.
use Rattle.std.proofs.Common.{◌≡◌, ◌+◌, ℕ, List, [], ◌∷◌, ◌++◌, refl, sym, ap, ◌∙◌, arith}
use Rattle.std.proofs.Common.{Ordering, Less, Equal, Greater}
use Rattle.std.specs.Cmp.{IsTotalOrder}
use Rattle.std.specs.List.Sorted.{IsPermutation}
use Rattle.std.specs.Ordering.{match_ordering, ordering_reverse}
use Rattle.std.proofs.lemmas.Cmp.{tied_itself}
use Rattle.agg_heap_map.proofs.Permutations.{along_permutation}
use Rattle.agg_composite.specs.buckets.Cut.{add_count}
use Rattle.agg_composite.specs.tuple_counts.Counted.{counted}

module _ {K : Type 0} (R : K → K → Ordering) (total : IsTotalOrder R)
    (exact : (k l : K) → R k l ≡ Equal → k ≡ l) where
  -- a key with so many
  abbrev with : K → ℕ → K × ℕ
  with k n = (k, n)

  -- counts of one key are one count
  one-key : (k l : K) (m n : ℕ) → R k l ≡ Equal → with l (n + m) ≡ with k (m + n)
  one-key k l m n is =
      let same : n + m ≡ m + n = omega arith in
      λ i. with (sym (exact k l is) i) (same i)

  -- xs and ys are es with x and with y, which compare with the first entry a as o and p say
  turn-by : (o p r : Ordering) (x y a : K × ℕ) (es xs ys : List (K × ℕ))
      → R x.0 a.0 ≡ o → R y.0 a.0 ≡ p → R x.0 y.0 ≡ r
      → xs ≡ add_count R es x.0 x.1 → ys ≡ add_count R es y.0 y.1
      → add_count R ys x.0 x.1 ≡ add_count R xs y.0 y.1
      → add_count R (match_ordering p ((y.0, y.1) ∷ a ∷ es) ((a.0, a.1 + y.1) ∷ es) (a ∷ ys))
      x.0 x.1
      ≡ add_count R (match_ordering o ((x.0, x.1) ∷ a ∷ es) ((a.0, a.1 + x.1) ∷ es) (a ∷ xs))
      y.0 y.1
  turn-by Less Less Less x y a es xs ys ox py rr ex ey rest =
      rw (rr, total.antisymm y.0 x.0, rr, py) refl
  turn-by Less Less Equal x y a es xs ys ox py rr ex ey rest =
      rw (rr, total.antisymm y.0 x.0, rr) (ap (λ e. e ∷ a ∷ es) (one-key x.0 y.0 x.1 y.1 rr))
  turn-by Less Less Greater x y a es xs ys ox py rr ex ey rest =
      rw (rr, total.antisymm y.0 x.0, rr, ox) refl
  turn-by Less Equal r x y a es xs ys ox py rr ex ey rest =
      let above : R y.0 x.0 ≡ Greater = total.congr y.0 a.0 x.0 py ∙ total.antisymm a.0 x.0
      ∙ ap ordering_reverse ox in
      rw (ox, above, py) refl
  turn-by Less Greater r x y a es xs ys ox py rr ex ey rest =
      let below : R a.0 y.0 ≡ Less = total.antisymm a.0 y.0 ∙ ap ordering_reverse py in
      let above : R y.0 x.0 ≡ Greater = total.antisymm y.0 x.0
      ∙ ap ordering_reverse (total.trans x.0 a.0 y.0 ox below) in
      rw (ox, above, py, ey) refl
  turn-by Equal Less r x y a es xs ys ox py rr ex ey rest =
      let above : R x.0 y.0 ≡ Greater = total.congr x.0 a.0 y.0 ox ∙ total.antisymm a.0 y.0
      ∙ ap ordering_reverse py in
      rw (py, above, ox) refl
  turn-by Equal Equal r x y a es xs ys ox py rr ex ey rest =
      let same : a.1 + y.1 + x.1 ≡ a.1 + x.1 + y.1 = omega arith in
      rw (ox, py) (ap (λ (n : ℕ). (a.0, n) ∷ es) same)
  turn-by Equal Greater r x y a es xs ys ox py rr ex ey rest = rw (ox, py, ey) refl
  turn-by Greater Less r x y a es xs ys ox py rr ex ey rest =
      let below : R a.0 x.0 ≡ Less = total.antisymm a.0 x.0 ∙ ap ordering_reverse ox in
      let above : R x.0 y.0 ≡ Greater = total.antisymm x.0 y.0
      ∙ ap ordering_reverse (total.trans y.0 a.0 x.0 py below) in
      rw (py, above, ox, ex) refl
  turn-by Greater Equal r x y a es xs ys ox py rr ex ey rest = rw (ox, py, ex) refl
  turn-by Greater Greater r x y a es xs ys ox py rr ex ey rest =
      rw (ox, py) (ap (λ zs. a ∷ zs) rest)

  lone-by : (o : Ordering) (x y : K × ℕ) → R x.0 y.0 ≡ o
      → add_count R (y ∷ []) x.0 x.1 ≡ add_count R (x ∷ []) y.0 y.1
  lone-by Less x y is = rw (is, total.antisymm y.0 x.0, is) refl
  lone-by Equal x y is =
      rw (is, total.antisymm y.0 x.0, is) (ap (λ e. e ∷ []) (one-key x.0 y.0 x.1 y.1 is))
  lone-by Greater x y is = rw (is, total.antisymm y.0 x.0, is) refl

  -- two counts go in in either order
  count-turn : (es : List (K × ℕ)) (x y : K × ℕ)
      → add_count R (add_count R es y.0 y.1) x.0 x.1
      ≡ add_count R (add_count R es x.0 x.1) y.0 y.1
  count-turn [] x y = lone-by (R x.0 y.0) x y refl
  count-turn (a ∷ es) x y =
      turn-by (R x.0 a.0) (R y.0 a.0) (R x.0 y.0) x y a es (add_count R es x.0 x.1)
      (add_count R es y.0 y.1) refl refl refl refl refl (count-turn es x y)

  -- counts go in in any order
  pub counted-same : (es fs : List (K × ℕ)) → IsPermutation es fs → counted R es ≡ counted R fs
  counted-same =
      along_permutation (λ es fs. counted R es ≡ counted R fs)
      (λ es. refl)
      (λ x es fs same. ap (λ (gs : List (K × ℕ)). add_count R gs x.0 x.1) same)
      (λ x y es. count-turn (counted R es) x y)
      (λ es fs gs same then. same ∙ then)

  -- the last as well as the first
  pub counted-last : (es : List (K × ℕ)) (e : K × ℕ)
      → counted R (es ++ e ∷ []) ≡ add_count R (counted R es) e.0 e.1
  counted-last [] e = refl
  counted-last (f ∷ es) e =
      ap (λ (gs : List (K × ℕ)). add_count R gs f.0 f.1) (counted-last es e)
      ∙ count-turn (counted R es) f e

  -- ---- counts of one key

  twice-by : (o : Ordering) (k : K) (m n : ℕ) (e : K × ℕ) (es more once : List (K × ℕ))
      → R k e.0 ≡ o → add_count R more k m ≡ once
      → add_count R (match_ordering o ((k, n) ∷ e ∷ es) ((e.0, e.1 + n) ∷ es) (e ∷ more)) k m
      ≡ match_ordering o ((k, m + n) ∷ e ∷ es) ((e.0, e.1 + (m + n)) ∷ es) (e ∷ once)
  twice-by Less k m n e es more once is rest =
      let same : n + m ≡ m + n = omega arith in
      rw (tied_itself total k) (ap (λ (i : ℕ). (k, i) ∷ e ∷ es) same)
  twice-by Equal k m n e es more once is rest =
      let same : e.1 + n + m ≡ e.1 + (m + n) = omega arith in
      rw is (ap (λ (i : ℕ). (e.0, i) ∷ es) same)
  twice-by Greater k m n e es more once is rest = rw is (ap (λ fs. e ∷ fs) rest)

  add-twice : (es : List (K × ℕ)) (k : K) (m n : ℕ)
      → add_count R (add_count R es k n) k m ≡ add_count R es k (m + n)
  add-twice [] k m n =
      let same : n + m ≡ m + n = omega arith in
      rw (tied_itself total k) (ap (λ (i : ℕ). (k, i) ∷ []) same)
  add-twice (e ∷ es) k m n =
      twice-by (R k e.0) k m n e es (add_count R es k n) (add_count R es k (m + n)) refl
      (add-twice es k m n)

  -- two counts of a key, one after the other, are one, whatever stands before them
  pub counted-joined : (es fs : List (K × ℕ)) (k : K) (m n : ℕ)
      → counted R (es ++ (k, m) ∷ (k, n) ∷ fs) ≡ counted R (es ++ (k, m + n) ∷ fs)
  counted-joined [] fs k m n = add-twice (counted R fs) k m n
  counted-joined (e ∷ es) fs k m n =
      ap (λ (gs : List (K × ℕ)). add_count R gs e.0 e.1) (counted-joined es fs k m n)
