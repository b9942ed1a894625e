-- Two entries go in in either order.
use Rattle.std.proofs.Common.{◌≡◌, true, false, List, [], ◌∷◌, refl, sym, ap, ◌∙◌, Ordering}
use Rattle.std.proofs.Common.{Less, Equal, Greater}
use Rattle.std.specs.BTreeMap.{insert_entry}
use Rattle.std.specs.Cmp.{IsTotalOrder}
use Rattle.std.specs.Ordering.{eq_by_cmp, is_eq, match_ordering, ordering_reverse}
use Rattle.std.proofs.lemmas.Bool.{false≢true}

-- keys that are not equal
abbrev pub Apart : {K : Type 0} → (K → K → Ordering) → K → K → Type 0
Apart R k l = is_eq (R k l) ≡ false

flips-by : (o : Ordering) → is_eq o ≡ is_eq (ordering_reverse o)
flips-by Less = refl
flips-by Equal = refl
flips-by Greater = refl

pub flips : {K : Type 0} (R : K → K → Ordering) → IsTotalOrder R → (k l : K)
    → eq_by_cmp R k l ≡ eq_by_cmp R l k
flips R total k l = flips-by (R k l) ∙ ap is_eq (sym (total.antisymm l k))

pub tied : (o : Ordering) → is_eq o ≡ true → o ≡ Equal
tied Less h = absurd (false≢true h)
tied Equal h = refl
tied Greater h = absurd (false≢true h)

module _ {K X : Type 0} (R : K → K → Ordering) (total : IsTotalOrder R) where
  -- xs and ys are es with x and with y, which compare with the first entry a as o and p say
  turn-by : (o p r : Ordering) (x y a : K × X) (es xs ys : List (K × X))
      → R x.0 a.0 ≡ o → R y.0 a.0 ≡ p → R x.0 y.0 ≡ r → is_eq r ≡ false
      → xs ≡ insert_entry R es x.0 x.1 → ys ≡ insert_entry R es y.0 y.1
      → insert_entry R ys x.0 x.1 ≡ insert_entry R xs y.0 y.1
      → insert_entry R (match_ordering p ((y.0, y.1) ∷ a ∷ es) ((a.0, y.1) ∷ es) (a ∷ ys)) x.0 x.1
      ≡ insert_entry R (match_ordering o ((x.0, x.1) ∷ a ∷ es) ((a.0, x.1) ∷ es) (a ∷ xs)) y.0 y.1
  turn-by Less Less Less x y a es xs ys ox py rr apart ex ey rest =
      rw (rr, total.antisymm y.0 x.0, rr, py) refl
  turn-by Less Less Equal x y a es xs ys ox py rr apart ex ey rest = cc
  turn-by Less Less Greater x y a es xs ys ox py rr apart ex ey rest =
      rw (rr, total.antisymm y.0 x.0, rr, ox) refl
  turn-by Less Equal r x y a es xs ys ox py rr apart ex ey rest =
      let above : R y.0 x.0 ≡ Greater = total.congr y.0 a.0 x.0 py ∙ total.antisymm a.0 x.0
      ∙ ap ordering_reverse ox in
      rw (ox, above, py) refl
  turn-by Less Greater r x y a es xs ys ox py rr apart ex ey rest =
      let below : R a.0 y.0 ≡ Less = total.antisymm a.0 y.0 ∙ ap ordering_reverse py in
      let above : R y.0 x.0 ≡ Greater = total.antisymm y.0 x.0
      ∙ ap ordering_reverse (total.trans x.0 a.0 y.0 ox below) in
      rw (ox, above, py, ey) refl
  turn-by Equal Less r x y a es xs ys ox py rr apart ex ey rest =
      let above : R x.0 y.0 ≡ Greater = total.congr x.0 a.0 y.0 ox ∙ total.antisymm a.0 y.0
      ∙ ap ordering_reverse py in
      rw (py, above, ox) refl
  turn-by Equal Equal r x y a es xs ys ox py rr apart ex ey rest =
      let tied : R x.0 y.0 ≡ Equal = total.congr x.0 a.0 y.0 ox ∙ total.antisymm a.0 y.0
      ∙ ap ordering_reverse py in
      absurd (false≢true (sym apart ∙ ap is_eq (sym rr ∙ tied)))
  turn-by Equal Greater r x y a es xs ys ox py rr apart ex ey rest = rw (ox, py, ey) refl
  turn-by Greater Less r x y a es xs ys ox py rr apart ex ey rest =
      let below : R a.0 x.0 ≡ Less = total.antisymm a.0 x.0 ∙ ap ordering_reverse ox in
      let above : R x.0 y.0 ≡ Greater = total.antisymm x.0 y.0
      ∙ ap ordering_reverse (total.trans y.0 a.0 x.0 py below) in
      rw (py, above, ox, ex) refl
  turn-by Greater Equal r x y a es xs ys ox py rr apart ex ey rest = rw (ox, py, ex) refl
  turn-by Greater Greater r x y a es xs ys ox py rr apart ex ey rest =
      rw (ox, py) (ap (λ zs. a ∷ zs) rest)

  lone-by : (o : Ordering) (x y : K × X) → R x.0 y.0 ≡ o → is_eq o ≡ false
      → insert_entry R (y ∷ []) x.0 x.1 ≡ insert_entry R (x ∷ []) y.0 y.1
  lone-by Less x y is apart = rw (is, total.antisymm y.0 x.0, is) refl
  lone-by Equal x y is apart = cc
  lone-by Greater x y is apart = rw (is, total.antisymm y.0 x.0, is) refl

  -- two entries of unequal keys go in in either order
  pub insert-turn : (es : List (K × X)) (x y : K × X) → Apart R x.0 y.0
      → insert_entry R (insert_entry R es y.0 y.1) x.0 x.1
      ≡ insert_entry R (insert_entry R es x.0 x.1) y.0 y.1
  insert-turn [] x y apart = lone-by (R x.0 y.0) x y refl apart
  insert-turn (a ∷ es) x y apart =
      turn-by (R x.0 a.0) (R y.0 a.0) (R x.0 y.0) x y a es (insert_entry R es x.0 x.1)
      (insert_entry R es y.0 y.1) refl refl refl apart refl refl (insert-turn es x y apart)
