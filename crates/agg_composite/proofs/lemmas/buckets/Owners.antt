-- Owners of buckets.
use Rattle.std.proofs.Common.{◌≡◌, ◌==◌, ◌&&◌, ◌≤◌, ℕ, length, Bool, true, false, List}
use Rattle.std.proofs.Common.{[], ◌∷◌, get_or}
use Rattle.std.proofs.Common.{refl, sym, ap, ◌∙◌, arith, subst, None, Ordering, Less}
use Rattle.std.specs.BTreeMap.{is_at}
use Rattle.std.specs.Cmp.{IsTotalOrder}
use Rattle.std.specs.List.{AllByRecursion}
use Rattle.std.specs.Map.{lookup}
use Rattle.std.specs.Ordering.{is_eq, ordering_reverse}
use Rattle.std.proofs.lemmas.Bool.Decides.{nat_tests}
use Rattle.std.proofs.lemmas.Cmp.{alike_right, tied_itself}
use Rattle.std.proofs.lemmas.List.Elements.{All-from_recursion, recursion_from_All}
use Rattle.agg_heap_map.proofs.EachItem.{weaker}
use Rattle.agg_heap_map.proofs.InsertionTurns.{flips, tied}
use Rattle.agg_composite.specs.buckets.Node.{IsPast, found}
use Rattle.agg_composite.specs.buckets.Page.{IsAbove, Page}
use Rattle.agg_composite.specs.buckets.Visits.{Owner, is_owner}

both : (b c : Bool) → (b && c) ≡ true → (b ≡ true) × (c ≡ true)
both true c h = (refl, h)
both false c h = absurd (cc h)

pub number-same : (a b : ℕ) → (a == b) ≡ true → a ≡ b
number-same a b is = grind (arith, nat_tests)

pub number-is : (a b : ℕ) → a ≡ b → (a == b) ≡ true
number-is a b is = grind (arith, nat_tests)

-- tests of numbers that are the same
number-flips : (a b : ℕ) → (a == b) ≡ (b == a)
number-flips a b = grind (arith, nat_tests)

-- ---- above a full page

module _ {S : Type 0} (R : S → S → Ordering) (size : ℕ) (page : Page S) (t : S) where
  pub above-each : IsAbove R size page t → AllByRecursion (λ e. R e.0 t ≡ Less) page
  above-each above = recursion_from_All (λ e. R e.0 t ≡ Less) page above.below

  pub is-above : size ≤ length page → AllByRecursion (λ e. R e.0 t ≡ Less) page
      → IsAbove R size page t
  is-above full below = record {
    full = full;
    below = All-from_recursion (λ e. R e.0 t ≡ Less) page below;
  }

-- ---- tuples

module _ {S : Type 0} (R : S → S → Ordering) (total : IsTotalOrder R) where
  pub at-itself : (t : S) → is_at (R t) t ≡ true
  at-itself t = ap is_eq (tied_itself total t)

  pub at-flips : (t q : S) → is_at (R t) q ≡ is_at (R q) t
  at-flips t q = flips R total t q

  -- tuples that compare as equal test alike
  pub at-same : (t q : S) → is_at (R t) q ≡ true → is_at (R t) ≡ is_at (R q)
  at-same t q e = λ i x. is_eq (total.congr t q x (tied (R t q) e) i)

  -- tuples that compare as equal are above the same pages
  pub above-same : (size : ℕ) (page : Page S) (t q : S) → is_at (R t) q ≡ true
      → IsAbove R size page t → IsAbove R size page q
  above-same size page t q e above =
      is-above R size page q above.full
      (weaker (λ f. R f.0 t ≡ Less) (λ f. R f.0 q ≡ Less)
      (λ f less. sym (alike_right total t q f.0 (tied (R t q) e)) ∙ less) page
      (above-each R size page t above))

  none-below : (page : Page S) (t : S) → AllByRecursion (λ e. R e.0 t ≡ Less) page
      → lookup (is_at (R t)) page ≡ None
  none-below [] t below = refl
  none-below (e ∷ page) t below =
      let apart : is_at (R t) e.0 ≡ false =
      ap is_eq (total.antisymm t e.0 ∙ ap ordering_reverse below.0) in
      rw apart (none-below page t below.1)

  -- a tuple above a full page has no bucket there
  pub above-none : (size : ℕ) (page : Page S) (t : S) → IsAbove R size page t
      → lookup (is_at (R t)) page ≡ None
  above-none size page t above = none-below page t (above-each R size page t above)

  -- ---- owners

  pub owner-itself : (o : Owner S) → is_owner R o o ≡ true
  owner-itself o = (λ j. number-is o.0 o.0 refl j && at-itself o.1 j)

  pub owner-flips : (o q : Owner S) → is_owner R o q ≡ is_owner R q o
  owner-flips o q = (λ j. number-flips o.0 q.0 j && at-flips o.1 q.1 j)

  module _ (o q : Owner S) (e : is_owner R o q ≡ true) where
    pub same-parent : o.0 ≡ q.0
    same-parent = number-same o.0 q.0 (both (o.0 == q.0) (is_at (R o.1) q.1) e).0

    same-at : is_at (R o.1) q.1 ≡ true
    same-at = (both (o.0 == q.0) (is_at (R o.1) q.1) e).1

    pub owner-same : is_owner R o ≡ is_owner R q
    owner-same = λ i x. (same-parent i == x.0) && at-same o.1 q.1 same-at i x.1

    pub found-same : (parents : List (Page S)) → found R parents o ≡ found R parents q
    found-same parents =
        λ i. lookup (at-same o.1 q.1 same-at i) (get_or parents (same-parent i) [])

    pub past-same : (size : ℕ) (parents : List (Page S)) → IsPast R size parents o
        → IsPast R size parents q
    past-same size parents past =
        subst (λ p. IsAbove R size (get_or parents p []) q.1) same-parent
        (above-same size (get_or parents o.0 []) o.1 q.1 same-at past)
