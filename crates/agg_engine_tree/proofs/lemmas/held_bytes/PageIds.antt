-- The ids of the buckets of a node: each stands once.
use Rattle.std.proofs.Common.{◌≡◌, ◌<◌, ◌≤◌, ◌++◌, ℕ, List, [], ◌∷◌, Bool, true, false, Some}
use Rattle.std.proofs.Common.{Less, Ordering, get_or, map, inl, inr, refl, sym, ap, ◌∙◌, subst}
use Rattle.std.proofs.Common.{◌||◌, ◌==◌, arith}
use Rattle.std.specs.Prelude.{nat_eq}
use Rattle.std.specs.BTreeMap.{is_at}
use Rattle.std.specs.Cmp.{IsTotalOrder}
use Rattle.std.specs.List.{AllByRecursion, flat_map, list_any, sum_by}
use Rattle.std.specs.List.Sorted.{IsStrictlySortedBy}
use Rattle.std.specs.Map.{keys_of}
use Rattle.std.specs.Ordering.{is_eq}
use Rattle.std.proofs.lemmas.Bool.{eq-eqb, eqb-true}
use Rattle.std.proofs.lemmas.Cmp.{eq_by_cmp_equiv}
use Rattle.std.proofs.lemmas.List.Folds.{list_any-append}
use Rattle.std.proofs.lemmas.Map.Keys.{IsDistinct-from_sorted}
use Rattle.std.proofs.lemmas.Map.Views.{lookup-from_Contains}
use Rattle.agg_request_tree.proofs.lemmas.charges.Sums.{sum_by-flat_map, sum_by-map, sum_by-same}
use Rattle.agg_request_tree.proofs.lemmas.charges.Tests.{both, by_answer, clash, neither, not_true}
use Rattle.agg_request_tree.proofs.lemmas.charges.Tests.{second}
use Rattle.agg_request_tree.proofs.Lists.{AllByRecursion-always, AllByRecursion-flat_map}
use Rattle.agg_request_tree.proofs.Lists.{Contains-from_Has, Has}
use Rattle.agg_composite.specs.buckets.Node.{BucketsFor, IsPast, IsRightFor, Right, found}
use Rattle.agg_composite.specs.buckets.Page.{Page}
use Rattle.agg_composite.specs.buckets.Visits.{Visit, is_owner}
use Rattle.agg_composite.specs.declared.buckets.bucket.Bucket.{Bucket}
use Rattle.agg_composite.proofs.lemmas.buckets.Owners.{same-parent}
use Rattle.agg_engine_tree.proofs.lemmas.held_bytes.NumberSums.{Differ, numbers-differ, sum-below}
use Rattle.agg_engine_tree.proofs.lemmas.held_bytes.NumberSums.{up_to}

-- the ids of a page
abbrev pub ids_of : {S : Type 0} → Page S → List ℕ
ids_of page = map (λ e. e.1.id) page

-- ---- lists of numbers

differ-append : (xs ys : List ℕ) → Differ xs → Differ ys
    → ((z : ℕ) → list_any (nat_eq z) xs ≡ true → list_any (nat_eq z) ys ≡ false)
    → Differ (xs ++ ys)
differ-append [] ys first later apart = later
differ-append (x ∷ xs) ys first later apart =
    let here : list_any (nat_eq x) (x ∷ xs) ≡ true =
    ap (λ t. t || list_any (nat_eq x) xs) (eq-eqb x x refl) in (
      list_any-append (nat_eq x) xs ys ∙ (λ i. first.0 i || apart x here i),
      differ-append xs ys first.1 later (λ z has. apart z (later-has (nat_eq z x)
          (list_any (nat_eq z) xs) has)),
    )
  where
    later-has : (s t : Bool) → t ≡ true → (s || t) ≡ true
    later-has true t is = refl
    later-has false t is = is

differ-parts : (part : ℕ → List ℕ) → ((p : ℕ) → Differ (part p))
    → ((p q z : ℕ) → nat_eq p q ≡ false → list_any (nat_eq z) (part p) ≡ true
    → list_any (nat_eq z) (part q) ≡ false)
    → (ps : List ℕ) → Differ ps → Differ (flat_map part ps)
differ-parts part each apart [] differ = tt
differ-parts part each apart (p ∷ ps) differ =
    differ-append (part p) (flat_map part ps) (each p) (differ-parts part each apart ps differ.1)
    (λ z has. others z has ps differ.0)
  where
    others : (z : ℕ) → list_any (nat_eq z) (part p) ≡ true → (qs : List ℕ)
        → list_any (nat_eq p) qs ≡ false → list_any (nat_eq z) (flat_map part qs) ≡ false
    others z has [] none = refl
    others z has (q ∷ qs) none =
        let both = neither (nat_eq p q) (list_any (nat_eq p) qs) none in
        list_any-append (nat_eq z) (part q) (flat_map part qs)
        ∙ (λ i. apart p q z both.0 has i || others z has qs both.1 i)

-- ---- a page

-- an id of a page is that of a bucket
id-bucket : {S : Type 0} (z : ℕ) (page : Page S) → list_any (nat_eq z) (ids_of page) ≡ true
    → (e : S × Bucket) × Has e page × (z ≡ e.1.id)
id-bucket z [] has = absurd (cc)
id-bucket z (e ∷ page) has = elim (by_answer (nat_eq z e.1.id)) [
  | inl is ↦ (e, inl refl, eqb-true z e.1.id is)
  | inr other ↦
      let rest = id-bucket z page
      (second (nat_eq z e.1.id) (list_any (nat_eq z) (ids_of page)) has other) in
      (rest.0, inr rest.1, rest.2)
]

below-each : {S : Type 0} (R : S → S → Ordering) (k : S) (page : Page S)
    → AllByRecursion (λ t. R k t ≡ Less) (keys_of page) → (e : S × Bucket) → Has e page
    → R k e.0 ≡ Less
below-each R k [] less e h = absurd h
below-each R k (x ∷ page) less e (inl is) = ap (λ (y : _ × Bucket). R k y.0) (sym is) ∙ less.0
below-each R k (x ∷ page) less e (inr h) = below-each R k page less.1 e h

module _ {S : Type 0} (R : S → S → Ordering) (total : IsTotalOrder R) (size : ℕ)
    (parents : List (Page S)) (next : ℕ) (visits : List (Visit S)) (handed : List (ℕ × ℕ))
    (right : BucketsFor R size parents next visits handed) where
  -- the buckets of a parent
  abbrev pub page_at : ℕ → Page S
  page_at p = get_or parents p []

  pub bucket-found : (p : ℕ) (e : S × Bucket) → Has e (page_at p)
      → found R parents (p, e.0) ≡ Some e.1
  bucket-found p e h =
      lookup-from_Contains (eq_by_cmp_equiv total) e.0 e.1 (page_at p)
      (IsDistinct-from_sorted R (keys_of (page_at p)) (right.ascending p))
      (Contains-from_Has (page_at p) e h)

  -- a bucket is right for its owner
  pub bucket-right : (p : ℕ) (e : S × Bucket) → Has e (page_at p)
      → Right (is_owner R (p, e.0)) visits handed next e.1
  bucket-right p e h =
      subst
      (IsRightFor (is_owner R (p, e.0)) visits handed next (IsPast R size parents (p, e.0)))
      (bucket-found p e h) (right.right (p, e.0))

  -- buckets with one id are of one owner
  same-owner : (p q : ℕ) (e f : S × Bucket) → Has e (page_at p) → Has f (page_at q)
      → e.1.id ≡ f.1.id → is_owner R (p, e.0) (q, f.0) ≡ true
  same-owner p q e f h g is =
      right.ids (p, e.0) (q, f.0) e.1 f.1 (bucket-found p e h) (bucket-found q f g) is

  page-differs : (p : ℕ) (rest : Page S) → ((e : S × Bucket) → Has e rest → Has e (page_at p))
      → IsStrictlySortedBy R (keys_of rest) → Differ (ids_of rest)
  unfolding IsStrictlySortedBy
  page-differs p [] part up = tt
  page-differs p (e ∷ rest) part up = (
    not_true (list_any (nat_eq e.1.id) (ids_of rest)) (λ has.
        let f = id-bucket e.1.id rest has in
        let same = both (p == p) (is_at (R e.0) f.0.0)
        (same-owner p p e f.0 (part e (inl refl)) (part f.0 (inr f.1)) f.2) in
        clash (is_at (R e.0) f.0.0) same.1 (ap is_eq (below-each R e.0 rest up.0 f.0 f.1))),
    page-differs p rest (λ f h. part f (inr h)) up.1,
  )

  pages-apart : (p q z : ℕ) → nat_eq p q ≡ false
      → list_any (nat_eq z) (ids_of (page_at p)) ≡ true
      → list_any (nat_eq z) (ids_of (page_at q)) ≡ false
  pages-apart p q z other has = not_true (list_any (nat_eq z) (ids_of (page_at q))) (λ also.
      let e = id-bucket z (page_at p) has in
      let f = id-bucket z (page_at q) also in
      let same = same-parent R total (p, e.0.0) (q, f.0.0)
      (same-owner p q e.0 f.0 e.1 f.1 (sym e.2 ∙ f.2)) in
      clash (nat_eq p q) (eq-eqb p q same) other)

  page-low : (p : ℕ) (rest : Page S) → ((e : S × Bucket) → Has e rest → Has e (page_at p))
      → AllByRecursion (λ i. i < next) (ids_of rest)
  page-low p [] part = tt
  page-low p (e ∷ rest) part =
      ((bucket-right p e (part e (inl refl))).low, page-low p rest (λ f h. part f (inr h)))

  -- what is counted for the buckets of parents is at most what is for all ids that were given
  pub sum-buckets : (f : ℕ → ℕ) (n : ℕ)
      → sum_by (λ p. sum_by (λ e. f e.1.id) (page_at p)) (up_to n) ≤ sum_by f (up_to next)
  sum-buckets f n = omega (
    arith,
    sum_by-same (λ p. sum_by (λ e. f e.1.id) (page_at p)) (λ p. sum_by f (ids_of (page_at p)))
        (up_to n) (λ p. sym (sum_by-map f (λ e. e.1.id) (page_at p))),
    sum_by-flat_map f (λ p. ids_of (page_at p)) (up_to n),
    sum-below f (flat_map (λ p. ids_of (page_at p)) (up_to n)) next
        (differ-parts (λ p. ids_of (page_at p))
        (λ p. page-differs p (page_at p) (λ e h. h) (right.ascending p)) pages-apart (up_to n)
        (numbers-differ 0 n))
        (AllByRecursion-flat_map (λ i. i < next) (λ p. ids_of (page_at p)) (up_to n)
        (AllByRecursion-always (λ p. AllByRecursion (λ i. i < next) (ids_of (page_at p)))
        (λ p. page-low p (page_at p) (λ e h. h)) (up_to n))),
  )
