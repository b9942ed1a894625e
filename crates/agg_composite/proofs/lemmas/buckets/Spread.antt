-- Counts ascend and are positive, and such counts are those of their spread.
use Rattle.std.proofs.Common.{◌≡◌, ℕ, zero, suc, ◌+◌, ◌<◌, List, [], ◌∷◌, ◌++◌, take, replicate}
use Rattle.std.proofs.Common.{refl, sym, ap, ◌∙◌, arith, append-nil, append_assoc}
use Rattle.std.proofs.Common.{Ordering, Less, Equal, Greater}
use Rattle.std.specs.Cmp.{IsTotalOrder}
use Rattle.std.specs.List.{AllByRecursion}
use Rattle.std.specs.Ordering.{match_ordering, ordering_reverse}
use Rattle.std.proofs.lemmas.Cmp.{tied_itself}
use Rattle.agg_heap_map.proofs.EachItem.{weaker}
use Rattle.agg_composite.specs.buckets.Cut.{add_count, count_each, cut, groups_of, spread}
use Rattle.agg_composite.proofs.lemmas.buckets.TupleCounts.{count_each-append, cut-append}

-- counts with tuples that ascend, each above 0
abbrev pub Ascend : {S : Type 0} → (S → S → Ordering) → List (S × ℕ) → Type 0
Ascend R [] = Unit {0}
Ascend R (e ∷ es) = AllByRecursion (λ f. R e.0 f.0 ≡ Less) es × (0 < e.1) × Ascend R es

all-append : {X : Type 0} (P : X → Type 0) (xs ys : List X) → AllByRecursion P xs
    → AllByRecursion P ys → AllByRecursion P (xs ++ ys)
all-append P [] ys all_xs all_ys = all_ys
all-append P (x ∷ xs) ys all_xs all_ys = (all_xs.0, all-append P xs ys all_xs.1 all_ys)

all-take : {X : Type 0} (P : X → Type 0) (n : ℕ) (xs : List X) → AllByRecursion P xs
    → AllByRecursion P (take n xs)
all-take P zero xs all = tt
all-take P (suc n) [] all = tt
all-take P (suc n) (x ∷ xs) all = (all.0, all-take P n xs all.1)

module _ {S : Type 0} (R : S → S → Ordering) where
  Ascend-take : (n : ℕ) (es : List (S × ℕ)) → Ascend R es → Ascend R (take n es)
  Ascend-take zero es up = tt
  Ascend-take (suc n) [] up = tt
  Ascend-take (suc n) (e ∷ es) up =
      (all-take (λ f. R e.0 f.0 ≡ Less) n es up.0, up.1, Ascend-take n es up.2)

  -- all counts below all others
  abbrev Below : List (S × ℕ) → List (S × ℕ) → Type 0
  Below es fs = AllByRecursion (λ f. AllByRecursion (λ e. R e.0 f.0 ≡ Less) es) fs

  below-more : (es fs : List (S × ℕ)) (e : S × ℕ) → Below es fs
      → AllByRecursion (λ f. R e.0 f.0 ≡ Less) fs → Below (es ++ e ∷ []) fs
  below-more es [] e below own = tt
  below-more es (f ∷ fs) e below own = (
    all-append (λ x. R x.0 f.0 ≡ Less) es (e ∷ []) below.0 (own.0, tt),
    below-more es fs e below.1 own.1,
  )

  below-nothing : (fs : List (S × ℕ)) → Below [] fs
  below-nothing [] = tt
  below-nothing (f ∷ fs) = (tt, below-nothing fs)

  module _ (total : IsTotalOrder R) where
    -- ---- counts ascend

    all-added-by : (P : S → Type 0) (o : Ordering) (t : S) (n : ℕ) (e : S × ℕ)
        (es more : List (S × ℕ)) → P t → AllByRecursion (λ f. P f.0) (e ∷ es)
        → AllByRecursion (λ f. P f.0) more
        → AllByRecursion (λ f. P f.0)
        (match_ordering o ((t, n) ∷ e ∷ es) ((e.0, e.1 + n) ∷ es) (e ∷ more))
    all-added-by P Less t n e es more own all rest = (own, all)
    all-added-by P Equal t n e es more own all rest = all
    all-added-by P Greater t n e es more own all rest = (all.0, rest)

    all-added : (P : S → Type 0) (es : List (S × ℕ)) (t : S) (n : ℕ) → P t
        → AllByRecursion (λ f. P f.0) es → AllByRecursion (λ f. P f.0) (add_count R es t n)
    all-added P [] t n own all = (own, tt)
    all-added P (e ∷ es) t n own all =
        all-added-by P (R t e.0) t n e es (add_count R es t n) own all
        (all-added P es t n own all.1)

    Ascend-add-by : (o : Ordering) (t : S) (n : ℕ) (e : S × ℕ) (es : List (S × ℕ)) → R t e.0 ≡ o
        → 0 < n → Ascend R (e ∷ es) → Ascend R (add_count R es t n)
        → Ascend R
        (match_ordering o ((t, n) ∷ e ∷ es) ((e.0, e.1 + n) ∷ es) (e ∷ add_count R es t n))
    Ascend-add-by Less t n e es is some up rest = (
      (
        is,
        weaker (λ f. R e.0 f.0 ≡ Less) (λ f. R t f.0 ≡ Less)
            (λ f above. total.trans t e.0 f.0 is above) es up.0,
      ),
      some,
      up,
    )
    Ascend-add-by Equal t n e es is some up rest =
        (up.0, (let h = up.1 in omega arith), up.2)
    Ascend-add-by Greater t n e es is some up rest = (
      all-added (λ l. R e.0 l ≡ Less) es t n
          (total.antisymm e.0 t ∙ ap ordering_reverse is) up.0,
      up.1,
      rest,
    )

    pub Ascend-add : (es : List (S × ℕ)) (t : S) (n : ℕ) → 0 < n → Ascend R es
        → Ascend R (add_count R es t n)
    Ascend-add [] t n some up = (tt, some, tt)
    Ascend-add (e ∷ es) t n some up =
        Ascend-add-by (R t e.0) t n e es refl some up (Ascend-add es t n some up.2)

    Ascend-count_each : (es : List (S × ℕ)) (ts : List S) → Ascend R es
        → Ascend R (count_each R es ts)
    Ascend-count_each es [] up = up
    Ascend-count_each es (t ∷ ts) up =
        Ascend-count_each (add_count R es t 1) ts (Ascend-add es t 1 (omega arith) up)

    pub Ascend-groups : (ts : List S) → Ascend R (groups_of R ts)
    Ascend-groups ts = Ascend-count_each [] ts tt

    -- ---- counts at the end

    above : (t : S) (e : S × ℕ) → R e.0 t ≡ Less → R t e.0 ≡ Greater
    above t e below = total.antisymm t e.0 ∙ ap ordering_reverse below

    -- more of a tuple above all
    add-end : (es : List (S × ℕ)) (t : S) (n : ℕ) → AllByRecursion (λ e. R e.0 t ≡ Less) es
        → add_count R es t n ≡ es ++ (t, n) ∷ []
    add-end [] t n below = refl
    add-end (e ∷ es) t n below =
        rw (above t e below.0) (ap (λ fs. e ∷ fs) (add-end es t n below.1))

    -- more of the last tuple
    add-last : (es : List (S × ℕ)) (t : S) (m n : ℕ) → AllByRecursion (λ e. R e.0 t ≡ Less) es
        → add_count R (es ++ (t, m) ∷ []) t n ≡ es ++ (t, m + n) ∷ []
    add-last [] t m n below = rw (tied_itself total t) refl
    add-last (e ∷ es) t m n below =
        rw (above t e below.0) (ap (λ fs. e ∷ fs) (add-last es t m n below.1))

    count-last : (es : List (S × ℕ)) (t : S) (m n : ℕ) → AllByRecursion (λ e. R e.0 t ≡ Less) es
        → count_each R (es ++ (t, m) ∷ []) (replicate n t) ≡ es ++ (t, m + n) ∷ []
    count-last es t m zero below = ap (λ j. es ++ (t, j) ∷ []) (omega arith)
    count-last es t m (suc n) below =
        ap (λ fs. count_each R fs (replicate n t)) (add-last es t m 1 below)
        ∙ count-last es t (m + 1) n below
        ∙ ap (λ j. es ++ (t, j) ∷ []) (omega arith)

    count-end : (es : List (S × ℕ)) (t : S) (n : ℕ) → 0 < n
        → AllByRecursion (λ e. R e.0 t ≡ Less) es
        → count_each R es (replicate n t) ≡ es ++ (t, n) ∷ []
    count-end es t zero some below = absurd (omega arith)
    count-end es t (suc n) some below =
        ap (λ fs. count_each R fs (replicate n t)) (add-end es t 1 below)
        ∙ count-last es t 1 n below ∙ ap (λ j. es ++ (t, j) ∷ []) (omega arith)

    -- ascending counts are those of their spread
    count-spread : (es fs : List (S × ℕ)) → Below es fs → Ascend R fs
        → count_each R es (spread fs) ≡ es ++ fs
    count-spread es [] below up = sym (append-nil es)
    count-spread es (f ∷ fs) below up =
        count_each-append R es (replicate f.1 f.0) (spread fs)
        ∙ ap (λ gs. count_each R gs (spread fs)) (count-end es f.0 f.1 up.1 below.0)
        ∙ count-spread (es ++ f ∷ []) fs (below-more es fs f below.1 up.0) up.2
        ∙ append_assoc es (f ∷ []) fs

    groups-spread : (es : List (S × ℕ)) → Ascend R es → groups_of R (spread es) ≡ es
    groups-spread es up = count-spread [] es (below-nothing es) up

    -- the lowest of two lists are those of the spread of the first's lowest with the second
    pub cut-spread : (size : ℕ) (ts us : List S)
        → cut R size (ts ++ us) ≡ cut R size (spread (cut R size ts) ++ us)
    cut-spread size ts us =
        cut-append R size ts us
        ∙ ap (λ es. take size (count_each R es us))
        (sym (groups-spread (cut R size ts) (Ascend-take size (groups_of R ts) (Ascend-groups ts))))
        ∙ ap (take size) (sym (count_each-append R [] (spread (cut R size ts)) us))
