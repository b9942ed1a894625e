-- Counts whose keys ascend, and those that a sorted list makes.
use Rattle.std.proofs.Common.{◌≡◌, ◌<◌, ℕ, suc, false, List, [], ◌∷◌, ◌++◌}
use Rattle.std.proofs.Common.{length, get_or, refl, sym, ap, ◌∙◌, arith}
use Rattle.std.proofs.Common.{Ordering, Less, Equal, Greater, is_lt}
use Rattle.std.specs.Cmp.{IsTotalOrder}
use Rattle.std.specs.List.{AllByRecursion}
use Rattle.std.specs.Ordering.{is_eq, ordering_reverse}
use Rattle.agg_heap_map.proofs.AscendingKeys.{Ascends}
use Rattle.agg_composite.specs.buckets.Cut.{add_count}
use Rattle.agg_composite.specs.tuple_counts.Counted.{counted}

not_above-by : (o : Ordering) → is_lt (ordering_reverse o) ≡ false → is_eq o ≡ false → o ≡ Less
not_above-by Less not apart = refl
not_above-by Equal not apart = cc
not_above-by Greater not apart = cc

module _ {K : Type 0} (R : K → K → Ordering) (total : IsTotalOrder R) where
  -- no key is below this one
  abbrev pub NoneBelow : K → List (K × ℕ) → Type 0
  NoneBelow k es = AllByRecursion (λ e. is_lt (R e.0 k) ≡ false) es

  -- no key is below one before it
  abbrev pub Climbs : List (K × ℕ) → Type 0
  Climbs [] = Unit {0}
  Climbs (e ∷ es) = NoneBelow e.0 es × Climbs es

  -- all keys are below this one
  abbrev pub AllBelow : K → List (K × ℕ) → Type 0
  AllBelow k es = AllByRecursion (λ e. R e.0 k ≡ Less) es

  -- a key that is not below another, and not equal to it, is above it
  pub next-above : (k l : K) → is_lt (R l k) ≡ false → is_eq (R l k) ≡ false → R k l ≡ Less
  next-above k l not apart =
      by_order (R l k) not apart (total.antisymm k l)
    where
      by_order : (o : Ordering) → is_lt o ≡ false → is_eq o ≡ false
          → R k l ≡ ordering_reverse o → R k l ≡ Less
      by_order Less not apart is = cc
      by_order Equal not apart is = cc
      by_order Greater not apart is = is

  -- below what is above
  pub below-next : (k l : K) (es : List (K × ℕ)) → R k l ≡ Less → AllBelow k es → AllBelow l es
  below-next k l [] less below = tt
  below-next k l (e ∷ es) less below =
      (total.trans e.0 k l below.0 less, below-next k l es less below.1)

  pub below-last : (k : K) (es : List (K × ℕ)) (e : K × ℕ) → AllBelow k es → R e.0 k ≡ Less
      → AllBelow k (es ++ e ∷ [])
  below-last k [] e below own = (own, tt)
  below-last k (f ∷ es) e below own = (below.0, below-last k es e below.1 own)

  above-last : (k : K) (es : List (K × ℕ)) (e : K × ℕ) → AllByRecursion (λ f. R k f.0 ≡ Less) es
      → R k e.0 ≡ Less → AllByRecursion (λ f. R k f.0 ≡ Less) (es ++ e ∷ [])
  above-last k [] e above own = (own, tt)
  above-last k (f ∷ es) e above own = (above.0, above-last k es e above.1 own)

  -- counts ascend with one that is above them
  pub ascends-last : (es : List (K × ℕ)) (e : K × ℕ) → Ascends R total es → AllBelow e.0 es
      → Ascends R total (es ++ e ∷ [])
  ascends-last [] e up below = (tt, tt)
  ascends-last (f ∷ es) e up below =
      (above-last f.0 es e up.0 below.0, ascends-last es e up.1 below.1)

  -- such counts are one for each distinct key
  pub counted-ascending : (es : List (K × ℕ)) → Ascends R total es → counted R es ≡ es
  counted-ascending [] up = refl
  counted-ascending (e ∷ es) up =
      ap (λ (fs : List (K × ℕ)). add_count R fs e.0 e.1) (counted-ascending es up.1)
      ∙ in_front es up.0
    where
      in_front : (fs : List (K × ℕ)) → AllByRecursion (λ f. R e.0 f.0 ≡ Less) fs
          → add_count R fs e.0 e.1 ≡ e ∷ fs
      in_front [] above = refl
      in_front (f ∷ fs) above = rw above.0 refl

  -- ---- a sorted list

  -- each key but the first is not below the one before it
  abbrev pub Steps : List (K × ℕ) → Type 0
  Steps es =
      (k : ℕ) (d : K × ℕ) → suc k < length es
      → is_lt (R (get_or es (suc k) d).0 (get_or es k d).0) ≡ false

  not-below : (k l m : K) → is_lt (R l k) ≡ false → is_lt (R m l) ≡ false
      → is_lt (R m k) ≡ false
  not-below k l m first second =
      by_order (R l k) (R m l) refl refl first second
    where
      by_order : (o p : Ordering) → R l k ≡ o → R m l ≡ p → is_lt o ≡ false → is_lt p ≡ false
          → is_lt (R m k) ≡ false
      by_order Less p is js first second = cc
      by_order o Less is js first second = cc
      by_order Equal p is js first second =
          let same : R m k ≡ R m l =
          total.antisymm m k
          ∙ ap ordering_reverse (total.congr k l m (total.antisymm k l ∙ ap ordering_reverse is))
          ∙ sym (total.antisymm m l) in
          ap is_lt (same ∙ js) ∙ second
      by_order Greater Equal is js first second =
          ap is_lt (total.congr m l k js ∙ is)
      by_order Greater Greater is js first second =
          let below = total.trans k l m (total.antisymm k l ∙ ap ordering_reverse is)
          (total.antisymm l m ∙ ap ordering_reverse js) in
          ap is_lt (total.antisymm m k ∙ ap ordering_reverse below)

  none-below : (k : K) (e : K × ℕ) (es : List (K × ℕ)) → is_lt (R e.0 k) ≡ false
      → NoneBelow e.0 es → NoneBelow k es
  none-below k e [] not none = tt
  none-below k e (f ∷ es) not none =
      (not-below k e.0 f.0 not none.0, none-below k e es not none.1)

  pub climbs-sorted : (es : List (K × ℕ)) → Steps es → Climbs es
  climbs-sorted [] steps = tt
  climbs-sorted (e ∷ []) steps = (tt, tt)
  climbs-sorted (e ∷ f ∷ es) steps =
      let rest : Climbs (f ∷ es) =
      climbs-sorted (f ∷ es) (λ k d h. steps (suc k) d (omega arith)) in
      let not = steps 0 e (omega arith) in
      ((not, none-below e.0 f es not rest.0), rest)
