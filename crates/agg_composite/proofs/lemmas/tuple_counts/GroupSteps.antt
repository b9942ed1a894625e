-- A sorted list of counts, gone over from its first on.
use Rattle.std.proofs.Common.{◌≡◌, ◌+◌, ℕ, false, List, [], ◌∷◌, ◌++◌, sym, ap, ◌∙◌, subst}
use Rattle.std.proofs.Common.{append_assoc, Ordering, Equal}
use Rattle.std.specs.Cmp.{IsTotalOrder}
use Rattle.std.specs.List.Sorted.{IsPermutation}
use Rattle.std.specs.Ordering.{is_eq}
use Rattle.agg_heap_map.proofs.AscendingKeys.{Ascends}
use Rattle.agg_composite.specs.tuple_counts.Counted.{counted}
use Rattle.agg_composite.proofs.lemmas.tuple_counts.CountTurns.{counted-joined, counted-same}
use Rattle.agg_composite.proofs.lemmas.tuple_counts.GroupedCounts.{AllBelow, Climbs, Steps}
use Rattle.agg_composite.proofs.lemmas.tuple_counts.GroupedCounts.{ascends-last, below-last}
use Rattle.agg_composite.proofs.lemmas.tuple_counts.GroupedCounts.{below-next, climbs-sorted}
use Rattle.agg_composite.proofs.lemmas.tuple_counts.GroupedCounts.{counted-ascending, next-above}

module _ {K : Type 0} (R : K → K → Ordering) (total : IsTotalOrder R) (all : List (K × ℕ)) where
  -- the groups so far, the one that grows, and the counts that are still to come
  pub record AreGrouped (groups : List (K × ℕ)) (k : K) (n : ℕ) (rest : List (K × ℕ))
      : Type 0 where
    pub same : counted R (groups ++ (k, n) ∷ rest) ≡ counted R all
    pub up : Ascends R total groups
    pub below : AllBelow R total k groups
    pub climbs : Climbs R total ((k, n) ∷ rest)

  -- at first
  pub grouped-first : ((k l : K) → R k l ≡ Equal → k ≡ l) → (sorted : List (K × ℕ))
      → IsPermutation all sorted → Steps R total sorted
      → (k : K) (n : ℕ) (rest : List (K × ℕ)) → sorted ≡ (k, n) ∷ rest → AreGrouped [] k n rest
  grouped-first exact sorted moved steps k n rest is = record {
    same = ap (counted R) (sym is) ∙ sym (counted-same R total exact all sorted moved);
    up = tt;
    below = tt;
    climbs = subst (Climbs R total) is (climbs-sorted R total sorted steps);
  }

  module _ (groups : List (K × ℕ)) (k : K) (n : ℕ) (left : List (K × ℕ))
      (are : AreGrouped groups k n left) where
    module _ (l : K) (m : ℕ) (rest : List (K × ℕ)) (goes : left ≡ (l, m) ∷ rest) where
      pub same-next : counted R (groups ++ (k, n) ∷ (l, m) ∷ rest) ≡ counted R all
      same-next = ap (λ fs. counted R (groups ++ (k, n) ∷ fs)) (sym goes) ∙ are.same

      climbs_next : Climbs R total ((k, n) ∷ (l, m) ∷ rest)
      climbs_next = subst (λ fs. Climbs R total ((k, n) ∷ fs)) goes are.climbs

      -- a count of the same key is one more of it
      pub grouped-joined : ((k l : K) → R k l ≡ Equal → k ≡ l) → R l k ≡ Equal
          → AreGrouped groups k (n + m) rest
      grouped-joined exact tied = record {
        same =
            sym (counted-joined R total exact groups rest k n m)
            ∙ subst (λ x. counted R (groups ++ (k, n) ∷ (x, m) ∷ rest) ≡ counted R all)
            (exact l k tied) same-next;
        up = are.up;
        below = are.below;
        climbs = (climbs_next.0.1, climbs_next.1.1);
      }

      -- a count of another key begins a group
      pub grouped-next : is_eq (R l k) ≡ false → AreGrouped (groups ++ (k, n) ∷ []) l m rest
      grouped-next apart =
          let above = next-above R total k l climbs_next.0.0 apart in record {
            same = ap (counted R) (append_assoc groups ((k, n) ∷ []) ((l, m) ∷ rest)) ∙ same-next;
            up = ascends-last R total groups (k, n) are.up are.below;
            below = below-last R total l groups (k, n)
                (below-next R total k l groups above are.below) above;
            climbs = climbs_next.1;
          }

    -- in the end
    ascends-all : Ascends R total (groups ++ (k, n) ∷ [])
    ascends-all = ascends-last R total groups (k, n) are.up are.below

    -- they are one for each distinct key
    pub grouped-again : counted R (groups ++ (k, n) ∷ []) ≡ groups ++ (k, n) ∷ []
    grouped-again = counted-ascending R total (groups ++ (k, n) ∷ []) ascends-all

    pub grouped-all : left ≡ [] → groups ++ (k, n) ∷ [] ≡ counted R all
    grouped-all none =
        sym grouped-again
        ∙ ap (λ fs. counted R (groups ++ (k, n) ∷ fs)) (sym none) ∙ are.same
