-- The counts of a list of tuples are its groups.
use Rattle.std.proofs.Common.{◌≡◌, ℕ, ◌+◌, ◌<◌, List, [], ◌∷◌, inl, inr, refl, sym}
use Rattle.std.proofs.Common.{Ordering, Less, Equal, Greater}
use Rattle.std.specs.Cmp.{IsTotalOrder}
use Rattle.std.specs.List.{All, AllByRecursion, Contains, count_by}
use Rattle.std.specs.Map.{keys_of}
use Rattle.std.specs.Ordering.{match_ordering}
use Rattle.std.proofs.lemmas.List.Elements.{All-contains_itself, All-from_recursion}
use Rattle.std.proofs.lemmas.List.Elements.{recursion_from_All}
use Rattle.agg_values.specs.KeyOrder.{SourceRules, tuple_order}
use Rattle.agg_values.specs.Laws.{IsCanonicalTuple, IsExactOn}
use Rattle.agg_values.specs.Tuple.{KeyTuple}
use Rattle.agg_values.proofs.TupleOrder.{tuple_order-exact, tuple_order-total}
use Rattle.agg_request_tree.specs.Groups.{Groups}
use Rattle.agg_request_tree.specs.Occurrences.{same_tuple}
use Rattle.agg_request_tree.proofs.Lists.{AllByRecursion-both, AllByRecursion-weaker, Has}
use Rattle.agg_request_tree.proofs.Lists.{Contains-from_Has}
use Rattle.agg_results.proofs.Counts.{add_count}
use Rattle.agg_results.proofs.Counts.{all-added}
use Rattle.agg_results.proofs.CountedKeys.{Ascend-counted, Positive-counted, all-counted}
use Rattle.agg_results.proofs.CountedKeys.{count_each, counted}
use Rattle.agg_results.proofs.HeldCounts.{counted-exact}

module _ {K : Type 0} (R : K → K → Ordering) (total : IsTotalOrder R) where
  -- ---- no key is lost

  kept-by : (o : Ordering) (k : K) (n : ℕ) (e : K × ℕ) (es more : List (K × ℕ)) (x : K)
      → Has x (keys_of (e ∷ es)) → (Has x (keys_of es) → Has x (keys_of more))
      → Has x (keys_of (match_ordering o ((k, n) ∷ e ∷ es) ((e.0, e.1 + n) ∷ es) (e ∷ more)))
  kept-by Less k n e es more x has rest = inr has
  kept-by Equal k n e es more x has rest = has
  kept-by Greater k n e es more x (inl is) rest = inl is
  kept-by Greater k n e es more x (inr has) rest = inr (rest has)

  kept-add : (es : List (K × ℕ)) (k : K) (n : ℕ) (x : K) → Has x (keys_of es)
      → Has x (keys_of (add_count R es k n))
  kept-add [] k n x has = absurd has
  kept-add (e ∷ es) k n x has =
      kept-by (R k e.0) k n e es (add_count R es k n) x has (λ h. kept-add es k n x h)

  kept-each : (es : List (K × ℕ)) (ks : List K) (x : K) → Has x (keys_of es)
      → Has x (keys_of (count_each R es ks))
  kept-each es [] x has = has
  kept-each es (k ∷ ks) x has = kept-each (add_count R es k 1) ks x (kept-add es k 1 x has)

  -- ---- each key is counted, where ties are one key

  module _ (M : K → Type 0) (exact : IsExactOn M R) where
    added-by : (o : Ordering) (k : K) (n : ℕ) (e : K × ℕ) (es more : List (K × ℕ)) → R k e.0 ≡ o
        → M k → M e.0 → Has k (keys_of more)
        → Has k (keys_of (match_ordering o ((k, n) ∷ e ∷ es) ((e.0, e.1 + n) ∷ es) (e ∷ more)))
    added-by Less k n e es more is own first rest = inl refl
    added-by Equal k n e es more is own first rest = inl (sym (exact k e.0 own first is))
    added-by Greater k n e es more is own first rest = inr rest

    added : (es : List (K × ℕ)) (k : K) (n : ℕ) → M k → AllByRecursion M (keys_of es)
        → Has k (keys_of (add_count R es k n))
    added [] k n own all = inl refl
    added (e ∷ es) k n own all =
        added-by (R k e.0) k n e es (add_count R es k n) refl own all.0 (added es k n own all.1)

    each-counted : (es : List (K × ℕ)) (ks : List K) → AllByRecursion M (keys_of es)
        → AllByRecursion M ks
        → AllByRecursion (λ k. Has k (keys_of (count_each R es ks))) ks
    each-counted es [] all own = tt
    each-counted es (k ∷ ks) all own = (
      kept-each (add_count R es k 1) ks k (added es k 1 own.0 all),
      each-counted (add_count R es k 1) ks (all-added R total M es k 1 own.0 all) own.1,
    )

-- the counts of canonical tuples are their groups
pub Groups-counted : (rules : SourceRules) (tuples : List KeyTuple)
    → All (IsCanonicalTuple rules) tuples
    → Groups rules tuples (counted (tuple_order rules) tuples)
Groups-counted rules tuples canonical = record {
  ascending = Ascend-counted R total tuples;
  counted = All-from_recursion (λ g. (0 < g.1) × (g.1 ≡ count_by (same_tuple rules g.0) tuples))
      (counted R tuples)
      (AllByRecursion-both (λ g. 0 < g.1) (λ g. g.1 ≡ count_by (same_tuple rules g.0) tuples)
      (counted R tuples) (Positive-counted R tuples) (counted-exact R total tuples));
  occurring = All-from_recursion (Contains tuples) keys
      (all-counted R total (Contains tuples) tuples
      (recursion_from_All (Contains tuples) tuples (All-contains_itself tuples)));
  complete = All-from_recursion (Contains keys) tuples
      (AllByRecursion-weaker (λ t. Has t keys) (Contains keys) (Contains-from_Has keys) tuples
      (each-counted R total (IsCanonicalTuple rules) (tuple_order-exact rules) [] tuples tt
      (recursion_from_All (IsCanonicalTuple rules) tuples canonical)));
}
  where
    R : KeyTuple → KeyTuple → Ordering
    R = tuple_order rules

    total : IsTotalOrder R
    total = tuple_order-total rules

    keys : List KeyTuple
    keys = keys_of (counted R tuples)
