-- Counts of tuples: fronts, and lists in a row.
use Rattle.std.proofs.Common.{◌≡◌, ℕ, zero, suc, ◌+◌, List, [], ◌∷◌, ◌++◌, take, refl, sym, ap, ◌∙◌}
use Rattle.std.proofs.Common.{arith, Ordering, Less, Equal, Greater}
use Rattle.std.specs.Ordering.{match_ordering}
use Rattle.std.proofs.lemmas.List.{take-take}
use Rattle.agg_composite.specs.buckets.Cut.{add_count, count_each, cut, groups_of}

module _ {S : Type 0} (R : S → S → Ordering) where
  -- ---- fronts, for which no law of the order is needed

  -- a front with more of a tuple, by how the tuple compares with the first
  take-add-by : (o : Ordering) (size : ℕ) (f g e : S × ℕ) (es more others : List (S × ℕ))
      → take size more ≡ take size others
      → take (suc size) (match_ordering o (f ∷ e ∷ es) (g ∷ es) (e ∷ more))
      ≡ take (suc size)
      (match_ordering o (f ∷ e ∷ take size es) (g ∷ take size es) (e ∷ others))
  take-add-by Less size f g e es more others rest =
      ap (λ xs. f ∷ xs) (sym (take-take size (suc size) (e ∷ es) (omega arith)))
  take-add-by Equal size f g e es more others rest =
      ap (λ xs. g ∷ xs) (sym (take-take size size es (omega arith)))
  take-add-by Greater size f g e es more others rest = ap (λ xs. e ∷ xs) rest

  -- the front of counts with more of a tuple is that of the front with more of it
  take-add : (size : ℕ) (es : List (S × ℕ)) (t : S) (n : ℕ)
      → take size (add_count R es t n) ≡ take size (add_count R (take size es) t n)
  take-add zero es t n = refl
  take-add (suc size) [] t n = refl
  take-add (suc size) (e ∷ es) t n =
      take-add-by (R t e.0) size (t, n) (e.0, e.1 + n) e es (add_count R es t n)
      (add_count R (take size es) t n) (take-add size es t n)

  take-count_each : (size : ℕ) (es : List (S × ℕ)) (ts : List S)
      → take size (count_each R es ts) ≡ take size (count_each R (take size es) ts)
  take-count_each size es [] = sym (take-take size size es (omega arith))
  take-count_each size es (t ∷ ts) =
      take-count_each size (add_count R es t 1) ts
      ∙ ap (λ fs. take size (count_each R fs ts)) (take-add size es t 1)
      ∙ sym (take-count_each size (add_count R (take size es) t 1) ts)

  -- counting two lists is counting them in a row
  pub count_each-append : (es : List (S × ℕ)) (ts us : List S)
      → count_each R es (ts ++ us) ≡ count_each R (count_each R es ts) us
  count_each-append es [] us = refl
  count_each-append es (t ∷ ts) us = count_each-append (add_count R es t 1) ts us

  -- the lowest counts, with a list counted after
  pub cut-append : (size : ℕ) (ts us : List S)
      → cut R size (ts ++ us) ≡ take size (count_each R (cut R size ts) us)
  cut-append size ts us =
      ap (take size) (count_each-append [] ts us) ∙ take-count_each size (groups_of R ts) us
