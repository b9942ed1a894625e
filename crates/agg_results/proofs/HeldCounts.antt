-- How often counts hold a key, and that the counts of a list are exact.
use Rattle.std.proofs.Common.{◌≡◌, ℕ, ◌+◌, Bool, true, false, cond, List, [], ◌∷◌, refl, sym, ap}
use Rattle.std.proofs.Common.{◌∙◌, arith, Ordering, Less, Equal, Greater, is_eq}
use Rattle.std.specs.Cmp.{IsTotalOrder}
use Rattle.std.specs.List.{AllByRecursion, count_by}
use Rattle.std.specs.List.Sorted.{IsStrictlySortedBy}
use Rattle.std.specs.BTreeMap.{is_at}
use Rattle.std.specs.Map.{keys_of}
use Rattle.std.specs.Ordering.{match_ordering}
use Rattle.std.proofs.lemmas.Cmp.{alike_right, tied_itself}
use Rattle.std.proofs.lemmas.List.Sums.{sum_by-cons}
use Rattle.agg_request_tree.proofs.Lists.{AllByRecursion-weaker}
use Rattle.agg_results.proofs.Counts.{add_count}
use Rattle.agg_results.proofs.Counts.{Ascend, reversed}
use Rattle.agg_results.proofs.CountedKeys.{count_each, counted, Ascend-counted}

module _ {K : Type 0} (R : K → K → Ordering) (total : IsTotalOrder R) where
  -- how often counts hold a key
  abbrev held_count : K → List (K × ℕ) → ℕ
  held_count q [] = 0
  held_count q (e ∷ es) = cond (is_at (R q) e.0) e.1 0 + held_count q es

  held-add-by : (o : Ordering) (q k : K) (n : ℕ) (e : K × ℕ) (es more : List (K × ℕ))
      → R k e.0 ≡ o → held_count q more ≡ cond (is_at (R q) k) n 0 + held_count q es
      → held_count q (match_ordering o ((k, n) ∷ e ∷ es) ((e.0, e.1 + n) ∷ es) (e ∷ more))
      ≡ cond (is_at (R q) k) n 0 + (cond (is_at (R q) e.0) e.1 0 + held_count q es)
  held-add-by Less q k n e es more is rest = refl
  held-add-by Equal q k n e es more is rest =
      rw (ap is_eq (alike_right total k e.0 q is)) (both (is_at (R q) e.0))
    where
      both : (b : Bool) → cond b (e.1 + n) 0 + held_count q es
          ≡ cond b n 0 + (cond b e.1 0 + held_count q es)
      both true = omega arith
      both false = omega arith
  held-add-by Greater q k n e es more is rest = rw rest (omega arith)

  -- more of a key is held as often more
  held-add : (q : K) (es : List (K × ℕ)) (k : K) (n : ℕ)
      → held_count q (add_count R es k n) ≡ cond (is_at (R q) k) n 0 + held_count q es
  held-add q [] k n = refl
  held-add q (e ∷ es) k n =
      held-add-by (R k e.0) q k n e es (add_count R es k n) refl (held-add q es k n)

  -- each place of a key in a list is counted
  held-each : (q : K) (es : List (K × ℕ)) (ks : List K)
      → held_count q (count_each R es ks) ≡ held_count q es + count_by (is_at (R q)) ks
  held-each q es [] = omega arith
  held-each q es (k ∷ ks) =
      held-each q (add_count R es k 1) ks
      ∙ rw (held-add q es k 1, sum_by-cons (λ x. cond (is_at (R q) x) 1 0) k ks) (omega arith)

  -- counts above a key don't hold it
  none-above : (q : K) (es : List (K × ℕ)) → AllByRecursion (λ l. R q l ≡ Less) (keys_of es)
      → held_count q es ≡ 0
  none-above q [] above = refl
  none-above q (e ∷ es) above = rw (above.0, none-above q es above.1) refl

  -- an entry below others is held by none of their keys
  own-more : (e : K × ℕ) (es fs : List (K × ℕ))
      → AllByRecursion (λ l. R e.0 l ≡ Less) (keys_of fs)
      → AllByRecursion (λ f. held_count f.0 es ≡ f.1) fs
      → AllByRecursion (λ f. held_count f.0 (e ∷ es) ≡ f.1) fs
  own-more e es [] above own = tt
  own-more e es (f ∷ fs) above own =
      let apart : R f.0 e.0 ≡ Greater = reversed R total e.0 f.0 Less above.0 in
      (rw (apart, own.0) (omega arith), own-more e es fs above.1 own.1)

  -- ascending counts hold each of their keys as often as its entry says
  held-own : (es : List (K × ℕ)) → Ascend R es → AllByRecursion (λ e. held_count e.0 es ≡ e.1) es
  unfolding IsStrictlySortedBy
  held-own [] up = tt
  held-own (e ∷ es) up = (
    rw (tied_itself total e.0, none-above e.0 es up.0) (omega arith),
    own-more e es es up.0 (held-own es up.1),
  )

  -- the counts of a list are exact
  pub counted-exact : (ks : List K)
      → AllByRecursion (λ e. e.1 ≡ count_by (is_at (R e.0)) ks) (counted R ks)
  counted-exact ks =
      AllByRecursion-weaker (λ e. held_count e.0 (counted R ks) ≡ e.1)
      (λ e. e.1 ≡ count_by (is_at (R e.0)) ks)
      (λ e own. sym own ∙ held-each e.0 [] ks ∙ omega arith)
      (counted R ks) (held-own (counted R ks) (Ascend-counted R total ks))
