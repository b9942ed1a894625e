-- What is found in the groups of a list.
use Rattle.std.proofs.Common.{◌≡◌, ◌+◌, ◌<◌, ℕ, zero, suc, Bool, true, false, cond, List, [], ◌∷◌}
use Rattle.std.proofs.Common.{None, Some, refl, sym, ap, ◌∙◌, arith, Ordering, Less, Equal}
use Rattle.std.proofs.Common.{Greater, count_by}
use Rattle.std.specs.BTreeMap.{is_at}
use Rattle.std.specs.Cmp.{IsTotalOrder}
use Rattle.std.specs.List.{AllByRecursion}
use Rattle.std.specs.Map.{lookup}
use Rattle.std.specs.Option.{unwrap_or}
use Rattle.std.specs.Ordering.{is_eq, match_ordering}
use Rattle.std.proofs.lemmas.Cmp.{alike_right}
use Rattle.std.proofs.lemmas.List.Sums.{sum_by-cons}
use Rattle.agg_heap_map.proofs.AscendingKeys.{Ascends, none-above, sorted_from_ascends}
use Rattle.agg_heap_map.proofs.InsertionTurns.{tied}
use Rattle.agg_composite.specs.buckets.Cut.{add_count, count_each, groups_of}
use Rattle.agg_composite.specs.buckets.Laws.{CutsCompose, positive}
use Rattle.agg_composite.proofs.lemmas.buckets.Owners.{at-flips, at-same}
use Rattle.agg_composite.proofs.lemmas.buckets.Spread.{Ascend, Ascend-add, Ascend-groups}
use Rattle.agg_composite.proofs.lemmas.buckets.Spread.{cut-spread}

pub positive-some : (n : ℕ) → 0 < n → positive n ≡ Some n
positive-some zero l = absurd (omega arith)
positive-some (suc n) l = refl

module _ {S : Type 0} (R : S → S → Ordering) (total : IsTotalOrder R) where
  -- the count of a tuple, 0 where it has none
  abbrev count_at : S → List (S × ℕ) → ℕ
  count_at q es = unwrap_or (lookup (is_at (R q)) es) 0

  added-by : (o : Ordering) (c d : Bool) (q t : S) (n : ℕ) (e : S × ℕ) (es more : List (S × ℕ))
      → R t e.0 ≡ o → is_at (R q) e.0 ≡ c → is_at (R t) q ≡ d
      → AllByRecursion (λ f. R e.0 f.0 ≡ Less) es
      → count_at q more ≡ count_at q es + cond d n 0
      → count_at q (match_ordering o ((t, n) ∷ e ∷ es) ((e.0, e.1 + n) ∷ es) (e ∷ more))
      ≡ count_at q (e ∷ es) + cond d n 0
  added-by Less c true q t n e es more is at own up rest =
      let nothing : lookup (is_at (R t)) (e ∷ es) ≡ None =
      rw is (none-above R total t e.0 es is up) in
      let none : lookup (is_at (R q)) (e ∷ es) ≡ None =
      ap (λ test. lookup test (e ∷ es)) (sym (at-same R total t q own)) ∙ nothing in
      let zero_more : n ≡ 0 + n = omega arith in
      ap (λ b. unwrap_or (cond b (Some n) (lookup (is_at (R q)) (e ∷ es))) 0)
      (at-flips R total q t ∙ own)
      ∙ zero_more ∙ ap (λ o. unwrap_or o 0 + n) (sym none)
  added-by Less c false q t n e es more is at own up rest =
      let same : count_at q (e ∷ es) ≡ count_at q (e ∷ es) + 0 = omega arith in
      ap (λ b. unwrap_or (cond b (Some n) (lookup (is_at (R q)) (e ∷ es))) 0)
      (at-flips R total q t ∙ own)
      ∙ same
  added-by Equal c true q t n e es more is at own up rest =
      let here : is_at (R q) e.0 ≡ true =
      at-flips R total q e.0 ∙ sym (ap is_eq (total.congr t e.0 q is)) ∙ own in
      rw here refl
  added-by Equal c false q t n e es more is at own up rest =
      let here : is_at (R q) e.0 ≡ false =
      at-flips R total q e.0 ∙ sym (ap is_eq (total.congr t e.0 q is)) ∙ own in
      let same : count_at q es ≡ count_at q es + 0 = omega arith in
      rw here same
  added-by Greater true d q t n e es more is at own up rest =
      let apart : d ≡ false =
      sym own ∙ ap is_eq (alike_right total q e.0 t (tied (R q e.0) at) ∙ is) in
      let same : e.1 ≡ e.1 + 0 = omega arith in
      rw (at, apart) same
  added-by Greater false d q t n e es more is at own up rest = rw at rest

  added : (q t : S) (n : ℕ) (es : List (S × ℕ)) → Ascend R es
      → count_at q (add_count R es t n) ≡ count_at q es + cond (is_at (R t) q) n 0
  added q t n [] up =
      ap (λ b. unwrap_or (cond b (Some n) None) 0) (at-flips R total q t) ∙ alone (is_at (R t) q)
    where
      alone : (b : Bool) → unwrap_or (cond b (Some n) None) 0 ≡ 0 + cond b n 0
      alone true = omega arith
      alone false = refl
  added q t n (e ∷ es) up =
      added-by (R t e.0) (is_at (R q) e.0) (is_at (R t) q) q t n e es (add_count R es t n) refl refl
      refl up.0 (added q t n es up.2)

  counted-each : (q : S) (es : List (S × ℕ)) (ts : List S) → Ascend R es
      → count_at q (count_each R es ts) ≡ count_at q es + count_by (is_at (R q)) ts
  counted-each q es [] up = omega arith
  counted-each q es (t ∷ ts) up =
      let rest =
      counted-each q (add_count R es t 1) ts (Ascend-add R total es t 1 (omega arith) up) in
      let one = added q t 1 es up in
      let flip : cond (is_at (R t) q) 1 0 ≡ cond (is_at (R q) t) 1 0 =
      ap (λ b. cond {A = ℕ} b 1 0) (at-flips R total t q) in
      let more = sum_by-cons (λ x. cond (is_at (R q) x) 1 0) t ts in
      omega (arith, rest, one, flip, more)

  -- what is found is positive
  found-positive : (q : S) (es : List (S × ℕ)) → Ascend R es
      → lookup (is_at (R q)) es ≡ positive (count_at q es)
  found-positive q [] up = refl
  found-positive q (e ∷ es) up = by_test (is_at (R q) e.0) (found-positive q es up.2)
    where
      by_test : (b : Bool) → lookup (is_at (R q)) es ≡ positive (count_at q es)
          → cond b (Some e.1) (lookup (is_at (R q)) es)
          ≡ positive (unwrap_or (cond b (Some e.1) (lookup (is_at (R q)) es)) 0)
      by_test true rest = sym (positive-some e.1 up.1)
      by_test false rest = rest

  pub groups-counted : (ts : List S) (q : S)
      → lookup (is_at (R q)) (groups_of R ts) ≡ positive (count_by (is_at (R q)) ts)
  groups-counted ts q =
      let all : count_at q (groups_of R ts) ≡ count_by (is_at (R q)) ts =
      (let e = counted-each q [] ts tt in omega (arith, e)) in
      found-positive q (groups_of R ts) (Ascend-groups R total ts) ∙ ap positive all

  ascends : (es : List (S × ℕ)) → Ascend R es → Ascends R total es
  ascends [] up = tt
  ascends (e ∷ es) up = (up.0, ascends es up.2)

  pub groups-ascend : (ts : List S) → Ascends R total (groups_of R ts)
  groups-ascend ts = ascends (groups_of R ts) (Ascend-groups R total ts)

  pub cuts : CutsCompose R
  cuts = record {
    ascending = λ ts. sorted_from_ascends R total (groups_of R ts) (groups-ascend ts);
    counted = groups-counted;
    again = cut-spread R total;
  }
