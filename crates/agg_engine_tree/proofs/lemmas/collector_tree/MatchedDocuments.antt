-- The documents that a filter hands on are among those that match.
use Rattle.std.proofs.Common.{◌≡◌, ◌≢◌, ◌≤◌, ◌+◌, ℕ, List, [], ◌∷◌, Bool, true, false}
use Rattle.std.proofs.Common.{if◌then◌else◌}
use Rattle.std.proofs.Common.{Some, length, zero, suc, refl, sym, ap, ◌∙◌, arith, ⊎_elim, filter}
use Rattle.std.specs.Prelude.{slice_get}
use Rattle.std.proofs.lemmas.Bool.{cases_eq}
use Rattle.agg_cache.specs.Waiting.{docs_of, is_id}
use Rattle.agg_request_tree.proofs.Lists.{Has, Has-from_Contains}
use Rattle.agg_composite.specs.buckets.Visits.{Within, docs_in, weight}
use Rattle.agg_composite.proofs.lemmas.buckets.Labels.{is_id-other, is_id-same, weight-append}
use Rattle.agg_filter.specs.Filter.{Filter, FilterFor}
use Rattle.agg_engine_tree.specs.collector_tree.Caches.{Cache, waiting_in}
use Rattle.agg_engine_tree.proofs.lemmas.collector_tree.LowerDocuments.{below, below-all, below-le}
use Rattle.agg_engine_tree.proofs.lemmas.collector_tree.LowerDocuments.{top}

-- ---- sums

-- the sum of a function up to a number
abbrev sum_to : (ℕ → ℕ) → ℕ → ℕ
sum_to g zero = 0
sum_to g (suc n) = sum_to g n + g n

-- a function that is 0 at a number
zeroed : (ℕ → ℕ) → ℕ → ℕ → ℕ
zeroed g x i = if is_id x i then 0 else g i

zeroed-same : (g : ℕ → ℕ) (x i : ℕ) → i ≡ x → zeroed g x i ≡ 0
unfolding zeroed
zeroed-same g x i is =
    ap (λ j. if is_id x j then 0 else g j) is ∙ ap (λ b. if b then 0 else g x) (is_id-same x)

zeroed-other : (g : ℕ → ℕ) (x i : ℕ) → i ≢ x → zeroed g x i ≡ g i
unfolding zeroed
zeroed-other g x i other =
    ap (λ b. if b then 0 else g i) (is_id-other x i (λ is. other (sym is)))

sum-before : (g : ℕ → ℕ) (x n : ℕ) → n ≤ x → sum_to g n ≡ sum_to (zeroed g x) n
sum-before g x zero l = refl
sum-before g x (suc n) l =
    omega (arith, sum-before g x n (omega arith), zeroed-other g x n (omega arith))

sum-zeroed : (g : ℕ → ℕ) (x n : ℕ) → sum_to g n ≤ g x + sum_to (zeroed g x) n
sum-zeroed g x zero = omega arith
sum-zeroed g x (suc n) = ⊎_elim
    (λ is. omega (arith, sum-before g x n (omega arith), ap g is))
    (λ other. omega (arith, sum-zeroed g x n, zeroed-other g x n other))
    (cases_eq n x)

sum-nothing : (g : ℕ → ℕ) (n : ℕ) → ((i : ℕ) → g i ≡ 0) → sum_to g n ≡ 0
sum-nothing g zero none = refl
sum-nothing g (suc n) none = omega (arith, sum-nothing g n none, none n)

weight-less : (g h : ℕ → ℕ) (xs : List ℕ) → ((i : ℕ) → g i ≤ h i) → weight g xs ≤ weight h xs
weight-less g h [] less = omega arith
weight-less g h (x ∷ xs) less = omega (arith, weight-less g h xs less, less x)

zeroed-less : (g : ℕ → ℕ) (x i : ℕ) → zeroed g x i ≤ g i
zeroed-less g x i = ⊎_elim
    (λ is. omega (arith, zeroed-same g x i is))
    (λ other. omega (arith, zeroed-other g x i other))
    (cases_eq i x)

-- a function that is 0 but at listed numbers sums up to no more than over these
sum-listed : (ids : List ℕ) (g : ℕ → ℕ) (n : ℕ) → ((i : ℕ) → (Has i ids → ⊥) → g i ≡ 0)
    → sum_to g n ≤ weight g ids
sum-listed [] g n none = omega (arith, sum-nothing g n (λ i. none i (λ h. h)))
sum-listed (x ∷ ids) g n none =
    omega (
      arith,
      sum-zeroed g x n,
      sum-listed ids (zeroed g x) n (λ i out. ⊎_elim
          (λ is. zeroed-same g x i is)
          (λ other. zeroed-other g x i other
          ∙ none i (λ h. ⊎_elim (λ same. other (sym same)) out h))
          (cases_eq i x)),
      weight-less (zeroed g x) g ids (zeroed-less g x),
    )

sum-front : (w : ℕ → ℕ) (n : ℕ) → sum_to w (suc n) ≡ w 0 + sum_to (λ p. w (suc p)) n
sum-front w zero = omega arith
sum-front w (suc n) = omega (arith, sum-front w n)

-- a sum over a list is one over its places
sum-places : (ids : List ℕ) (g w : ℕ → ℕ)
    → ((p id : ℕ) → slice_get ids p ≡ Some id → g id ≤ w p) → weight g ids ≤ sum_to w (length ids)
sum-places [] g w less = omega arith
sum-places (x ∷ ids) g w less =
    omega (
      arith,
      sum-front w (length ids),
      less 0 x refl,
      sum-places ids g (λ p. w (suc p)) (λ p id at. less (suc p) id at),
    )

-- ---- documents

-- the weight of a document that matches, 0 for others
matching_weight : (ℕ → Bool) → (ℕ → ℕ) → ℕ → ℕ
matching_weight m f d = if m d then f d else 0

weight-one : (b : Bool) (f : ℕ → ℕ) (d total : ℕ) (xs : List ℕ) → weight f xs ≡ total
    → weight f (if b then d ∷ xs else xs) ≡ (if b then f d else 0) + total
weight-one true f d total xs e = omega (arith, e)
weight-one false f d total xs e = omega (arith, e)

weight-filter : (m : ℕ → Bool) (f : ℕ → ℕ) (xs : List ℕ)
    → weight f (filter m xs) ≡ weight (matching_weight m f) xs
unfolding matching_weight
weight-filter m f [] = refl
weight-filter m f (x ∷ xs) =
    weight-one (m x) f x (weight (matching_weight m f) xs) (filter m xs) (weight-filter m f xs)

below-sum : (f : ℕ → ℕ) (n : ℕ) (xs : List (ℕ × ℕ))
    → below f n xs ≡ sum_to (λ id. weight f (docs_of (is_id id) xs)) n
below-sum f zero xs = refl
below-sum f (suc n) xs = omega (arith, below-sum f n xs)

-- what a filter gave is within what it matched
pub given-matched : (m : ℕ → Bool) (collector : Filter Cache) (visited given : List (ℕ × ℕ))
    → collector.hands_on ≡ true → FilterFor waiting_in m collector visited given
    → Within (docs_in given) (filter m (docs_in visited))
given-matched m collector visited given on f = record {
  lighter = λ weigh.
      let g : ℕ → ℕ = λ id. weight weigh (docs_of (is_id id) given) in
      let w : ℕ → ℕ = λ p. weight (matching_weight m weigh) (docs_of (is_id p) visited) in
      let none : (i : ℕ) → (Has i collector.ids → ⊥) → g i ≡ 0 = λ i out. omega (
        arith,
        weight-append weigh (docs_of (is_id i) given) (waiting_in collector.cache.0 i),
        ap (weight weigh) (f.others on i (λ c. out (Has-from_Contains collector.ids i c))),
      ) in
      let less : (p id : ℕ) → slice_get collector.ids p ≡ Some id → g id ≤ w p = λ p id at. omega (
        arith,
        weight-append weigh (docs_of (is_id id) given) (waiting_in collector.cache.0 id),
        ap (weight weigh) (f.exact on p id at),
        weight-filter m weigh (docs_of (is_id p) visited),
      ) in
      omega (
        arith,
        below-all weigh (top given) given (omega arith),
        below-sum weigh (top given) given,
        sum-listed collector.ids g (top given) none,
        sum-places collector.ids g w less,
        below-sum (matching_weight m weigh) (length collector.ids) visited,
        below-le (matching_weight m weigh) (length collector.ids) visited,
        weight-filter m weigh (docs_in visited),
      );
}

match-less : (b : Bool) (n : ℕ) → (if b then n else 0) ≤ n
match-less true n = omega arith
match-less false n = omega arith

-- what matches is within all
pub matching-within : (m : ℕ → Bool) (xs : List ℕ) → Within (filter m xs) xs
unfolding matching_weight
matching-within m xs = record {
  lighter = λ f. omega (
    arith,
    weight-filter m f xs,
    weight-less (matching_weight m f) f xs (λ d. match-less (m d) (f d)),
  );
}
