-- Values that a metric takes in, one after another.
use Rattle.std.proofs.Common.{◌≡◌, ◌∙◌, refl, sym, ap, subst, ℕ, ◌+◌, ◌≤◌, ◌^◌, List, [], ◌∷◌}
use Rattle.std.proofs.Common.{◌++◌, Option, None, Some, ℤ, pos, ◌+ℤ◌, FitsSigned, length}
use Rattle.std.proofs.Common.{append-nil, append_assoc, length-append}
use Rattle.std.specs.Prelude.{filter_map, unwrap_or}
use Rattle.std.specs.Int.{int_max, int_min}
use Rattle.std.specs.List.{cons_option}
use Rattle.std.proofs.Math.IntN.{+ℤ_idr}
use Rattle.std.proofs.lemmas.List.Elements.{filter_map-append}
use mir.Syntax.{w128}
use Rattle.agg_values.specs.TypedKey.{CompositeIntermediateKey}
use Rattle.agg_request_tree.specs.Metrics.{best, best_of, number_of, sum_of}
use Rattle.agg_request_tree.proofs.Metrics.{best-append, max-assoc, min-assoc, sum-append}
use Rattle.agg_results.specs.declared.metric_results.metric as intermediate
use intermediate.IntermediateMetricResult.{IntermediateMetricResult}
use intermediate.IntermediateMetricResult.TheVariants as m
use intermediate.IntermediateCount.{IntermediateCount}
use intermediate.IntermediateMax.{IntermediateMax}
use intermediate.IntermediateMin.{IntermediateMin}
use intermediate.IntermediateSum.{IntermediateSum}
use Rattle.agg_metric.specs.Metric.{IsTooMany, TakesIn, TooManyWith, metric_of}
use Rattle.agg_metric.specs.declared.request_data.StatsType.{StatsType}
use Rattle.agg_metric.specs.declared.request_data.StatsType.TheVariants.{Count, Max, Min, Sum}

-- ---- of any metric

pub takes-none : (metric : IntermediateMetricResult) → TakesIn [] metric metric
takes-none metric kind before is = is ∙ ap (metric_of kind) (sym (append-nil before))

pub takes-both : (xs ys all : List CompositeIntermediateKey)
    (old between new : IntermediateMetricResult)
    → xs ++ ys ≡ all → TakesIn xs old between → TakesIn ys between new → TakesIn all old new
takes-both xs ys all old between new are first second kind before is =
    second kind (before ++ xs) (first kind before is)
    ∙ ap (metric_of kind) (append_assoc before xs ys ∙ ap (λ zs. before ++ zs) are)

too_many-more : (kind : StatsType) (xs ys : List CompositeIntermediateKey) → IsTooMany kind xs
    → IsTooMany kind (xs ++ ys)
too_many-more kind xs ys (first, rest, are, passes) =
    (first, rest ++ ys, ap (λ zs. zs ++ ys) are ∙ append_assoc first rest ys, passes)

-- values that were too many with those before them are so with others after them
pub many-both : (xs ys upto rest all : List CompositeIntermediateKey)
    (old between : IntermediateMetricResult)
    → xs ++ ys ≡ upto → upto ++ rest ≡ all → TakesIn xs old between → TooManyWith ys between
    → TooManyWith all old
many-both xs ys upto rest all old between up are first many kind before is =
    subst (IsTooMany kind)
    (append_assoc (before ++ xs) ys rest ∙ append_assoc before xs (ys ++ rest)
    ∙ ap (λ zs. before ++ zs) (sym (append_assoc xs ys rest) ∙ ap (λ zs. zs ++ rest) up ∙ are))
    (too_many-more kind (before ++ xs ++ ys) rest (many kind (before ++ xs) (first kind before is)))

-- ---- of a value, by the kind of the metric

abbrev kind_of : IntermediateMetricResult → StatsType
kind_of (m.Count r) = Count
kind_of (m.Max r) = Max
kind_of (m.Min r) = Min
kind_of (m.Sum r) = Sum

kind-metric : (kind : StatsType) (values : List CompositeIntermediateKey)
    → kind_of (metric_of kind values) ≡ kind
kind-metric Count values = refl
kind-metric Max values = refl
kind-metric Min values = refl
kind-metric Sum values = refl

-- what holds where a metric is one of its kind holds where it is one of any
by_kind : (P : StatsType → List CompositeIntermediateKey → Type 0) (old : IntermediateMetricResult)
    → ((before : List CompositeIntermediateKey) → old ≡ metric_of (kind_of old) before
    → P (kind_of old) before)
    → (kind : StatsType) (before : List CompositeIntermediateKey) → old ≡ metric_of kind before
    → P kind before
by_kind P old told kind before is =
    subst (λ k. old ≡ metric_of k before → P k before) (ap kind_of is ∙ kind-metric kind before)
    (told before) is

abbrev count_in : IntermediateMetricResult → ℕ
count_in (m.Count r) = r.count
count_in _ = 0

abbrev best_in : IntermediateMetricResult → Option ℤ
best_in (m.Max r) = r.value
best_in (m.Min r) = r.value
best_in _ = None

abbrev sum_in : IntermediateMetricResult → ℤ
sum_in (m.Sum r) = r.sum
sum_in _ = pos 0

one-more : (before : List CompositeIntermediateKey) (key : CompositeIntermediateKey)
    → length (before ++ key ∷ []) ≡ length before + 1
one-more before key = length-append before (key ∷ [])

pub many-count : (old : IntermediateMetricResult) (r : IntermediateCount)
    (key : CompositeIntermediateKey) → old ≡ m.Count r → 2 ^ 64 ≤ r.count + 1
    → TooManyWith (key ∷ []) old
many-count old r key of passes =
    subst (TooManyWith (key ∷ [])) (sym of)
    (by_kind (λ kind before. IsTooMany kind (before ++ key ∷ [])) (m.Count r) (λ before is. (
      before ++ key ∷ [],
      [],
      sym (append-nil (before ++ key ∷ [])),
      subst (λ n. 2 ^ 64 ≤ n) (ap (λ n. n + 1) (ap count_in is) ∙ sym (one-more before key)) passes,
    )))

-- the best and the sum of the numbers of some values with one more
best-more : (better : ℤ → ℤ → ℤ) → ((x y z : ℤ) → better (better x y) z ≡ better x (better y z))
    → (value : Option ℤ) (before : List CompositeIntermediateKey) (key : CompositeIntermediateKey)
    → value ≡ best_of better (filter_map number_of before)
    → best better value (number_of key)
    ≡ best_of better (filter_map number_of (before ++ key ∷ []))
best-more better assoc value before key is =
    (λ i. best better (is i) (best-one (number_of key) i))
    ∙ sym (ap (best_of better) (filter_map-append number_of before (key ∷ []))
    ∙ best-append better assoc (filter_map number_of before) (cons_option (number_of key) []))
  where
    best-one : (n : Option ℤ) → n ≡ best_of better (cons_option n [])
    best-one None = refl
    best-one (Some n) = refl

sum-more : (sum : ℤ) (before : List CompositeIntermediateKey) (key : CompositeIntermediateKey)
    → sum ≡ sum_of (filter_map number_of before)
    → sum +ℤ unwrap_or (number_of key) (pos 0)
    ≡ sum_of (filter_map number_of (before ++ key ∷ []))
sum-more sum before key is =
    (λ i. is i +ℤ sum-one (number_of key) i)
    ∙ sym (ap sum_of (filter_map-append number_of before (key ∷ []))
    ∙ sum-append (filter_map number_of before) (cons_option (number_of key) []))
  where
    sum-one : (n : Option ℤ) → unwrap_or n (pos 0) ≡ sum_of (cons_option n [])
    sum-one None = refl
    sum-one (Some n) = sym (+ℤ_idr n)

-- ---- of a value, by its number, if it has one

module _ (old : IntermediateMetricResult) (key : CompositeIntermediateKey) (number : Option ℤ)
    (told : number_of key ≡ number) where
  pub takes-max : (r : IntermediateMax) → old ≡ m.Max r → (value : Option ℤ)
      → value ≡ best int_max r.value number
      → TakesIn (key ∷ []) old (m.Max (record { value = value }))
  takes-max r of value more =
      subst (λ metric. TakesIn (key ∷ []) metric (m.Max (record { value = value }))) (sym of)
      (by_kind
      (λ kind before. m.Max (record { value = value }) ≡ metric_of kind (before ++ key ∷ []))
      (m.Max r)
      (λ before is. ap (λ v. m.Max (record { value = v })) (more
      ∙ ap (best int_max r.value) (sym told)
      ∙ best-more int_max max-assoc r.value before key (ap best_in is))))

  pub takes-min : (r : IntermediateMin) → old ≡ m.Min r → (value : Option ℤ)
      → value ≡ best int_min r.value number
      → TakesIn (key ∷ []) old (m.Min (record { value = value }))
  takes-min r of value more =
      subst (λ metric. TakesIn (key ∷ []) metric (m.Min (record { value = value }))) (sym of)
      (by_kind
      (λ kind before. m.Min (record { value = value }) ≡ metric_of kind (before ++ key ∷ []))
      (m.Min r)
      (λ before is. ap (λ v. m.Min (record { value = v })) (more
      ∙ ap (best int_min r.value) (sym told)
      ∙ best-more int_min min-assoc r.value before key (ap best_in is))))

  pub takes-sum : (r : IntermediateSum) → old ≡ m.Sum r → (sum : ℤ)
      → sum ≡ r.sum +ℤ unwrap_or number (pos 0)
      → TakesIn (key ∷ []) old (m.Sum (record { sum = sum }))
  takes-sum r of sum more =
      subst (λ metric. TakesIn (key ∷ []) metric (m.Sum (record { sum = sum }))) (sym of)
      (by_kind (λ kind before. m.Sum (record { sum = sum }) ≡ metric_of kind (before ++ key ∷ []))
      (m.Sum r)
      (λ before is. ap (λ n. m.Sum (record { sum = n })) (more
      ∙ ap (λ n. r.sum +ℤ unwrap_or n (pos 0)) (sym told)
      ∙ sum-more r.sum before key (ap sum_in is))))

  pub many-sum : (r : IntermediateSum) → old ≡ m.Sum r
      → ¬ (FitsSigned w128 (r.sum +ℤ unwrap_or number (pos 0))) → TooManyWith (key ∷ []) old
  many-sum r of passes =
      subst (TooManyWith (key ∷ [])) (sym of)
      (by_kind (λ kind before. IsTooMany kind (before ++ key ∷ [])) (m.Sum r) (λ before is. (
        before ++ key ∷ [],
        [],
        sym (append-nil (before ++ key ∷ [])),
        subst (λ n. ¬ (FitsSigned w128 n)) (ap (λ n. r.sum +ℤ unwrap_or n (pos 0)) (sym told)
            ∙ sum-more r.sum before key (ap sum_in is)) passes,
      )))
