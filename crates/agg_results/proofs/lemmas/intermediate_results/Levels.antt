-- How many levels results have.
use Rattle.std.proofs.Common.{◌≡◌, ℕ, suc, ◌≤◌, List, [], ◌∷◌, Option, Some, Bool, true, false}
use Rattle.std.proofs.Common.{cond, map, refl, sym, ap, ◌∙◌, arith}
use Rattle.std.specs.Prelude.{max}
use Rattle.std.specs.BTreeMap.{is_at}
use Rattle.std.specs.Map.{values_of}
use Rattle.std.proofs.lemmas.Option.{none-some, same_Some}
use Rattle.agg_values.specs.Names.{name_cmp, value_of, without}
use Rattle.agg_results.specs.intermediate_results.Intermediate.{Entries, Held, Parts, TupleEntry}
use Rattle.agg_results.specs.intermediate_results.Intermediate.{below_entry, composite, entries_of}
use Rattle.agg_results.specs.intermediate_results.Intermediate.{metric, parts_of_bucket}
use Rattle.agg_results.specs.intermediate_results.Intermediate.{BucketLayer, parts_of_layer}
use Rattle.agg_results.specs.intermediate_results.Intermediate as held
use Rattle.agg_results.specs.declared.intermediate_results as intermediate
use intermediate.results.IntermediateAggregationResult as declared
use declared.{IntermediateAggregationResult}
use declared.TheVariants.{Bucket, Metric}
use declared.TheVariants as kind
use declared.TheViews.{out-IntermediateBucketResult, roll-IntermediateBucketResult}
use declared.TheViews.{roll-out-IntermediateBucketResult}
use intermediate.results.IntermediateAggregationResults.{IntermediateAggregationResults}
use declared.TheOpen as opened
use declared.TheFolds as folds
use intermediate.results.IntermediateBucketResult.{IntermediateBucketResult}
use intermediate.composite.IntermediateCompositeBucketResult.{IntermediateCompositeBucketResult}
use intermediate.entry.IntermediateTermBucketEntry.{IntermediateTermBucketEntry}

-- the greatest of some numbers
abbrev pub greatest : List ℕ → ℕ
greatest [] = 0
greatest (n ∷ ns) = max n (greatest ns)

abbrev of_result : opened.IntermediateAggregationResult-F ℕ ℕ ℕ ℕ ℕ → ℕ
of_result (opened.Bucket n) = n
of_result (opened.Metric m) = 0

abbrev of_bucket : opened.IntermediateBucketResult-F ℕ ℕ ℕ ℕ ℕ → ℕ
of_bucket (opened.Filter count n) = suc n
of_bucket (opened.Composite n) = suc n

abbrev of_composite : opened.IntermediateCompositeBucketResult-F ℕ ℕ ℕ ℕ ℕ → ℕ
of_composite c = greatest (values_of c.entries.1)

abbrev of_entry : opened.IntermediateTermBucketEntry-F ℕ ℕ ℕ ℕ ℕ → ℕ
of_entry e = e.sub_aggregation

abbrev of_results : opened.IntermediateAggregationResults-F ℕ ℕ ℕ ℕ ℕ → ℕ
of_results r = greatest (values_of r.results)

-- how many levels a result has
abbrev pub height : IntermediateAggregationResult → ℕ
height = folds.fold-IntermediateAggregationResult ℕ ℕ ℕ ℕ ℕ of_result of_bucket of_composite
    of_entry of_results

abbrev bucket_height : IntermediateBucketResult → ℕ
bucket_height = folds.fold-IntermediateBucketResult ℕ ℕ ℕ ℕ ℕ of_result of_bucket of_composite
    of_entry of_results

abbrev composite_height : IntermediateCompositeBucketResult → ℕ
composite_height = folds.fold-IntermediateCompositeBucketResult ℕ ℕ ℕ ℕ ℕ of_result of_bucket
    of_composite of_entry of_results

abbrev entry_height : IntermediateTermBucketEntry → ℕ
entry_height = folds.fold-IntermediateTermBucketEntry ℕ ℕ ℕ ℕ ℕ of_result of_bucket of_composite
    of_entry of_results

abbrev results_height : IntermediateAggregationResults → ℕ
results_height = folds.fold-IntermediateAggregationResults ℕ ℕ ℕ ℕ ℕ of_result of_bucket
    of_composite of_entry of_results

-- how many levels results by name have
abbrev pub levels : Held → ℕ
levels [] = 0
levels (r ∷ held) = max (height r.1) (levels held)

-- how many levels there are below entries
abbrev pub entries_levels : Entries → ℕ
entries_levels [] = 0
entries_levels (e ∷ es) = max (levels (below_entry e.1)) (entries_levels es)

-- how many levels a result has, by its parts
abbrev pub parts_height : Parts → ℕ
parts_height (metric m) = 0
parts_height (held.filter count below) = suc (levels below)
parts_height (composite c) = suc (entries_levels (entries_of c))

greatest-levels : (held : Held)
    → greatest (values_of (map (λ (r : List ℕ × IntermediateAggregationResult).
    (r.0, height r.1)) held)) ≡ levels held
greatest-levels [] = refl
greatest-levels (r ∷ held) = ap (max (height r.1)) (greatest-levels held)

results-levels : (r : IntermediateAggregationResults) → results_height r ≡ levels r.results
results-levels r =
    folds.fold_out-IntermediateAggregationResults ℕ ℕ ℕ ℕ ℕ of_result of_bucket of_composite
    of_entry of_results r
    ∙ greatest-levels r.results

entry-levels : (e : IntermediateTermBucketEntry) → entry_height e ≡ levels (below_entry e)
entry-levels e =
    folds.fold_out-IntermediateTermBucketEntry ℕ ℕ ℕ ℕ ℕ of_result of_bucket of_composite
    of_entry of_results e
    ∙ results-levels e.sub_aggregation

greatest-entries : (es : Entries)
    → greatest (values_of (map (λ (e : TupleEntry). (e.0, entry_height e.1)) es))
    ≡ entries_levels es
greatest-entries [] = refl
greatest-entries (e ∷ es) = λ i. max (entry-levels e.1 i) (greatest-entries es i)

composite-levels : (c : IntermediateCompositeBucketResult)
    → composite_height c ≡ entries_levels (entries_of c)
composite-levels c =
    folds.fold_out-IntermediateCompositeBucketResult ℕ ℕ ℕ ℕ ℕ of_result of_bucket of_composite
    of_entry of_results c
    ∙ greatest-entries (entries_of c)

layer-height : (x : BucketLayer)
    → bucket_height (roll-IntermediateBucketResult x) ≡ parts_height (parts_of_layer x)
layer-height (opened.Filter count below) =
    folds.fold-roll-IntermediateBucketResult ℕ ℕ ℕ ℕ ℕ of_result of_bucket of_composite
    of_entry of_results (opened.Filter count below)
    ∙ ap suc (results-levels below)
layer-height (opened.Composite c) =
    folds.fold-roll-IntermediateBucketResult ℕ ℕ ℕ ℕ ℕ of_result of_bucket of_composite
    of_entry of_results (opened.Composite c)
    ∙ ap suc (composite-levels c)

-- the height of a result that has buckets is that of its parts
pub height-bucket : (b : IntermediateBucketResult)
    → height (Bucket b) ≡ parts_height (parts_of_bucket b)
height-bucket b =
    ap height (sym (kind.rolls-Bucket b))
    ∙ folds.fold-roll-IntermediateAggregationResult ℕ ℕ ℕ ℕ ℕ of_result of_bucket of_composite
    of_entry of_results (opened.Bucket b)
    ∙ ap bucket_height (sym (roll-out-IntermediateBucketResult b))
    ∙ layer-height (out-IntermediateBucketResult b)

-- ---- names

found-by : (b : Bool) (r : List ℕ × IntermediateAggregationResult) (held : Held)
    (v : IntermediateAggregationResult)
    → (value_of r.0 held ≡ Some v → height v ≤ levels held)
    → (more : Option IntermediateAggregationResult)
    → (more ≡ Some v → height v ≤ levels held)
    → cond b (Some r.1) more ≡ Some v → height v ≤ max (height r.1) (levels held)
found-by true r held v rest more below is =
    let same : height r.1 ≡ height v = ap height (same_Some r.1 v is) in omega arith
found-by false r held v rest more below is = let h = below is in omega arith

-- what is found has no more levels
pub height-found : (held : Held) (name : List ℕ) (v : IntermediateAggregationResult)
    → value_of name held ≡ Some v → height v ≤ levels held
height-found [] name v is = absurd (none-some v is)
height-found (r ∷ held) name v is =
    found-by (is_at (name_cmp name) r.0) r held v (λ h. height-found held r.0 v h)
    (value_of name held) (λ h. height-found held name v h) is

gone-by : (b : Bool) (r : List ℕ × IntermediateAggregationResult) (held less : Held)
    → levels less ≤ levels held → levels (cond b held (r ∷ less)) ≤ max (height r.1) (levels held)
gone-by true r held less fewer = omega arith
gone-by false r held less fewer = omega arith

-- what is left has no more levels
pub levels-gone : (held : Held) (name : List ℕ) → levels (without name held) ≤ levels held
levels-gone [] name = omega arith
levels-gone (r ∷ held) name =
    gone-by (is_at (name_cmp name) r.0) r held (without name held) (levels-gone held name)
