-- Parents that are prepared.
use Rattle.std.proofs.Common.{◌≡◌, ◌∙◌, refl, sym, ap, ℕ, ◌≤◌, List, [], ◌∷◌, ◌++◌, Bool}
use Rattle.std.proofs.Common.{true, false, length, get_or, take, arith, zero, suc, append-nil}
use Rattle.std.specs.Prelude.{if◌then◌else◌, replicate}
use Rattle.std.proofs.lemmas.List.{length-append, take_all}
use Rattle.agg_segment.specs.storage.Columns.{all_keys}
use Rattle.agg_segment.specs.Segment.{Stored}
use Rattle.agg_metric.specs.Collector.{Metric, MetricFor, Prepares}
use Rattle.agg_metric.specs.Metric.{metric_of}
use Rattle.agg_metric.specs.declared.request_data.MetricAggReqData.{MetricAggReqData}

-- copies of an element, read with that element as the default
copies-at : {X : Type 0} (n i : ℕ) (x : X) → get_or (replicate n x) i x ≡ x
copies-at zero i x = refl
copies-at (suc n) zero x = refl
copies-at (suc n) (suc i) x = copies-at n i x

-- elements with copies of the default after them
copies-after : {X : Type 0} (xs : List X) (n i : ℕ) (x : X)
    → get_or (xs ++ replicate n x) i x ≡ get_or xs i x
copies-after [] n i x = copies-at n i x
copies-after (y ∷ xs) n zero x = refl
copies-after (y ∷ xs) n (suc i) x = copies-after xs n i x

prepares : (old new : Metric) (n : ℕ)
    → new.metrics ≡ old.metrics ++ replicate n (metric_of old.collecting_for [])
    → new ≡ record old { metrics = new.metrics } → Prepares old new
prepares old new n are rest =
    let none = metric_of old.collecting_for [] in
    record {
      metrics = λ parent.
          (λ i. get_or (are i) parent (metric_of (rest i).collecting_for []))
          ∙ copies-after old.metrics n parent none;
      more = omega (arith, ap length are ∙ length-append old.metrics (replicate n none));
      rest = rest;
    }

-- metrics get those of no values after them, or stay as they are where memory is refused
pub resized : (old new : Metric) (is_done : Bool) (size n : ℕ) → length old.metrics ≤ size
    → new.metrics ≡ (if is_done
    then take size old.metrics ++ replicate n (metric_of old.collecting_for [])
    else old.metrics)
    → new ≡ record old { metrics = new.metrics } → Prepares old new
resized old new true size n more are rest =
    prepares old new n
    (are ∙ ap (λ ms. ms ++ replicate n (metric_of old.collecting_for []))
    (take_all size old.metrics more)) rest
resized old new false size n more are rest =
    prepares old new 0 (are ∙ sym (append-nil old.metrics)) rest

-- a collector that was right is right with more parents
pub prepared-right : (segment : Stored) (req : MetricAggReqData) (visited : List (ℕ × ℕ))
    (old new : Metric) → Prepares old new → MetricFor segment req old visited
    → MetricFor segment req new visited
prepared-right segment req visited old new p f =
    record {
      asked = ap (λ c. c.collecting_for) p.rest ∙ f.asked;
      read = λ doc. ap (λ c. all_keys c.columns doc) p.rest ∙ f.read doc;
      right = λ parent. p.metrics parent ∙ f.right parent;
      unprepared = λ parent past. f.unprepared parent (omega (arith, past, p.more));
    }
