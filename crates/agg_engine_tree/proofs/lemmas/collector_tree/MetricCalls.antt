-- What a metric answers for documents under one parent, and for none.
use Rattle.std.proofs.Common.{◌≡◌, ℕ, List, [], ◌++◌, inl, inr, refl, sym, ap, ◌∙◌, subst}
use Rattle.std.proofs.Common.{append-nil, Result, Ok, Err}
use Rattle.std.specs.Prelude.{IfErr, IsErrOf, OnOk}
use Rattle.agg_cache.specs.Waiting.{under}
use Rattle.agg_cache.specs.declared.error.CollectError.{CollectError}
use Rattle.agg_cache.specs.declared.error.CollectError.TheVariants as refusal
use Rattle.agg_segment.specs.Segment.{Stored}
use Rattle.agg_metric.specs.Collector.{Metric, MetricFor, MetricTakes, Prepares, values_under}
use Rattle.agg_metric.specs.Metric.{IsTooMany}
use Rattle.agg_metric.specs.declared.request_data.MetricAggReqData.{MetricAggReqData}
use Rattle.agg_engine_tree.specs.collector_tree.Took.{MetricAnswers}

-- ---- one parent

pub answers-under : (parent : ℕ) (docs : List ℕ) (old new : Metric)
    (result : Result (Unit {0}) CollectError)
    → OnOk result (MetricTakes (under parent docs) old new)
    → ((segment : Stored) (req : MetricAggReqData) (visited : List (ℕ × ℕ))
    → MetricFor segment req old visited → IsErrOf result refusal.TooMany
    → IsTooMany req.collecting_for (values_under segment req.field parent
    (visited ++ under parent docs)))
    → IfErr result (λ error. error ≡ refusal.TooMany)
    → MetricAnswers (under parent docs) old new result
answers-under parent docs old new (Ok done) takes many errors = record {
  ok = takes;
  errors = tt;
  many = λ e. absurd (cc e);
}
answers-under parent docs old new (Err error) takes many errors = record {
  ok = tt;
  errors = inl errors;
  many = λ e segment req taken f. (parent, many segment req taken f e);
}

-- a metric that was prepared before
pub answers-prepared : (pairs : List (ℕ × ℕ)) (old mid new : Metric)
    (result : Result (Unit {0}) CollectError)
    → ((segment : Stored) (req : MetricAggReqData) (visited : List (ℕ × ℕ))
    → MetricFor segment req old visited → MetricFor segment req mid visited)
    → Prepares old mid → MetricAnswers pairs mid new result → MetricAnswers pairs old new result
answers-prepared pairs old mid new (Ok done) right prepares a = record {
  ok = record {
    takes = λ segment req taken f. a.ok.takes segment req taken (right segment req taken f);
    rest = a.ok.rest ∙ ap (λ (x : Metric). record x { metrics = new.metrics }) prepares.rest;
  };
  errors = tt;
  many = λ e. absurd (cc e);
}
answers-prepared pairs old mid new (Err error) right prepares a = record {
  ok = tt;
  errors = a.errors;
  many = λ e segment req taken f. a.many e segment req taken (right segment req taken f);
}

-- a metric that could not be prepared
pub answers-unprepared : (pairs : List (ℕ × ℕ)) (old new : Metric) (error : CollectError)
    → error ≡ refusal.OutOfMemory → MetricAnswers pairs old new (Err error)
answers-unprepared pairs old new error is = record {
  ok = tt;
  errors = inr is;
  many = λ e. absurd (cc (e, is));
}

-- ---- nothing is taken

pub answers-none : (c : Metric) (done : Unit {0}) → MetricAnswers [] c c (Ok done)
answers-none c done = record {
  ok = record {
    takes = λ segment req taken f. subst (MetricFor segment req c) (sym (append-nil taken)) f;
    rest = refl;
  };
  errors = tt;
  many = λ e. absurd (cc e);
}
