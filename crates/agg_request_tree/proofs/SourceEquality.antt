-- Sources are equal exactly where they are the same.
use Rattle.std.proofs.Common.{◌≡◌, Bool, Option, None, Some, Decides, rules, refl, ap}
use Rattle.std.specs.Cmp.Lexicographic.{bytes_decides}
use Rattle.std.specs.Option.{option_eq}
use Rattle.std.proofs.lemmas.Bool.Decides.{Decides-and, Decides-int_eq, Decides-like}
use Rattle.agg_calendar.specs.contracts.interval.CalendarIntervalPartialEq as calendar
use Rattle.agg_calendar.specs.declared.interval.CalendarInterval.{CalendarInterval}
use Rattle.agg_values.specs.contracts.after_key.AfterKeyPartialEq as after
use Rattle.agg_values.specs.contracts.order.OrderPartialEq as order
use Rattle.agg_values.specs.contracts.order.MissingOrderPartialEq as missing
use Rattle.agg_values.specs.declared.after_key.AfterKey.{AfterKey}
use Rattle.agg_values.specs.declared.order.Order.{Order}
use Rattle.agg_values.specs.declared.order.MissingOrder.{MissingOrder}
use Rattle.agg_request_tree.specs.contracts.source as of
use of.CompositeAggregationSourcePartialEq as sources
use of.TermCompositeAggregationSourcePartialEq as terms
use of.HistogramCompositeAggregationSourcePartialEq as steps
use of.DateHistogramCompositeAggregationSourcePartialEq as days
use Rattle.agg_request_tree.specs.declared.source.CompositeAggregationSource as kinds
use kinds.{CompositeAggregationSource}
use kinds.TheVariants.{Terms, Histogram, DateHistogram}
use Rattle.agg_request_tree.specs.declared.source.TermCompositeAggregationSource as term
use term.{TermCompositeAggregationSource}
use Rattle.agg_request_tree.specs.declared.source.HistogramCompositeAggregationSource as histogram
use histogram.{HistogramCompositeAggregationSource}
use Rattle.agg_request_tree.specs.declared.source.DateHistogramCompositeAggregationSource as dates
use dates.{DateHistogramCompositeAggregationSource}

orders-decided : (x y : Order) → Decides (order.TheImpl.ghosts.eq x y) (x ≡ y)
orders-decided x y = search rules

missing-decided : (x y : MissingOrder) → Decides (missing.TheImpl.ghosts.eq x y) (x ≡ y)
missing-decided x y = search rules

intervals-decided : (x y : CalendarInterval) → Decides (calendar.TheImpl.ghosts.eq x y) (x ≡ y)
intervals-decided x y = search rules

after_keys-decided : (x y : AfterKey) → Decides (after.TheImpl.ghosts.eq x y) (x ≡ y)
after_keys-decided x y = search rules

flags-decided : (x y : Bool) → Decides (Rattle.std.specs.Bool.beq x y) (x ≡ y)
flags-decided x y = search rules

-- what may be there is equal exactly where it is the same
options-decided : {X : Type 0} (eq : X → X → Bool) → ((x y : X) → Decides (eq x y) (x ≡ y))
    → (x y : Option X) → Decides (option_eq eq x y) (x ≡ y)
options-decided eq each None None = (λ e. refl, λ e. refl)
options-decided eq each (Some x) (Some y) = (λ e. ap Some ((each x y).0 e), λ e. (each x y).1 (cc))
options-decided eq each None (Some y) = (λ e. absurd (cc), λ e. absurd (cc))
options-decided eq each (Some x) None = (λ e. absurd (cc), λ e. absurd (cc))

pub terms-decided : (x y : TermCompositeAggregationSource)
    → Decides (terms.TheImpl.ghosts.eq x y) (x ≡ y)
terms-decided x y =
    Decides-like _
    (λ e i. record {
      name = e.0 i;
      field = e.1.0 i;
      order = e.1.1.0 i;
      missing_bucket = e.1.1.1.0 i;
      missing_order = e.1.1.1.1.0 i;
      min = e.1.1.1.1.1 i;
    })
    (λ e. (
      ap (λ s. s.name) e,
      (
        ap (λ s. s.field) e,
        (
          ap (λ s. s.order) e,
          (
            ap (λ s. s.missing_bucket) e,
            (ap (λ s. s.missing_order) e, ap (λ s. s.min) e),
          ),
        ),
      ),
    ))
    (Decides-and _ _ (bytes_decides x.name y.name)
    (Decides-and _ _ (bytes_decides x.field y.field)
    (Decides-and _ _ (orders-decided x.order y.order)
    (Decides-and _ _ (flags-decided x.missing_bucket y.missing_bucket)
    (Decides-and _ _ (missing-decided x.missing_order y.missing_order)
    (options-decided _ after_keys-decided x.min y.min))))))

pub histograms-decided : (x y : HistogramCompositeAggregationSource)
    → Decides (steps.TheImpl.ghosts.eq x y) (x ≡ y)
histograms-decided x y =
    Decides-like _
    (λ e i. record {
      name = e.0 i;
      field = e.1.0 i;
      interval = e.1.1.0 i;
      order = e.1.1.1.0 i;
      missing_bucket = e.1.1.1.1.0 i;
      missing_order = e.1.1.1.1.1.0 i;
      min = e.1.1.1.1.1.1 i;
    })
    (λ e. (
      ap (λ s. s.name) e,
      (
        ap (λ s. s.field) e,
        (
          ap (λ s. s.interval) e,
          (
            ap (λ s. s.order) e,
            (
              ap (λ s. s.missing_bucket) e,
              (ap (λ s. s.missing_order) e, ap (λ s. s.min) e),
            ),
          ),
        ),
      ),
    ))
    (Decides-and _ _ (bytes_decides x.name y.name)
    (Decides-and _ _ (bytes_decides x.field y.field)
    (Decides-and _ _ (Decides-int_eq x.interval y.interval)
    (Decides-and _ _ (orders-decided x.order y.order)
    (Decides-and _ _ (flags-decided x.missing_bucket y.missing_bucket)
    (Decides-and _ _ (missing-decided x.missing_order y.missing_order)
    (options-decided _ after_keys-decided x.min y.min)))))))

pub dates-decided : (x y : DateHistogramCompositeAggregationSource)
    → Decides (days.TheImpl.ghosts.eq x y) (x ≡ y)
dates-decided x y =
    Decides-like _
    (λ e i. record {
      name = e.0 i;
      field = e.1.0 i;
      fixed_interval = e.1.1.0 i;
      calendar_interval = e.1.1.1.0 i;
      offset = e.1.1.1.1.0 i;
      order = e.1.1.1.1.1.0 i;
      missing_bucket = e.1.1.1.1.1.1.0 i;
      missing_order = e.1.1.1.1.1.1.1.0 i;
      min = e.1.1.1.1.1.1.1.1 i;
    })
    (λ e. (
      ap (λ s. s.name) e,
      (
        ap (λ s. s.field) e,
        (
          ap (λ s. s.fixed_interval) e,
          (
            ap (λ s. s.calendar_interval) e,
            (
              ap (λ s. s.offset) e,
              (
                ap (λ s. s.order) e,
                (
                  ap (λ s. s.missing_bucket) e,
                  (ap (λ s. s.missing_order) e, ap (λ s. s.min) e),
                ),
              ),
            ),
          ),
        ),
      ),
    ))
    (Decides-and _ _ (bytes_decides x.name y.name)
    (Decides-and _ _ (bytes_decides x.field y.field)
    (Decides-and _ _ (options-decided _ bytes_decides x.fixed_interval y.fixed_interval)
    (Decides-and _ _
    (options-decided _ intervals-decided x.calendar_interval y.calendar_interval)
    (Decides-and _ _ (options-decided _ bytes_decides x.offset y.offset)
    (Decides-and _ _ (orders-decided x.order y.order)
    (Decides-and _ _ (flags-decided x.missing_bucket y.missing_bucket)
    (Decides-and _ _ (missing-decided x.missing_order y.missing_order)
    (options-decided _ after_keys-decided x.min y.min)))))))))

-- a source is equal to another exactly where it is the same
pub sources-decided : (x y : CompositeAggregationSource)
    → Decides (sources.TheImpl.ghosts.eq x y) (x ≡ y)
sources-decided (Terms x) (Terms y) =
    let (same, equal) = terms-decided x y in (λ e. ap Terms (same e), λ e. equal (cc))
sources-decided (Histogram x) (Histogram y) =
    let (same, equal) = histograms-decided x y in (λ e. ap Histogram (same e), λ e. equal (cc))
sources-decided (DateHistogram x) (DateHistogram y) =
    let (same, equal) = dates-decided x y in (λ e. ap DateHistogram (same e), λ e. equal (cc))
sources-decided _ _ = (λ e. absurd (cc), λ e. absurd (cc))
