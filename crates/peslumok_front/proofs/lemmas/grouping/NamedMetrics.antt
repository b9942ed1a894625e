-- Metrics that are put under their names one by one.
use Rattle.std.proofs.Common.{◌≡◌, ◌<◌, ◌+◌, ◌∙◌, refl, sym, ap, subst, ℕ, List, [], ◌∷◌, ◌++◌}
use Rattle.std.proofs.Common.{Bool, true, false, Some, codes, get_or, length, map, take, drop}
use Rattle.std.proofs.Common.{arith}
use Rattle.std.specs.BTreeMap.{is_at}
use Rattle.std.specs.List.{All, Contains}
use Rattle.std.specs.Ordering.{match_ordering}
use Rattle.std.specs.declared.cmp.Ordering.{Ordering}
use Rattle.std.specs.declared.cmp.Ordering.TheVariants.{Less, Equal, Greater}
use Rattle.std.proofs.lemmas.Cmp.{nat_list_cmp_total}
use Rattle.std.proofs.lemmas.List.{append_cancel_right, map_more}
use Rattle.std.proofs.lemmas.List.Elements.{All-cons, All-head, All-more, All-nil, All-tail}
use Rattle.std.proofs.lemmas.List.Elements.{All-weaker, Contains-append_left, Contains-push}
use Rattle.std.proofs.lemmas.Map.Lookups.{exact_bytes}
use Rattle.agg_values.specs.Names.{name_cmp, put, value_of}
use Rattle.agg_values.proofs.NameValues.{other-put, same_key, value-put}
use Rattle.agg_request_tree.specs.Request.{Request, aggregation_of}
use Rattle.agg_request_tree.specs.declared.aggregation.Aggregation.{Aggregation}
use Rattle.agg_request_tree.specs.declared.aggregation.AggregationVariants.{AggregationVariants}
use Rattle.peslumok_texts.specs.words.Metric.{word_of}
use Rattle.peslumok_texts.specs.declared.words.metric.Metric.{Metric}
use Rattle.peslumok_texts.specs.declared.words.metric.MetricKind.{MetricKind}
use Rattle.peslumok_texts.specs.declared.words.metric.MetricKind.TheVariants.{Count, Sum, Min, Max}
use Rattle.peslumok_front.specs.grouping.Request.{AreMetricsOf, metric_asked, metric_name}
use Rattle.peslumok_front.specs.grouping.Request.{named_metric, of_kind}

-- ---- names

-- the name of a metric of a kind over a field
abbrev pub name_by : MetricKind → List ℕ → List ℕ
name_by kind field = word_of kind ++ (codes "(" ++ (field ++ codes ")"))

-- equal texts have the same byte at a place
byte_same : {xs ys : List ℕ} (i : ℕ) → xs ≡ ys → get_or xs i 0 ≡ get_or ys i 0
byte_same i e = ap (λ (text : List ℕ). get_or text i 0) e

-- a name tells the kind and the field
pub name_tells : (k l : MetricKind) (f g : List ℕ) → name_by k f ≡ name_by l g → (k ≡ l) × (f ≡ g)
name_tells Count Count f g e = (refl, append_cancel_right f g (codes ")") (ap (drop 6) e))
name_tells Sum Sum f g e = (refl, append_cancel_right f g (codes ")") (ap (drop 4) e))
name_tells Min Min f g e = (refl, append_cancel_right f g (codes ")") (ap (drop 4) e))
name_tells Max Max f g e = (refl, append_cancel_right f g (codes ")") (ap (drop 4) e))
name_tells Count Sum f g e = absurd (omega (arith, byte_same 0 e))
name_tells Count Min f g e = absurd (omega (arith, byte_same 0 e))
name_tells Count Max f g e = absurd (omega (arith, byte_same 0 e))
name_tells Sum Count f g e = absurd (omega (arith, byte_same 0 e))
name_tells Sum Min f g e = absurd (omega (arith, byte_same 0 e))
name_tells Sum Max f g e = absurd (omega (arith, byte_same 0 e))
name_tells Min Count f g e = absurd (omega (arith, byte_same 0 e))
name_tells Min Sum f g e = absurd (omega (arith, byte_same 0 e))
name_tells Min Max f g e = absurd (omega (arith, byte_same 1 e))
name_tells Max Count f g e = absurd (omega (arith, byte_same 0 e))
name_tells Max Sum f g e = absurd (omega (arith, byte_same 0 e))
name_tells Max Min f g e = absurd (omega (arith, byte_same 1 e))

-- metrics of one name ask the same
pub same_metric : {B : Type 0} (m n : Metric) → metric_name m ≡ metric_name n
    → metric_asked {B = B} m ≡ metric_asked n
same_metric m n e =
    let told = name_tells m.kind n.kind m.field.now n.field.now e in
    rw (told.0, told.1) refl

-- ---- maps

-- what holds of an entry and of all others holds where it is put
pub All-put : {B : Type 0} (P : List ℕ × Aggregation B → Type 0) (entries : Request B)
    (name : List ℕ) (a : Aggregation B) → P (name, a) → All P entries → All P (put name a entries)
All-put P [] name a new all = All-cons P (name, a) [] new (All-nil P)
All-put {B = B} P (e ∷ entries) name a new all =
    by_order (name_cmp name e.0) refl (put name a entries)
    (All-put P entries name a new (All-tail P e entries all))
  where
    by_order : (o : Ordering) → name_cmp name e.0 ≡ o → (later : Request B) → All P later
        → All P (match_ordering o ((name, a) ∷ e ∷ entries) ((e.0, a) ∷ entries) (e ∷ later))
    by_order Less is later more = All-cons P (name, a) (e ∷ entries) new all
    by_order Equal is later more =
        All-cons P (e.0, a) entries (subst (λ (x : List ℕ). P (x, a)) (exact_bytes name e.0 is) new)
        (All-tail P e entries all)
    by_order Greater is later more = All-cons P e later (All-head P e entries all) more

module _ {B : Type 0} (m : Metric) (below now : Request B)
    (is : now ≡ put (metric_name m) (metric_asked m) below) where
  -- a metric that is put stands under its name
  own_value : value_of (metric_name m) now ≡ Some (metric_asked m)
  own_value =
      rw is (value-put nat_list_cmp_total exact_bytes below (metric_name m) (metric_asked m))

  -- each other metric stands under its own name
  kept_value : (n : Metric) → value_of (metric_name n) below ≡ Some (metric_asked n)
      → value_of (metric_name n) now ≡ Some (metric_asked n)
  kept_value n before = by_name (is_at (name_cmp (metric_name n)) (metric_name m)) refl
    where
      by_name : (b : Bool) → is_at (name_cmp (metric_name n)) (metric_name m) ≡ b
          → value_of (metric_name n) now ≡ Some (metric_asked n)
      by_name true e =
          let same = same_key nat_list_cmp_total exact_bytes (metric_name n) (metric_name m) e in
          ap (λ name. value_of name now) same ∙ own_value
          ∙ ap Some (sym (same_metric n m same))
      by_name false e =
          rw is (other-put nat_list_cmp_total exact_bytes below (metric_name m) (metric_name n)
          (metric_asked m) e ∙ before)

-- one metric more
pub metrics-more : {B : Type 0} (metrics : List Metric) (i : ℕ) (d : Metric)
    (below now : Request B) → i < length metrics → AreMetricsOf (take i metrics) below
    → now ≡ put (metric_name (get_or metrics i d)) (metric_asked (get_or metrics i d)) below
    → AreMetricsOf (take (i + 1) metrics) now
metrics-more {B = B} metrics i d below now within so_far is = record {
  each = All-more (λ n. value_of (metric_name n) now ≡ Some (metric_asked n)) metrics i d within
      (All-weaker (λ n. value_of (metric_name n) below ≡ Some (metric_asked n))
      (λ n. value_of (metric_name n) now ≡ Some (metric_asked n)) (kept_value m below now is)
      (take i metrics) so_far.each) (own_value m below now is);
  others = subst (λ entries. All (Contains entries) now) (sym named)
      (subst (All (Contains later)) (sym is)
      (All-put (Contains later) below (metric_name m) (metric_asked m)
      (Contains-push earlier (named_metric m))
      (All-weaker (Contains earlier) (Contains later)
      (λ entry there. Contains-append_left earlier (named_metric m ∷ []) entry there) below
      so_far.others)));
}
  where
    m : Metric
    m = get_or metrics i d

    earlier : List (List ℕ × Aggregation B)
    earlier = map named_metric (take i metrics)

    later : List (List ℕ × Aggregation B)
    later = earlier ++ named_metric m ∷ []

    named : map named_metric (take (i + 1) metrics) ≡ later
    named = map_more named_metric metrics i d within

-- a metric that is put by its parts
pub metric-put : {B : Type 0} (metric : Metric) (below now : Request B) (name : List ℕ)
    (agg : AggregationVariants B) (none : Request B)
    → now ≡ put name (aggregation_of agg none) below → name ≡ metric_name metric
    → agg ≡ of_kind metric.kind metric.field.now → none ≡ []
    → now ≡ put (metric_name metric) (metric_asked metric) below
metric-put metric below now name agg none is name_is agg_is none_is =
    is ∙ (λ j. put (name_is j) (aggregation_of (agg_is j) (none_is j)) below)
