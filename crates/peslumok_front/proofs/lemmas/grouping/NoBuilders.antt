-- The request of a grouping has no builder.
use Rattle.std.proofs.Common.{◌≡◌, ◌∙◌, refl, sym, ap, ℕ, List, [], ◌∷◌, ◌++◌, Bool, true}
use Rattle.std.proofs.Common.{false, map, codes}
use Rattle.std.specs.List.{All, Contains}
use Rattle.std.proofs.lemmas.List.Elements.{All-cons, All-contains, All-head, All-map, All-nil}
use Rattle.std.proofs.lemmas.List.Elements.{All-tail, All-weaker}
use Rattle.agg_segment.specs.declared.query.QueryTree.{QueryTree}
use Rattle.agg_request_tree.specs.Request.{Request, agg_of, aggregation_of, below_of, builders_of}
use Rattle.agg_request_tree.specs.Request.{listed_in, own_builder, with_builders}
use Rattle.agg_request_tree.specs.Request.{with_builders_in, with_own_builder}
use Rattle.agg_request_tree.specs.declared.aggregation.Aggregation.{Aggregation}
use Rattle.agg_request_tree.specs.declared.aggregation.Aggregation.TheFolds.{fold_out-Aggregation}
use Rattle.agg_request_tree.specs.declared.aggregation.AggregationVariants.{AggregationVariants}
use Rattle.agg_request_tree.proofs.RequestTrees.{agg-made, below-made, listed-out}
use Rattle.peslumok_texts.specs.declared.words.metric.Metric.{Metric}
use Rattle.peslumok_texts.specs.declared.words.metric.MetricKind.{MetricKind}
use Rattle.peslumok_texts.specs.declared.words.metric.MetricKind.TheVariants.{Count, Sum, Min, Max}
use Rattle.peslumok_front.specs.grouping.Request.{AreMetricsOf, AreTotals, IsRequestOf}
use Rattle.peslumok_front.specs.grouping.Request.{metric_asked, named_metric, of_kind}
use Rattle.peslumok_front.specs.declared.grouping.grouping.Grouping.{Grouping}
use Rattle.peslumok_front.specs.declared.grouping.request.AskedPage.{AskedPage}

-- what holds always holds of all
every : {X : Type 0} (P : X → Type 0) → ((x : X) → P x) → (xs : List X) → All P xs
every P holds [] = All-nil P
every P holds (x ∷ xs) = All-cons P x xs (holds x) (every P holds xs)

-- what holds of each metric holds of all that stand below
all_below : {B : Type 0} (P : Aggregation B → Type 0) → ((m : Metric) → P (metric_asked m))
    → (metrics : List Metric) (below : Request B) → AreMetricsOf metrics below
    → All (λ e. P e.1) below
all_below P holds metrics below are =
    All-weaker (Contains (map named_metric metrics)) (λ e. P e.1)
    (λ e there. All-contains (λ f. P f.1) (map named_metric metrics) e named there) below are.others
  where
    named : All (λ e. P e.1) (map named_metric metrics)
    named =
        All-map (λ e. P e.1) named_metric metrics (every (λ m. P (metric_asked m)) holds metrics)

-- ---- no builder

-- an aggregation has no builder
abbrev HasNone : {B : Type 0} → Aggregation B → Type 0
HasNone a = listed_in own_builder a ≡ []

own_of_kind : {B : Type 0} (kind : MetricKind) (field : List ℕ)
    → own_builder {B = B} (of_kind kind field) ≡ []
own_of_kind Count field = refl
own_of_kind Sum field = refl
own_of_kind Min field = refl
own_of_kind Max field = refl

-- an aggregation has none that has none of its own and none below
none_by_parts : {B : Type 0} (a : Aggregation B) → own_builder (agg_of a) ≡ []
    → builders_of (below_of a) ≡ [] → HasNone a
none_by_parts a own below = listed-out own_builder a ∙ (λ i. own i ++ below i)

none_of_metric : {B : Type 0} (m : Metric) → HasNone (metric_asked {B = B} m)
none_of_metric m =
    let agg = of_kind m.kind m.field.now in
    none_by_parts (metric_asked m)
    (ap own_builder (agg-made agg []) ∙ own_of_kind m.kind m.field.now)
    (ap builders_of (below-made agg []))

none_of_all : {B : Type 0} (request : Request B) → All (λ e. HasNone e.1) request
    → builders_of request ≡ []
none_of_all [] all = refl
none_of_all (e ∷ request) all =
    let first = All-head (λ f. HasNone f.1) e request all in
    let others = none_of_all request (All-tail (λ f. HasNone f.1) e request all) in
    (λ i. first i ++ others i)

none_of_metrics : {B : Type 0} (metrics : List Metric) (below : Request B)
    → AreMetricsOf metrics below → builders_of below ≡ []
none_of_metrics metrics below are =
    none_of_all below (all_below HasNone none_of_metric metrics below are)

none_of_totals : {B : Type 0} (grouping : Grouping) (b : Bool) (totals : Request B)
    → AreTotals b grouping totals → builders_of totals ≡ []
none_of_totals grouping true totals (total, is, entries) =
    ap builders_of entries
    ∙ ap (λ builders. builders ++ [])
    (none_by_parts total (ap own_builder is.asked)
    (none_of_metrics grouping.metrics.items (below_of total) is.metrics))
none_of_totals grouping false totals none = ap builders_of none

pub request-none : {B : Type 0} (grouping : Grouping) (page : AskedPage) (request : Request B)
    → IsRequestOf grouping page request → builders_of request ≡ []
request-none grouping page request is =
    let groups = is.are_groups in
    let first = none_by_parts is.groups (ap own_builder groups.asked)
    (none_of_metrics grouping.metrics.items (below_of is.groups) groups.metrics) in
    let others = none_of_totals grouping grouping.has_total is.totals is.are_totals in
    ap builders_of is.entries ∙ (λ i. first i ++ others i)

-- ---- whatever builders make

module _ {B : Type 0} (makes others : B → QueryTree) where
  -- an aggregation asks the same with either
  abbrev IsAlike : Aggregation B → Type 0
  IsAlike a = with_builders_in makes a ≡ with_builders_in others a

  built-out : (of : B → QueryTree) (a : Aggregation B)
      → with_builders_in of a
      ≡ aggregation_of (with_own_builder of (agg_of a)) (with_builders of (below_of a))
  built-out of a =
      fold_out-Aggregation B (Aggregation QueryTree)
      (λ b. aggregation_of (with_own_builder of b.agg) b.sub_aggregation) a

  -- one does whose own part and parts below do
  alike_by_parts : (a : Aggregation B) (agg : AggregationVariants B) → agg_of a ≡ agg
      → with_own_builder makes agg ≡ with_own_builder others agg
      → with_builders makes (below_of a) ≡ with_builders others (below_of a) → IsAlike a
  alike_by_parts a agg is own below =
      built-out makes a
      ∙ (λ i. aggregation_of (with_own_builder makes (is i)) (below i))
      ∙ (λ i. aggregation_of (own i) (with_builders others (below_of a)))
      ∙ sym (built-out others a
      ∙ (λ i. aggregation_of (with_own_builder others (is i)) (with_builders others (below_of a))))

  own_alike : (kind : MetricKind) (field : List ℕ)
      → with_own_builder makes (of_kind kind field) ≡ with_own_builder others (of_kind kind field)
  own_alike Count field = refl
  own_alike Sum field = refl
  own_alike Min field = refl
  own_alike Max field = refl

  alike_metric : (m : Metric) → IsAlike (metric_asked m)
  alike_metric m =
      let agg = of_kind m.kind m.field.now in
      let none = below-made agg [] in
      alike_by_parts (metric_asked m) agg (agg-made agg []) (own_alike m.kind m.field.now)
      (ap (with_builders makes) none ∙ sym (ap (with_builders others) none))

  alike_all : (request : Request B) → All (λ e. IsAlike e.1) request
      → with_builders makes request ≡ with_builders others request
  alike_all [] all = refl
  alike_all (e ∷ request) all =
      let first = All-head (λ e. IsAlike e.1) e request all in
      let more = alike_all request (All-tail (λ e. IsAlike e.1) e request all) in
      (λ i. (e.0, first i) ∷ more i)

  alike_metrics : (metrics : List Metric) (below : Request B) → AreMetricsOf metrics below
      → with_builders makes below ≡ with_builders others below
  alike_metrics metrics below are =
      alike_all below (all_below IsAlike alike_metric metrics below are)

  alike_totals : (grouping : Grouping) (b : Bool) (totals : Request B)
      → AreTotals b grouping totals → with_builders makes totals ≡ with_builders others totals
  alike_totals grouping true totals (total, is, entries) =
      let same = alike_by_parts total _ is.asked refl
      (alike_metrics grouping.metrics.items (below_of total) is.metrics) in
      ap (with_builders makes) entries ∙ (λ i. (codes "total", same i) ∷ [])
      ∙ sym (ap (with_builders others) entries)
  alike_totals grouping false totals none =
      ap (with_builders makes) none ∙ sym (ap (with_builders others) none)

  pub request-alike : (grouping : Grouping) (page : AskedPage) (request : Request B)
      → IsRequestOf grouping page request
      → with_builders makes request ≡ with_builders others request
  request-alike grouping page request is =
      let groups = is.are_groups in
      let first = alike_by_parts is.groups _ groups.asked refl
      (alike_metrics grouping.metrics.items (below_of is.groups) groups.metrics) in
      let more = alike_totals grouping grouping.has_total is.totals is.are_totals in
      ap (with_builders makes) is.entries ∙ (λ i. (codes "groups", first i) ∷ more i)
      ∙ sym (ap (with_builders others) is.entries)
