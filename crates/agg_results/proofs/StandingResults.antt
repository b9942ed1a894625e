-- Results that stand for documents, by the request: two as one, and that their shapes are alike.
use Rattle.std.proofs.Common.{◌≡◌, ℕ, zero, suc, ◌+◌, List, ◌++◌, Option, None, Some}
use Rattle.std.proofs.Common.{length, length-append, get_or, refl, sym, ap, ◌∙◌, subst}
use Rattle.std.specs.Prelude.{Bool, IsSome}
use Rattle.std.specs.List.{Contains}
use Rattle.std.specs.Map.{keys_of}
use Rattle.std.proofs.lemmas.List.{append-nil}
use Rattle.std.proofs.lemmas.List.Elements.{All-contains, filter-append}
use Rattle.agg_values.specs.Names.{value_of}
use Rattle.agg_segment.specs.storage.Document.{Fields}
use Rattle.agg_request_tree.specs.Matching.{filter_matches, matching}
use Rattle.agg_request_tree.specs.Request.{Request, agg_of, below_of}
use Rattle.agg_request_tree.specs.declared.aggregation.Aggregation.{Aggregation}
use Rattle.agg_request_tree.specs.declared.aggregation.AggregationVariants.{AggregationVariants}
use Rattle.agg_request_tree.specs.declared.aggregation.AggregationVariants.TheVariants as asks
use Rattle.agg_request_tree.specs.declared.aggregation.filter.FilterQuery.{FilterQuery}
use Rattle.agg_results.proofs.NameLookups.{entry_of_name, name-found, names-found}
use Rattle.agg_results.specs.intermediate_results.Intermediate.{Held, Parts, composite, metric}
use Rattle.agg_results.specs.intermediate_results.Intermediate.{parts_of}
use Rattle.agg_results.specs.intermediate_results.Intermediate as held
use Rattle.agg_results.specs.intermediate_results.Merging.{AreMerged, DifferWithin, EitherOrBoth}
use Rattle.agg_results.specs.intermediate_results.Merging.{JoinNames, MergedTo, PartsDiffer}
use Rattle.agg_results.specs.intermediate_results.Merging.{PartsMerged, ShapesDiffer, SomeOfBoth}
use Rattle.agg_results.specs.StandsFor.{NamesStand, PartsStand, StandsFor, StandsTo}
use Rattle.agg_results.specs.declared.intermediate_results as intermediate
use intermediate.results.IntermediateAggregationResult.{IntermediateAggregationResult}
use Rattle.agg_results.proofs.Metrics.{metrics-alike, metrics-joined}
use Rattle.agg_results.proofs.StandingComposites.{composites-alike, composites-joined}

abbrev Result : Type 0
Result = IntermediateAggregationResult

module _ {B : Type 0} (is_match : B → Fields → Bool) where
  matching-append : (query : FilterQuery B) (documents others : List Fields)
      → matching is_match query (documents ++ others)
      ≡ matching is_match query documents ++ matching is_match query others
  matching-append query documents others =
      filter-append (filter_matches is_match query) documents others

  -- ---- names

  module _ (Stands : Aggregation B → List Fields → Option Result → Type 0) where
    abbrev Names : Request B → List Fields → Held → Type 0
    Names = NamesStand is_match Stands

    module _ (request : Request B) (documents : List Fields) (held : Held)
        (stand : Names request documents held) where
      -- a name that is held is one of the request
      pub held-asked : (name : List ℕ) → IsSome (value_of name held)
          → Contains (keys_of request) name
      held-asked name found =
          All-contains (Contains (keys_of request)) (keys_of held) name stand.known
          (name-found held name found)

      -- what is held under the name of an aggregation stands for the documents
      pub held-stands : (a : List ℕ × Aggregation B) (name : List ℕ) (r : Result)
          → Contains request a → a.0 ≡ name → value_of name held ≡ Some r
          → Stands a.1 documents (Some r)
      held-stands a name r c is found =
          subst (Stands a.1 documents) (ap (λ n. value_of n held) is ∙ found)
          (All-contains (λ b. Stands b.1 documents (value_of b.0 held)) request a stand.each c)

      -- a result that is held has an aggregation
      pub held-entry : (name : List ℕ) (r : Result) → value_of name held ≡ Some r
          → (a : List ℕ × Aggregation B) × Contains request a × (a.0 ≡ name)
          × Stands a.1 documents (Some r)
      held-entry name r found =
          let a = entry_of_name request name (held-asked name (subst IsSome (sym found) refl)) in
          (a.0, a.1, a.2, held-stands a.0 name r a.1 a.2 found)

    -- what is told of no two results of one aggregation is told of none
    pub names-apart : (Told : Result → Result → Type 0)
        → ((a : Aggregation B) (ds es : List Fields) (r o : Result) → Stands a ds (Some r)
        → Stands a es (Some o) → ¬ (Told r o))
        → (request : Request B) (documents others : List Fields) (held more : Held)
        → Names request documents held → Names request others more
        → ¬ (SomeOfBoth Told held more)
    names-apart Told apart request documents others held more a b
        (name, r, o, at_r, at_o, told) =
        let e = held-entry request documents held a name r at_r in
        apart e.0.1 documents others r o e.3
        (held-stands request others more b e.0 name o e.1 e.2 at_o) told

    either-asked : (P : Type 0) (Both : Result → Result → Result → Type 0)
        (r o w : Option Result) → (IsSome r → P) → (IsSome o → P) → EitherOrBoth Both r o w
        → IsSome w → P
    either-asked P Both None o w first second is some = second (subst IsSome is some)
    either-asked P Both (Some r) o w first second is some = first refl

    -- two as one stand for the documents of both, where results of one aggregation do
    pub names-joined : (Both : Result → Result → Result → Type 0)
        → ((a : Aggregation B) (ds es : List Fields) (r o w : Option Result) → Stands a ds r
        → Stands a es o → EitherOrBoth Both r o w → Stands a (ds ++ es) w)
        → (request : Request B) (documents others : List Fields) (held more whole : Held)
        → Names request documents held → Names request others more
        → JoinNames Both held more whole
        → Names request (documents ++ others) whole
    names-joined Both joined request documents others held more whole a b merged = record {
      each = λ k d within.
          let e = get_or request k d in
          joined e.1 documents others (value_of e.0 held) (value_of e.0 more) (value_of e.0 whole)
          (a.each k d within) (b.each k d within) (merged e.0);
      known = names-found (Contains (keys_of request)) whole (λ name found.
          either-asked (Contains (keys_of request) name) Both (value_of name held)
          (value_of name more) (value_of name whole)
          (held-asked request documents held a name) (held-asked request others more b name)
          (merged name) found);
    }

  -- ---- one layer

  module _ (Below : Request B → List Fields → Held → Type 0) (below : Request B)
      (documents others : List Fields) where
    parts-alike : (Differ : Held → Held → Type 0)
        → ((ds es : List Fields) (held more : Held) → Below below ds held → Below below es more
        → ¬ (Differ held more))
        → (agg : AggregationVariants B) (r o : Parts)
        → PartsStand is_match Below agg below documents r
        → PartsStand is_match Below agg below others o
        → ¬ (PartsDiffer Differ r o)
    parts-alike Differ alike (asks.Filter a) (held.filter m h) (held.filter n k) s t differ =
        alike (matching is_match a.query documents) (matching is_match a.query others) h k s.1 t.1
        differ
    parts-alike Differ alike (asks.Filter a) (held.filter m h) o s t differ = t
    parts-alike Differ alike (asks.Filter a) r o s t differ = s
    parts-alike Differ alike (asks.Composite a) (composite c) (composite d) s t differ =
        composites-alike (Below below) a documents others c d s t Differ alike differ
    parts-alike Differ alike (asks.Composite a) (composite c) o s t differ = t
    parts-alike Differ alike (asks.Composite a) r o s t differ = s
    parts-alike Differ alike agg (metric m) (metric n) s t differ =
        metrics-alike documents others agg m n s t differ
    parts-alike Differ alike agg (metric m) o s t differ = t
    parts-alike Differ alike agg r o s t differ = s

    parts-joined : (Merged : Held → Held → Held → Type 0)
        → ((ds es : List Fields) (held more whole : Held) → Below below ds held
        → Below below es more → Merged held more whole → Below below (ds ++ es) whole)
        → (agg : AggregationVariants B) (r o w : Parts)
        → PartsStand is_match Below agg below documents r
        → PartsStand is_match Below agg below others o
        → PartsMerged Merged r o w
        → PartsStand is_match Below agg below (documents ++ others) w
    parts-joined Merged joined (asks.Filter a) (held.filter m h) (held.filter n k)
        (held.filter p l) s t is =
        let both = sym (matching-append a.query documents others) in (
          is.0 ∙ (λ i. s.0 i + t.0 i)
              ∙ sym (length-append (matching is_match a.query documents)
              (matching is_match a.query others)) ∙ ap length both,
          subst (λ ds. Below below ds l) both
              (joined (matching is_match a.query documents) (matching is_match a.query others)
              h k l s.1 t.1 is.1),
        )
    parts-joined Merged joined (asks.Filter a) (held.filter m h) (held.filter n k) w s t is =
        absurd is
    parts-joined Merged joined (asks.Filter a) (held.filter m h) o w s t is = absurd t
    parts-joined Merged joined (asks.Filter a) r o w s t is = absurd s
    parts-joined Merged joined (asks.Composite a) (composite c) (composite d) (composite w) s t is =
        composites-joined (Below below) a documents others c d s t Merged joined w is
    parts-joined Merged joined (asks.Composite a) (composite c) (composite d) w s t is = absurd is
    parts-joined Merged joined (asks.Composite a) (composite c) o w s t is = absurd t
    parts-joined Merged joined (asks.Composite a) r o w s t is = absurd s
    parts-joined Merged joined agg (metric m) (metric n) (metric w) s t is =
        metrics-joined documents others agg m n w s t is
    parts-joined Merged joined agg (metric m) (metric n) w s t is = absurd is
    parts-joined Merged joined agg (metric m) o w s t is = absurd t
    parts-joined Merged joined agg r o w s t is = absurd s

  -- ---- every depth

  -- the shapes of two results never differ
  pub result-alike : (depth : ℕ) (a : Aggregation B) (documents others : List Fields) (r o : Result)
      → StandsTo is_match depth a documents (Some r) → StandsTo is_match depth a others (Some o)
      → ¬ (DifferWithin depth r o)
  result-alike zero a documents others r o s t differ = differ
  result-alike (suc depth) a documents others r o s t differ =
      parts-alike (NamesStand is_match (StandsTo is_match depth)) (below_of a) documents others
      (SomeOfBoth (DifferWithin depth))
      (λ ds es held more. names-apart (StandsTo is_match depth) (DifferWithin depth)
      (result-alike depth) (below_of a) ds es held more)
      (agg_of a) (parts_of r) (parts_of o) s t differ

  -- two as one stand for the documents of both
  pub result-joined : (depth : ℕ) (a : Aggregation B) (documents others : List Fields)
      (r o w : Option Result)
      → StandsTo is_match depth a documents r → StandsTo is_match depth a others o
      → EitherOrBoth (MergedTo depth) r o w → StandsTo is_match depth a (documents ++ others) w
  result-joined zero a documents others r o w s t is = tt
  result-joined (suc depth) a documents others None o w s t is =
      subst (λ ds. StandsTo is_match (suc depth) a (ds ++ others) w) (sym s)
      (subst (StandsTo is_match (suc depth) a others) (sym is) t)
  result-joined (suc depth) a documents others (Some r) None w s t is =
      subst (StandsTo is_match (suc depth) a (documents ++ others)) (sym is)
      (subst (λ ds. StandsTo is_match (suc depth) a ds (Some r))
      (sym (append-nil documents) ∙ ap (λ ds. documents ++ ds) (sym t)) s)
  result-joined (suc depth) a documents others (Some r) (Some o) None s t is = absurd is
  result-joined (suc depth) a documents others (Some r) (Some o) (Some w) s t is =
      parts-joined (NamesStand is_match (StandsTo is_match depth)) (below_of a) documents others
      (JoinNames (MergedTo depth))
      (λ ds es held more whole. names-joined (StandsTo is_match depth) (MergedTo depth)
      (result-joined depth) (below_of a) ds es held more whole)
      (agg_of a) (parts_of r) (parts_of o) (parts_of w) s t is

  -- ---- a request

  module _ (request : Request B) (documents others : List Fields) (held more : Held)
      (a : StandsFor is_match request documents held)
      (b : StandsFor is_match request others more) where
    pub StandsFor-alike : ¬ (SomeOfBoth ShapesDiffer held more)
    StandsFor-alike (name, r, o, at_r, at_o, (depth, differ)) =
        names-apart (StandsTo is_match depth) (DifferWithin depth) (result-alike depth) request
        documents others held more (a depth) (b depth) (name, r, o, at_r, at_o, differ)

    pub StandsFor-joined : (whole : Held) → AreMerged held more whole
        → StandsFor is_match request (documents ++ others) whole
    StandsFor-joined whole merged depth =
        names-joined (StandsTo is_match depth) (MergedTo depth) (result-joined depth) request
        documents others held more whole (a depth) (b depth) (merged depth)
