-- Lists of documents, none of which stands more often in one than in another, and uncut lists of
-- them.
use Rattle.std.proofs.Common.{◌≡◌, ◌≤◌, ◌+◌, ◌++◌, ℕ, List, [], ◌∷◌, Bool, true, false}
use Rattle.std.proofs.Common.{if◌then◌else◌}
use Rattle.std.proofs.Common.{filter, length, map, refl, ap, ◌∙◌, arith, append-nil}
use Rattle.std.specs.List.{filter_map}
use Rattle.std.proofs.lemmas.List.{map-append}
use Rattle.agg_values.specs.Names.{Named}
use Rattle.agg_values.specs.declared.after_key.AfterKey.{AfterKey}
use Rattle.agg_segment.specs.storage.Document.{Fields}
use Rattle.agg_segment.specs.Segment.{Stored, document_at, documents_at}
use Rattle.agg_request_tree.specs.Matching.{filter_matches}
use Rattle.agg_request_tree.specs.Metrics.{number_of}
use Rattle.agg_request_tree.specs.Occurrences.{bound_of, occurrences, past_occurrences}
use Rattle.agg_request_tree.specs.Source.{Sources}
use Rattle.agg_request_tree.specs.Uncut.{once_each, uncut}
use Rattle.agg_request_tree.specs.declared.aggregation.AggregationVariants as variants
use variants.{AggregationVariants}
use variants.TheVariants.{Filter, Composite, Count, Max, Min, Sum}
use Rattle.agg_request_tree.proofs.OccurrencesLength.{past-fewer}
use Rattle.agg_composite.specs.declared.accessor.request_data.CompositeAggReqData.{
  CompositeAggReqData,
}
use Rattle.agg_composite.specs.buckets.Visits.{Within, docs_in, visits_at, weight}
use Rattle.agg_composite.proofs.lemmas.buckets.Labels.{docs_in-append}
use Rattle.agg_engine_tree.specs.collector_tree.Tree.{visits_of}

-- the sum of the weights of documents
abbrev pub weigh : (Fields → ℕ) → List Fields → ℕ
weigh f [] = 0
weigh f (d ∷ ds) = f d + weigh f ds

-- no document stands more often in the first list than in the second
pub record Lighter (xs ys : List Fields) : Type 0 where
  pub lighter : (f : Fields → ℕ) → weigh f xs ≤ weigh f ys

weigh-append : (f : Fields → ℕ) (xs ys : List Fields)
    → weigh f (xs ++ ys) ≡ weigh f xs + weigh f ys
weigh-append f [] ys = omega arith
weigh-append f (x ∷ xs) ys = omega (arith, weigh-append f xs ys)

weigh-length : (xs : List Fields) → weigh (λ d. 1) xs ≡ length xs
weigh-length [] = refl
weigh-length (x ∷ xs) = omega (arith, weigh-length xs)

pub lighter-length : (xs ys : List Fields) → Lighter xs ys → length xs ≤ length ys
lighter-length xs ys l = omega (arith, weigh-length xs, weigh-length ys, l.lighter (λ d. 1))

pub lighter-both : (xs ys zs : List Fields) → Lighter xs ys → Lighter ys zs → Lighter xs zs
lighter-both xs ys zs a b = record { lighter = λ f. omega (arith, a.lighter f, b.lighter f) }

-- ---- documents of a segment

weigh-at : (segment : Stored) (f : Fields → ℕ) (docs : List ℕ)
    → weigh f (documents_at segment docs) ≡ weight (λ d. f (document_at segment d)) docs
weigh-at segment f [] = refl
weigh-at segment f (d ∷ docs) = omega (arith, weigh-at segment f docs)

pub lighter-within : (segment : Stored) (docs others : List ℕ) → Within docs others
    → Lighter (documents_at segment docs) (documents_at segment others)
lighter-within segment docs others w = record {
  lighter = λ f. omega (
    arith,
    weigh-at segment f docs,
    weigh-at segment f others,
    w.lighter (λ d. f (document_at segment d)),
  );
}

-- ---- uncut lists

weigh-each : {X : Type 0} (elements : Fields → List X) (f : Fields → ℕ) (xs : List Fields)
    → weigh f (once_each elements xs) ≡ weigh (λ d. weigh f (map (λ x. d) (elements d))) xs
weigh-each elements f [] = refl
weigh-each elements f (d ∷ xs) =
    omega (
      arith,
      weigh-append f (map (λ x. d) (elements d)) (once_each elements xs),
      weigh-each elements f xs,
    )

lighter-each : {X : Type 0} (elements : Fields → List X) (xs ys : List Fields) → Lighter xs ys
    → Lighter (once_each elements xs) (once_each elements ys)
lighter-each elements xs ys l = record {
  lighter = λ f. omega (
    arith,
    weigh-each elements f xs,
    weigh-each elements f ys,
    l.lighter (λ d. weigh f (map (λ x. d) (elements d))),
  );
}

weigh-one : (b : Bool) (f : Fields → ℕ) (d : Fields) (total : ℕ) (xs : List Fields)
    → weigh f xs ≡ total
    → weigh f (if b then d ∷ xs else xs) ≡ (if b then f d else 0) + total
weigh-one true f d total xs e = omega (arith, e)
weigh-one false f d total xs e = omega (arith, e)

weigh-filter : (m : Fields → Bool) (f : Fields → ℕ) (xs : List Fields)
    → weigh f (filter m xs) ≡ weigh (λ d. if m d then f d else 0) xs
weigh-filter m f [] = refl
weigh-filter m f (x ∷ xs) =
    weigh-one (m x) f x (weigh (λ d. if m d then f d else 0) xs) (filter m xs) (weigh-filter m f xs)

lighter-filter : (m : Fields → Bool) (xs ys : List Fields) → Lighter xs ys
    → Lighter (filter m xs) (filter m ys)
lighter-filter m xs ys l = record {
  lighter = λ f. omega (
    arith,
    weigh-filter m f xs,
    weigh-filter m f ys,
    l.lighter (λ d. if m d then f d else 0),
  );
}

-- the uncut list of fewer documents has fewer
pub lighter-uncut : {B : Type 0} (is_match : B → Fields → Bool) (asked : AggregationVariants B)
    (xs ys : List Fields) → Lighter xs ys
    → Lighter (uncut is_match asked xs) (uncut is_match asked ys)
lighter-uncut is_match (Filter filter) = lighter-filter (filter_matches is_match filter.query)
lighter-uncut is_match (Composite composite) = lighter-each (occurrences composite.sources)
lighter-uncut is_match (Count metric) = lighter-each (λ d. d metric.field)
lighter-uncut is_match (Max metric) = lighter-each (λ d. filter_map number_of (d metric.field))
lighter-uncut is_match (Min metric) = lighter-each (λ d. filter_map number_of (d metric.field))
lighter-uncut is_match (Sum metric) = lighter-each (λ d. filter_map number_of (d metric.field))

-- ---- visits

-- copies of a document, no more than others
copies-fewer : {X Y : Type 0} (f : Fields → ℕ) (d : Fields) (xs : List X) (ys : List Y)
    → length xs ≤ length ys → weigh f (map (λ x. d) xs) ≤ weigh f (map (λ y. d) ys)
copies-fewer f d [] ys l = omega arith
copies-fewer f d (x ∷ xs) [] l = absurd (omega (arith, l))
copies-fewer f d (x ∷ xs) (y ∷ ys) l = omega (arith, copies-fewer f d xs ys (omega (arith, l)))

copies-visited : {S : Type 0} (segment : Stored) (f : Fields → ℕ) (parent doc : ℕ) (tuples : List S)
    → weigh f (documents_at segment (docs_in (visits_at parent doc tuples)))
    ≡ weigh f (map (λ x. document_at segment doc) tuples)
copies-visited segment f parent doc [] = refl
copies-visited segment f parent doc (t ∷ tuples) =
    omega (arith, copies-visited segment f parent doc tuples)

module _ (req : CompositeAggReqData) (segment : Stored) (after : Named AfterKey) where
  abbrev sources : Sources
  sources = req.req.now.sources

  visits-lighter : (taken : List (ℕ × ℕ)) (f : Fields → ℕ)
      → weigh f (documents_at segment (docs_in (visits_of req segment after taken)))
      ≤ weigh f (once_each (occurrences sources) (documents_at segment (docs_in taken)))
  visits-lighter [] f = omega arith
  visits-lighter (e ∷ taken) f =
      let d = document_at segment e.1 in
      let tuples = past_occurrences sources (bound_of sources after) (d ∷ []) in
      let own = visits_at e.0 e.1 tuples in
      let rest = visits_of req segment after taken in
      let whole = ap (λ vs. weigh f (documents_at segment (docs_in (vs ++ rest)))) (append-nil own)
      in
      let split = ap (λ ds. weigh f (documents_at segment ds)) (docs_in-append own rest)
      ∙ ap (weigh f) (map-append (document_at segment) (docs_in own) (docs_in rest)) in
      let fewer : length tuples ≤ length (occurrences sources d) =
      omega (
        arith,
        past-fewer sources (bound_of sources after) (d ∷ []),
        ap length (append-nil (occurrences sources d)),
      ) in
      omega (
        arith,
        whole,
        split,
        weigh-append f (documents_at segment (docs_in own)) (documents_at segment (docs_in rest)),
        copies-visited segment f e.0 e.1 tuples,
        copies-fewer f d tuples (occurrences sources d) fewer,
        weigh-append f (map (λ x. d) (occurrences sources d))
            (once_each (occurrences sources) (documents_at segment (docs_in taken))),
        visits-lighter taken f,
      )

  -- the documents of visits are no more than a composite of these sources counts
  pub visits-counted : (taken : List (ℕ × ℕ))
      → Lighter (documents_at segment (docs_in (visits_of req segment after taken)))
      (once_each (occurrences sources) (documents_at segment (docs_in taken)))
  visits-counted taken = record { lighter = visits-lighter taken }
