-- Calls of a collector that visit nothing.
use Rattle.std.proofs.Common.{◌≡◌, ◌++◌, ℕ, List, [], Result, Ok, Err, IfOk, OnOk, ap, ◌∙◌, subst}
use Rattle.std.proofs.lemmas.List.{append-nil}
use Rattle.std.proofs.lemmas.List.Concat.{flat_map-append}
use Rattle.agg_cache.specs.Waiting.{AreBatchesOf, docs_of, is_id, pairs_of}
use Rattle.agg_cache.specs.declared.cache.Batch.{Batch}
use Rattle.agg_composite.specs.accessor.Encoding.{encoded_tuple_order}
use Rattle.agg_composite.specs.declared.accessor.request_data.CompositeAggReqData.{
  CompositeAggReqData,
}
use Rattle.agg_composite.specs.buckets.Node.{BucketsFor, IsNew}
use Rattle.agg_composite.proofs.lemmas.buckets.StandingNodes.{stay-right}
use Rattle.agg_composite.specs.Composite.{Composite, CompositeFor, CompositeGives}

module _ {C : Type 0} (waiting : C → ℕ → List ℕ) where
  -- a collector with new buckets in which nothing waits is right for no visits
  pub new-for : (req : CompositeAggReqData) (collector : Composite C) → IsNew collector.node
      → ((id : ℕ) → waiting collector.cache.0 id ≡ []) → CompositeFor waiting req collector [] []
  new-for req collector new none =
      let node = collector.node in
      record {
        visits = [];
        handed = [];
        stand = tt;
        buckets = subst
            (BucketsFor encoded_tuple_order req.size node.parents node.next []) new.pushes
            ((stay-right encoded_tuple_order).new node req.size new);
        waits = λ hands_on id. none id;
      }

  -- a collector whose cache gave all that waits has given it
  gives : (batches : List Batch) (old : Composite C) (cache : C × ℕ)
      → AreBatchesOf (waiting old.cache.0) batches → ((id : ℕ) → waiting cache.0 id ≡ [])
      → CompositeGives waiting batches old (record old { cache = cache })
  gives batches old cache are none = record {
    gives = λ req visited given f. record {
      visits = f.visits;
      handed = f.handed;
      stand = f.stand;
      buckets = f.buckets;
      waits = λ hands_on id.
          ap (λ ds. docs_of (is_id id) (given ++ pairs_of batches) ++ ds) (none id)
          ∙ append-nil (docs_of (is_id id) (given ++ pairs_of batches))
          ∙ flat_map-append _ given (pairs_of batches)
          ∙ ap (λ ds. docs_of (is_id id) given ++ ds) (are.all id)
          ∙ f.waits hands_on id;
    };
    emptied = none;
  }

  pub gives-ok : {E : Type 0} (result : Result (List Batch) E) (fields old : Composite C)
      (cache : C × ℕ) → fields ≡ old
      → IfOk result (λ batches. AreBatchesOf (waiting fields.cache.0) batches)
      → OnOk result ((id : ℕ) → waiting cache.0 id ≡ [])
      → IfOk result (λ batches. CompositeGives waiting batches old
      (record fields { cache = cache }))
  gives-ok (Ok batches) fields old cache is are none =
      subst (λ before. CompositeGives waiting batches before (record fields { cache = cache })) is
      (gives batches fields cache are none)
  gives-ok (Err error) fields old cache is are none = tt
