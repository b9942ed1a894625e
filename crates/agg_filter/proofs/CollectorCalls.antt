-- Calls of a collector that visit nothing.
use Rattle.std.proofs.Common.{◌≡◌, ◌∙◌, ◌++◌, ap, subst, ℕ, List, [], Result, Ok, Err, IfOk, OnOk}
use Rattle.std.proofs.lemmas.List.{append-nil}
use Rattle.agg_cache.specs.Waiting.{AreBatchesOf, docs_of, is_id, pairs_of}
use Rattle.agg_cache.specs.declared.cache.Batch.{Batch}
use Rattle.agg_cache.proofs.UnderIds.{docs_of-append}
use Rattle.agg_filter.specs.Filter.{Filter, FilterGives}

module _ {C : Type 0} (waiting : C → ℕ → List ℕ) where
  -- a collector whose cache gave all that waits has given it
  gives : (batches : List Batch) (old : Filter C) (cache : C × ℕ)
      → AreBatchesOf (waiting old.cache.0) batches → ((id : ℕ) → waiting cache.0 id ≡ [])
      → FilterGives waiting batches old (record old { cache = cache })
  gives batches old cache are none =
      let left : (given : List (ℕ × ℕ)) (id : ℕ)
      → docs_of (is_id id) (given ++ pairs_of batches) ++ waiting cache.0 id
      ≡ docs_of (is_id id) given ++ waiting old.cache.0 id =
      λ given id. ap (λ ds. docs_of (is_id id) (given ++ pairs_of batches) ++ ds) (none id)
      ∙ append-nil (docs_of (is_id id) (given ++ pairs_of batches))
      ∙ docs_of-append id given (pairs_of batches)
      ∙ ap (λ ds. docs_of (is_id id) given ++ ds) (are.all id) in
      record {
        gives = λ is_match visited given f. record {
          counted = f.counted;
          exact = λ hands parent id is. left given id ∙ f.exact hands parent id is;
          others = λ hands id no_id. left given id ∙ f.others hands id no_id;
          prepared = f.prepared;
          distinct = f.distinct;
          low = f.low;
          unprepared = f.unprepared;
        };
        emptied = none;
      }

  pub gives-ok : {E : Type 0} (result : Result (List Batch) E) (fields old : Filter C)
      (cache : C × ℕ) → fields ≡ old
      → IfOk result (λ batches. AreBatchesOf (waiting fields.cache.0) batches)
      → OnOk result ((id : ℕ) → waiting cache.0 id ≡ [])
      → IfOk result (λ batches. FilterGives waiting batches old (record fields { cache = cache }))
  gives-ok (Ok batches) fields old cache is are none =
      subst (λ before. FilterGives waiting batches before (record fields { cache = cache })) is
      (gives batches fields cache are none)
  gives-ok (Err error) fields old cache is are none = tt
