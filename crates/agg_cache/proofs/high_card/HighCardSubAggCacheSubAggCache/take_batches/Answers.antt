use Rattle.std.proofs.Common.{◌∙◌, [], ap, get_or, subst, sym}
use Rattle.std.specs.List.{flat_map}
use Rattle.agg_cache.specs.Partitions.{items_of}
use Rattle.agg_cache.specs.Waiting.{AreFilled, docs_of, is_id, pairs_of}
use Rattle.agg_cache.proofs.Partitions.{documents-joined, list-at, none-documents, on_err_given}
use Rattle.agg_cache.proofs.Partitions.{same-lists}
use Rattle.agg_cache.proofs.high_card.HighCardSubAggCacheSubAggCache.take_batches.Goals as goal

pub returns-in_err-sort_partitions-clause-err : goal.returns-in_err-sort_partitions-clause-err
returns-in_err-sort_partitions-clause-err c =
    let old = items_of c.self.inside.partitions.items in
    let sorted = items_of c.sort_partitions.new.partitions.items in
    on_err_given c.from_residual.result
    (λ id. same-lists old sorted c.sort_partitions.ensures.same id
    ∙ ap (λ lists. get_or lists id []) c.self.view_is)

pub returns-in_err-batches-clause-err : goal.returns-in_err-batches-clause-err
returns-in_err-batches-clause-err c =
    let old = items_of c.self.inside.partitions.items in
    let sorted = items_of c.sort_partitions.new.partitions.items in
    on_err_given c.from_residual-in_err-batches.result
    (λ id. same-lists old sorted c.sort_partitions.ensures.same id
    ∙ ap (λ lists. get_or lists id []) c.self.view_is)

pub returns-clause-ok : goal.returns-clause-ok
returns-clause-ok c =
    let old = items_of c.self.inside.partitions.items in
    let sorted = items_of c.sort_partitions.new.partitions.items in
    record {
      all = λ id.
          ap (λ batches. docs_of (is_id id) (pairs_of batches)) c.from_vec.ensures
          ∙ ap (docs_of (is_id id)) c.in_ok-batches.ensures.pairs
          ∙ ap (λ kept. docs_of (is_id id) (flat_map (λ p. p) (items_of kept)))
          c.deref.ensures.value
          ∙ documents-joined sorted id c.sort_partitions.ensures.partitioned
          ∙ c.sort_partitions.ensures.same id ∙ sym (list-at old id)
          ∙ ap (λ lists. get_or lists id []) c.self.view_is;
      filled = subst AreFilled (sym c.from_vec.ensures) c.in_ok-batches.ensures.filled;
    }

pub returns-clause-taken : goal.returns-clause-taken
returns-clause-taken c = λ id.
    let left = items_of c.clear_partitions.new.partitions.items in
    list-at left id ∙ none-documents left c.clear_partitions.ensures id
