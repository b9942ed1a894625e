use Rattle.std.proofs.Common.{◌∙◌, rules}
use Rattle.std.proofs.lemmas.List.{length-set}
use Rattle.agg_cache.proofs.Partitions.{kept-documents, kept-partitioned}
use Rattle.agg_cache.proofs.high_card.sort_partitions.Goals as goal

pub returns-in_err-sort_by_bucket-clause-partitioned :
    goal.returns-in_err-sort_by_bucket-clause-partitioned
returns-in_err-sort_by_bucket-clause-partitioned c =
    kept-partitioned c.loop-i.partitions.items c.loop-i.i c.index_mut.result.now
    c.sort_by_bucket.new.partition (search rules) c.index_mut.ensures.value
    c.sort_by_bucket.ensures.partitioned c.loop-i.invariant.partitioned

pub returns-in_err-sort_by_bucket-clause-same : goal.returns-in_err-sort_by_bucket-clause-same
returns-in_err-sort_by_bucket-clause-same c = λ id.
    kept-documents c.loop-i.partitions.items c.loop-i.i c.index_mut.result.now
    c.sort_by_bucket.new.partition (search rules) c.index_mut.ensures.value
    c.sort_by_bucket.ensures.same id ∙ c.loop-i.invariant.same id

pub loop-i-preserved : goal.loop-i-preserved
loop-i-preserved c = record {
  partitioned = kept-partitioned c.loop-i.partitions.items c.loop-i.i c.index_mut.result.now
      c.sort_by_bucket.new.partition (search rules) c.index_mut.ensures.value
      c.sort_by_bucket.ensures.partitioned c.loop-i.invariant.partitioned;
  same = λ id.
      kept-documents c.loop-i.partitions.items c.loop-i.i c.index_mut.result.now
      c.sort_by_bucket.new.partition (search rules) c.index_mut.ensures.value
      c.sort_by_bucket.ensures.same id ∙ c.loop-i.invariant.same id;
  as_many = length-set c.loop-i.partitions.items c.loop-i.i c.sort_by_bucket.new.partition
      ∙ c.loop-i.invariant.as_many;
}
