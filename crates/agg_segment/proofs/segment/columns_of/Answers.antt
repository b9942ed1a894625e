use Rattle.std.proofs.Common.{◌≡◌, ◌≤◌, true, false, arith, rules}
use Rattle.std.specs.Prelude.{nat_lt, nat_le}
use Rattle.std.specs.List.Sorted.{IsPartitionPoint}
use Rattle.std.proofs.lemmas.List.Sorted.{IsPartitionPoint-from_clause, IsPartitionedBy-ltb}
use Rattle.std.proofs.lemmas.List.Sorted.{IsPartitionedBy-leb}
use Rattle.agg_segment.specs.storage.Columns.{StoredColumn}
use Rattle.agg_segment.proofs.FieldColumns.{part_up, part_is, fields_rise}
use Rattle.agg_segment.proofs.segment.columns_of.Goals as goal

first : (c : goal.After-partition_point-to)
    → IsPartitionPoint (λ (d : StoredColumn). nat_lt d.field c.args.field ≡ true) (λ d.
    nat_lt d.field c.args.field ≡ false) c.args.columns.now c.partition_point-from.result
first c =
    IsPartitionPoint-from_clause (λ (d : StoredColumn). nat_lt d.field c.args.field)
    c.args.columns.now c.partition_point-from.result c.partition_point-from.ensures.partitioned
    (IsPartitionedBy-ltb (λ (d : StoredColumn). d.field) c.args.columns.now c.args.field
    (fields_rise c.args.columns.now c.requires)) (λ a r f' called. search rules)

last : (c : goal.After-partition_point-to)
    → IsPartitionPoint (λ (d : StoredColumn). nat_le d.field c.args.field ≡ true) (λ d.
    nat_le d.field c.args.field ≡ false) c.args.columns.now c.partition_point-to.result
last c =
    IsPartitionPoint-from_clause (λ (d : StoredColumn). nat_le d.field c.args.field)
    c.args.columns.now c.partition_point-to.result c.partition_point-to.ensures.partitioned
    (IsPartitionedBy-leb (λ (d : StoredColumn). d.field) c.args.columns.now c.args.field
    (fields_rise c.args.columns.now c.requires)) (λ a r f' called. search rules)

up : (c : goal.After-partition_point-to)
    → c.partition_point-from.result ≤ c.partition_point-to.result
up c =
    let f = first c in
    let t = last c in
    part_up c.args.columns.now c.args.field c.partition_point-from.result
    c.partition_point-to.result c.requires c.partition_point-to.ensures.bound
    c.partition_point-from.ensures.bound
    (λ k d l. f.0 k d (omega arith) l) (λ k d low l. f.1 k d low l) (λ k d l.
    t.0 k d (omega arith) l) (λ k d low l. t.1 k d low l)

pub slice_bounds-result-count : goal.slice_bounds-result-count
slice_bounds-result-count c = up c

pub slice_bounds-result-start : goal.slice_bounds-result-start
slice_bounds-result-start c = up c

pub returns : goal.returns
returns c =
    let f = first c.before in
    let t = last c.before in
    part_is c.args.columns.now c.args.field c.partition_point-from.result
    c.partition_point-to.result c.requires c.partition_point-to.ensures.bound
    c.partition_point-from.ensures.bound
    (λ k d l. f.0 k d (omega arith) l) (λ k d low l. f.1 k d low l) (λ k d l.
    t.0 k d (omega arith) l) (λ k d low l. t.1 k d low l)
