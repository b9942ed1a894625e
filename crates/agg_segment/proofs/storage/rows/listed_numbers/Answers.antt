use Rattle.std.proofs.Common.{◌≡◌, ◌<◌, ◌-◌, length, get_or, take, drop, true, false, sym, ap}
use Rattle.std.proofs.Common.{◌∙◌, arith, rules}
use Rattle.std.specs.Prelude.{nat_lt}
use Rattle.std.specs.List.{zip}
use Rattle.std.specs.List.Sorted.{IsPartitionPoint}
use Rattle.std.proofs.lemmas.List.Sorted.{IsPartitionPoint-from_clause, IsPartitionedBy-ltb}
use Rattle.agg_segment.specs.storage.Columns.{numbers_at}
use Rattle.agg_segment.specs.storage.Rows.{listed_docs}
use Rattle.agg_segment.specs.declared.storage.rows.DocEnd.{DocEnd}
use Rattle.agg_segment.proofs.lemmas.storage.Layouts.{docs_rise, ends_within, listed_found}
use Rattle.agg_segment.proofs.lemmas.storage.Layouts.{nothing_at}
use Rattle.agg_segment.proofs.storage.rows.listed_numbers.Goals as goal
use Rattle.agg_segment.proofs.storage.rows.listed_numbers.Goals.{then-at-ends-via-then-at-ends}
use Rattle.agg_segment.proofs.storage.rows.listed_numbers.Goals.{
  then-at-ends-via-else-at-ends+then-ends-at,
}

pub returns-then-at-ends : goal.returns-then-at-ends
returns-then-at-ends c =
    let ends = c.args.ends.now in
    let at = c.partition_point-at.result in
    let point : IsPartitionPoint (λ (e : DocEnd). nat_lt e.doc c.args.doc ≡ true) (λ e.
    nat_lt e.doc c.args.doc ≡ false) ends at =
    IsPartitionPoint-from_clause (λ (e : DocEnd). nat_lt e.doc c.args.doc) ends at
    c.partition_point-at.ensures.partitioned
    (IsPartitionedBy-ltb (λ (e : DocEnd). e.doc) ends c.args.doc (docs_rise ends c.requires.0))
    (λ a r f' called. search rules)
    in
    sym
    (nothing_at ends c.args.doc at (record { doc = 0; end = 0 }) c.requires.0 (λ i d below.
    point.0 i d (omega arith) below) (λ i d from within. point.1 i d from within)
    (λ within. elim c.then-at-ends.branch [
      | then-at-ends-via-then-at-ends w ↦ absurd (omega (arith, within, w.if-at-ends.true))
      | then-at-ends-via-else-at-ends+then-ends-at w ↦ w.if-ends-at.true
    ]) c.args.numbers.now)

pub slice_bounds-result-count : goal.slice_bounds-result-count
slice_bounds-result-count c =
    let within : c.partition_point-at.result < length c.args.ends.now =
    omega (arith, c.partition_point-at.ensures.bound, c.if-at-ends.false) in
    let w = ends_within 0 c.args.ends.now c.requires.0 c.partition_point-at.result
    (record { doc = 0; end = 0 }) within in
    omega (arith, c.start_of-start.ensures, w.0)

pub slice_bounds-result-start : goal.slice_bounds-result-start
slice_bounds-result-start c =
    let within : c.partition_point-at.result < length c.args.ends.now =
    omega (arith, c.partition_point-at.ensures.bound, c.if-at-ends.false) in
    let w = ends_within 0 c.args.ends.now c.requires.0 c.partition_point-at.result
    (record { doc = 0; end = 0 }) within in
    omega (arith, c.start_of-start.ensures, w.0)

pub slice_bounds-result-end-2 : goal.slice_bounds-result-end-2
slice_bounds-result-end-2 c =
    let within : c.partition_point-at.result < length c.args.ends.now =
    omega (arith, c.partition_point-at.ensures.bound, c.if-at-ends.false) in
    let w = ends_within 0 c.args.ends.now c.requires.0 c.partition_point-at.result
    (record { doc = 0; end = 0 }) within in
    omega (arith, w.1, c.requires.1)

pub returns : goal.returns
returns c =
    let ends = c.args.ends.now in
    let at = c.partition_point-at.result in
    let numbers = c.args.numbers.now in
    let within : at < length ends = omega (
      arith,
      c.partition_point-at.ensures.bound,
      c.if-at-ends.false,
    ) in
    ap (λ s. take ((get_or ends at (record { doc = 0; end = 0 })).end - s) (drop s numbers))
    c.start_of-start.ensures
    ∙ sym (listed_found 0 ends numbers at (record { doc = 0; end = 0 }) c.requires.0 within)
    ∙ ap (numbers_at (zip (listed_docs 0 ends) numbers)) c.if-ends-at.false
