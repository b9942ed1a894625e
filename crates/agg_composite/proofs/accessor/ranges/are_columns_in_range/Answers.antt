use Rattle.std.proofs.Common.{◌≡◌, ℕ, List, get_or, refl, sym, subst, true}
use Rattle.std.specs.List.{All}
use Rattle.agg_request_tree.proofs.Checks.{All-next, All-whole}
use Rattle.agg_request_tree.specs.Source.{min_of}
use Rattle.agg_request_tree.specs.declared.source.CompositeAggregationSource as kind
use kind.{CompositeAggregationSource}
use Rattle.agg_composite.specs.accessor.Least.{IsLeastIn}
use Rattle.agg_composite.specs.accessor.Ranges.{IsColumnWithin, IsDocumentWithin, divisor_at}
use Rattle.agg_composite.specs.declared.accessor.accessor.CompositeAccessor.{CompositeAccessor}
use Rattle.agg_composite.specs.declared.accessor.divisor.Divisor.{Divisor}
use Rattle.agg_composite.proofs.lemmas.accessor.LeastValues.{least-here}
use Rattle.agg_composite.proofs.accessor.ranges.are_columns_in_range.Goals as goal

-- the starts of an accessor's column lie within i64
abbrev Within : CompositeAggregationSource → List ℕ → CompositeAccessor → Type 0
Within source docs a = IsColumnWithin (min_of source) (divisor_at source a) a.column.now docs

pub returns-in-Terms : goal.returns-in-Terms
unfolding IsDocumentWithin
returns-in-Terms c least = (
  λ is i a l j doc m.
      let accessor = get_or c.args.accessors.now.accessors i a in
      subst (λ (source : CompositeAggregationSource). IsDocumentWithin (min_of source)
      (divisor_at source accessor) accessor.column.now (get_or c.args.docs.now j doc))
      (sym c.in-Terms.is) (λ k key n. tt),
  λ all. refl,
)

pub loop-index-preserved : goal.loop-index-preserved
loop-index-preserved c least =
    let source = c.args.source.now in
    let a = c.args.accessors.now in
    let columns = c.as_slice-columns.result.now in
    let accessor = c.index-columns-index.result in
    let place = least-here (min_of source) a columns c.loop-index.index accessor c.least.result
    least c.as_slice-columns.ensures c.loop-index-test.true c.index-columns-index.is
    c.least.ensures in
    let column = c.new-column in
    let here = subst (λ (d : Divisor). IsColumnWithin (min_of source) d accessor.column.now
    c.args.docs.now) column.ensures.divisor
    (subst (λ x. IsColumnWithin (min_of source) column.result.divisor x c.args.docs.now)
    column.ensures.column
    ((c.is_column_in_range.ensures (min_of source)
    (subst (λ x. IsLeastIn x.keys (min_of source) c.least.result) (sym column.ensures.column) place)
    ).0 c.if-not-is_column_in_range.false)) in
    All-next (Within source c.args.docs.now) columns c.loop-index.index accessor
    c.loop-index-test.true c.index-columns-index.is (c.loop-index.invariant least) here

pub returns-then-not-is_column_in_range : goal.returns-then-not-is_column_in_range
returns-then-not-is_column_in_range c least = (
  λ is. absurd (cc is),
  λ all.
      let source = c.args.source.now in
      let a = c.args.accessors.now in
      let columns = c.as_slice-columns.result.now in
      let accessor = c.index-columns-index.result in
      let column = c.new-column in
      let place = least-here (min_of source) a columns c.loop-index.index accessor c.least.result
      least c.as_slice-columns.ensures c.loop-index-test.true c.index-columns-index.is
      c.least.ensures in
      let own = subst (All (Within source c.args.docs.now)) (sym c.as_slice-columns.ensures) all in
      let here = subst (Within source c.args.docs.now) (sym c.index-columns-index.is)
      (own c.loop-index.index accessor c.loop-index-test.true) in
      let yes : c.is_column_in_range.result ≡ true =
      (c.is_column_in_range.ensures (min_of source)
      (subst (λ x. IsLeastIn x.keys (min_of source) c.least.result) (sym column.ensures.column)
      place)).1
      (subst (λ x. IsColumnWithin (min_of source) column.result.divisor x c.args.docs.now)
      (sym column.ensures.column)
      (subst (λ (d : Divisor). IsColumnWithin (min_of source) d accessor.column.now
      c.args.docs.now) (sym column.ensures.divisor) here)) in
      absurd (cc (yes, c.if-not-is_column_in_range.true)),
)

pub returns : goal.returns
returns c least = (
  λ is. subst (All (Within c.args.source.now c.args.docs.now)) c.as_slice-columns.ensures
      (All-whole (Within c.args.source.now c.args.docs.now) c.as_slice-columns.result.now
      c.loop-index.index c.loop-index-test.false (c.loop-index.invariant least)),
  λ all. refl,
)
