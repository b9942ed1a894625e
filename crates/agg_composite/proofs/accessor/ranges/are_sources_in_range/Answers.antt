use Rattle.std.proofs.Common.{◌≡◌, true, refl, sym, arith}
use Rattle.agg_composite.proofs.lemmas.accessor.OccurrenceCounts.{fits-at}
use Rattle.agg_composite.proofs.lemmas.accessor.StartRanges.{range-within, within-at, within-next}
use Rattle.agg_composite.proofs.lemmas.accessor.StartRanges.{within-range, within-whole}
use Rattle.agg_composite.proofs.accessor.ranges.are_sources_in_range.Goals as goal

pub loop-index-preserved : goal.loop-index-preserved
loop-index-preserved c segment after fit =
    let l = c.loop-index-test.true in
    let source = c.index-sources-index.result in
    let a = c.index-accessors-index.result in
    let own = fits-at segment after c.args.sources.now c.args.accessors.now c.loop-index.index
    source a l c.index-sources-index.is c.index-accessors-index.is fit in
    within-next c.args.sources.now c.args.accessors.now c.args.docs.now c.loop-index.index
    source a a.accessors l (omega (arith, l, c.requires)) (sym c.index-sources-index.is)
    (sym c.index-accessors-index.is) refl (c.loop-index.invariant segment after fit)
    ((c.are_columns_in_range.ensures own.least).0 c.if-not-are_columns_in_range.false)

pub returns-then-not-are_columns_in_range : goal.returns-then-not-are_columns_in_range
returns-then-not-are_columns_in_range c = λ segment after fit. (
  λ is. absurd (cc is),
  λ range.
      let source = c.index-sources-index.result in
      let a = c.index-accessors-index.result in
      let own = fits-at segment after c.args.sources.now c.args.accessors.now c.loop-index.index
      source a c.loop-index-test.true c.index-sources-index.is c.index-accessors-index.is fit in
      let here = within-at c.args.sources.now c.args.accessors.now c.args.docs.now
      c.loop-index.index source a c.loop-index-test.true (sym c.index-sources-index.is)
      (sym c.index-accessors-index.is)
      (range-within segment after c.args.docs.now c.args.sources.now c.args.accessors.now fit
      range) in
      let all : c.are_columns_in_range.result ≡ true =
      (c.are_columns_in_range.ensures own.least).1 here in
      absurd (cc (all, c.if-not-are_columns_in_range.true)),
)

pub returns : goal.returns
returns c = λ segment after fit. (
  λ is. within-range segment after c.args.docs.now c.args.sources.now c.args.accessors.now fit
      (within-whole c.args.sources.now c.args.accessors.now c.args.docs.now c.loop-index.index
      c.loop-index-test.false c.requires (c.loop-index.invariant segment after fit)),
  λ range. refl,
)
