use Rattle.std.proofs.Common.{◌≡◌, ◌-◌, ◌+◌, ◌<◌, ◌≤◌, ◌^◌, ◌∙◌, filter, get_or, length, min}
use Rattle.std.proofs.Common.{ap, sym, arith}
use Rattle.std.proofs.lemmas.List.{get_or-map, length-map, take_all}
use Rattle.agg_segment.specs.storage.Columns.{StoredColumn, all_keys}
use Rattle.agg_request_tree.specs.Source.{is_from}
use Rattle.agg_composite.proofs.lemmas.accessor.CutCounts.{cut-columns-more}
use Rattle.agg_composite.proofs.lemmas.accessor.LeastValues.{keys-from_numbers, least-here}
use Rattle.agg_composite.specs.accessor.Lanes.{columns_of}
use Rattle.agg_composite.specs.accessor.Least.{numbers_from}
use Rattle.agg_composite.specs.declared.accessor.accessor.CompositeAccessor.{CompositeAccessor}
use Rattle.agg_composite.proofs.accessor.occurrences.num_values.Goals as goal

-- the column of an accessor
abbrev column_of : CompositeAccessor → StoredColumn
column_of a = a.column.now

pub loop-index-preserved : goal.loop-index-preserved
loop-index-preserved c least all =
    let a = c.args.accessors.now in
    let columns = c.as_slice-columns.result.now in
    let i = c.loop-index.index in
    let accessor = c.index-columns-index.result in
    let column = column_of accessor in
    let numbers = c.values_for_doc-numbers.result.now in
    let place = c.least.result in
    let long = length-map columns column_of in
    let within : i < length (columns_of columns) = omega (arith, c.loop-index-test.true) in
    let at : column ≡ get_or (columns_of columns) i column =
    ap column_of c.index-columns-index.is
    ∙ sym (get_or-map column_of columns i accessor column c.loop-index-test.true) in
    let is_least = least-here least a columns i accessor place all c.as_slice-columns.ensures
    c.loop-index-test.true c.index-columns-index.is c.least.ensures in
    c.saturating_add-count.ensures
    ∙ ap (λ n. min (c.loop-index.count + n) (2 ^ 64 - 1)) c.num_numbers.ensures
    ∙ cut-columns-more (is_from least) (columns_of columns) c.args.doc i column c.loop-index.count
    (2 ^ 64 - 1) (numbers_from place numbers) within at (c.loop-index.invariant least all)
    (sym (keys-from_numbers column.keys least place is_least numbers
    c.values_for_doc-numbers.ensures.stand)
    ∙ ap (filter (is_from least)) c.values_for_doc-numbers.ensures.keys)

pub returns : goal.returns
returns c least all =
    let columns = c.as_slice-columns.result.now in
    let long = length-map columns column_of in
    let whole : length (columns_of columns) ≤ c.loop-index.index =
    omega (arith, c.loop-index-test.false) in
    c.loop-index.invariant least all
    ∙ ap (λ cs. min (length (filter (is_from least) (all_keys cs c.args.doc))) (2 ^ 64 - 1))
    (take_all c.loop-index.index (columns_of columns) whole)
    ∙ ap (λ xs. min (length (filter (is_from least) (all_keys (columns_of xs) c.args.doc)))
    (2 ^ 64 - 1)) c.as_slice-columns.ensures
