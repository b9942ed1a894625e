use Rattle.std.proofs.Common.{◌-◌, length, get_or, take, drop, ap, ◌∙◌, arith}
use Rattle.agg_segment.proofs.lemmas.storage.DenseEnds.{dense_within, dense_found, dense_none}
use Rattle.agg_segment.proofs.storage.rows.dense_numbers.Goals as goal

pub returns-then-at-ends : goal.returns-then-at-ends
returns-then-at-ends c = dense_none c.args.ends.now c.args.numbers.now c.args.doc c.if-at-ends.true

pub slice_bounds-result-count : goal.slice_bounds-result-count
slice_bounds-result-count c =
    let w = dense_within c.args.ends.now (length c.args.numbers.now) c.args.doc 0 c.requires
    (omega (arith, c.if-at-ends.false)) in
    omega (arith, c.dense_start-start.ensures, w.0)

pub slice_bounds-result-start : goal.slice_bounds-result-start
slice_bounds-result-start c =
    let w = dense_within c.args.ends.now (length c.args.numbers.now) c.args.doc 0 c.requires
    (omega (arith, c.if-at-ends.false)) in
    omega (arith, c.dense_start-start.ensures, w.0)

pub slice_bounds-result-end-2 : goal.slice_bounds-result-end-2
slice_bounds-result-end-2 c =
    let w = dense_within c.args.ends.now (length c.args.numbers.now) c.args.doc 0 c.requires
    (omega (arith, c.if-at-ends.false)) in
    omega (arith, w.1)

pub returns : goal.returns
returns c =
    let ends = c.args.ends.now in
    let numbers = c.args.numbers.now in
    ap (λ s. take (get_or ends c.args.doc 0 - s) (drop s numbers)) c.dense_start-start.ensures
    ∙ dense_found ends numbers c.args.doc 0 c.requires.0 (omega (arith, c.if-at-ends.false))
