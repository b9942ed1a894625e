use Rattle.std.specs.Prelude.{filter, nat_lt}
use Rattle.agg_segment.specs.declared.gatherings.Gathering.{Gathering}
use Rattle.std.proofs.Common.{map, set, drop, arith, ap, sym, ◌++◌, ◌∙◌}
use Rattle.std.proofs.lemmas.List.{take_all, drop_all, append-nil}
use Rattle.std.proofs.lemmas.List.Edits.{map_over_more}
use Rattle.agg_segment.specs.Gatherings.{forgotten}
use Rattle.agg_segment.proofs.gatherings.forget_in.Goals as goal

pub loop-column-preserved : goal.loop-column-preserved
loop-column-preserved c =
    let l = c.loop-column in
    let doc = c.args.doc in
    ap (λ (g : Gathering). set l.columns l.column-index (record {
      field = g.field;
      class = g.class;
      before = g.before;
      rows = c.forget.new.self;
    })) (sym c.column-item.is)
    ∙ ap (λ rows. set l.columns l.column-index (record {
      field = c.column-item.result.field;
      class = c.column-item.result.class;
      before = c.column-item.result.before;
      rows = rows;
    })) (c.forget.ensures ∙ ap (λ (g : Gathering). filter (λ r. nat_lt r.0 doc) g.rows)
    (sym c.column-item.is))
    ∙ map_over_more (forgotten doc) c.args.columns.now l.columns l.column-index
    c.column-item.result c.loop-column-test.true l.invariant c.column-item.is

pub returns : goal.returns
returns c =
    let l = c.loop-column in
    let columns = c.args.columns.now in
    l.invariant
    ∙ ap (λ gs. map (forgotten c.args.doc) gs ++ drop l.column-index columns)
    (take_all l.column-index columns (omega (arith, c.loop-column-test.false)))
    ∙ ap (λ gs. map (forgotten c.args.doc) columns ++ gs)
    (drop_all l.column-index columns (omega (arith, c.loop-column-test.false)))
    ∙ append-nil (map (forgotten c.args.doc) columns)
