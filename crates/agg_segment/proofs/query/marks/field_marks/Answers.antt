use Rattle.std.proofs.Common.{◌≡◌, ◌∙◌, ap, take}
use Rattle.std.specs.List.{list_any}
use Rattle.std.proofs.lemmas.List.{take_all}
use Rattle.agg_segment.specs.Marks.{has_key, passes}
use Rattle.agg_segment.proofs.Marks.{any_of_columns}
use Rattle.agg_segment.proofs.query.marks.field_marks.Goals as goal

pub returns : goal.returns
returns c =
    let found = c.loop-column.invariant in
    let columns = c.columns-column-items.result.now in
    let all : take c.loop-column.column-index columns ≡ columns =
    take_all _ columns c.loop-column-test.false in
    record {
      each = found.each;
      few = found.few;
      told = λ doc l. found.told doc l ∙ ap (list_any (has_key (passes c.args.test) doc)) all
          ∙ any_of_columns (passes c.args.test) doc columns ∙ ap (list_any (passes c.args.test))
          (c.columns-column-items.ensures.keys doc);
    }
